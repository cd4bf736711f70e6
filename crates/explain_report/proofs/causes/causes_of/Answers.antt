use Rattle.std.proofs.Common.{◌∙◌, ◌++◌, List, ap, get_or, map, sym, take}
use Rattle.explain_report.specs.declared.first_differences.FirstDifference.{FirstDifference}
use Rattle.explain_report.specs.Causing.{cause_of, causes_of, first_time}
use Rattle.explain_report.proofs.FirstDifferences.{next_cause, none_to_come}
use Rattle.explain_report.proofs.causes.causes_of.Goals as goal

pub add_cause-requires : goal.add_cause-requires
add_cause-requires c = c.requires c.loop-place.place c.index-differences-place.result c.loop-place-test.true

pub loop-place-preserved : goal.loop-place-preserved
loop-place-preserved c =
    let f = cause_of c.args.net.now.names c.args.differences.now in
    let differences = c.args.differences.now in
    let place = c.loop-place.place in
    let x = c.index-differences-place.result in
    let old = c.loop-place.causes.items in
    next_cause f differences place x (causes_of c.args.net.now.names differences) old _ c.loop-place-test.true c.index-differences-place.is c.loop-place.invariant
    (c.in_ok-add_cause.ensures ∙ ap (λ (before : List FirstDifference). old ++ map f (first_time before (get_or differences place x).inner)) c.before-in-loop-place.ensures
    ∙ ap (λ (one : FirstDifference). old ++ map f (first_time (take place differences) one.inner)) (sym c.index-differences-place.is))

pub returns : goal.returns
returns c =
    none_to_come (cause_of c.args.net.now.names c.args.differences.now) (take c.loop-place.place c.args.differences.now) c.args.differences.now c.loop-place.place (causes_of c.args.net.now.names c.args.differences.now) c.loop-place.causes.items c.loop-place-test.false
    c.loop-place.invariant
