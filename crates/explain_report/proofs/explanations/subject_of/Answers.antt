use Rattle.std.proofs.Common.{◌≡◌, ◌∙◌, [], ap, sym}
use Rattle.std.proofs.lemmas.Option.{get_or_from_slice_get}
use Rattle.net_bench.specs.Circuit.{circuit}
use Rattle.explain_report.specs.Explaining.{is_subject_of, is_target}
use Rattle.explain_report.proofs.Explaining.{found_here, found_later, found_nowhere}
use Rattle.explain_report.proofs.explanations.subject_of.Goals as goal

pub loop-place-preserved : goal.loop-place-preserved
loop-place-preserved c =
    let x = c.index-subjects-place.result in
    let is : is_subject_of (circuit c.args.net.now) c.args.target.now x ≡ c.is_target.result =
    ap (is_target c.args.target.now x.role) (get_or_from_slice_get c.args.net.now.names x.named c.name.result.now [] c.name.ensures.value) ∙ sym c.is_target.ensures in
    found_later (is_subject_of (circuit c.args.net.now) c.args.target.now) c.args.subjects.now c.loop-place.place x c.loop-place-test.true c.index-subjects-place.is (is ∙ c.if-is_target.false) c.loop-place.invariant

pub returns-then-is_target : goal.returns-then-is_target
returns-then-is_target c =
    let x = c.index-subjects-place.result in
    let is : is_subject_of (circuit c.args.net.now) c.args.target.now x ≡ c.is_target.result =
    ap (is_target c.args.target.now x.role) (get_or_from_slice_get c.args.net.now.names x.named c.name.result.now [] c.name.ensures.value) ∙ sym c.is_target.ensures in
    sym (found_here (is_subject_of (circuit c.args.net.now) c.args.target.now) c.args.subjects.now c.loop-place.place x c.loop-place-test.true c.index-subjects-place.is (is ∙ c.if-is_target.true) c.loop-place.invariant)

pub returns : goal.returns
returns c = sym (found_nowhere (is_subject_of (circuit c.args.net.now) c.args.target.now) c.args.subjects.now c.loop-place.place c.loop-place-test.false c.loop-place.invariant)
