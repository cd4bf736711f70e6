use Rattle.std.proofs.Common.{◌∙◌, ap, length, sym, subst}
use Rattle.std.specs.List.{AllZip}
use Rattle.net_bench.specs.Circuit.{circuit}
use Rattle.net_order.specs.Order.{condition}
use Rattle.compare_built.specs.Details.{unsized}
use Rattle.compare_built.specs.Cones.{cone_limit}
use Rattle.pair_facts.specs.PairFacts.{IsFirstShown}
use Rattle.cone_check.specs.ConeRounds.{FitIn, StaysUndecided, IsDecidedIn, IsFinalVerdict, IsUnshownIn}
use Rattle.cone_check.proofs.AtOnce.{shown_last}
use Rattle.cone_check.proofs.ByCones.{reported_left}
use Rattle.cone_check.proofs.Filling.{length_known, reported_known, zip_size}
use Rattle.cone_check.specs.KnownPairs.{AreEqualReported}
use Rattle.cone_check.proofs.Keeping.{equal_known_kept, equal_known_renamed, equal_reported, kept_by_shown}
use Rattle.cone_check.proofs.cone_comparison.judged.Goals as goal

pub judge_distinct-requires-clause-shown : goal.judge_distinct-requires-clause-shown
judge_distinct-requires-clause-shown g c κs within =
    let task = c.args.context.now.task.now in
    zip_size (IsFirstShown (circuit task.first.now) (circuit task.second.now) (condition task.given) c.args.context.now.naming.now) c.args.subjects.now c.args.shown.now c.requires.shown

pub put_all_shown-requires-clause-one_for_each : goal.put_all_shown-requires-clause-one_for_each
put_all_shown-requires-clause-one_for_each g c =
    length_known (IsDecidedIn c.args.context.now (cone_limit c.args.context.now.task.now.settings.now.limit)) (StaysUndecided c.args.context.now (g.G.Monitor.bound c.args.monitor.now)) c.args.subjects.now c.in_ok-known-2.known.items c.in_ok-known-2.ensures.known

pub notify_all_undecided-requires-clause-one_for_each : goal.notify_all_undecided-requires-clause-one_for_each
notify_all_undecided-requires-clause-one_for_each g c κs within =
    let w = c.args.context.now in
    let bound = g.G.Monitor.bound c.args.monitor.now in
    ap length c.as_slice.ensures.value ∙
    length_known (IsFinalVerdict w bound) (λ s. StaysUndecided w bound s × IsUnshownIn w s) c.args.subjects.now c.put_all_shown.new.known.items
    (shown_last w bound c.args.subjects.now c.args.shown.now c.in_ok-known-2.known.items c.put_all_shown.new.known.items c.requires.shown c.in_ok-known-2.ensures.known c.in_ok-put_all_shown.ensures)

pub verdicts_or_undecided-requires-clause-one_for_each : goal.verdicts_or_undecided-requires-clause-one_for_each
verdicts_or_undecided-requires-clause-one_for_each g c =
    let w = c.args.context.now in
    let bound = g.G.Monitor.bound c.args.monitor.now in
    length_known (IsFinalVerdict w bound) (λ s. StaysUndecided w bound s × IsUnshownIn w s) c.args.subjects.now c.put_all_shown.new.known.items
    (shown_last w bound c.args.subjects.now c.args.shown.now c.in_ok-known-2.known.items c.put_all_shown.new.known.items c.requires.shown c.in_ok-known-2.ensures.known c.in_ok-put_all_shown.ensures)

pub returns-clause-verdicts : goal.returns-clause-verdicts
returns-clause-verdicts g c =
    let w = c.args.context.now in
    let task = w.task.now in
    let bound = g.G.Monitor.bound c.args.monitor.now in
    let within = FitIn w (cone_limit task.settings.now.limit) in
    subst (AllZip (IsFinalVerdict w bound) c.args.subjects.now) (sym c.in_ok-verdicts.ensures)
    (reported_known (circuit task.first.now) (IsFinalVerdict w bound) (λ s. StaysUndecided w bound s × IsUnshownIn w s) (IsFinalVerdict w bound)
    (λ s v t. t)
    (λ s left. reported_left (unsized task.settings.now.assignment) task.settings.now.difference within (StaysUndecided w bound) (IsUnshownIn w) task.first.now task.second.now (condition task.given) w.naming.now s c.inputs.ensures.sound c.inputs-2.ensures.sound c.requires.ready.conditional_net left.0 left.1)
    c.args.subjects.now c.put_all_shown.new.known.items
    (shown_last w bound c.args.subjects.now c.args.shown.now c.in_ok-known-2.known.items c.put_all_shown.new.known.items c.requires.shown c.in_ok-known-2.ensures.known c.in_ok-put_all_shown.ensures))

pub returns-clause-equal : goal.returns-clause-equal
returns-clause-equal g c =
    let w = c.args.context.now in
    let task = w.task.now in
    let a = circuit task.first.now in
    let bound = g.G.Monitor.bound c.args.monitor.now in
    let ss = c.args.subjects.now in
    let equal = c.args.equal.now in
    let first = c.in_ok-known.known.items in
    let judged = c.in_ok-known-2.known.items in
    let last = c.put_all_shown.new.known.items in
    let each = length_known (IsDecidedIn w (cone_limit task.settings.now.limit)) (StaysUndecided w bound) ss judged c.in_ok-known-2.ensures.known in
    let kept = kept_by_shown a (circuit task.second.now) (condition task.given) w.naming.now ss c.args.shown.now judged last each c.in_ok-put_all_shown.ensures in
    subst (AreEqualReported a ss equal) (sym c.in_ok-verdicts.ensures)
    (equal_reported a ss equal last (c.in_ok-put_all_shown.ensures.each ∙ each)
    (equal_known_kept a ss equal judged last (equal_known_renamed a ss equal first judged c.in_ok-known.ensures.equal c.in_ok-known-2.ensures.kept) kept))
