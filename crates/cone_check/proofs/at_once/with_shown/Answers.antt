use Rattle.std.specs.Prelude.{⊤}
use Rattle.compare_built.specs.Cones.{cone_limit}
use Rattle.cone_check.specs.ConeRounds.{IsDecidedIn}
use Rattle.cone_check.proofs.AtOnce.{any_at_once}
use Rattle.cone_check.proofs.Filling.{length_known}
use Rattle.net_bench.specs.Circuit.{circuit}
use Rattle.net_order.specs.Order.{condition}
use Rattle.cone_check.proofs.Keeping.{kept_by_shown}
use Rattle.cone_check.proofs.at_once.with_shown.Goals as goal

pub put_all_shown-requires-clause-one_for_each : goal.put_all_shown-requires-clause-one_for_each
put_all_shown-requires-clause-one_for_each g c =
    length_known (IsDecidedIn c.args.context.now (cone_limit c.args.context.now.task.now.settings.now.limit)) (λ s. ⊤) c.args.subjects.now c.args.known.items c.requires.known

pub returns-clause-at_once : goal.returns-clause-at_once
returns-clause-at_once g c = any_at_once c.args.context.now c.requires.any c.args.subjects.now c.args.shown.now c.args.known.items c.put_all_shown.new.known.items c.requires.shown c.requires.known c.in_ok-put_all_shown.ensures

pub returns-clause-kept : goal.returns-clause-kept
returns-clause-kept g c =
    let w = c.args.context.now in
    let task = w.task.now in
    kept_by_shown (circuit task.first.now) (circuit task.second.now) (condition task.given) w.naming.now c.args.subjects.now c.args.shown.now c.args.known.items c.put_all_shown.new.known.items
    (length_known (IsDecidedIn w (cone_limit task.settings.now.limit)) (λ s. ⊤) c.args.subjects.now c.args.known.items c.requires.known) c.in_ok-put_all_shown.ensures
