use Rattle.std.proofs.Common.{◌≡◌, List, None, Option, rules, subst, sym, get_or}
use Rattle.std.specs.Vec.{with_items}
use Rattle.std.proofs.lemmas.List.{with_items_is}
use Rattle.order_search.specs.Ahead.{AreRuns, IsRunOf}
use Rattle.order_search.specs.declared.attempts.Ended.{Ended}
use Rattle.order_search.proofs.AheadRuns.{runs_made}
use Rattle.order_search.proofs.ahead.made_ahead.Goals as goal

pub fork_each-requires-after_bounds : goal.fork_each-requires-after_bounds
fork_each-requires-after_bounds g c κs within = λ i p lt e. ((c.requires.small, c.requires.verdict_order, c.requires.own), search rules)

pub returns : goal.returns
returns g c =
    let bound = g.G.Monitor.bound c.args.monitor.now in
    let task = c.args.task.now in
    let trials = c.args.trials.now in
    let old = c.as_mut_slice.result.now in
    let new = c.fork_each.new.s in
    let stored : (with_items c.in_ok-runs.runs new).items ≡ new = with_items_is c.in_ok-runs.runs new (search rules) in
    subst (λ (os : List (Option Ended)). AreRuns task c.args.declared c.args.budget bound trials os) (sym stored)
    (runs_made task c.args.declared c.args.budget bound trials old new c.fork_each.auto.s
    (λ i lt t low.
    let at = (c.fork_each.ensures i None lt).1 in
    subst (IsRunOf task c.args.declared c.args.budget bound (get_or trials i t)) at.left (at.call t low)))
