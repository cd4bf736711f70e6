use Rattle.std.proofs.Common.{◌∙◌, ◌<◌, arith, length, subst, sym}
use Rattle.std.proofs.lemmas.List.{get_or_default}
use Rattle.order_search.specs.Ahead.{IsRunOf}
use Rattle.order_search.specs.Trials.{IsTrial}
use Rattle.order_search.proofs.ahead.run_at.Goals as goal

pub run_of-requires-clause-trial : goal.run_of-requires-clause-trial
run_of-requires-clause-trial g c κs within =
    let trials = c.args.trials.now in
    let place = c.args.monitor.now.place in
    let low : place < length trials = omega arith in
    subst (IsTrial c.args.task.now) (sym c.index-trials-place.is) (c.requires.own place c.index-trials-place.result low)

pub returns : goal.returns
returns g c = λ t lt.
    let bound = g.G.Monitor.bound c.args.monitor.now.monitor.now in
    subst (λ u. IsRunOf c.args.task.now c.args.declared c.args.budget bound u c.run_of.result)
    (c.index-trials-place.is ∙ get_or_default c.args.trials.now c.args.monitor.now.place c.index-trials-place.result t lt) c.run_of.ensures
