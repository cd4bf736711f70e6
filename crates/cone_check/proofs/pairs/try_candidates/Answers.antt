use Rattle.std.proofs.Common.{Some, inl, subst}
use Rattle.order_search.specs.Trials.{Decides, IsRound}
use Rattle.cone_check.proofs.pairs.try_candidates.Goals as goal

pub only_one-requires : goal.only_one-requires
only_one-requires g c =
    let task = c.args.task.now in
    let q = c.args.pairing.now in
    let t = c.in-Decided.decided in
    let d : Decides task (Some c.args.pairing) c.args.budget t =
    subst (IsRound task (Some c.args.pairing) c.args.budget (g.G.Monitor.bound c.args.monitor.now) c.try_first.new.trials.items) c.in-Decided.is c.in_ok-decided.ensures.round in
    c.requires.one (record { variables = q.names; verdicts = t.verdicts.items })
    d.0.verdicts_of

pub returns-in-Decided-clause-within : goal.returns-in-Decided-clause-within
returns-in-Decided-clause-within g c = λ order.
    let task = c.args.task.now in
    let t = c.in-Decided.decided in
    let d : Decides task (Some c.args.pairing) c.args.budget t =
    subst (IsRound task (Some c.args.pairing) c.args.budget (g.G.Monitor.bound c.args.monitor.now) c.try_first.new.trials.items) c.in-Decided.is c.in_ok-decided.ensures.round in
    record { pairing = t.trial.pairing; paired = inl (t.trial.order, d.0.paired); fit = d.0.within }
