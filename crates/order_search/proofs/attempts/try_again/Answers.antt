use Rattle.std.proofs.lemmas.Result.{IfOk-weaker}
use Rattle.order_search.specs.Trials.{IsRoundInSequence, IsRoundInSomeSequence}
use Rattle.order_search.proofs.Rounds.{moved}
use Rattle.order_search.proofs.attempts.try_again.Goals as goal

pub try_in_sequence-requires-clause-trials : goal.try_in_sequence-requires-clause-trials
try_in_sequence-requires-clause-trials g c κs within =
    moved c.args.task.now c.args.trials.now.items c.put_furthest_first.new.trials.items c.put_furthest_first.ensures c.requires.trials

pub returns-clause-first : goal.returns-clause-first
returns-clause-first g c =
    let task = c.args.task.now in
    let bound = g.G.Monitor.bound c.args.monitor.now in
    let sequence = c.put_furthest_first.new.trials.items in
    IfOk-weaker c.try_in_sequence.result (IsRoundInSequence task c.args.budget bound sequence c.try_in_sequence.new.trials.items) (IsRoundInSomeSequence task c.args.budget bound c.args.trials.now.items c.try_in_sequence.new.trials.items)
    (λ round is. (sequence, c.put_furthest_first.ensures, is)) c.try_in_sequence.ensures.first
