use Rattle.std.proofs.Common.{rules}
use Rattle.cone_check.specs.declared.batches.PairJob.{PairJob}
use Rattle.cone_check.specs.ConeRounds.{IsInContext}
use Rattle.cone_check.specs.Batches.{IsJobDone}
use Rattle.cone_check.proofs.Batching.{batch_in, left_there, zip_in}
use Rattle.cone_check.proofs.rounds.run_batches.Goals as goal

pub fork_each-requires-after_bounds : goal.fork_each-requires-after_bounds
fork_each-requires-after_bounds g c κs within = λ i p lt e.
    ((c.requires.small, c.requires.ready, batch_in (λ (t : PairJob). IsInContext c.args.context.now t.subject) c.args.batches.now i p.now lt e c.requires.in_range), search rules)

pub returns : goal.returns
returns g c =
    let R : PairJob → PairJob → Type 0 = IsJobDone c.args.context.now c.args.budget (g.G.Monitor.bound c.args.monitor.now) in
    zip_in R c.args.batches.now c.fork_each.new.s c.fork_each.auto.s
    (λ i v lt. let at = (c.fork_each.ensures i v lt).1 in left_there R _ _ at.argument.now at.after_call.now at.argument_is at.left at.call)
