use Rattle.std.proofs.Common.{◌≡◌, refl, subst, ◌∙◌, arith}
use Rattle.expand_work.specs.WorkerState.{IsWorking}
use Rattle.lane_queue.proofs.Endpoints.{port-lengths}
use Rattle.expand_work.proofs.Starting.{ends_worked}
use Rattle.expand_work.proofs.worker.run_levels.Goals as goal

pub loop-level-init : goal.loop-level-init
loop-level-init g c = (c.in_ok-worker.ensures.0, refl)

pub returns : goal.returns
returns g c =
    let w = c.loop-level.worker in
    let over : c.loop-level.level ≡ c.args.context.store.now.levels = (let a = c.loop-level.auto.level-end in let b = c.loop-level-test.false in let n = c.levels-level-end.ensures.value in omega (arith, a, b, n)) in
    ends_worked c.args.context.lanes.now c.args.context.store.now c.args.context.roots.now c.args.port.number w (record { port = w.port; space = record { tables = w.tables; rows = w.rows; noted = w.senders.noted; spare = w.senders.spare } }) (subst (λ n. IsWorking c.args.context.lanes.now c.args.context.store.now c.args.context.roots.now n w) over c.loop-level.invariant.0) (c.number-own.ensures.lists ∙ port-lengths c.args.context.lanes.now w.port c.loop-level.invariant.0.port) (c.loop-level.invariant.1 ∙ c.in_ok-worker.ensures.1) refl
