use Rattle.std.proofs.Common.{◌<◌, subst, sym}
use Rattle.expand_work.proofs.Expanding.{fresh_port}
use Rattle.expand_work.specs.WorkerResult.{IsFresh}
use Rattle.wave_tests.proofs.lanes.open.Goals as goal

pub returns-clause-fresh : goal.returns-clause-fresh
returns-clause-fresh c = λ k d l.
    let new = c.in_ok-lanes.ensures.ports in
    let is = new.1 k d (subst (λ n. k < n) new.0 l) in
    subst IsFresh (sym is) (fresh_port c.in_ok-lanes.lanes k)
