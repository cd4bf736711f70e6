use Rattle.std.proofs.Common.{◌≡◌, ◌≤◌, ◌++◌, length}
use Rattle.std.specs.Prelude.{vec_capacity}
use Rattle.std.specs.List.{AllZip}
use Rattle.expand_work.specs.Team.{WorksFor}
use Rattle.expand_work.proofs.team.start_all.Given as goal

-- a thread for each port so far, and room for the rest
abbrev pub invariant-loop-port : goal.invariant-loop-port
invariant-loop-port g l =
    (l.yielded ++ l.port-iterator.rest.items ≡ l.fn.ports.items)
    × (length l.fn.ports.items ≤ vec_capacity l.children)
    × AllZip (WorksFor l.context.lanes.now l.context.store.now l.context.roots.now) l.children.items l.yielded
