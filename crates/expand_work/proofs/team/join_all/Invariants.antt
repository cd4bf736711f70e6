use Rattle.std.proofs.Common.{◌≡◌, ◌≤◌, ◌++◌, length, false}
use Rattle.std.specs.Prelude.{vec_capacity}
use Rattle.std.specs.List.{AllZip}
use Rattle.expand_work.specs.Team.{IsPromised}
use Rattle.expand_work.proofs.team.join_all.Given as goal

abbrev pub invariant-loop-child : goal.invariant-loop-child
invariant-loop-child g l =
    (l.yielded ++ l.child-iterator.rest.items ≡ l.fn.children.items)
    × (vec_capacity l.parts ≡ vec_capacity l.fn.parts)
    × (length l.parts.items ≤ length l.yielded)
    × (l.refused ≡ false → AllZip IsPromised l.yielded l.parts.items)
