use Rattle.std.proofs.Common.{◌≡◌, ◌++◌, map, take}
use Rattle.std.specs.Prelude.{slice_index}
use Rattle.group_order.proofs.free_force.add_ranks.Given as goal

abbrev pub invariant-loop-gate : goal.invariant-loop-gate
invariant-loop-gate l = l.ranks.items ≡ l.initial.ranks.items ++ map (λ g. slice_index l.net.ranks g.out) (take l.gate-index l.gates)
