use Rattle.std.proofs.Common.{◌≡◌, drop}
use Rattle.std.specs.Prelude.{fold}
use Rattle.group_order.specs.FreeForce.{with_side}
use Rattle.group_order.proofs.free_force.FreeGraph.new.Given as goal

abbrev pub invariant-loop-i : goal.invariant-loop-i
invariant-loop-i l = fold (with_side l.chosen l.places) l.graph (drop l.i l.sides) ≡ fold (with_side l.chosen l.places) l.initial.graph l.sides
