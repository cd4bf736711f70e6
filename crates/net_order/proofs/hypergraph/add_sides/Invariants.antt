use Rattle.std.proofs.Common.{◌≡◌, drop}
use Rattle.std.specs.Prelude.{fold}
use Rattle.net_order.specs.Order.{with_side}
use Rattle.net_order.proofs.hypergraph.add_sides.Given as goal

abbrev pub invariant-loop-i : goal.invariant-loop-i
invariant-loop-i l =
    fold (with_side l.names) (record { edges = l.edges.items; ranks = l.ranks.items }) (drop l.i l.sides) ≡ fold (with_side l.names) (record { edges = l.initial.edges.items; ranks = l.initial.ranks.items }) l.sides
