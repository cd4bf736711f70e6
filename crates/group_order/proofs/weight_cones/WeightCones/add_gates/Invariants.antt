use Rattle.std.proofs.Common.{◌≡◌, drop}
use Rattle.std.specs.Prelude.{fold, slice_get}
use Rattle.group_order.specs.WeightCones.{with_gate}
use Rattle.group_order.proofs.weight_cones.WeightCones.add_gates.Given as goal

abbrev pub invariant-loop-place : goal.invariant-loop-place
invariant-loop-place l =
    fold (λ d p. with_gate d p (slice_get l.side.net.gates p)) l.self (drop l.place-index l.falling) ≡ fold (λ d p. with_gate d p (slice_get l.side.net.gates p)) l.initial.self l.falling
