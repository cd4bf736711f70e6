use Rattle.std.proofs.Common.{◌≡◌, ℕ, Vec, [], drop, map}
use Rattle.std.specs.declared.alloc.Global.{Global}
use Rattle.std.specs.Prelude.{fold, slice_get}
use Rattle.group_order.specs.WeightCones.{with_numbers}
use Rattle.group_order.proofs.weight_cones.WeightCones.operands.Given as goal

abbrev pub invariant-loop-place : goal.invariant-loop-place
invariant-loop-place l =
    fold (λ ls p. with_numbers l.self l.root ls (slice_get l.side.net.gates p)) (map (λ (w : Vec ℕ Global). w.items) l.operands.items) (drop l.place-index l.places) ≡
    fold (λ ls p. with_numbers l.self l.root ls (slice_get l.side.net.gates p)) [] l.places
