use Rattle.std.proofs.Common.{◌≡◌, drop}
use Rattle.std.specs.Prelude.{fold, slice_set}
use Rattle.group_order.proofs.weight_order.clear.Given as goal

abbrev pub invariant-loop-place : goal.invariant-loop-place
invariant-loop-place l = fold (λ t k. slice_set t k 0) l.table.items (drop l.place-index l.places) ≡ fold (λ t k. slice_set t k 0) l.initial.table.items l.places
