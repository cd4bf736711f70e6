use Rattle.std.proofs.Common.{◌≡◌, drop}
use Rattle.std.specs.Prelude.{fold, slice_get}
use Rattle.group_order.specs.SmallFunctions.{with_function_of}
use Rattle.group_order.proofs.small_functions.small_functions.Given as goal

abbrev pub invariant-loop-place : goal.invariant-loop-place
invariant-loop-place l =
    fold (λ t p. with_function_of t (slice_get l.side.net.gates p)) l.smalls.items (drop l.place-index l.place-items) ≡
    fold (λ t p. with_function_of t (slice_get l.side.net.gates p)) l.initial.smalls.items l.side.by_rank
