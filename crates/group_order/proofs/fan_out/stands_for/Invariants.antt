use Rattle.std.proofs.Common.{◌≡◌, drop}
use Rattle.std.specs.Prelude.{fold, slice_get}
use Rattle.group_order.specs.FanOut.{with_stand_of}
use Rattle.group_order.proofs.fan_out.stands_for.Given as goal

abbrev pub invariant-loop-place : goal.invariant-loop-place
invariant-loop-place l =
    fold (λ t p. with_stand_of t (slice_get l.side.net.gates p)) l.stands.items (drop l.place-index l.place-items) ≡
    fold (λ t p. with_stand_of t (slice_get l.side.net.gates p)) l.initial.stands.items l.side.by_rank
