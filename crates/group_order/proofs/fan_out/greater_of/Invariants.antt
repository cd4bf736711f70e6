use Rattle.std.proofs.Common.{◌≡◌, map}
use Rattle.std.specs.Prelude.{max, slice_index}
use Rattle.net_order.specs.Force.{numbers_below}
use Rattle.group_order.proofs.fan_out.greater_of.Given as goal

abbrev pub invariant-loop-place : goal.invariant-loop-place
invariant-loop-place l = l.greater.items ≡ map (λ v. max (slice_index l.table v) (slice_index l.other v)) (numbers_below l.place)
