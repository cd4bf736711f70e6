use Rattle.std.proofs.Common.{◌≡◌, ◌+◌, map}
use Rattle.std.specs.Prelude.{min}
use Rattle.net_order.specs.Force.{numbers_below, u64_max}
use Rattle.group_order.proofs.weight_order.numbers_after.Given as goal

abbrev pub invariant-loop-place : goal.invariant-loop-place
invariant-loop-place l = l.numbers.items ≡ map (λ k. min (l.gates + k) u64_max) (numbers_below l.place)
