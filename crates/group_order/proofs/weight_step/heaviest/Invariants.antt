use Rattle.std.proofs.Common.{◌≡◌, ◌<◌, length}
use Rattle.std.specs.Prelude.{fold}
use Rattle.net_order.specs.Force.{numbers_below}
use Rattle.group_order.specs.Weights.{heavier}
use Rattle.group_order.proofs.weight_step.heaviest.Given as goal

abbrev pub invariant-loop-place : goal.invariant-loop-place
invariant-loop-place l = record {
  best : l.best ≡ fold (heavier l.weights l.numbers) 0 (numbers_below l.place);
  within : l.best < length l.numbers;
}
