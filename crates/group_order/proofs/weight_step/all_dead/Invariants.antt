use Rattle.std.proofs.Common.{◌≡◌, drop}
use Rattle.std.specs.Prelude.{◌&&◌}
use Rattle.group_order.specs.Weights.{all_dead}
use Rattle.group_order.proofs.weight_step.all_dead.Given as goal

abbrev pub invariant-loop-number : goal.invariant-loop-number
invariant-loop-number l = (l.all && all_dead l.dead (drop l.number-index l.numbers)) ≡ all_dead l.dead l.numbers
