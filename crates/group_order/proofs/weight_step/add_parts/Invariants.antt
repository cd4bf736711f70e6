use Rattle.std.proofs.Common.{◌≡◌, drop}
use Rattle.std.specs.Prelude.{fold}
use Rattle.group_order.specs.Weights.{with_part}
use Rattle.group_order.proofs.weight_step.add_parts.Given as goal

abbrev pub invariant-loop-number : goal.invariant-loop-number
invariant-loop-number l = fold (with_part l.dead l.part) l.weights.items (drop l.number-index l.numbers) ≡ fold (with_part l.dead l.part) l.initial.weights.items l.numbers
