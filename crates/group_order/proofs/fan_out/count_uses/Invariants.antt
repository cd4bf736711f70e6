use Rattle.std.proofs.Common.{◌≡◌, None, drop}
use Rattle.std.specs.Prelude.{fold, slice_index_or}
use Rattle.group_order.specs.FanOut.{with_use}
use Rattle.group_order.proofs.fan_out.count_uses.Given as goal

abbrev pub invariant-loop-operand : goal.invariant-loop-operand
invariant-loop-operand l =
    fold (λ t s. with_use t (slice_index_or l.stands s None)) l.counts.items (drop l.operand-index l.operands) ≡
    fold (λ t s. with_use t (slice_index_or l.stands s None)) l.initial.counts.items l.operands
