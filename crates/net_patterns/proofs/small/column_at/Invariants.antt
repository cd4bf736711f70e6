use Rattle.std.proofs.Common.{◌≡◌, take}
use Rattle.net_simulate.specs.Columns.{bit_in_block, column}
use Rattle.net_patterns.proofs.small.column_at.Given as goal

abbrev pub invariant-loop-level : goal.invariant-loop-level
invariant-loop-level l = l.bits.items ≡ column bit_in_block l.bit (take l.level l.at)
