use Rattle.std.proofs.Common.{◌≡◌, map}
use Rattle.std.specs.List.{range_with_len}
use Rattle.net_patterns.specs.Patterns.{pattern_bit}
use Rattle.net_patterns.proofs.patterns.Patterns.assignment.Given as goal

abbrev pub invariant-loop-level : goal.invariant-loop-level
invariant-loop-level l = l.bits.items ≡ map (pattern_bit l.self l.number) (range_with_len 0 l.level)
