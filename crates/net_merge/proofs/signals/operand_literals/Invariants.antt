use Rattle.std.proofs.Common.{◌≡◌, map, take}
use Rattle.net_merge.specs.SignalLiterals.{literal_at}
use Rattle.net_merge.proofs.signals.operand_literals.Given as goal

abbrev pub invariant-loop-signal : goal.invariant-loop-signal
invariant-loop-signal l = l.found.items ≡ map (literal_at l.literals) (take l.signal-index l.signals)
