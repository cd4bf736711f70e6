use Rattle.std.proofs.Common.{◌≡◌, map, take, get_or}
use Rattle.net_cone.proofs.numbering.renumbered.Given as goal

abbrev pub invariant-loop-signal : goal.invariant-loop-signal
invariant-loop-signal l = l.operands.items ≡ map (λ s. get_or l.to s 0) (take l.signal-index l.signals)
