use Rattle.std.proofs.Common.{◌≡◌, map, take}
use Rattle.net_cone.proofs.numbering.gate_signals.Given as goal

abbrev pub invariant-loop-gate : goal.invariant-loop-gate
invariant-loop-gate l = l.signals.items ≡ map (λ g. g.out) (take l.gate-index l.gates)
