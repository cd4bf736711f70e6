use Rattle.std.proofs.Common.{◌≡◌, drop}
use Rattle.std.specs.Prelude.{fold}
use Rattle.group_order.specs.FanOut.{with_uses}
use Rattle.group_order.proofs.fan_out.uses_on.Given as goal

abbrev pub invariant-loop-gate : goal.invariant-loop-gate
invariant-loop-gate l = fold (with_uses l.stands) l.counts.items (drop l.gate-index l.gates) ≡ fold (with_uses l.stands) l.initial.counts.items l.gates
