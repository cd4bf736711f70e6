use Rattle.std.proofs.Common.{◌≡◌, map, take, get_or}
use Rattle.net_cone.proofs.numbering.ranks_of.Given as goal

abbrev pub invariant-loop-signal : goal.invariant-loop-signal
invariant-loop-signal l = l.ranks.items ≡ map (λ s. get_or l.net.ranks s 0) (take l.signal-index l.from)
