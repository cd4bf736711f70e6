use Rattle.std.proofs.Common.{◌≡◌, map, take}
use Rattle.net_cone.proofs.naming.own_names.Given as goal

abbrev pub invariant-loop-number : goal.invariant-loop-number
invariant-loop-number l = map (λ w. w.items) l.names.items ≡ take l.number l.net.names
