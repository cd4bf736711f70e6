use Rattle.std.proofs.Common.{◌≡◌, ℕ, Vec, map, take}
use Rattle.std.specs.declared.alloc.Global.{Global}
use Rattle.net_order.specs.Order.{numbered}
use Rattle.group_order.proofs.listing.names_of.Given as goal

abbrev pub invariant-loop-number : goal.invariant-loop-number
invariant-loop-number l = map (λ (n : Vec ℕ Global). n.items) l.list.items ≡ numbered l.names (take l.number-index l.numbers)
