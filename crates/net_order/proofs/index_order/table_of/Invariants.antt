use Rattle.std.proofs.Common.{◌≡◌, ℕ, Vec, drop, map, []}
use Rattle.std.specs.declared.alloc.Global.{Global}
use Rattle.net_order.specs.Tables.{with_names}
use Rattle.net_order.proofs.index_order.table_of.Given as goal

abbrev pub invariant-loop-name : goal.invariant-loop-name
invariant-loop-name l = with_names l.table (map (λ (w : Vec ℕ Global). w.items) (drop l.name-index l.names)) ≡ with_names [] (map (λ (w : Vec ℕ Global). w.items) l.names)
