use Rattle.std.proofs.Common.{◌∙◌, List, ℕ, Vec, ap, map, []}
use Rattle.std.specs.declared.alloc.Global.{Global}
use Rattle.net_order.specs.Tables.{with_names}
use Rattle.net_order.proofs.Indexing.{indexed_is}
use Rattle.net_order.proofs.index_order.indexed_table.Goals as goal

pub returns : goal.returns
returns c =
    indexed_is c.args.names.now c.in_ok-table.table c.requires
    (c.in_ok-table.ensures ∙ ap (λ (ws : List (Vec ℕ Global)). with_names [] (map (λ (w : Vec ℕ Global). w.items) ws)) c.as_slice.ensures.value ∙ ap (with_names []) c.in_ok-sorted.ensures)
