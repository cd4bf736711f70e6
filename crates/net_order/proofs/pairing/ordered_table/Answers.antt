use Rattle.std.proofs.Common.{List, ℕ, sym, subst}
use Rattle.std.specs.Prelude.{bytes_eq}
use Rattle.std.specs.List.{IsDistinct}
use Rattle.net_order.specs.Order.{all_names}
use Rattle.net_order.proofs.Different.{all_different}
use Rattle.net_order.proofs.Indexing.{indexed_few}
use Rattle.net_order.proofs.pairing.ordered_table.Goals as goal

pub indexed_table-requires : goal.indexed_table-requires
indexed_table-requires c = subst (λ (names : List (List ℕ)). IsDistinct bytes_eq names) (sym c.requires.all) (all_different (all_names c.args.sides.now c.args.given.now))

pub returns-in_ok-table-in-Index-clause-few : goal.returns-in_ok-table-in-Index-clause-few
returns-in_ok-table-in-Index-clause-few c = indexed_few c.args.variables c.in_ok-table-in-Index.table 4096 c.in_ok-table-in-Index.ensures c.requires.few
