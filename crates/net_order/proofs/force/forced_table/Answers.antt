use Rattle.std.proofs.Common.{◌≤◌, ◌∙◌, List, ℕ, sym, ap, subst, arith, length}
use Rattle.std.specs.Prelude.{bytes_eq}
use Rattle.std.specs.List.{IsDistinct}
use Rattle.net_order.specs.Index.{index_key, rising}
use Rattle.net_order.specs.Order.{all_names, by_index, force_numbers, numbered}
use Rattle.net_order.proofs.Different.{all_different}
use Rattle.net_order.proofs.Forcing.{all_forced_low}
use Rattle.net_order.proofs.Orders.{all_table, forced_all_few, forced_made}
use Rattle.net_order.proofs.force.forced_table.Goals as goal

pub indexed_table-requires : goal.indexed_table-requires
indexed_table-requires c = subst (λ (names : List (List ℕ)). IsDistinct bytes_eq names) (sym c.requires.all) (all_different (all_names c.args.sides.now c.args.given.now))

pub add_numbered-requires : goal.add_numbered-requires
add_numbered-requires c = all_forced_low c.in_ok-names.names c.args.sides.now c.args.given.now c.as_slice.result.now (c.as_slice.ensures.value ∙ c.in_ok-numbers.ensures)

pub returns-clause-few : goal.returns-clause-few
returns-clause-few c =
    let names = by_index c.args.sides.now c.args.given.now in
    let is = forced_made c.args.sides.now c.args.given.now c.new-table.result c.in_ok-names.names c.add_numbered.new.table c.as_slice.result.now c.new-table.ensures (c.in_ok-names.ensures ∙ ap (λ (z : List (List ℕ)). rising index_key z) c.requires.all)
    (c.as_slice.ensures.value ∙ c.in_ok-numbers.ensures) c.in_ok-add_numbered.ensures in
    let whole = all_table c.args.sides.now c.args.given.now c.add_numbered.new.table (numbered names (force_numbers names c.args.sides.now c.args.given.now)) is in
    subst (λ (t : List (List ℕ)). length t ≤ 4096) (sym (c.in_ok-add_all.ensures ∙ whole)) (omega (arith, forced_all_few c.args.sides.now c.args.given.now, c.requires.few, ap length c.requires.all))
