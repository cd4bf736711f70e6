use Rattle.std.proofs.Common.{◌≤◌, ◌∙◌, List, ℕ, sym, ap, subst, arith, filter, length}
use Rattle.net_bench.specs.Circuit.{is_name_in}
use Rattle.net_order.specs.Order.{declared}
use Rattle.net_order.proofs.Orders.{all_table, extended_few, known_made}
use Rattle.net_order.proofs.extended_order.extended_table.Goals as goal

pub returns-clause-few : goal.returns-clause-few
returns-clause-few c =
    let is = known_made c.args.sides.now c.args.given.now c.new-table.result c.args.variables.now c.args.list.now c.add_known.new.table c.new-table.ensures c.requires.all c.in_ok-add_known.ensures in
    let whole = all_table c.args.sides.now c.args.given.now c.add_known.new.table (filter (is_name_in (declared c.args.sides.now c.args.given.now)) c.args.list.now) is in
    subst (λ (t : List (List ℕ)). length t ≤ 4096) (sym (c.in_ok-add_all.ensures ∙ whole)) (omega (arith, extended_few c.args.sides.now c.args.given.now c.args.list.now, c.requires.few, ap length c.requires.all))
