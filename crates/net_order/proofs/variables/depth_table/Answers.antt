use Rattle.std.proofs.Common.{◌≤◌, ◌∙◌, List, ℕ, sym, ap, subst, arith, length}
use Rattle.net_order.specs.Order.{met, names_of_sides}
use Rattle.net_order.specs.Tables.{with_names}
use Rattle.net_order.proofs.Orders.{all_table, depth_all_few}
use Rattle.net_order.proofs.variables.depth_table.Goals as goal

pub returns-clause-few : goal.returns-clause-few
returns-clause-few c =
    let names = names_of_sides met c.args.sides.now in
    let whole = all_table c.args.sides.now c.args.given.now c.add_sides.new.table names (c.in_ok-add_sides.ensures ∙ ap (λ (t : List (List ℕ)). with_names t (names_of_sides met c.args.sides.now)) c.new-table.ensures) in
    subst (λ (t : List (List ℕ)). length t ≤ 4096) (sym (c.in_ok-add_all.ensures ∙ whole)) (omega (arith, depth_all_few c.args.sides.now c.args.given.now, c.requires))
