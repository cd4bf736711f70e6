use Rattle.std.proofs.Common.{rules, ◌≡◌, List, ℕ, length, subst, sym}
use Rattle.std.specs.List.Sorted.{IsPermutation}
use Rattle.net_order.specs.Force.{numbers_below}
use Rattle.group_order.specs.Orders.{force_groups_numbers}
use Rattle.group_order.proofs.Moved.{force_groups_moved}
use Rattle.group_order.proofs.orders.force_groups_numbers.Goals as goal

pub returns-clause-moved : goal.returns-clause-moved
unfolding force_groups_numbers
returns-clause-moved c =
    let whole : c.put_groups_together.new.order.items ≡ force_groups_numbers c.args.names.now c.args.sides.now = search rules in
    subst (λ (o : List ℕ). IsPermutation (numbers_below (length c.args.names.now)) o) (sym whole) (force_groups_moved c.args.names.now c.args.sides.now)
