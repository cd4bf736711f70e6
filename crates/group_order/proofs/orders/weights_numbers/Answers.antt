use Rattle.std.proofs.Common.{rules, ◌≡◌, List, ℕ, length, subst, sym}
use Rattle.std.specs.List.Sorted.{IsPermutation}
use Rattle.net_order.specs.Force.{numbers_below}
use Rattle.group_order.specs.Orders.{weights_numbers}
use Rattle.group_order.proofs.Moved.{weights_moved}
use Rattle.group_order.proofs.orders.weights_numbers.Goals as goal

pub returns-clause-moved : goal.returns-clause-moved
unfolding weights_numbers
returns-clause-moved c =
    let whole : c.put_groups_together.new.order.items ≡ weights_numbers c.args.names.now c.args.sides.now = search rules in
    subst (λ (o : List ℕ). IsPermutation (numbers_below (length c.args.names.now)) o) (sym whole) (weights_moved c.args.names.now c.args.sides.now)
