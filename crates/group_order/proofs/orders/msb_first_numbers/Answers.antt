use Rattle.std.proofs.Common.{rules, ◌≡◌, List, ℕ, length, subst, sym}
use Rattle.std.specs.List.Sorted.{IsPermutation}
use Rattle.net_order.specs.Force.{numbers_below}
use Rattle.group_order.specs.Orders.{msb_first_numbers}
use Rattle.group_order.proofs.Moved.{msb_first_moved}
use Rattle.group_order.proofs.orders.msb_first_numbers.Goals as goal

pub returns-clause-moved : goal.returns-clause-moved
unfolding msb_first_numbers
returns-clause-moved c =
    let whole : c.put_selectors_first.new.order.items ≡ msb_first_numbers c.args.names.now c.args.sides.now = search rules in
    subst (λ (o : List ℕ). IsPermutation (numbers_below (length c.args.names.now)) o) (sym whole) (msb_first_moved c.args.names.now c.args.sides.now)
