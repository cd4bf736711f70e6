use Rattle.std.proofs.Common.{◌∙◌, ap, take, drop, List, rules}
use Rattle.net_bench.specs.Circuit.{circuit}
use Rattle.net_names.specs.declared.order.Order.TheVariants.{Declared}
use Rattle.net_order.specs.Order.{NamedNetlistModel, condition}
use Rattle.net_order.proofs.Pairings.{is_naming}
use Rattle.net_order.proofs.naming.naming_of.Goals as goal

pub returns-in-Ok-naming_of_table-clause-named : goal.returns-in-Ok-naming_of_table-clause-named
returns-in-Ok-naming_of_table-clause-named c =
    let sides = c.as_slice.ensures.value ∙ c.in-Ok.ensures in
    let done = c.in-Ok-naming_of_table.ensures in
    is_naming c.args.how (circuit c.args.first.now) (circuit c.args.second.now) (condition c.args.given) Declared c.in-Ok-naming_of_table.naming c.as_slice-2.result.now c.split_at.result.0.now c.split_at.result.1.now
    c.in_ok-table.table (search rules) (c.as_slice-2.ensures.value ∙ c.in-Ok.ensures)
    (c.split_at.ensures.front ∙ ap (λ (xs : List NamedNetlistModel). take 2 xs) sides) (c.split_at.ensures.back ∙ ap (λ (xs : List NamedNetlistModel). drop 2 xs) sides)
    tt c.in_ok-table.ensures done.names done.levels done.outputs done.registers
