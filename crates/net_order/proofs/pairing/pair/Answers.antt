use Rattle.std.proofs.Common.{◌∙◌, ap, take, drop, List, rules}
use Rattle.net_bench.specs.Circuit.{circuit}
use Rattle.net_order.specs.Order.{NamedNetlistModel, condition}
use Rattle.net_order.proofs.Pairings.{are_few, is_naming}
use Rattle.net_order.proofs.pairing.pair.Goals as goal

pub returns-in-Ok-naming_of_table-clause-paired : goal.returns-in-Ok-naming_of_table-clause-paired
returns-in-Ok-naming_of_table-clause-paired c =
    let a = circuit c.args.first.now in
    let b = circuit c.args.second.now in
    let given = condition c.args.given in
    let sides = c.as_slice.ensures.value ∙ c.in-Ok.ensures in
    let front = c.split_at.ensures.front ∙ ap (λ (xs : List NamedNetlistModel). take 2 xs) sides in
    let back = c.split_at.ensures.back ∙ ap (λ (xs : List NamedNetlistModel). drop 2 xs) sides in
    let done = c.in-Ok-naming_of_table.ensures in
    record {
      naming = is_naming c.args.how a b given c.args.order.now c.in-Ok-naming_of_table.naming c.as_slice-2.result.now c.split_at.result.0.now c.split_at.result.1.now c.in_ok-table.table (search rules)
          (c.as_slice-2.ensures.value ∙ c.in-Ok.ensures) front back c.in_ok-table.ensures.fit c.in_ok-table.ensures.ok done.names done.levels done.outputs done.registers;
      few = are_few c.args.how a b given c.split_at.result.0.now c.split_at.result.1.now c.in_ok-variables.variables front back c.in_ok-variables.ensures.ok c.in_ok-variables.ensures.few;
    }
