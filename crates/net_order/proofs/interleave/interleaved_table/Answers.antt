use Rattle.std.proofs.Common.{◌≤◌, ◌∙◌, List, ℕ, sym, ap, subst, arith, length}
use Rattle.net_order.specs.Order.{declared, numbered, interleaved_numbers}
use Rattle.net_order.specs.Tables.{AreKnown}
use Rattle.net_order.proofs.AllNames.{known_declared}
use Rattle.net_order.proofs.Orders.{all_table, interleaved_few, interleaved_names}
use Rattle.net_order.proofs.interleave.interleaved_table.Goals as goal

pub interleaved_numbers-requires : goal.interleaved_numbers-requires
interleaved_numbers-requires c = subst (λ (t : List (List ℕ)). AreKnown t c.args.sides.now) (sym c.requires.all) (known_declared c.args.sides.now c.args.given.now)

pub returns-clause-few : goal.returns-clause-few
returns-clause-few c =
    let all = declared c.args.sides.now c.args.given.now in
    let is = interleaved_names c.args.sides.now c.args.given.now c.new-table.result c.args.variables.now c.add_variables.new.table c.as_slice.result.now c.new-table.ensures c.requires.all
    (c.as_slice.ensures.value ∙ c.in_ok-order.ensures.interleaved_numbers) c.in_ok-add_variables.ensures in
    let whole = all_table c.args.sides.now c.args.given.now c.add_variables.new.table (numbered all (interleaved_numbers all c.args.sides.now)) is in
    subst (λ (t : List (List ℕ)). length t ≤ 4096) (sym (c.in_ok-add_all.ensures ∙ whole)) (omega (arith, interleaved_few c.args.sides.now c.args.given.now, c.requires.few, ap length c.requires.all))
