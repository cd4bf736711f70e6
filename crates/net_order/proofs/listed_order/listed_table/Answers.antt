use Rattle.std.proofs.Common.{◌≡◌, ◌<◌, ◌+◌, ◌∙◌, [], length, sym, inr, refl, arith, None}
use Rattle.std.proofs.lemmas.Grind.{common_steps}
use Rattle.net_order.specs.Order.{bad_place}
use Rattle.net_order.proofs.Orders.{listing_few}
use Rattle.net_order.proofs.Steps.{no_variable, stood_before, one_name, taken_more}
use Rattle.net_order.proofs.listed_order.listed_table.Goals as goal
use Rattle.net_order.proofs.listed_order.listed_table.Goals.{then-not-has-via-then-not-has, then-not-has-via-else-not-has+then-has}

pub returns-then-not-has-clause-err : goal.returns-then-not-has-clause-err
returns-then-not-has-clause-err c =
    let low : c.loop-i.i < length c.args.list.now = omega (arith, c.loop-i-test.true, c.len-count.ensures.value) in
    elim c.then-not-has.branch [
      | then-not-has-via-then-not-has w ↦
          inr (c.loop-i.i + 1, refl, sym c.loop-i.invariant.rest ∙ no_variable c.args.variables.now c.loop-i.table c.args.list.now c.loop-i.i c.at-name.result.now c.at-name.ensures low (sym w.if-not-has.ensures))
      | then-not-has-via-else-not-has+then-has w ↦
          inr (c.loop-i.i + 1, refl, sym c.loop-i.invariant.rest ∙ stood_before c.args.variables.now c.loop-i.table c.args.list.now c.loop-i.i c.at-name.result.now c.at-name.ensures low (sym w.has-else-not-has.ensures ∙ w.if-has.true))
    ]

pub loop-i-preserved : goal.loop-i-preserved
loop-i-preserved c =
    let low : c.loop-i.i < length c.args.list.now = omega (arith, c.loop-i-test.true, c.len-count.ensures.value) in
    let absent = sym c.has-else-not-has.ensures ∙ c.if-has.false in
    record {
      names = taken_more c.args.variables.now c.loop-i.table c.args.list.now c.loop-i.i c.at-name.result.now c.at-name.ensures low c.intern.new.self absent c.in_ok-intern.ensures.added c.loop-i.invariant.names;
      rest = one_name c.args.variables.now c.loop-i.table c.args.list.now c.loop-i.i c.at-name.result.now c.at-name.ensures low c.intern.new.self absent c.in_ok-intern.ensures.added (sym c.if-not-has.ensures) ∙ c.loop-i.invariant.rest;
    }

pub returns-clause-few : goal.returns-clause-few
returns-clause-few c =
    let whole : c.loop-i.table ≡ c.args.list.now = grind (arith, common_steps) in
    let fits : bad_place c.args.variables.now [] c.args.list.now 1 ≡ None = grind (arith, common_steps) in
    let few = listing_few c.args.variables.now c.args.list.now fits in
    rw whole few
