use Rattle.std.proofs.Common.{◌∙◌, ap, refl, sym, subst, None}
use Rattle.std.proofs.lemmas.Result.{err_from_is_err_and}
use Rattle.net_bench.specs.Circuit.{circuit}
use Rattle.net_names.specs.declared.order.Order.TheVariants as orders
use Rattle.net_order.specs.Order.{condition}
use Rattle.net_names.specs.OrderText.{order_text}
use Rattle.compare_built.specs.declared.strategy.AttemptOrder.TheVariants.{Computed}
use Rattle.compare_built.specs.Attempts.{IsAllowed, IsFound}
use Rattle.order_search.proofs.Rounds.{accepted_by, memory_ends, order_ends, order_in_input}
use Rattle.check_report.proofs.ordering.computed_text.Goals as goal

pub returns-in_err-pairing-clause-fault : goal.returns-in_err-pairing-clause-fault
returns-in_err-pairing-clause-fault g c = λ input ga.
    let e = err_from_is_err_and c.from_residual.result c.from_residual.ensures.1 in
    rw (e.1, e.2) (orders.Declared, subst (λ choice. IsAllowed choice orders.Declared) (sym c.requires.computed) refl, c.in_err-pairing.ensures.fault input ga)

pub returns-in_err-pairing-clause-ends : goal.returns-in_err-pairing-clause-ends
returns-in_err-pairing-clause-ends g c =
    let e = err_from_is_err_and c.from_residual.result c.from_residual.ensures.1 in
    rw (e.1, e.2) (order_ends c.in_err-pairing.field-0.0 c.in_err-pairing.ensures.refused.0 c.in_err-pairing.ensures.refused.1)

pub returns-clause-text : goal.returns-clause-text
returns-clause-text g c = λ input ga.
    let task = c.args.task.now in
    let s = task.settings.now in
    let is = c.in_ok-pairing.ensures.paired in (
      is.0,
      record {
        a = circuit task.first.now;
        b = circuit task.second.now;
        c = condition task.given;
        p = c.in_ok-pairing.pairing;
        paired = record { netlists = ga; pairing = is.2 };
        text = c.in_ok-text.ensures ∙ ap order_text c.names.ensures.value;
      },
      subst (λ choice. IsFound input s.matching choice s.limit None is.0) (sym c.requires.computed) (refl, order_in_input task input ga (Computed c.args.candidate) is.0 is.1),
    )

pub returns-in_err-text-clause-fault : goal.returns-in_err-text-clause-fault
returns-in_err-text-clause-fault g c = λ input ga.
    let task = c.args.task.now in
    let e = err_from_is_err_and c.from_residual-in_err-text.result c.from_residual-in_err-text.ensures.1 in
    rw (e.1, e.2) (
      orders.Declared,
      subst (λ choice. IsAllowed choice orders.Declared) (sym c.requires.computed) refl,
      accepted_by task input ga task.settings.now.order (Computed c.args.candidate) c.in_ok-pairing.pairing c.in_ok-pairing.ensures.paired,
    )

pub returns-in_err-text-clause-ends : goal.returns-in_err-text-clause-ends
returns-in_err-text-clause-ends g c =
    let e = err_from_is_err_and c.from_residual-in_err-text.result c.from_residual-in_err-text.ensures.1 in
    rw (e.1, e.2) memory_ends
