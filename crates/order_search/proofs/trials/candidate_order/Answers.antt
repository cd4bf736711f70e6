use Rattle.std.proofs.Common.{sym, subst}
use Rattle.std.specs.Prelude.{IfSome}
use Rattle.net_bench.specs.Circuit.{IsNet}
use Rattle.order_search.proofs.Ordering.{made_order}
use Rattle.order_search.proofs.trials.candidate_order.Goals as goal

pub returns-in-None-clause-order : goal.returns-in-None-clause-order
returns-in-None-clause-order g c =
    made_order c.args.task.now c.args.candidate c.order_by_rule.result c.inputs.ensures.sound c.inputs-2.ensures.sound (subst (λ o. IfSome o (λ n. IsNet n.now)) (sym c.in-None.is) tt) c.order_by_rule.ensures.rule

pub returns-in-Some-clause-order : goal.returns-in-Some-clause-order
returns-in-Some-clause-order g c =
    made_order c.args.task.now c.args.candidate c.order_by_rule-in-Some.result c.inputs.ensures.sound c.inputs-2.ensures.sound
    (subst (λ o. IfSome o (λ n. IsNet n.now)) (sym c.in-Some.is) c.inputs-in-Some.ensures.sound) c.order_by_rule-in-Some.ensures.rule
