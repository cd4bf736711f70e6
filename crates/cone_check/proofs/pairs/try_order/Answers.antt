use Rattle.std.proofs.Common.{Ok, ap, inr, subst}
use Rattle.std.specs.Prelude.{IfSome}
use Rattle.std.specs.Global.{Vec}
use Rattle.net_bench.specs.Circuit.{circuit}
use Rattle.net_order.specs.Order.{condition}
use Rattle.report_text.specs.declared.verdict.Verdict.{Verdict}
use Rattle.compare_built.specs.Details.{details_in}
use Rattle.compare_built.specs.Report.{AreVerdicts}
use Rattle.order_search.proofs.Rounds.{order_ends}
use Rattle.order_search.specs.Trials.{AreVerdictsIn}
use Rattle.std.proofs.lemmas.Result.{err_from_is_err_and}
use Rattle.cone_check.proofs.pairs.try_order.Goals as goal

pub only_one-requires : goal.only_one-requires
only_one-requires g c =
    let task = c.args.task.now in
    let q = c.args.pairing.now in
    let d : AreVerdictsIn task q c.args.budget c.in_ok-own.own c.in-Some.verdicts.items =
    subst (λ o. IfSome o (λ (v : Vec Verdict). AreVerdictsIn task q c.args.budget c.in_ok-own.own v.items)) c.in-Some.is c.in_ok-found.ensures.decided in
    c.requires.one (record { variables = q.names; verdicts = c.in-Some.verdicts.items }) d.verdicts_of

pub returns-in-Some-clause-decided : goal.returns-in-Some-clause-decided
returns-in-Some-clause-decided g c =
    let task = c.args.task.now in
    let q = c.args.pairing.now in
    let d : AreVerdictsIn task q c.args.budget c.in_ok-own.own c.in-Some.verdicts.items =
    subst (λ o. IfSome o (λ (v : Vec Verdict). AreVerdictsIn task q c.args.budget c.in_ok-own.own v.items)) c.in-Some.is c.in_ok-found.ensures.decided in
    subst (λ vs. AreVerdicts (details_in task.settings.now) (circuit task.first.now) (circuit task.second.now) (condition task.given) q (record { variables = q.names; verdicts = vs })) c.only_one.ensures d.verdicts_of

pub returns-in-Some-clause-within : goal.returns-in-Some-clause-within
returns-in-Some-clause-within g c =
    let task = c.args.task.now in
    let q = c.args.pairing.now in
    let d : AreVerdictsIn task q c.args.budget c.in_ok-own.own c.in-Some.verdicts.items =
    subst (λ o. IfSome o (λ (v : Vec Verdict). AreVerdictsIn task q c.args.budget c.in_ok-own.own v.items)) c.in-Some.is c.in_ok-found.ensures.decided in
    record { pairing = c.in_ok-own.own; paired = inr c.in_ok-own.ensures.paired; fit = d.within }

pub returns-clause-left : goal.returns-clause-left
returns-clause-left g c = λ _. (c.in_ok-own.own, c.in_ok-own.ensures.paired, c.in_ok-found.ensures.given_up (ap Ok c.in-None.is))

pub returns-in_err-own-clause-ends : goal.returns-in_err-own-clause-ends
returns-in_err-own-clause-ends g c =
    let e = err_from_is_err_and c.from_residual.result c.from_residual.ensures.1 in
    rw (e.1, e.2) (order_ends c.in_err-own.field-0.0 c.in_err-own.ensures.refused.0 c.in_err-own.ensures.refused.1)
