use Rattle.std.proofs.Common.{◌∷◌, [], ap, Ok, subst}
use Rattle.std.specs.Prelude.{IfSome}
use Rattle.net_bench.specs.Circuit.{circuit}
use Rattle.net_order.specs.Order.{condition}
use Rattle.compare_built.specs.Details.{details_in}
use Rattle.compare_built.specs.Report.{AreVerdicts}
use Rattle.cone_check.specs.ConeRounds.{AreConesWithin}
use Rattle.cone_check.proofs.pairs.try_cones.Goals as goal

-- ---- the attempt in the order that is listed

pub returns-in-Some-clause-decided : goal.returns-in-Some-clause-decided
returns-in-Some-clause-decided g c =
    let task = c.args.task.now in
    let q = c.args.pairing.now in
    subst (λ o. IfSome o (λ v. AreVerdicts (details_in task.settings.now) (circuit task.first.now) (circuit task.second.now) (condition task.given) q (record { variables = q.names; verdicts = v ∷ [] })))
    c.in-Some.is c.in_ok-listed.ensures.decided

pub returns-in-Some-clause-within : goal.returns-in-Some-clause-within
returns-in-Some-clause-within g c =
    subst (λ o. IfSome o (λ v. AreConesWithin c.args.task.now c.args.order.now c.args.budget)) c.in-Some.is c.in_ok-listed.ensures.within

-- ---- the attempts in the orders of the candidates

pub returns-in-None-clause-within : goal.returns-in-None-clause-within
returns-in-None-clause-within g c = c.try_candidates.ensures.within c.args.order.now

pub returns-in-None-clause-listed_left : goal.returns-in-None-clause-listed_left
returns-in-None-clause-listed_left g c = λ _. c.in_ok-listed.ensures.left (ap Ok c.in-None.is)
