use Rattle.std.proofs.Common.{rules, ◌∷◌, [], length, ap, subst, arith, eqb-true, length-append}
use Rattle.std.proofs.lemmas.Result.{IfOk-weaker, IfErr-weaker}
use Rattle.std.specs.Prelude.{IfOk}
use Rattle.std.specs.List.{AllZip}
use Rattle.expand_work.specs.Team.{IsPromised}
use Rattle.expand_work.specs.WorkerResult.{IsWorked}
use Rattle.expand_work.proofs.Teams.{all_worked, no_more_threads, each_has_its, judged, never_others, run_stopped}
use Rattle.expand_work.proofs.team.work_all.Goals as goal

pub join_all-others-requires : goal.join_all-others-requires
join_all-others-requires g c =
    let rest = c.pop.new.self.items in
    let few = no_more_threads c.args.context.lanes.now c.args.context.store.now c.args.context.roots.now c.in_ok-children.children.items rest c.in_ok-children.ensures in
    let n = ap (λ z. length z) c.in-Some.ensures.items in
    let m = length-append rest (c.in-Some.own ∷ []) in
    let k = c.in_ok-parts.ensures.capacity in
    let e = c.len.ensures in
    record { empty = c.in_ok-parts.ensures.items; room = omega (arith, few, n, m, k, e) }

pub returns : goal.returns
returns g c =
    let l = c.args.context.lanes.now in
    let s = c.args.context.store.now in
    let r = c.args.context.roots.now in
    let children = c.in_ok-children.children.items in
    let ports = c.args.ports.items in
    let rest = c.pop.new.self.items in
    let own = c.in-Some.own in
    let stopped = c.has_stopped-stopped.result in
    let done = c.have_done-done.result in
    let joined = c.with_last-joined.result in
    let out = c.with_last-joined.ensures.fault in
    let is = c.outcome_of.ensures in
    let others = never_others stopped done joined c.outcome_of.result is out in
    let parts = judged stopped done joined c.outcome_of.result is _ (λ t.
    let e = eqb-true c.len-2.result c.len-count.result (c.have_done-done.ensures t) in
    let works = each_has_its l s r children rest c.in_ok-children.ensures (let p = c.len-2.ensures in let m = c.len-count.ensures in search rules) in
    IfOk-weaker c.with_last-joined.result _ _ (λ v j.
    all_worked l ports rest own c.requires.ports c.in-Some.ensures.items s r children j.before.items v.items j.part works
    (subst (λ z. IfOk z (λ w. AllZip IsPromised children w.items)) j.others_are c.join_all-others.ensures.parts)
    (subst (λ z. IfOk z (λ p. IsWorked l s r own.number p)) j.last_is c.work-last.ensures) j.all) c.with_last-joined.ensures.parts) in
    record {
      parts = parts;
      fault = IfErr-weaker c.outcome_of.result _ _ (λ f o. o.0) others;
      never_too_many_requests = IfErr-weaker c.outcome_of.result _ _ (λ f o. o.1) others;
      stopped = λ h. c.has_stopped-stopped.ensures.stops (run_stopped stopped done joined c.outcome_of.result is out h);
    }
