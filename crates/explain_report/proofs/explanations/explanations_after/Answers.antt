use Rattle.std.proofs.Common.{◌≡◌, ◌∙◌, ◌<◌, All, List, ap, length, sym, subst}
use Rattle.std.proofs.lemmas.Result.{IfOk-weaker}
use Rattle.net_bench.specs.Circuit.{circuit}
use Rattle.net_order.specs.Order.{NamingModel, condition}
use Rattle.report_text.specs.declared.cause.PairName.{PairName}
use Rattle.compare_built.specs.Findings.{found_of}
use Rattle.compare_built.specs.Comparing.{IsInside}
use Rattle.order_search.specs.Trials.{IsNamingIn}
use Rattle.compare_built.proofs.Subjects.{subjects_inside}
use Rattle.explain_report.specs.Explaining.{AreExplained}
use Rattle.explain_report.proofs.Explaining.{behind_none, behind_some, no_targets, some_targets}
use Rattle.explain_report.proofs.explanations.explanations_after.Goals as goal

pub returns-then-is_empty : goal.returns-then-is_empty
returns-then-is_empty g c = record {
  explanations_after = λ input ga tried named.
      let s = c.args.task.now.settings.now in
      let none : length s.explain.items ≡ 0 = ap (λ (ts : List PairName). length ts) (sym c.as_slice-targets.ensures.value) ∙ no_targets c.as_slice-targets.result.now c.if-is_empty.ensures in
      behind_none s.explain.items input s tried (found_of c.args.verdicts.now) _ none c.new.ensures.items;
}

pub explanations-requires-clause-in_range : goal.explanations-requires-clause-in_range
explanations-requires-clause-in_range g c =
    let task = c.args.task.now in
    let order = c.requires.named.1.0 in
    let named : IsNamingIn task order c.naming-naming.result.now = subst (IsNamingIn task order) (sym c.naming-naming.ensures) c.requires.named.1.2 in
    subst (All (IsInside (circuit task.first.now) (circuit task.second.now))) (sym (c.as_slice.ensures.value ∙ c.in_ok-subjects.ensures))
    (subjects_inside task.settings.now.matching task.first.now task.second.now (condition task.given) order c.naming-naming.result.now c.inputs.ensures.sound c.inputs-2.ensures.sound named)

pub returns : goal.returns
returns g c = record {
  explanations_after = λ input ga tried named.
      let task = c.args.task.now in
      let some : 0 < length task.settings.now.explain.items = subst (λ (ts : List PairName). 0 < length ts) c.as_slice-targets.ensures.value (some_targets c.as_slice-targets.result.now c.if-is_empty.ensures) in
      IfOk-weaker c.explanations.result _ _ (λ text are.
      behind_some task.settings.now.explain.items input task.settings.now tried (found_of c.args.verdicts.now) text.items some
      (record {
        a = task.first.now;
        b = task.second.now;
        c = condition task.given;
        p = c.naming-naming.result.now;
        first_sound = c.inputs.ensures.sound;
        second_sound = c.inputs-2.ensures.sound;
        named = (named.0, named.1, record { netlists = ga; naming = subst (IsNamingIn task named.0) (sym c.naming-naming.ensures) named.2 });
        variables = ap (λ (p : NamingModel). p.names) (sym c.naming-naming.ensures);
        known = c.requires.known;
        explained = subst (λ vs. AreExplained task.first.now task.second.now c.naming-naming.result.now vs task.settings.now.explain.items text.items) c.as_slice-2.ensures are;
      })) c.explanations.ensures;
}
