use Rattle.std.proofs.Common.{All, ap, subst, sym}
use Rattle.std.specs.Prelude.{zip}
use Rattle.net_bench.specs.Circuit.{circuit}
use Rattle.net_order.specs.Order.{NamingModel, condition}
use Rattle.compare_built.specs.Findings.{found_of}
use Rattle.compare_built.specs.Comparing.{IsInside}
use Rattle.order_search.specs.Trials.{IsNamingIn}
use Rattle.compare_built.proofs.Subjects.{all_signals}
use Rattle.explain_report.specs.Causing.{AreFirstDifferences}
use Rattle.explain_report.proofs.FirstDifferences.{asked_for, unasked}
use Rattle.explain_report.proofs.causes.causes.Goals as goal

pub returns-then-not-task : goal.returns-then-not-task
returns-then-not-task g c = record {
  causes = λ input ga tried named. unasked input c.args.task.now.settings.now tried (found_of c.args.verdicts.now) c.if-not-task.true;
}

pub picked_pairs-requires : goal.picked_pairs-requires
picked_pairs-requires g c =
    let task = c.args.task.now in
    let order = c.requires.1.0 in
    all_signals task.settings.now.matching task.first.now task.second.now (condition task.given) order c.naming-naming.result.now c.inputs.ensures.sound c.inputs-2.ensures.sound
    (subst (IsNamingIn task order) (sym c.naming-naming.ensures) c.requires.1.2)

pub all_causes-requires : goal.all_causes-requires
all_causes-requires g c =
    let task = c.args.task.now in
    subst (All (IsInside (circuit task.first.now) (circuit task.second.now))) (sym c.as_slice.ensures.value) c.in_ok-pairs.ensures.inside

pub returns : goal.returns
returns g c = record {
  causes = λ input ga tried named.
      let task = c.args.task.now in
      let p = c.naming-naming.result.now in
      let differences = c.in_ok-causes.ensures in
      asked_for input task.settings.now tried (found_of c.args.verdicts.now) c.in_ok-causes.causes.items c.if-not-task.false
      (record {
        a = task.first.now;
        b = task.second.now;
        c = condition task.given;
        p = p;
        first_sound = c.inputs.ensures.sound;
        second_sound = c.inputs-2.ensures.sound;
        named = (named.0, named.1, record { netlists = ga; naming = subst (IsNamingIn task named.0) (sym c.naming-naming.ensures) named.2 });
        variables = ap (λ (q : NamingModel). q.names) (sym c.naming-naming.ensures);
        pairs = c.in_ok-pairs.pairs.items;
        picked = c.in_ok-pairs.ensures.picked;
        differences = differences.0;
        are_first_differences = subst (λ vs. AreFirstDifferences task.first.now task.second.now p (zip c.in_ok-pairs.pairs.items vs) differences.0) c.as_slice-2.ensures
            (subst (λ ps. AreFirstDifferences task.first.now task.second.now p (zip ps c.as_slice-2.result.now) differences.0) c.as_slice.ensures.value differences.1);
        causes = differences.2;
      });
}
