use Rattle.std.proofs.Common.{◌≡◌, ◌∙◌, List, ap, arith, get_or, length, sym, subst, All}
use Rattle.std.proofs.lemmas.List.{get_or_append_left}
use Rattle.std.specs.List.{AllZip}
use Rattle.net_bench.specs.Circuit.{circuit}
use Rattle.net_order.specs.Order.{condition}
use Rattle.compare_built.specs.Findings.{VerdictsModel}
use Rattle.compare_built.specs.Comparing.{IsInside}
use Rattle.pair_facts.specs.PairFacts.{IsFirstShown}
use Rattle.cone_check.specs.ConeRounds.{IsEqualIf, IsPairVerdict}
use Rattle.report_text.specs.declared.verdict.Verdict.{Verdict}
use Rattle.cone_check.specs.KnownPairs.{AreEqualReported}
use Rattle.cone_check.proofs.Filling.{zip_size}
use Rattle.cone_check.proofs.cone_comparison.verdicts_by_cones.Goals as goal

pub judge_selected-requires-clause-in_range : goal.judge_selected-requires-clause-in_range
judge_selected-requires-clause-in_range g c κs within =
    let task = c.args.task.now in
    subst (All (IsInside (circuit task.first.now) (circuit task.second.now))) (sym c.as_slice.ensures.value) c.requires.facts.inside

pub judge_selected-requires-clause-equal : goal.judge_selected-requires-clause-equal
judge_selected-requires-clause-equal g c κs within =
    let task = c.args.task.now in
    subst (λ ss. AllZip (IsEqualIf (circuit task.first.now) (circuit task.second.now) c.args.naming) ss c.args.equal.now) (sym c.as_slice.ensures.value) c.requires.equal

pub judge_selected-requires-clause-shown : goal.judge_selected-requires-clause-shown
judge_selected-requires-clause-shown g c κs within =
    let task = c.args.task.now in
    let P = IsFirstShown (circuit task.first.now) (circuit task.second.now) (condition task.given) c.args.naming in
    subst (λ ss. AllZip P ss c.as_slice-2.result.now) (sym c.as_slice.ensures.value) (subst (λ ns. AllZip P c.args.facts.subjects.items ns) (sym c.as_slice-2.ensures.value) c.requires.facts.shown)

pub returns-clause-verdicts : goal.returns-clause-verdicts
returns-clause-verdicts g c =
    let task = c.args.task.now in
    let a = circuit task.first.now in
    let b = circuit task.second.now in
    let given = condition task.given in
    let p = c.args.naming in
    record {
      pairs = c.args.facts.subjects.items;
      unmatched_lines = c.args.facts.unmatched_lines.items;
      picked = c.requires.facts.picked;
      verdicts = record {
        variables = ap (λ (v : VerdictsModel). v.naming.names) c.of.ensures;
        of_pairs = c.in_ok-verdicts.verdicts.items;
        verdicts = subst (λ ss. AllZip (IsPairVerdict task (g.G.Monitor.bound c.args.monitor.now) p) ss c.in_ok-verdicts.verdicts.items) c.as_slice.ensures.value c.in_ok-verdicts.ensures.verdicts;
        all = ap (λ (v : VerdictsModel). v.verdicts) c.of.ensures ∙ c.in_ok-verdicts-2.ensures;
      };
    }

pub returns-clause-named : goal.returns-clause-named
returns-clause-named g c = ap (λ (v : VerdictsModel). v.naming) c.of.ensures

pub returns-clause-equal : goal.returns-clause-equal
returns-clause-equal g c = λ i s v lt flag.
    let task = c.args.task.now in
    let a = circuit task.first.now in
    let ss = c.args.facts.subjects.items in
    let found = c.in_ok-verdicts.verdicts.items in
    let verdicts = subst (λ xs. AllZip (IsPairVerdict task (g.G.Monitor.bound c.args.monitor.now) c.args.naming) xs found) c.as_slice.ensures.value c.in_ok-verdicts.ensures.verdicts in
    let each : length found ≡ length ss = zip_size (IsPairVerdict task (g.G.Monitor.bound c.args.monitor.now) c.args.naming) ss found verdicts in
    let equal = subst (λ xs. AreEqualReported a xs c.args.equal.now found) c.as_slice.ensures.value c.in_ok-verdicts.ensures.equal in
    ap (λ (m : VerdictsModel). get_or m.verdicts i v) c.of.ensures ∙ ap (λ (vs : List Verdict). get_or vs i v) c.in_ok-verdicts-2.ensures ∙
    get_or_append_left found _ v i (omega (arith, lt, each)) ∙ equal i s v lt flag
