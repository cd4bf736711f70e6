use Rattle.std.proofs.Common.{◌∙◌, ◌<◌, Bool, List, [], ap, not, sym, subst, ℕ}
use Rattle.std.proofs.lemmas.Option.{get_or_from_slice_get}
use Rattle.net_bench.specs.Circuit.{circuit}
use Rattle.net_order.specs.Order.{condition, name_of}
use Rattle.net_patterns.specs.declared.patterns.Patterns.{Patterns}
use Rattle.net_patterns.specs.Differences.{IsDifferenceWith}
use Rattle.net_patterns.specs.Patterns.{pattern, pattern_count}
use Rattle.report_text.specs.declared.verdict.Verdict.TheVariants.{Differs}
use Rattle.compare_built.specs.Facts.{IsShownVerdict, shown_extras, signals_of}
use Rattle.pair_facts.proofs.Showing.{has_output, verdict_shown}
use Rattle.pair_facts.proofs.shown.shown_verdict.Goals as goal

pub assignment-requires : goal.assignment-requires
assignment-requires g c = subst (λ (q : Patterns). c.args.shown.number < pattern_count q) (sym c.patterns_of-patterns.ensures) c.requires.number

pub made_small-requires-clause-pair : goal.made_small-requires-clause-pair
made_small-requires-clause-pair g c = (c.requires.inside.1, c.requires.inside.2)

pub made_small-requires-clause-condition : goal.made_small-requires-clause-condition
made_small-requires-clause-condition g c = has_output (condition c.args.task.now.given) c.args.task.now.one_output

pub made_small-requires-clause-difference : goal.made_small-requires-clause-difference
made_small-requires-clause-difference g c =
    let task = c.args.task.now in
    let a = circuit task.first.now in
    let b = circuit task.second.now in
    let p = c.args.naming.now in
    let shown = c.args.shown in
    let it = λ (x : List Bool). IsDifferenceWith a b (condition task.given) p (signals_of c.args.subject.now) x shown.first in
    subst it (sym (c.in_ok-pattern.ensures ∙ ap (λ (q : Patterns). pattern q shown.number) c.patterns_of-patterns.ensures)) c.requires.shown

pub returns : goal.returns
returns g c =
    let task = c.args.task.now in
    let a = circuit task.first.now in
    let b = circuit task.second.now in
    let given = condition task.given in
    let p = c.args.naming.now in
    let s = c.args.subject.now in
    let small = c.in_ok-small.small in
    let v = λ (name : List ℕ) (x : List Bool). IsShownVerdict a b given p s (Differs s.role name x small.first (not small.first) shown_extras) in
    subst (λ (name : List ℕ). v name c.of.result) (get_or_from_slice_get task.first.now.names s.named c.name.result.now [] c.name.ensures.value ∙ sym c.in_ok-name.ensures) (subst (v (name_of a s.named)) (sym c.of.ensures)
    (verdict_shown task.first.now task.second.now c.inputs.ensures.sound c.inputs-2.ensures.sound given p s small.at.items small.first c.note_condition.ensures (has_output given task.one_output) c.requires.inside
    c.in_ok-small.ensures))
