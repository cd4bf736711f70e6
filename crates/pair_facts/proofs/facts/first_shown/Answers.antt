use Rattle.std.proofs.Common.{◌∙◌, All, List, ap, sym, subst, ℕ}
use Rattle.net_bench.specs.Circuit.{circuit}
use Rattle.net_order.specs.Order.{condition}
use Rattle.net_patterns.specs.declared.patterns.Patterns.{Patterns}
use Rattle.net_patterns.specs.Differences.{AreFirst, IsPairOf}
use Rattle.net_patterns.specs.Patterns.{pattern_count}
use Rattle.compare_built.specs.Facts.{patterns_of}
use Rattle.pair_facts.proofs.Showing.{first_of_each, has_output, pairs_inside}
use Rattle.pair_facts.proofs.facts.first_shown.Goals as goal

pub first_differences-requires-clause-pairs : goal.first_differences-requires-clause-pairs
first_differences-requires-clause-pairs g c =
    let a = circuit c.args.task.now.first.now in
    let b = circuit c.args.task.now.second.now in
    subst (All (IsPairOf a b)) (sym (c.as_slice.ensures.value ∙ c.in_ok-pairs.ensures)) (pairs_inside a b c.args.subjects.now c.requires)

pub first_differences-requires-clause-condition : goal.first_differences-requires-clause-condition
first_differences-requires-clause-condition g c = has_output (condition c.args.task.now.given) c.args.task.now.one_output

pub first_differences-requires-clause-variables : goal.first_differences-requires-clause-variables
first_differences-requires-clause-variables g c = ap (λ (q : Patterns). q.variables) c.patterns_of-patterns.ensures

pub returns : goal.returns
returns g c =
    let task = c.args.task.now in
    let a = circuit task.first.now in
    let b = circuit task.second.now in
    let given = condition task.given in
    let p = c.args.naming.now in
    let found = c.in_ok-shown.shown.items in
    let P = patterns_of a b p in
    first_of_each a b given p c.args.subjects.now found
    (subst (λ (pairs : List (ℕ × ℕ)). AreFirst a b given p P (pattern_count P) pairs found) (c.as_slice.ensures.value ∙ c.in_ok-pairs.ensures)
    (subst (λ (q : Patterns). AreFirst a b given p q (pattern_count q) c.as_slice.result.now found) c.patterns_of-patterns.ensures c.in_ok-shown.ensures))
