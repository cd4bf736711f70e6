use Rattle.std.proofs.Common.{◌≡◌, ◌<◌, ◌∙◌, ℕ, Some, None, sym, subst, length, get_or, arith}
use Rattle.std.proofs.lemmas.List.{get_or_default}
use Rattle.net_bench.specs.Circuit.{circuit}
use Rattle.net_order.specs.Order.{condition}
use Rattle.net_patterns.specs.Choices.{IsFirstWith}
use Rattle.net_patterns.specs.Differences.{HasFirstValue, IsDifferenceWith, IsShownBy}
use Rattle.net_patterns.specs.Patterns.{pattern_count}
use Rattle.pattern_tests.proofs.differences.shown.Goals as goal

pub make_small-requires-clause-difference : goal.make_small-requires-clause-difference
make_small-requires-clause-difference c =
    let a = circuit c.args.texts.now.first in
    let b = circuit c.args.texts.now.second in
    let given = condition c.as_ref.result in
    let p = c.args.texts.now.naming in
    let patterns = c.of-patterns.result in
    let pair : ℕ × ℕ = (c.signal.result, c.signal-2.result) in
    let items = c.in_ok-found.found.items in
    let one : length items ≡ 1 = c.in_ok-found.ensures.each in
    let low : 0 < length items = omega (arith, one) in
    let is : get_or items 0 None ≡ Some c.in-Some.pattern = get_or_default items 0 None c.index.result.now low ∙ sym c.index.ensures ∙ c.in-Some.is in
    let first = subst (IsFirstWith (IsShownBy a b given p patterns pair) (HasFirstValue a p patterns pair) (pattern_count patterns)) is (c.in_ok-found.ensures.first 0 pair (omega arith)) in
    subst (λ x. IsDifferenceWith a b given p pair x c.in-Some.pattern.first) (sym c.in_ok-at.ensures) (first.0.1, first.1)
