use Rattle.std.proofs.Common.{rules, ◌≡◌, ◌∙◌, ◌∷◌, ℕ, List, true, false, length, subst, sym}
use Rattle.std.specs.Prelude.{◌==◌}
use Rattle.std.specs.List.{list_any}
use Rattle.compare_built.specs.NamePatterns.{matches, rests}
use Rattle.compare_built.proofs.Patterns.{none_of_short, star_short}
use Rattle.compare_built.proofs.name_pattern.+fit_of.Goals as goal

-- the last end of the name is empty, and does not match
pub returns-in_default-split_first : goal.returns-in_default-split_first
returns-in_default-split_first t c =
    let following : List ℕ = c.in-Some.following.now in
    let whole : c.args.pattern.now ≡ c.in-Some.byte.now ∷ following = search rules in
    let empty : length c.rests.rest.now ≡ 0 = search rules in
    let differs : matches following c.rests.rest.now ≡ false = search rules in
    let star : (c.in-Some.byte.now == 42) ≡ true = search rules in
    subst (λ p. list_any (matches p) (rests c.args.name.now) ≡ false) (sym whole)
    (star_short c.in-Some.byte.now following c.args.name.now star (c.rests.invariant ∙ none_of_short (matches following) c.rests.rest.now empty differs))
