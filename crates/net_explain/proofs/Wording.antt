-- One more line of an explanation, or part of a VCD.
use Rattle.std.proofs.Common.{◌≡◌, ℕ, ◌+◌, ◌<◌, ◌≤◌, ◌==◌, Bool, false, List, [], ◌∷◌, ◌++◌, Some, None, Option, refl, sym, ap, ◌∙◌, length, get_or, drop, arith}
use Rattle.std.proofs.lemmas.Bool.Decides.{nat_tests}
use Rattle.std.proofs.lemmas.List.{get_or_default}
use Rattle.net_explain.specs.declared.differing.InnerSignal.{InnerSignal}
use Rattle.net_explain.specs.declared.explanation.GateCount.{GateCount}
use Rattle.net_explain.specs.Text.{outside_text, inner_text, inners_text, last_line_text}
use Rattle.net_explain.specs.Vcd.{change_text, changes_text, var_text, vars_text}
use Rattle.net_simulate.proofs.Lists.{drop_all, drop_here}

pub inners_next : (names : List (List ℕ)) (is : List InnerSignal) (p : ℕ) (i : InnerSignal) → p < length is → i ≡ get_or is p i →
    inners_text names (drop p is) ≡ inner_text names i ++ inners_text names (drop (p + 1) is)
inners_next names is p i low at = ap (inners_text names) (drop_here is p i low at)

pub inners_over : (names : List (List ℕ)) (is : List InnerSignal) (p : ℕ) → length is ≤ p → inners_text names (drop p is) ≡ []
inners_over names is p high = ap (inners_text names) (drop_all is p high)

pub vars_next : (k : ℕ) (names : List (List ℕ)) (p : ℕ) (name : List ℕ) → p < length names → name ≡ get_or names p [] →
    vars_text (k + p) (drop p names) ≡ var_text (k + p) name ++ vars_text (k + (p + 1)) (drop (p + 1) names)
vars_next k names p name low at =
    let here : name ≡ get_or names p name = at ∙ get_or_default names p [] name low in
    let same : k + p + 1 ≡ k + (p + 1) = omega arith in
    ap (vars_text (k + p)) (drop_here names p name low here) ∙ ap (λ j. var_text (k + p) name ++ vars_text j (drop (p + 1) names)) same

pub vars_over : (k : ℕ) (names : List (List ℕ)) (p : ℕ) → length names ≤ p → vars_text (k + p) (drop p names) ≡ []
vars_over k names p high = ap (vars_text (k + p)) (drop_all names p high)

pub changes_next : (k : ℕ) (bits : List Bool) (p : ℕ) → p < length bits →
    changes_text (k + p) (drop p bits) ≡ change_text (k + p) (get_or bits p false) ++ changes_text (k + (p + 1)) (drop (p + 1) bits)
changes_next k bits p low =
    let same : k + p + 1 ≡ k + (p + 1) = omega arith in
    ap (changes_text (k + p)) (drop_here bits p (get_or bits p false) low (get_or_default bits p false (get_or bits p false) low)) ∙
    ap (λ j. change_text (k + p) (get_or bits p false) ++ changes_text j (drop (p + 1) bits)) same

pub changes_over : (k : ℕ) (bits : List Bool) (p : ℕ) → length bits ≤ p → changes_text (k + p) (drop p bits) ≡ []
changes_over k bits p high = ap (changes_text (k + p)) (drop_all bits p high)

pub no_parts : (names : List (List ℕ)) (is : List InnerSignal) → last_line_text names is None ≡ []
no_parts names [] = refl
no_parts names (i ∷ is) = refl

pub no_inners : (names : List (List ℕ)) (is : List InnerSignal) (ps : Option (GateCount × GateCount)) → length is ≡ 0 → last_line_text names is ps ≡ []
no_inners names [] None e = refl
no_inners names [] (Some ps) e = refl
no_inners names (i ∷ is) ps e = absurd (omega arith)

pub some_inner : (is : List InnerSignal) → false ≡ (length is == 0) → 0 < length is
some_inner is e = grind (arith, nat_tests)

-- the first of the inner signals
pub at_first : (names : List (List ℕ)) (is : List InnerSignal) (i : InnerSignal) (name : List ℕ) (ps : GateCount × GateCount) → 0 < length is → i ≡ get_or is 0 i → name ≡ get_or names i.first [] →
    last_line_text names is (Some ps) ≡ outside_text name ps.0 ps.1
at_first names [] i name ps low at e = absurd (omega arith)
at_first names (j ∷ js) i name ps low at e = ap (λ (z : InnerSignal). outside_text (get_or names z.first []) ps.0 ps.1) (sym at) ∙ ap (λ z. outside_text z ps.0 ps.1) (sym e)
