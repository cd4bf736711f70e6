-- What one more block shows of pairs.
use Rattle.std.proofs.Common.{◌≡◌, inl, inr, ℕ, zero, suc, ◌+◌, ◌*◌, ◌<◌, List, ◌++◌, Option, Some, None, refl, sym, ap, ◌∙◌, subst, length, get_or, replicate, take, arith}
use Rattle.std.specs.Prelude.{◌↔◌, All, IfSome, MatchOption}
use Rattle.std.proofs.lemmas.List.{length-replicate, take-append-le, take_all}
use Rattle.net_bench.specs.Circuit.{Circuit}
use Rattle.net_bench.specs.Labels.{Computes}
use Rattle.net_order.specs.Order.{NamingModel, first_level}
use Rattle.net_simulate.specs.Columns.{bit_in_block, column}
use Rattle.net_patterns.specs.declared.counterexample.Counterexample.{Counterexample}
use Rattle.net_patterns.specs.declared.counterexample.ShownPattern.{ShownPattern}
use Rattle.net_patterns.specs.declared.patterns.Patterns.{Patterns}
use Rattle.net_patterns.specs.declared.sides.Sides.{Sides}
use Rattle.net_patterns.specs.Choices.{IsFirstWith, IsNext}
use Rattle.net_patterns.specs.Differences.{AreFirst, HasFirstValue, IsCounterexample, IsDifferenceAt, IsLesser, IsPairOf, IsShownBy, MakesSmaller}
use Rattle.net_patterns.specs.Patterns.{pattern}
use Rattle.net_patterns.specs.Simulated.{AreApart, first_bit}
use Rattle.net_patterns.proofs.Firsts.{next_first}
use Rattle.net_patterns.proofs.Ordering.{not_after}

-- a slice of a list that is written back is what was written
pub written_back : {X : Type 0} (new rest : List X) (n : ℕ) → length new ≡ n → take n (new ++ rest) ≡ new
written_back new rest n is = take-append-le n new rest (omega arith) ∙ take_all n new (omega arith)

get_none : (n k : ℕ) → get_or {A = Option ShownPattern} (replicate n None) k None ≡ None
get_none zero zero = refl
get_none zero (suc k) = refl
get_none (suc n) zero = refl
get_none (suc n) (suc k) = get_none n k

pub none_first : (a b : Circuit) (given : Option Circuit) (p : NamingModel) (patterns : Patterns) (pairs : List (ℕ × ℕ)) → AreFirst a b given p patterns 0 pairs (replicate (length pairs) None)
none_first a b given p patterns pairs = record {
  each = length-replicate (length pairs) None;
  first = λ k d low. subst (IsFirstWith (IsShownBy a b given p patterns (get_or pairs k d)) (HasFirstValue a p patterns (get_or pairs k d)) 0) (sym (get_none (length pairs) k))
      (λ j less. absurd (omega arith));
}

module _ (a b : Circuit) (given : Option Circuit) (p : NamingModel) (patterns : Patterns) (block : ℕ) (pairs : List (ℕ × ℕ)) (at seen : List (List ℕ)) (is : seen ≡ at) (sides : Sides) (holds : List ℕ)
    (old before new : List (Option ShownPattern)) (same : before ≡ old) where
  pub found_more : All (IsPairOf a b) pairs → length at ≡ length p.names → ((i : ℕ) → i < 512 → column bit_in_block i at ≡ pattern patterns (512 * block + i)) →
      ((pair : ℕ × ℕ) → IsPairOf a b pair → length seen ≡ length p.names → (i : ℕ) → i < 512 → IsDifferenceAt a b given p pair (column bit_in_block i seen) ↔ AreApart sides holds pair i) →
      ((pair : ℕ × ℕ) (i : ℕ) → i < 512 → Computes a (first_level p) pair.0 (column bit_in_block i seen) (first_bit sides pair i)) →
      length new ≡ length before →
      ((k : ℕ) (d : ℕ × ℕ) → k < length pairs → IsNext (AreApart sides holds (get_or pairs k d)) (first_bit sides (get_or pairs k d)) block (get_or before k None) (get_or new k None)) →
      AreFirst a b given p patterns (512 * block) pairs old → AreFirst a b given p patterns (512 * (block + 1)) pairs new
  found_more inside each columns shown values long next found = record {
    each = long ∙ ap length same ∙ found.each;
    first = λ k d low.
        let pair = get_or pairs k d in
        let here = λ (i : ℕ) (less : i < 512). shown pair (inside k d low) (ap length is ∙ each) i less in
        let column_is = λ (i : ℕ) (less : i < 512). ap (column bit_in_block i) is ∙ columns i less in
        next_first (IsShownBy a b given p patterns pair) (AreApart sides holds pair) (HasFirstValue a p patterns pair) (first_bit sides pair) block
        (λ i less difference. (here i less).0 (subst (IsDifferenceAt a b given p pair) (sym (column_is i less)) difference))
        (λ i less apart. subst (IsDifferenceAt a b given p pair) (column_is i less) ((here i less).1 apart))
        (λ i less. subst (λ x. Computes a (first_level p) pair.0 x (first_bit sides pair i)) (column_is i less) (values pair i less))
        (get_or before k None) (get_or new k None)
        (subst (λ xs. IsFirstWith (IsShownBy a b given p patterns pair) (HasFirstValue a p patterns pair) (512 * block) (get_or xs k None)) (sym same) (found.first k d low)) (next k d low);
  }

-- ---- a counterexample that becomes smaller

module _ (a b : Circuit) (given : Option Circuit) (p : NamingModel) (pair : ℕ × ℕ) where
  unchanged : (x y : Counterexample) → y ≡ x → IsCounterexample a b given p pair x → MakesSmaller a b given p pair x y
  unchanged x y same difference = record {
    difference = subst (IsCounterexample a b given p pair) (sym same) difference;
    order = inl (ap (λ (e : Counterexample). e.at.items) same);
  }

  pub lesser_smaller : (x : Counterexample) (o : Option Counterexample) (y : Counterexample) → IsCounterexample a b given p pair x → IfSome o (IsCounterexample a b given p pair) →
      MatchOption o (y ≡ x) (λ c. IsLesser x c y) → MakesSmaller a b given p pair x y
  lesser_smaller x None y difference none same = unchanged x y same difference
  lesser_smaller x (Some c) y difference some (inl same) = unchanged x y same difference
  lesser_smaller x (Some c) y difference some (inr (is, before)) = record { difference = subst (IsCounterexample a b given p pair) (sym is) some; order = inr before }

  pub smaller_twice : (x y z : Counterexample) → MakesSmaller a b given p pair x y → MakesSmaller a b given p pair y z → MakesSmaller a b given p pair x z
  smaller_twice x y z first second = record { difference = second.difference; order = not_after x.at.items y.at.items z.at.items first.order second.order }
