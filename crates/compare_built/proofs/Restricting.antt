-- Functions restricted to a condition, and their verdicts.
use Rattle.std.proofs.Common.{◌≡◌, ◌≢◌, ◌∙◌, ap, sym, refl, subst, ℕ, Bool, true, false, List, length, Option, None}
use Rattle.std.specs.Prelude.{◌&&◌, ◌↔◌, IsTrue}
use Rattle.dd_store.specs.Functions.{Agree, Before, IsLeastDifference}
use Rattle.dd_store.specs.Size.{HasSize}
use Rattle.net_order.specs.Order.{NamingModel}
use Rattle.report_text.specs.declared.verdict.Verdict.{Verdict}
use Rattle.report_text.specs.declared.verdict.Verdict.TheVariants.{Differs}
use Rattle.report_text.specs.declared.verdict.Extras.{Extras}
use Rattle.compare_built.specs.declared.verdict_order.Details.{Details}
use Rattle.compare_built.specs.Conditions.{HoldsWhere, everywhere, restricted, AgreeWhere, IsLeastWhere}
use Rattle.compare_built.specs.Report.{Compared, IsSizeShown, IsSupportShown, AreExtrasShown, AreSizesShown, IsVerdictOf}
use Rattle.compare_built.specs.Report.IsVerdictOf.{where_equal, where_different}
use Rattle.compare_built.proofs.Supporting.{levels_as}

-- ---- sizes of functions that agree

pub size_as : (n : ℕ) (f g : List Bool → Bool) (k : ℕ) → Agree n f g → HasSize n f k → HasSize n g k
size_as n f g k same s = (s.0, s.1, record { reduced = s.2.reduced; there = s.2.there; value = λ x len. s.2.value x len ∙ same x len }, s.3)

shown_as : (sizes : Bool) (n : ℕ) (f g : List Bool → Bool) (shown : Option ℕ) → Agree n f g → IsSizeShown sizes n f shown → IsSizeShown sizes n g shown
shown_as false n f g shown same s = s
shown_as true n f g shown same s = (s.0, size_as n f g s.0 same s.1, s.2)

both_as : (sizes : Bool) (n : ℕ) (f g f' g' : List Bool → Bool) (shown : Option (ℕ × ℕ)) → Agree n f f' → Agree n g g' → AreSizesShown sizes n f g shown → AreSizesShown sizes n f' g' shown
both_as false n f g f' g' shown same other s = s
both_as true n f g f' g' shown same other s = (s.0, s.1, size_as n f f' s.0 same s.2, size_as n g g' s.1 other s.3, s.4)

support_as : (asked : Bool) (n : ℕ) (f g f' g' : List Bool → Bool) (shown : Option (List Bool)) → Agree n f f' → Agree n g g' → IsSupportShown asked n f g shown → IsSupportShown asked n f' g' shown
support_as false n f g f' g' shown same other s = s
support_as true n f g f' g' shown same other s = (s.0, levels_as n f g f' g' s.0 same other s.1, s.2)

extras_as : (asked : Details) (n : ℕ) (f g f' g' : List Bool → Bool) (shown : Extras) → Agree n f f' → Agree n g g' → AreExtrasShown asked n f g shown → AreExtrasShown asked n f' g' shown
extras_as asked n f g f' g' shown same other s = record {
  least = s.least;
  sizes = both_as asked.sizes n f g f' g' shown.sizes same other s.sizes;
  support = support_as asked.support n f g f' g' shown.support same other s.support;
}

-- ---- values of restricted functions

-- if the condition holds, the value is that of the function
pub with_one : (h b : Bool) → IsTrue h → (h && b) ≡ b
with_one h b e = ap (λ z. z && b) e

-- if two restricted values differ, the condition holds
pub holds_there : (h a b : Bool) → ((h && a) ≢ (h && b)) → IsTrue h
holds_there true a b ne = refl
holds_there false a b ne = absurd (ne refl)

pub swapped : (a b : Bool) → (a && b) ≡ (b && a)
swapped true true = refl
swapped true false = refl
swapped false true = refl
swapped false false = refl

module _ (n : ℕ) (holds f g f' g' : List Bool → Bool) (first : Agree n f' (restricted holds f)) (second : Agree n g' (restricted holds g)) where
  pub agree_where : Agree n f' g' → AgreeWhere n holds f g
  agree_where same = λ x len h. sym (with_one (holds x) (f x) h) ∙ sym (first x len) ∙ same x len ∙ second x len ∙ with_one (holds x) (g x) h

  pub least_where : (x : List Bool) → IsLeastDifference n f' g' x → IsLeastWhere n holds f g x
  least_where x l =
      let sat : IsTrue (holds x) = holds_there (holds x) (f x) (g x) (λ e. l.differ (first x l.bits ∙ e ∙ sym (second x l.bits))) in
      record {
        bits = l.bits;
        satisfies = sat;
        differ = λ e. l.differ (first x l.bits ∙ ap (λ b. holds x && b) e ∙ sym (second x l.bits));
        least = λ y len before h. sym (with_one (holds y) (f y) h) ∙ sym (first y len) ∙ l.least y len before ∙ second y len ∙ with_one (holds y) (g y) h;
      }

-- if the condition holds everywhere
pub least_everywhere : (n : ℕ) (f g : List Bool → Bool) (x : List Bool) → IsLeastDifference n f g x → IsLeastWhere n everywhere f g x
least_everywhere n f g x l = record { bits = l.bits; satisfies = refl; differ = l.differ; least = λ y len before h. l.least y len before }

-- restricted functions agree everywhere if the functions agree wherever the condition holds
pub agree_both : (n : ℕ) (holds f g : List Bool → Bool) → AgreeWhere n holds f g → Agree n (restricted holds f) (restricted holds g)
agree_both n holds f g same = λ x len. by x len (holds x) refl
  where
    by : (x : List Bool) → length x ≡ n → (h : Bool) → holds x ≡ h → (holds x && f x) ≡ (holds x && g x)
    by x len true e = ap (λ z. z && f x) e ∙ same x len e ∙ sym (ap (λ z. z && g x) e)
    by x len false e = ap (λ z. z && f x) e ∙ sym (ap (λ z. z && g x) e)

pub least_both : (n : ℕ) (holds f g : List Bool → Bool) (x : List Bool) → IsLeastWhere n holds f g x → IsLeastDifference n (restricted holds f) (restricted holds g) x
least_both n holds f g x l = record {
  bits = l.bits;
  differ = λ e. l.differ (sym (with_one (holds x) (f x) l.satisfies) ∙ e ∙ with_one (holds x) (g x) l.satisfies);
  least = λ y len before. by y len before (holds y) refl;
}
  where
    by : (y : List Bool) → length y ≡ n → Before y x → (h : Bool) → holds y ≡ h → (holds y && f y) ≡ (holds y && g y)
    by y len before true e = ap (λ z. z && f y) e ∙ l.least y len before e ∙ sym (ap (λ z. z && g y) e)
    by y len before false e = ap (λ z. z && f y) e ∙ sym (ap (λ z. z && g y) e)

-- ---- verdicts

-- the verdict of restricted functions without a condition is that of the functions with the condition
pub verdict_where : (n : ℕ) (asked : Details) (holds : List Bool → Bool) (d : Compared) (f g : List Bool → Bool) → Agree n d.first (restricted holds f) → Agree n d.second (restricted holds g) →
    (v : Verdict) → IsVerdictOf n asked everywhere d v → IsVerdictOf n asked holds (record { role = d.role; name = d.name; first = f; second = g }) v
verdict_where n asked holds d f g first second v (where_equal {shown = shown} agree size) =
    where_equal (agree_where n holds f g d.first d.second first second (λ x len. agree x len refl)) (shown_as asked.sizes n d.first (restricted holds f) shown first size)
verdict_where n asked holds d f g first second v (where_different {x = x} {shown = shown} least size) =
    let plain : IsLeastDifference n d.first d.second x = record { bits = least.bits; differ = least.differ; least = λ y len before. least.least y len before refl } in
    let l : IsLeastWhere n holds f g x = least_where n holds f g d.first d.second first second x plain in
    let one : f x ≡ d.first x = sym (with_one (holds x) (f x) l.satisfies) ∙ sym (first x l.bits) in
    let two : g x ≡ d.second x = sym (with_one (holds x) (g x) l.satisfies) ∙ sym (second x l.bits) in
    subst (λ b. IsVerdictOf n asked holds (record { role = d.role; name = d.name; first = f; second = g }) (Differs d.role d.name x b (d.second x) shown)) one
    (subst (λ b. IsVerdictOf n asked holds (record { role = d.role; name = d.name; first = f; second = g }) (Differs d.role d.name x (f x) b shown)) two
    (where_different l (extras_as asked n d.first d.second (restricted holds f) (restricted holds g) shown first second size)))

-- ---- without a condition

module _ (p : NamingModel) (holds : List Bool → Bool) (none : HoldsWhere None p holds) (n : ℕ) (f g : List Bool → Bool) where
  pub all_equal : AgreeWhere n holds f g ↔ Agree n f g
  all_equal = subst (λ h. AgreeWhere n h f g ↔ Agree n f g) (sym none) (λ same x len. same x len refl, λ same x len h. same x len)

  pub all_least : (x : List Bool) → IsLeastWhere n holds f g x ↔ IsLeastDifference n f g x
  all_least x = subst (λ h. IsLeastWhere n h f g x ↔ IsLeastDifference n f g x) (sym none) (
    λ l. record { bits = l.bits; differ = l.differ; least = λ y len before. l.least y len before refl },
    λ l. record { bits = l.bits; satisfies = refl; differ = l.differ; least = λ y len before h. l.least y len before },
  )

pub all_whole : (p : NamingModel) (holds : List Bool → Bool) → HoldsWhere None p holds → (f : List Bool → Bool) → restricted holds f ≡ f
all_whole p holds none f = subst (λ h. restricted h f ≡ f) (sym none) refl
