-- The verdict of a pair by its cones, over the variables of the naming.
use Rattle.std.proofs.Common.{◌≡◌, ◌∙◌, ap, sym, refl, subst, arith, inl, inr, ℕ, ◌+◌, ◌<◌, Bool, true, false, List, [], ◌∷◌, ◌++◌, length, get_or, Option, Some, None}
use Rattle.std.specs.Prelude.{IfSome, slice_index}
use Rattle.std.specs.List.{AllZip}
use Rattle.std.proofs.lemmas.List.{length-append, length-map, nil_from_length}
use Rattle.net_bench.specs.Circuit.{Circuit, find}
use Rattle.net_bench.specs.Labels.{IsFunctionOf}
use Rattle.net_cone.specs.Cones.{variable_name}
use Rattle.net_cone.specs.Spreading.{bits_at}
use Rattle.net_names.specs.declared.order.Match.TheVariants.{Name}
use Rattle.net_order.specs.Order.{HasLevels, NamingModel, all_names, both, given_side, name_of, names_by, own}
use Rattle.net_order.specs.Tables.{IsKnown}
use Rattle.net_order.proofs.AllNames.{known_given, known_sides}
use Rattle.net_order.proofs.InputLevels.{first_below, given_below, second_below}
use Rattle.report_text.specs.declared.outcome.PairKind.{PairKind}
use Rattle.report_text.specs.declared.verdict.Verdict.{Verdict}
use Rattle.report_text.specs.declared.verdict.Verdict.TheVariants.{Differs}
use Rattle.report_text.specs.Lines.{Found}
use Rattle.report_text.specs.declared.assignment.Assignment.{Assignment}
use Rattle.compare_built.specs.Details.{wants_support, unsized}
use Rattle.compare_built.specs.declared.subject.Subject.{Subject}
use Rattle.compare_built.specs.Conditions.{HoldsWhere, output_of, restricted}
use Rattle.report_text.specs.declared.difference.Difference.{Difference}
use Rattle.compare_built.specs.Cones.{IsConditionCone, IsConeVerdict}
use Rattle.compare_built.specs.Cones.IsVerdictOrUndecided.{decided}
use Rattle.compare_built.specs.Report.{AreFunctions, AreVerdicts, Compared, IsSupportShown, IsVerdictOf, unmatched_verdicts, output_subject, subjects}
use Rattle.compare_built.specs.Report.IsVerdictOf.{where_equal, where_different}
use Rattle.compare_built.specs.Scatter.{ArePlaces, IsConePairing, IsOfNet, scattered, scatter_support, widened_verdict}
use Rattle.compare_built.proofs.Calling.{exact}
use Rattle.cone_check.proofs.ConePairs.{found_there, function_widened, name_at, names_apart, no_unmatched, no_registers, one_output, one_subject, out, out_low, out_name, out_of, own_apart}
use Rattle.std.proofs.lemmas.Bool.{cases_lt}
use Rattle.std.proofs.Math.Nat.{eq-or-lt_of_le}
use Rattle.compare_built.proofs.Supporting.{AreApart, levels_scattered}
use Rattle.compare_built.proofs.Scattering.{agree_where_picked, least_where_picked, bits_at-scattered}

-- ---- verdicts

-- the two functions over the variables at the places, with this role and name
abbrev pub picked_of : (places : List ℕ) → PairKind → (name : List ℕ) → Compared → Compared
picked_of places role name c = record { role = role; name = name; first = λ x. c.first (bits_at places x); second = λ x. c.second (bits_at places x) }

-- rising places are distinct
apart : (n : ℕ) (places : List ℕ) → ArePlaces n places → AreApart n places
apart n places are = record {
  below = λ i low. are.below i 0 low;
  apart = λ i j li lj e. elim (cases_lt i j) [
    | inl less ↦ let low : get_or places i 0 < get_or places j 0 = are.rising i j less lj in absurd (omega (arith, low, e))
    | inr more ↦ elim (eq-or-lt_of_le more) [
      | inl same ↦ sym same
      | inr less ↦ let low : get_or places j 0 < get_or places i 0 = are.rising j i less li in absurd (omega (arith, low, e))
    ]
  ];
}

-- the support over the places is the support over all levels
support_widened : (asked : Bool) (n : ℕ) (places : List ℕ) → ArePlaces n places → (f g : List Bool → Bool) (shown : Option (List Bool)) →
    IsSupportShown asked (length places) f g shown → IsSupportShown asked n (λ x. f (bits_at places x)) (λ x. g (bits_at places x)) (scatter_support n places shown)
support_widened false n places are f g shown is = ap (scatter_support n places) is
support_widened true n places are f g shown is = (scattered n places is.0, levels_scattered n places (apart n places are) f g is.0 is.1, ap (scatter_support n places) is.2)

-- a verdict over the places is a verdict over all levels
pub verdict_widened : (which : Option Assignment) (n : ℕ) (places : List ℕ) → ArePlaces n places → (holds : List Bool → Bool) (c : Compared) (role : PairKind) (name : List ℕ) (v : Verdict) →
    IsVerdictOf (length places) (unsized which) holds c v → IsVerdictOf n (unsized which) (λ x. holds (bits_at places x)) (picked_of places role name c) (widened_verdict role name n places v)
verdict_widened which n places are holds c role name v (where_equal agree size) = where_equal ((agree_where_picked n places are holds c.first c.second).0 agree) refl
verdict_widened which n places are holds c role name v (where_different {x = x} {shown = shown} least more) =
    subst (λ y. IsVerdictOf n (unsized which) (λ x. holds (bits_at places x)) (picked_of places role name c) (Differs role name (scattered n places x) (c.first y) (c.second y) (record { least = shown.least; support = scatter_support n places shown.support; sizes = None })))
    (bits_at-scattered n places are x least.bits) (where_different (least_where_picked n places are holds c.first c.second x least)
    (record { least = more.least; sizes = refl; support = support_widened (wants_support which) n places are (restricted holds c.first) (restricted holds c.second) shown.support more.support }))

-- The verdict of the only pair.
record IsOne (which : Option Assignment) (k m : Circuit) (q : NamingModel) (s : Subject) (holds : List Bool → Bool) (v : Verdict) : Type 0 where
  compared : Compared
  functions : AreFunctions k m q s compared
  verdict : IsVerdictOf (length q.names) (unsized which) holds compared v

one_of : (which : Option Assignment) (k m : Circuit) (q : NamingModel) (s : Subject) (holds : List Bool → Bool) (v : Verdict) (compared : List Compared) (of_pairs more : List Verdict) →
    AllZip (AreFunctions k m q) (s ∷ []) compared → AllZip (IsVerdictOf (length q.names) (unsized which) holds) compared of_pairs → v ∷ [] ≡ of_pairs ++ more → IsOne which k m q s holds v
one_of which k m q s holds v [] of_pairs more fs vs e = absurd fs
one_of which k m q s holds v (c ∷ d ∷ cs) of_pairs more fs vs e = absurd fs.1
one_of which k m q s holds v (c ∷ []) [] more fs vs e = absurd vs
one_of which k m q s holds v (c ∷ []) (u ∷ us) more fs vs e = record {
  compared = c;
  functions = fs.0;
  verdict = subst (IsVerdictOf (length q.names) (unsized which) holds c) (ap (λ vs. get_or vs 0 u) (sym e)) vs.0;
}

one_verdict_of : (which : Option Assignment) (k m : Circuit) (q : NamingModel) (s : Subject) (holds : List Bool → Bool) (compared : List Compared) (of_pairs : List Verdict) →
    AllZip (AreFunctions k m q) (s ∷ []) compared → AllZip (IsVerdictOf (length q.names) (unsized which) holds) compared of_pairs → length of_pairs ≡ 1
one_verdict_of which k m q s holds [] of_pairs fs vs = absurd fs
one_verdict_of which k m q s holds (c ∷ d ∷ cs) of_pairs fs vs = absurd fs.1
one_verdict_of which k m q s holds (c ∷ []) [] fs vs = absurd vs
one_verdict_of which k m q s holds (c ∷ []) (u ∷ []) fs vs = refl
one_verdict_of which k m q s holds (c ∷ []) (u ∷ t ∷ us) fs vs = absurd vs.1

-- ---- a pair

module _ (a b : Circuit) (given : Option Circuit) (p : NamingModel) (s : Subject) (k m : Circuit) (w : Option Circuit) (places : List ℕ) (q : NamingModel)
    (is : IsConePairing a b given p s k m w places q) where
  abbrev first_out : ℕ
  first_out = out a p.first p s.first k is.cones.first

  abbrev second_out : ℕ
  second_out = out b p.second p s.second m is.cones.second

  abbrev own_subject : Subject
  own_subject = output_subject (first_out, second_out)

  there : find m.names (name_of k first_out) ≡ Some second_out
  there =
      found_there m.names (own_apart b p.second p s.second m is.cones.second) (name_of k first_out) second_out (out_low b p.second p s.second m is.cones.second)
      (out_name b p.second p s.second m is.cones.second ∙ sym (out_name a p.first p s.first k is.cones.first))

  back : find k.names (name_of m second_out) ≡ Some first_out
  back =
      found_there k.names (own_apart a p.first p s.first k is.cones.first) (name_of m second_out) first_out (out_low a p.first p s.first k is.cones.first)
      (out_name a p.first p s.first k is.cones.first ∙ sym (out_name b p.second p s.second m is.cones.second))

  one_compared : subjects k m q ≡ own_subject ∷ []
  one_compared =
      one_subject k m w is.order q is.paired.naming first_out second_out (one_output a p.first p s.first k is.cones.first) (one_output b p.second p s.second m is.cones.second)
      (no_registers a p.first p s.first k is.cones.first) (no_registers b p.second p s.second m is.cones.second) there back

  none_unmatched : unmatched_verdicts k m q ≡ []
  none_unmatched =
      no_unmatched k m w is.order q is.paired.naming first_out second_out (one_output a p.first p s.first k is.cones.first) (one_output b p.second p s.second m is.cones.second)
      (no_registers a p.first p s.first k is.cones.first) (no_registers b p.second p s.second m is.cones.second) there back

  size : length q.names ≡ length places
  size = ap length is.names ∙ length-map places (variable_name p.names)

  -- two cones have one pair, and all their outputs have partners
  pub one_verdict : (which : Option Assignment) (found : Found) → AreVerdicts (unsized which) k m w q found → length found.verdicts ≡ 1
  one_verdict which found are =
      let fs : AllZip (AreFunctions k m q) (own_subject ∷ []) are.compared = subst (λ of. AllZip (AreFunctions k m q) of are.compared) one_compared are.functions in
      ap length are.all ∙ length-append are.of_pairs (unmatched_verdicts k m q) ∙ ap (λ vs. length are.of_pairs + length vs) none_unmatched ∙
      ap (λ n. n + 0) (one_verdict_of which k m q own_subject are.holds are.compared are.of_pairs fs are.are_verdicts)

  -- ---- functions

  first_function : (f : List Bool → Bool) → IsFunctionOf k (slice_index q.first) (length q.names) first_out f → IsFunctionOf a (slice_index p.first) (length p.names) s.first (λ x. f (bits_at places x))
  first_function f h =
      let (how, order, whole) = is.whole in
      function_widened a p.first p s.first k is.cones.first places is.in_order.below (names_apart how a b given order p whole) (first_below how a b given order p whole) q.names q.first is.names
      (name_at Name k m w is.order q is.paired.naming (own k) q.first (known_sides (both Name k m) (given_side w)).0 is.paired.naming.first) is.first (length p.names) (length q.names) size f h

  second_function : (f : List Bool → Bool) → IsFunctionOf m (slice_index q.second) (length q.names) second_out f → IsFunctionOf b (slice_index p.second) (length p.names) s.second (λ x. f (bits_at places x))
  second_function f h =
      let (how, order, whole) = is.whole in
      function_widened b p.second p s.second m is.cones.second places is.in_order.below (names_apart how a b given order p whole) (second_below how a b given order p whole) q.names q.second is.names
      (name_at Name k m w is.order q is.paired.naming (record { how = Name; name_source = k; net = m }) q.second (known_sides (both Name k m) (given_side w)).1.0 is.paired.naming.second) is.second (length p.names)
      (length q.names) size f h

  -- the assignments at which the condition holds
  condition_widened : (g v : Option Circuit) → g ≡ given → v ≡ w → IsConditionCone g p v → (holds : List Bool → Bool) → HoldsWhere v q holds → HoldsWhere g p (λ x. holds (bits_at places x))
  condition_widened None None same also cone holds h = ap (λ f x. f (bits_at places x)) h
  condition_widened None (Some v) same also cone holds h = absurd cone
  condition_widened (Some c) None same also cone holds h = absurd cone
  condition_widened (Some c) (Some v) same also cone holds h =
      let (how, order, whole) = is.whole in
      let known : IsKnown (all_names (both Name k m) (given_side w)) (own v) =
      subst (λ o. IsKnown (all_names (both Name k m) (given_side o)) (own v)) also (known_given (both Name k m) (given_side (Some v))).0 in
      let has = subst (λ o. IfSome o (λ d. HasLevels (names_by Name k m w is.order) (own d) q.given)) (sym also) is.paired.naming.conditional in
      let net = subst (λ o. IfSome o IsOfNet) (sym same) is.condition in
      function_widened c p.given p (output_of c) v cone places is.in_order.below (names_apart how a b given order p whole) (given_below how a b given order p whole c (sym same)) q.names q.given
      is.names (name_at Name k m w is.order q is.paired.naming (own v) q.given known has) net (length p.names) (length q.names) size holds
      (subst (λ o. IsFunctionOf v (slice_index q.given) (length q.names) o holds) (out_of c p.given p (output_of c) v cone) h)

  -- ---- the verdict, over all variables

  pub reported_widened : (which : Option Assignment) (difference : Difference) (within left unshown : Subject → Type 0) (v : Verdict) → within s → AreVerdicts (unsized which) k m w q (record { variables = q.names; verdicts = v ∷ [] }) →
      IsConeVerdict (unsized which) difference within left unshown a b given p s (widened_verdict s.role (name_of a s.named) (length p.names) places v)
  reported_widened which difference within left unshown v few are =
      let n = length p.names in
      let fs : AllZip (AreFunctions k m q) (own_subject ∷ []) are.compared = subst (λ of. AllZip (AreFunctions k m q) of are.compared) one_compared are.functions in
      let one : IsOne which k m q own_subject are.holds v = one_of which k m q own_subject are.holds v are.compared are.of_pairs (unmatched_verdicts k m q) fs are.are_verdicts are.all in
      let holds = λ (x : List Bool). are.holds (bits_at places x) in
      let compared = picked_of places s.role (name_of a s.named) one.compared in
      let verdict : IsVerdictOf n (unsized which) holds compared (widened_verdict s.role (name_of a s.named) n places v) =
      verdict_widened which n places is.in_order are.holds one.compared s.role (name_of a s.named) v (subst (λ l. IsVerdictOf l (unsized which) are.holds one.compared v) size one.verdict) in
      record {
        holds = holds;
        condition = condition_widened given w refl refl is.cones.condition are.holds are.condition;
        compared = compared;
        functions = record {
          role = refl;
          name = refl;
          first = first_function one.compared.first one.functions.first;
          second = second_function one.compared.second one.functions.second;
        };
        verdict = decided few verdict (exact n (unsized which) holds compared (widened_verdict s.role (name_of a s.named) n places v) verdict);
      }

  -- so the last verdict that a comparison finds is that of the pair
  pub reported_last : (which : Option Assignment) (difference : Difference) (within left unshown : Subject → Type 0) (front : List Verdict) (v : Verdict) → within s → AreVerdicts (unsized which) k m w q (record { variables = q.names; verdicts = front ++ v ∷ [] }) →
      IsConeVerdict (unsized which) difference within left unshown a b given p s (widened_verdict s.role (name_of a s.named) (length p.names) places v)
  reported_last which difference within left unshown front v few are =
      let size : length (front ++ v ∷ []) ≡ length front + 1 = length-append front (v ∷ []) in
      let one : length (front ++ v ∷ []) ≡ 1 = one_verdict which (record { variables = q.names; verdicts = front ++ v ∷ [] }) are in
      let none : front ≡ [] = nil_from_length front (omega (arith, size, one)) in
      reported_widened which difference within left unshown v few (subst (λ vs. AreVerdicts (unsized which) k m w q (record { variables = q.names; verdicts = vs ++ v ∷ [] })) none are)
