-- First inner signals of pairs, and causes, one after the other.
use Rattle.std.proofs.Common.{◌≡◌, ◌∙◌, ℕ, ◌+◌, ◌<◌, ◌≤◌, Bool, true, false, List, [], ◌∷◌, ◌++◌, length, get_or, take, drop, map, append_assoc, append-nil, Option, Some, None, Result, Ok, Err, refl, sym, ap, ap₂, subst, arith}
use Rattle.std.specs.Prelude.{cond, filter, min, option_map, option_to_list, slice_get, zip, All, IfOk, IfSome, if◌then◌else◌}
use Rattle.std.specs.List.{list_any}
use Rattle.std.proofs.lemmas.List.{drop_more, map-append, take_all, take_more}
use Rattle.std.proofs.lemmas.List.Elements.{All-append, All-cons, All-nil, filter-append}
use Rattle.std.proofs.lemmas.Slice.Zip.{get_or-zip, length-zip}
use Rattle.net_bench.specs.Circuit.{Circuit, Net}
use Rattle.net_explain.specs.declared.differing.InnerSignal.{InnerSignal}
use Rattle.net_order.specs.Order.{NamingModel}
use Rattle.report_text.specs.declared.cause.PairName.{PairName}
use Rattle.report_text.specs.declared.outcome.PairKind.{PairKind}
use Rattle.report_text.specs.declared.pair_filter.PairFilter.TheVariants.{All as AllPairs}
use Rattle.report_text.specs.declared.verdict.Extras.{Extras}
use Rattle.report_text.specs.declared.verdict.Verdict.{Verdict}
use Rattle.report_text.specs.declared.verdict.Verdict.TheVariants.{Differs}
use Rattle.report_text.specs.Causes.{Caused}
use Rattle.report_text.specs.Lines.{Found}
use Rattle.explain_report.specs.declared.first_differences.FirstDifference.{FirstDifference}
use Rattle.compare_built.specs.declared.strategy.Attempt.{Attempt}
use Rattle.compare_built.specs.declared.settings.Settings.{Settings}
use Rattle.compare_built.specs.declared.subject.Subject.{Subject}
use Rattle.explain_report.specs.Causing.{AreCauses, AreCausesOf, AreFirstDifferences, ArePickedPairs, Causes, HaveCauses, IsFirstDifference, IsPairFirstDifference, causes_of, first_time, has_first_signal, first_signals, first_difference}
use Rattle.compare_built.specs.Devices.{DeviceTexts}
use Rattle.compare_built.specs.PairSelection.{ArePicked}
use Rattle.compare_built.specs.PairSelection.ArePicked.{all as every_pair}
use Rattle.compare_built.specs.Report.{subjects, unmatched_verdicts}
use Rattle.explain_report.proofs.Explaining.{none_left}

-- ---- pairs with their first inner signals

module _ (a b : Net) (p : NamingModel) where
  one_more : (xs : List (Subject × Verdict)) (x : Subject × Verdict) (differences : List FirstDifference) (one : Option FirstDifference) → AreFirstDifferences a b p xs differences → IsFirstDifference a b p x.0 x.1 one →
      AreFirstDifferences a b p (xs ++ x ∷ []) (differences ++ option_to_list one)
  one_more [] x differences one none is = (one, [], is, refl, ap (λ z. z ++ option_to_list one) none ∙ sym (append-nil (option_to_list one)))
  one_more (y ∷ ys) x differences one w is =
      (w.0, w.1 ++ option_to_list one, w.2, one_more ys x w.1 one w.3 is, ap (λ z. z ++ option_to_list one) w.4 ∙ append_assoc (option_to_list w.0) w.1 (option_to_list one))

  -- one more pair with its verdict
  pub next_first_difference : (ss : List Subject) (vs : List Verdict) (i : ℕ) (s : Subject) (v : Verdict) (old new : List FirstDifference) (one : Option FirstDifference) → i < length ss → i < length vs → s ≡ get_or ss i s → v ≡ get_or vs i v →
      AreFirstDifferences a b p (take i (zip ss vs)) old → IsFirstDifference a b p s v one → new ≡ old ++ option_to_list one → AreFirstDifferences a b p (take (i + 1) (zip ss vs)) new
  next_first_difference ss vs i s v old new one paired judged pair_here verdict_here are is grown =
      let size = length-zip ss vs in
      let low : i < length (zip ss vs) = omega (arith, size, paired, judged) in
      let here : get_or (zip ss vs) i (s, v) ≡ (s, v) = get_or-zip ss vs i (s, v) paired judged ∙ sym (ap₂ (λ t u. (t, u)) pair_here verdict_here) in
      let e : take (i + 1) (zip ss vs) ≡ take i (zip ss vs) ++ (s, v) ∷ [] = take_more (zip ss vs) i (s, v) low ∙ ap (λ z. take i (zip ss vs) ++ z ∷ []) here in
      subst (λ xs. AreFirstDifferences a b p xs new) (sym e) (subst (AreFirstDifferences a b p (take i (zip ss vs) ++ (s, v) ∷ [])) (sym grown) (one_more (take i (zip ss vs)) (s, v) old one are is))

-- no pair with a verdict is left
pub all_zipped : {A B : Type 0} (xs : List A) (ys : List B) (i : ℕ) → min (length xs) (length ys) ≤ i → take i (zip xs ys) ≡ zip xs ys
all_zipped xs ys i past = take_all i (zip xs ys) (omega (arith, past, length-zip xs ys))

-- the pair of a verdict that differs
pub of_verdict : {E : Type 0} (a b : Net) (p : NamingModel) (s : Subject) (r : Result (Option FirstDifference) E) (t : PairName) (bits : List Bool) (v : Verdict) (role : PairKind) (name : List ℕ) (at : List Bool) (first second : Bool) (extras : Extras)
    → v ≡ Differs role name at first second extras → t ≡ record { role = role; name = name } → bits ≡ at → IfOk r (IsPairFirstDifference a b p t bits s) → IfOk r (IsFirstDifference a b p s v)
of_verdict a b p s r t bits v role name at first second extras differs named same is =
    subst (λ (u : Verdict). IfOk r (IsFirstDifference a b p s u)) (sym differs)
    (subst (λ (u : PairName). IfOk r (IsPairFirstDifference a b p u at s)) named
    (subst (λ (x : List Bool). IfOk r (IsPairFirstDifference a b p t x s)) same is))

-- what is true of all is true of the first
pub first_has : {A : Type 0} (P : A → Type 0) (xs : List A) (o : Option A) → o ≡ slice_get xs 0 → All P xs → IfSome o P
first_has P [] o e all = subst (λ z. IfSome z P) (sym e) tt
first_has P (x ∷ xs) o e all = subst (λ z. IfSome z P) (sym e) (all 0 x (omega arith))

-- the first inner signal of a pair is one of the netlist
pub known_first_difference : (t : PairName) (o : Option InnerSignal) (differences : Option FirstDifference) (n : ℕ) → differences ≡ option_map (first_difference t) o → IfSome o (λ inner. inner.first < n) → IfSome differences (λ one. one.inner.first < n)
known_first_difference t None differences n e known = subst (λ z. IfSome z (λ (one : FirstDifference). one.inner.first < n)) (sym e) tt
known_first_difference t (Some i) differences n e known = subst (λ z. IfSome z (λ (one : FirstDifference). one.inner.first < n)) (sym e) known

of_one : {A : Type 0} (P : A → Type 0) (o : Option A) → IfSome o P → All P (option_to_list o)
of_one P None h = All-nil P
of_one P (Some x) h = All-cons P x [] h (All-nil P)

pub all_more : {A : Type 0} (P : A → Type 0) (old new : List A) (o : Option A) → All P old → IfSome o P → new ≡ old ++ option_to_list o → All P new
all_more P old new o all one grown = subst (All P) (sym grown) (All-append P old (option_to_list o) all (of_one P o one))

-- ---- pairs of a cause

module _ (signal : ℕ) (l : FirstDifference) (old new : List PairName) where
  pub is_caused_by : (name : PairName) → has_first_signal signal l ≡ true → name ≡ l.pair → new ≡ old ++ name ∷ [] → new ≡ old ++ map (λ (one : FirstDifference). one.pair) (filter (has_first_signal signal) (l ∷ []))
  is_caused_by name is same grown = grown ∙ ap (λ z. old ++ z ∷ []) same ∙ ap (λ b. old ++ map (λ (one : FirstDifference). one.pair) (cond b (l ∷ []) [])) (sym is)

  pub stands_elsewhere : has_first_signal signal l ≡ false → new ≡ old → new ≡ old ++ map (λ (one : FirstDifference). one.pair) (filter (has_first_signal signal) (l ∷ []))
  stands_elsewhere is same = same ∙ sym (append-nil old) ∙ ap (λ b. old ++ map (λ (one : FirstDifference). one.pair) (cond b (l ∷ []) [])) (sym is)

pub more_caused_by : {A B : Type 0} (f : A → B) (p : A → Bool) (xs : List A) (i : ℕ) (x : A) (old new : List B) → i < length xs → x ≡ get_or xs i x → old ≡ map f (filter p (take i xs)) → new ≡ old ++ map f (filter p (x ∷ [])) →
    new ≡ map f (filter p (take (i + 1) xs))
more_caused_by f p xs i x old new lt here before grown =
    let e : take (i + 1) xs ≡ take i xs ++ x ∷ [] = take_more xs i x lt ∙ ap (λ z. take i xs ++ z ∷ []) (sym here) in
    grown ∙ ap (λ z. z ++ map f (filter p (x ∷ []))) before
    ∙ sym (ap (λ ys. map f (filter p ys)) e ∙ ap (map f) (filter-append p (take i xs) (x ∷ [])) ∙ map-append f (filter p (take i xs)) (filter p (x ∷ [])))

-- ---- causes

module _ (f : InnerSignal → Caused) (before : List FirstDifference) (i : InnerSignal) (old new : List Caused) where
  pub comes_first : (c : Caused) → list_any (has_first_signal i.first) before ≡ false → c ≡ f i → new ≡ old ++ c ∷ [] → new ≡ old ++ map f (first_time before i)
  comes_first c first same grown = grown ∙ ap (λ z. old ++ z ∷ []) same ∙ ap (λ b. old ++ map f (if b then [] else i ∷ [])) (sym first)

  pub comes_again : list_any (has_first_signal i.first) before ≡ true → new ≡ old → new ≡ old ++ map f (first_time before i)
  comes_again again same = same ∙ sym (append-nil old) ∙ ap (λ b. old ++ map f (if b then [] else i ∷ [])) (sym again)

-- one more pair
pub next_cause : (f : InnerSignal → Caused) (xs : List FirstDifference) (i : ℕ) (x : FirstDifference) (all old new : List Caused) → i < length xs → x ≡ get_or xs i x → old ++ map f (first_signals (take i xs) (drop i xs)) ≡ all
    → new ≡ old ++ map f (first_time (take i xs) x.inner) → new ++ map f (first_signals (take (i + 1) xs) (drop (i + 1) xs)) ≡ all
next_cause f xs i x all old new lt here before grown =
    let rest : drop i xs ≡ x ∷ drop (i + 1) xs = drop_more xs i x lt ∙ ap (λ z. z ∷ drop (i + 1) xs) (sym here) in
    let front : take i xs ++ x ∷ [] ≡ take (i + 1) xs = sym (take_more xs i x lt ∙ ap (λ z. take i xs ++ z ∷ []) (sym here)) in
    let one = map f (first_time (take i xs) x.inner) in
    let more = map f (first_signals (take (i + 1) xs) (drop (i + 1) xs)) in
    let split : map f (first_signals (take i xs) (drop i xs)) ≡ one ++ more =
    ap (λ ls. map f (first_signals (take i xs) ls)) rest
    ∙ map-append f (first_time (take i xs) x.inner) (first_signals (take i xs ++ x ∷ []) (drop (i + 1) xs))
    ∙ ap (λ ls. one ++ map f (first_signals ls (drop (i + 1) xs))) front in
    ap (λ z. z ++ more) grown ∙ append_assoc old one more ∙ ap (λ z. old ++ z) (sym split) ∙ before

pub none_to_come : (f : InnerSignal → Caused) (before xs : List FirstDifference) (i : ℕ) (all old : List Caused) → length xs ≤ i → old ++ map f (first_signals before (drop i xs)) ≡ all → old ≡ all
none_to_come f before xs i all old past e = sym (ap (λ ls. old ++ map f (first_signals before ls)) (none_left xs i past) ∙ append-nil old) ∙ e

-- the causes of all pairs that have first inner signals
pub of_all : {E : Type 0} (a b : Net) (p : NamingModel) (judged : List (Subject × Verdict)) (differences list : List FirstDifference) (r : Result Causes E) → AreFirstDifferences a b p judged differences → list ≡ differences
    → IfOk r (λ causes. causes.items ≡ causes_of a.names list) → IfOk r (λ causes. AreCausesOf a b p judged causes.items)
of_all a b p judged differences list (Ok causes) are same is = (differences, are, is ∙ ap (causes_of a.names) same)
of_all a b p judged differences list (Err e) are same is = tt

-- ---- the pairs that are picked

-- if the settings pick all pairs, these are picked
pub all_picked : (a b : Circuit) (p : NamingModel) (s : Settings) (pairs : List Subject) → s.picked ≡ AllPairs → pairs ≡ subjects a b p → ArePickedPairs a b p s pairs
all_picked a b p s pairs is same =
    let lines = unmatched_verdicts a b p in
    (lines, subst (λ f. ArePicked a b p f pairs lines) (sym is) (subst (λ ps. ArePicked a b p AllPairs ps lines) (sym same) every_pair))

-- ---- whether causes are asked for

module _ (input : DeviceTexts) (s : Settings) (tried : Option Attempt) (found : Found) where
  pub unasked : s.causes ≡ false → AreCauses s.causes input s tried found None
  unasked off = subst (λ w. AreCauses w input s tried found None) (sym off) refl

  pub asked_for : (causes : List Caused) → s.causes ≡ true → HaveCauses input s tried found causes → AreCauses s.causes input s tried found (Some causes)
  asked_for causes on have = subst (λ w. AreCauses w input s tried found (Some causes)) (sym on) have
