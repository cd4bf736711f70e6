-- Explanations, one after the other, and faults of a report.
use Rattle.std.proofs.Common.{◌≡◌, ◌∙◌, inl, inr, ℕ, zero, suc, ◌+◌, ◌<◌, ◌≤◌, Bool, true, false, List, [], ◌∷◌, ◌++◌, length, get_or, take, drop, append_assoc, append-nil, Option, Some, None, Result, Ok, Err, IfErr, refl, sym, ap, subst, arith}
use Rattle.std.specs.Prelude.{cond, find, is_some, All, ◌==◌}
use Rattle.std.proofs.lemmas.Bool.Decides.{nat_tests}
use Rattle.std.proofs.lemmas.List.{drop_more, take_more}
use Rattle.std.specs.Borrow.{Bor}
use Rattle.net_bench.specs.Circuit.{Circuit, Net}
use Rattle.net_names.specs.declared.order.Order.{Order}
use Rattle.net_order.specs.Order.{NamingModel, condition}
use Rattle.report_text.specs.declared.cause.PairName.{PairName}
use Rattle.report_text.specs.declared.verdict.Verdict.{Verdict}
use Rattle.report_text.specs.Lines.{Found}
use Rattle.compare_built.specs.declared.strategy.Attempt.{Attempt}
use Rattle.compare_built.specs.declared.fault.CheckFault.{CheckFault}
use Rattle.compare_built.specs.declared.settings.Settings.{Settings}
use Rattle.compare_built.specs.Attempts.{IsAllowed}
use Rattle.compare_built.specs.Check.{IsCheckFault, IsCondition}
use Rattle.compare_built.specs.Devices.{DeviceTexts}
use Rattle.explain_report.specs.Explaining.{AreExplained, HaveExplanations, IsAppended, IsExplained, IsReportFault}
use Rattle.explain_report.proofs.Trying.{none_failed}

-- ---- the first of a list

pub found_here : {A : Type 0} (f : A → Bool) (xs : List A) (i : ℕ) (x : A) → i < length xs → x ≡ get_or xs i x → f x ≡ true → find f (drop i xs) ≡ find f xs → find f xs ≡ Some x
found_here f xs i x lt here holds e =
    sym e ∙ ap (find f) (drop_more xs i x lt ∙ ap (λ z. z ∷ drop (i + 1) xs) (sym here)) ∙ ap (λ b. cond b (Some x) (find f (drop (i + 1) xs))) holds

pub found_later : {A : Type 0} (f : A → Bool) (xs : List A) (i : ℕ) (x : A) → i < length xs → x ≡ get_or xs i x → f x ≡ false → find f (drop i xs) ≡ find f xs → find f (drop (i + 1) xs) ≡ find f xs
found_later f xs i x lt here fails e =
    sym (ap (find f) (drop_more xs i x lt ∙ ap (λ z. z ∷ drop (i + 1) xs) (sym here)) ∙ ap (λ b. cond b (Some x) (find f (drop (i + 1) xs))) fails) ∙ e

pub none_left : {A : Type 0} (xs : List A) (i : ℕ) → length xs ≤ i → drop i xs ≡ []
none_left [] zero h = refl
none_left [] (suc i) h = refl
none_left (x ∷ xs) zero h = absurd (omega (arith, h))
none_left (x ∷ xs) (suc i) h = none_left xs i (omega (arith, h))

pub found_nowhere : {A : Type 0} (f : A → Bool) (xs : List A) (i : ℕ) → length xs ≤ i → find f (drop i xs) ≡ find f xs → find f xs ≡ None
found_nowhere f xs i past e = sym e ∙ ap (find f) (none_left xs i past)

-- what is true of all is true of what is found
pub all_found : {A : Type 0} (P : A → Type 0) (f : A → Bool) (xs : List A) (x : A) → All P xs → find f xs ≡ Some x → P x
all_found P f [] x all e = cc
all_found P f (y ∷ ys) x all e =
    elim (f y) as (λ b. cond b (Some y) (find f ys) ≡ Some x → P x) [
      | true ↦ λ is. let same : y ≡ x = cc in subst P same (all 0 x (omega arith))
      | false ↦ λ is. all_found P f ys x (λ i d lt. all (suc i) d (omega (arith, lt))) is
    ] e

-- ---- explanations that are appended one after the other

module _ (a b : Net) (p : NamingModel) (verdicts : List Verdict) where
  one_more : (ts : List PairName) (t : PairName) (bytes one : List ℕ) → AreExplained a b p verdicts ts bytes → IsExplained a b p verdicts t one → AreExplained a b p verdicts (ts ++ t ∷ []) (bytes ++ one)
  one_more [] t bytes one none is = (one, [], is, refl, ap (λ z. z ++ one) none ∙ sym (append-nil one))
  one_more (u ∷ us) t bytes one w is = (w.0, w.1 ++ one, w.2, one_more us t w.1 one w.3 is, ap (λ z. z ++ one) w.4 ∙ append_assoc w.0 w.1 one)

  pub next_explained : (ts : List PairName) (i : ℕ) (t : PairName) (old new one : List ℕ) → i < length ts → t ≡ get_or ts i t → AreExplained a b p verdicts (take i ts) old → IsExplained a b p verdicts t one → new ≡ old ++ one →
      AreExplained a b p verdicts (take (i + 1) ts) new
  next_explained ts i t old new one lt here are is grown =
      let e : take (i + 1) ts ≡ take i ts ++ t ∷ [] = take_more ts i t lt ∙ ap (λ z. take i ts ++ z ∷ []) (sym here) in
      subst (λ us. AreExplained a b p verdicts us new) (sym e) (subst (AreExplained a b p verdicts (take i ts ++ t ∷ [])) (sym grown) (one_more (take i ts) t old one are is))

-- ---- after a report

-- something is asked for, or nothing is
pub some_targets : (ts : List PairName) → false ≡ (length ts == 0) → 0 < length ts
some_targets ts e = grind (arith, nat_tests)

pub no_targets : (ts : List PairName) → true ≡ (length ts == 0) → length ts ≡ 0
no_targets ts e = grind (arith, nat_tests)

-- if something is asked for, explanations come after the report
pub behind_some : (ts : List PairName) (input : DeviceTexts) (s : Settings) (tried : Option Attempt) (found : Found) (bytes : List ℕ) → 0 < length ts → HaveExplanations input s tried found bytes → IsAppended ts input s tried found bytes
behind_some [] input s tried found bytes some have = absurd (omega (arith, some))
behind_some (t ∷ ts) input s tried found bytes some have = have

-- if nothing is, nothing does
pub behind_none : (ts : List PairName) (input : DeviceTexts) (s : Settings) (tried : Option Attempt) (found : Found) (bytes : List ℕ) → length ts ≡ 0 → bytes ≡ [] → IsAppended ts input s tried found bytes
behind_none [] input s tried found bytes none is = is
behind_none (t ∷ ts) input s tried found bytes none is = absurd (omega (arith, none))

-- there is a condition exactly if there is a device for it
pub condition_in_input : (input : Option (Option (List ℕ))) (c : Option Circuit) → IsCondition input c → is_some input ≡ is_some c
condition_in_input None None h = refl
condition_in_input None (Some c) h = absurd h
condition_in_input (Some text) None h = absurd h
condition_in_input (Some text) (Some c) h = refl

pub condition_some : (given : Option (Bor Net)) → is_some (condition given) ≡ is_some given
condition_some None = refl
condition_some (Some net) = refl

-- ---- faults

module _ (input : DeviceTexts) (first second third : Type 0) (s : Settings) where
  pub early_report_fault : (fault : CheckFault) (order : Order) → IsAllowed s.order order → IsCheckFault input first second third s.order s.matching order fault → IsReportFault input first second third s fault
  early_report_fault fault order allowed c = inr (order, allowed, c)

  -- a fault for which no device had to fail
  pub none_failed_report : {T : Type 0} (r : Result T CheckFault) → IfErr r (IsReportFault input ⊥ ⊥ ⊥ s) → IfErr r (IsReportFault input first second third s)
  none_failed_report (Ok v) h = tt
  none_failed_report (Err fault) (inl unknown) = inl unknown
  none_failed_report (Err fault) (inr h) = inr (h.0, h.1, none_failed input first second third s.order s.matching h.0 fault h.2)
