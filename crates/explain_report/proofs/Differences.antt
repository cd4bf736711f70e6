-- The first assignment of verdicts, and the VCD there.
use Rattle.std.proofs.Common.{◌≡◌, ◌∙◌, ℕ, ◌+◌, ◌<◌, ◌≤◌, Bool, true, false, List, ◌∷◌, length, get_or, drop, Option, Some, None, refl, sym, ap, subst}
use Rattle.std.proofs.lemmas.List.{drop_more}
use Rattle.report_text.specs.declared.verdict.Verdict.{Verdict}
use Rattle.report_text.specs.declared.verdict.Verdict.TheVariants.{Equal, Differs, Unmatched, Undecided}
use Rattle.report_text.specs.Lines.{Found}
use Rattle.compare_built.specs.declared.strategy.Attempt.{Attempt}
use Rattle.compare_built.specs.declared.settings.Settings.{Settings}
use Rattle.compare_built.specs.Devices.{DeviceTexts}
use Rattle.explain_report.specs.Dumping.{HasVcd, IsVcdDump, IsVcdDumpAt, first_difference_at, difference_of}
use Rattle.explain_report.proofs.Explaining.{none_left}

first_of_differing : (v : Verdict) (vs : List Verdict) (at : List Bool) → difference_of v ≡ Some at → first_difference_at (v ∷ vs) ≡ Some at
first_of_differing (Equal role name size) vs at is = cc
first_of_differing (Differs role name bits first second extras) vs at is = is
first_of_differing (Unmatched side role name) vs at is = cc
first_of_differing (Undecided role name) vs at is = cc

passes : (v : Verdict) (vs : List Verdict) → difference_of v ≡ None → first_difference_at (v ∷ vs) ≡ first_difference_at vs
passes (Equal role name size) vs none = refl
passes (Differs role name bits first second extras) vs none = cc
passes (Unmatched side role name) vs none = refl
passes (Undecided role name) vs none = refl

module _ (vs : List Verdict) (i : ℕ) where
  next : (v : Verdict) → i < length vs → v ≡ get_or vs i v → first_difference_at (drop i vs) ≡ first_difference_at (v ∷ drop (i + 1) vs)
  next v lt here = ap first_difference_at (drop_more vs i v lt ∙ ap (λ z. z ∷ drop (i + 1) vs) (sym here))

  pub at_here : (v : Verdict) (at : List Bool) → i < length vs → v ≡ get_or vs i v → difference_of v ≡ Some at → first_difference_at (drop i vs) ≡ first_difference_at vs → first_difference_at vs ≡ Some at
  at_here v at lt here is e = sym e ∙ next v lt here ∙ first_of_differing v (drop (i + 1) vs) at is

  pub at_later : (v : Verdict) → i < length vs → v ≡ get_or vs i v → difference_of v ≡ None → first_difference_at (drop i vs) ≡ first_difference_at vs → first_difference_at (drop (i + 1) vs) ≡ first_difference_at vs
  at_later v lt here none e = sym (next v lt here ∙ passes v (drop (i + 1) vs) none) ∙ e

  pub at_nowhere : length vs ≤ i → first_difference_at (drop i vs) ≡ first_difference_at vs → first_difference_at vs ≡ None
  at_nowhere past e = sym e ∙ ap first_difference_at (none_left vs i past)

-- ---- whether there is a VCD

module _ (input : DeviceTexts) (s : Settings) (tried : Option Attempt) (found : Found) where
  pub unwanted : s.vcd ≡ false → IsVcdDump s.vcd input s tried found None
  unwanted off = subst (λ w. IsVcdDump w input s tried found None) (sym off) refl

  pub none_differs : s.vcd ≡ true → first_difference_at found.verdicts ≡ None → IsVcdDump s.vcd input s tried found None
  none_differs wanted none = subst (λ w. IsVcdDump w input s tried found None) (sym wanted) (subst (λ at. IsVcdDumpAt at input s tried found None) (sym none) refl)

  pub one_differs : (at : List Bool) (bytes : List ℕ) → s.vcd ≡ true → first_difference_at found.verdicts ≡ Some at → HasVcd input s tried found at bytes → IsVcdDump s.vcd input s tried found (Some bytes)
  one_differs at bytes wanted one has = subst (λ w. IsVcdDump w input s tried found (Some bytes)) (sym wanted) (subst (λ a. IsVcdDumpAt a input s tried found (Some bytes)) (sym one) has)
