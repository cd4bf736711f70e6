-- Rounds of budgets, and the verdicts of pairs after them.
use Rattle.std.proofs.Common.{◌≡◌, ◌∙◌, ap, sym, refl, arith, ℕ, zero, suc, ◌+◌, ◌<◌, ◌≤◌, ◌*◌, ◌^◌, List, [], ◌∷◌, ◌++◌, length, get_or, drop, Option, Some, None, append_assoc}
use Rattle.std.specs.Prelude.{⊤}
use Rattle.std.specs.List.{AllZip}
use Rattle.std.proofs.lemmas.List.{drop_more}
use Rattle.expand_work.specs.Bounds.{WaveBound}
use Rattle.report_text.specs.declared.verdict.Verdict.{Verdict}
use Rattle.net_bench.specs.Circuit.{Circuit, circuit}
use Rattle.net_order.specs.Order.{condition}
use Rattle.cone_check.specs.declared.pair_cones.ConeContext.{ConeContext}
use Rattle.compare_built.specs.declared.subject.Subject.{Subject}
use Rattle.compare_built.specs.Attempts.{IsBudget}
use Rattle.compare_built.specs.Details.{unsized}
use Rattle.cone_check.specs.ConeRounds.{FitIn, IsJudgedIn, IsKnown, IsUndecidedIn, IsPlaceOfRound, IsRoundOf, IsDecidedIn, all_or_undecided, or_undecided, order_in}
use Rattle.cone_check.proofs.ByCones.{more_nodes, reported_decided}
use Rattle.order_search.proofs.Budgets.{each_budget, tried_next}
use Rattle.cone_check.proofs.Filling.{IsKept, kept_known, known_weaker}

-- ---- loops over lists

none_left : {X : Type 0} (xs : List X) (i : ℕ) → length xs ≤ i → drop i xs ≡ []
none_left [] zero h = refl
none_left [] (suc i) h = refl
none_left (x ∷ xs) zero h = absurd (omega (arith, h))
none_left (x ∷ xs) (suc i) h = none_left xs i (omega (arith, h))

nil_right : {X : Type 0} (xs : List X) → xs ++ [] ≡ xs
nil_right [] = refl
nil_right (x ∷ xs) = ap (λ ys. x ∷ ys) (nil_right xs)

-- the verdict of one more pair is reported
pub report_more : (a : Circuit) (ss : List Subject) (i : ℕ) (s : Subject) (rest next : List (Option Verdict)) (o : Option Verdict) (v : Verdict) (old new whole : List Verdict) → i < length ss → s ≡ get_or ss i s → rest ≡ o ∷ next →
    v ≡ or_undecided a s o → new ≡ old ++ v ∷ [] → old ++ all_or_undecided a (drop i ss) rest ≡ whole → new ++ all_or_undecided a (drop (i + 1) ss) next ≡ whole
report_more a ss i s rest next o v old new whole lt at is reported grown done =
    let here : drop i ss ≡ s ∷ drop (i + 1) ss = drop_more ss i s lt ∙ ap (λ x. x ∷ drop (i + 1) ss) (sym at) in
    ap (λ xs. xs ++ all_or_undecided a (drop (i + 1) ss) next) grown ∙ append_assoc old (v ∷ []) (all_or_undecided a (drop (i + 1) ss) next) ∙
    ap (λ y. old ++ y ∷ all_or_undecided a (drop (i + 1) ss) next) reported ∙ ap (λ ys. old ++ ys) (sym (ap (λ xs. all_or_undecided a xs rest) here ∙ ap (all_or_undecided a (s ∷ drop (i + 1) ss)) is)) ∙ done

pub report_end : (a : Circuit) (ss : List Subject) (i : ℕ) (rest : List (Option Verdict)) (all whole : List Verdict) → i + length rest ≡ length ss → rest ≡ [] → all ++ all_or_undecided a (drop i ss) rest ≡ whole → all ≡ whole
report_end a ss i rest all whole places none done =
    let past : length ss ≤ i = omega (arith, places, ap length none) in
    sym (nil_right all) ∙ ap (λ xs. all ++ all_or_undecided a xs rest) (sym (none_left ss i past)) ∙ done

-- ---- rounds

module _ {H : Type 0} (whole : ConeContext H) (limit : ℕ) (bound : WaveBound) (ss : List Subject) where
  -- a result within fewer nodes is a result within the limit
  wider_one : (budget : ℕ) → budget ≤ limit → (s : Subject) (o : Option Verdict) → IsJudgedIn whole budget bound s o → IsKnown (IsDecidedIn whole limit) (IsUndecidedIn whole budget bound) s o
  wider_one budget le s None h = h
  wider_one budget le s (Some v) h =
      reported_decided (unsized whole.task.now.settings.now.assignment) whole.task.now.settings.now.difference (FitIn whole budget) (FitIn whole limit) (λ t. ⊥) (λ t. ⊥) (circuit whole.task.now.first.now) (circuit whole.task.now.second.now) (condition whole.task.now.given) whole.naming.now s v
      (more_nodes (order_in whole) budget limit (circuit whole.task.now.first.now) (circuit whole.task.now.second.now) (condition whole.task.now.given) whole.naming.now s le) h

  wider : (budget : ℕ) → budget ≤ limit → (s : Subject) (known new : Option Verdict) → IsPlaceOfRound whole budget bound s known new → IsKept (IsDecidedIn whole limit) (IsUndecidedIn whole budget bound) s known new
  wider budget le s (Some v) new h = h
  wider budget le s None new h = wider_one budget le s new h

  -- before the first round
  pub none_yet : (known : List (Option Verdict)) → AllZip (IsKnown (IsDecidedIn whole limit) (λ s. ⊤)) ss known → AllZip (IsKnown (IsDecidedIn whole limit) (λ s. (j : ℕ) → j < 0 → IsUndecidedIn whole (16384 * 32 ^ j) bound s)) ss known
  none_yet known h = known_weaker (IsDecidedIn whole limit) (λ s. ⊤) (λ s. (j : ℕ) → j < 0 → IsUndecidedIn whole (16384 * 32 ^ j) bound s) (λ s _ j lt. absurd (omega (arith, lt))) ss known h

  -- after one more round
  pub round_more : (k budget : ℕ) (known new : List (Option Verdict)) → budget ≡ 16384 * 32 ^ k → budget ≤ limit → AllZip (IsKnown (IsDecidedIn whole limit) (λ s. (j : ℕ) → j < k → IsUndecidedIn whole (16384 * 32 ^ j) bound s)) ss known →
      IsRoundOf whole budget bound ss known new → AllZip (IsKnown (IsDecidedIn whole limit) (λ s. (j : ℕ) → j < suc k → IsUndecidedIn whole (16384 * 32 ^ j) bound s)) ss new
  round_more k budget known new is le before r =
      kept_known (IsDecidedIn whole limit) (λ s. (j : ℕ) → j < k → IsUndecidedIn whole (16384 * 32 ^ j) bound s) (IsUndecidedIn whole budget bound) (λ s. (j : ℕ) → j < suc k → IsUndecidedIn whole (16384 * 32 ^ j) bound s)
      (λ s tried now. tried_next (λ n. IsUndecidedIn whole n bound s) k budget is tried now) ss known new before r.each
      (λ i s lt. wider budget le (get_or ss i s) (get_or known i None) (get_or new i None) (r.places i s lt))

  -- after the last round
  pub round_last : (k : ℕ) (known new : List (Option Verdict)) → limit ≤ 16384 * 32 ^ k → AllZip (IsKnown (IsDecidedIn whole limit) (λ s. (j : ℕ) → j < k → IsUndecidedIn whole (16384 * 32 ^ j) bound s)) ss known →
      IsRoundOf whole limit bound ss known new → AllZip (IsKnown (IsDecidedIn whole limit) (λ s. (budget : ℕ) → IsBudget limit budget → IsUndecidedIn whole budget bound s)) ss new
  round_last k known new most before r =
      kept_known (IsDecidedIn whole limit) (λ s. (j : ℕ) → j < k → IsUndecidedIn whole (16384 * 32 ^ j) bound s) (IsUndecidedIn whole limit bound) (λ s. (budget : ℕ) → IsBudget limit budget → IsUndecidedIn whole budget bound s)
      (λ s tried now budget is. each_budget (λ n. IsUndecidedIn whole n bound s) limit k tried most now budget is) ss known new before r.each
      (λ i s lt. wider limit (omega arith) (get_or ss i s) (get_or known i None) (get_or new i None) (r.places i s lt))
