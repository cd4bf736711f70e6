-- The first divider of a text.
use Rattle.std.proofs.Common.{◌≡◌, ◌≢◌, ℕ, ◌+◌, ◌-◌, ◌<◌, ◌≤◌, ◌⊎◌, inl, inr, List, length, take, drop, subst, arith}
use Rattle.std.specs.Prelude.{slice_index}
use Rattle.std.proofs.Math.Nat.{eq-or-lt_of_le}
use Rattle.std.proofs.Math.ListN.{length-drop}
use Rattle.std.proofs.lemmas.List.{take_all}
use Rattle.check_tool.specs.Splitting.{BeginsLine, DividesAt}

pub one_more : (text : List ℕ) (at : ℕ) → ((k m : ℕ) → k < at → DividesAt text k m → ⊥) → ((m : ℕ) → DividesAt text at m → ⊥) → (k m : ℕ) → k < at + 1 → DividesAt text k m → ⊥
one_more text at before here k m lt d = by (eq-or-lt_of_le (let z : k ≤ at = omega arith in z))
  where
    by : (k ≡ at) ⊎ (k < at) → ⊥
    by (inl e) = here m (subst (λ z. DividesAt text z m) e d)
    by (inr l) = before k m l d

pub no_line : (text : List ℕ) (at : ℕ) → at ≢ 0 → slice_index text (at - 1) ≢ 10 → (m : ℕ) → DividesAt text at m → ⊥
no_line text at ne not_feed m d = by d.0
  where
    by : BeginsLine text at → ⊥
    by (inl e) = ne e
    by (inr p) = not_feed p.1

pub none_in_all : (text : List ℕ) (at : ℕ) → length text ≤ at → ((k m : ℕ) → k < at → DividesAt text k m → ⊥) → (k m : ℕ) → DividesAt text k m → ⊥
none_in_all text at le before k m d =
    let long : 2 ≤ length (drop k text) = d.1.long in
    let e : length (drop k text) ≡ length text - k = length-drop k text in
    before k m (omega arith) d

pub rest_whole : (text : List ℕ) (at : ℕ) → take (length text - at) (drop at text) ≡ drop at text
rest_whole text at = take_all (length text - at) (drop at text) (let e : length (drop at text) ≡ length text - at = length-drop at text in omega arith)
