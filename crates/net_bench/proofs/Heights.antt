-- Heights of signals, which are set one at a time.
use Rattle.std.proofs.Common.{◌≡◌, ◌≢◌, inl, inr, ℕ, zero, suc, ◌+◌, ◌<◌, ◌≤◌, List, [], ◌∷◌, Bool, true, false, refl, sym, ap, ◌∙◌, subst, map, length, get_or, arith, length-set}
use Rattle.std.proofs.Math.ListN.{set}
use Rattle.std.specs.Prelude.{cond, nat_lt, nat_le, nat_eq, ◌&&◌, replicate}
use Rattle.std.proofs.lemmas.List.{get_or-set_same, get_or-set_other, get_or_default}
use Rattle.std.proofs.lemmas.Bool.{cases_lt}
use Rattle.net_bench.specs.declared.netlist.GateLine.{GateLine}
use Rattle.net_bench.specs.Circuit.{greatest}
use Rattle.net_bench.specs.Heights.{all_ranked, unranked, IsRanked, AreHeights, HasOneGateEach}

-- ---- the count of those without a height

pub unranked_set : (ms : List ℕ) (i v : ℕ) → i < length ms → get_or ms i 0 ≡ 0 → 0 < v → unranked (set ms i v) + 1 ≡ unranked ms
unranked_set [] i v h e p = absurd (omega arith)
unranked_set (m ∷ ms) zero (suc v) h e p = grind arith
unranked_set (m ∷ ms) zero zero h e p = absurd (omega arith)
unranked_set (m ∷ ms) (suc i) v h e p = let more : unranked (set ms i v) + 1 ≡ unranked ms = unranked_set ms i v (omega arith) e p in
    elim (nat_eq m 0) as (λ b. cond b (unranked (set ms i v) + 1) (unranked (set ms i v)) + 1 ≡ cond b (unranked ms + 1) (unranked ms)) [
      | true ↦ omega arith
      | false ↦ omega arith
    ]

-- ---- one more height changes nothing for those that have one

pub both_true : (a b : Bool) → (a && b) ≡ true → (a ≡ true) × (b ≡ true)
both_true true b e = (refl, e)
both_true false b e = cc

pub apart : (ms : List ℕ) (i s v : ℕ) → get_or ms i 0 ≡ 0 → nat_lt 0 (get_or ms s 0) ≡ true → get_or (set ms i v) s 0 ≡ get_or ms s 0
apart ms i s v none some =
    elim (nat_eq s i) as (λ b. nat_eq s i ≡ b → get_or (set ms i v) s 0 ≡ get_or ms s 0) [
      | true ↦ λ e. let same : s ≡ i = grind arith in let bad : get_or ms s 0 ≡ 0 = ap (λ k. get_or ms k 0) same ∙ none in absurd (grind arith)
      | false ↦ λ e. let other : s ≢ i = (λ f. grind arith) in get_or-set_other ms i s v 0 other
    ] refl

pub ranked_same : (ms : List ℕ) (i v : ℕ) (ops : List ℕ) → get_or ms i 0 ≡ 0 → all_ranked ms ops ≡ true →
    (all_ranked (set ms i v) ops ≡ true) × (map (λ s. get_or (set ms i v) s 0) ops ≡ map (λ s. get_or ms s 0) ops)
ranked_same ms i v [] none all = (refl, refl)
ranked_same ms i v (s ∷ ss) none all =
    let split : (nat_lt 0 (get_or ms s 0) ≡ true) × (all_ranked ms ss ≡ true) = both_true _ _ all in
    let here : get_or (set ms i v) s 0 ≡ get_or ms s 0 = apart ms i s v none split.0 in
    let rest : (all_ranked (set ms i v) ss ≡ true) × (map (λ s. get_or (set ms i v) s 0) ss ≡ map (λ s. get_or ms s 0) ss) = ranked_same ms i v ss none split.1 in
    (rw (here, split.0, rest.0) refl, rw (here, rest.1) refl)

-- ---- a gate's height

pub greatest_low : (ms ops : List ℕ) → ((s : ℕ) → get_or ms s 0 + unranked ms ≤ length ms) → greatest (map (λ s. get_or ms s 0) ops) + unranked ms ≤ length ms
greatest_low ms [] low = let past : get_or ms 0 0 + unranked ms ≤ length ms = low 0 in omega arith
greatest_low ms (s ∷ ss) low =
    let here : get_or ms s 0 + unranked ms ≤ length ms = low s in
    let rest : greatest (map (λ t. get_or ms t 0) ss) + unranked ms ≤ length ms = greatest_low ms ss low in
    elim (nat_le (get_or ms s 0) (greatest (map (λ t. get_or ms t 0) ss))) as (λ b. cond b (greatest (map (λ t. get_or ms t 0) ss)) (get_or ms s 0) + unranked ms ≤ length ms) [
      | true ↦ rest
      | false ↦ here
    ]

module _ (gates : List GateLine) (ms : List ℕ) (place : ℕ) (g : GateLine) (in_bounds : place < length gates) (is : g ≡ get_or gates place g) (out : g.out < length ms)
    (one : HasOneGateEach gates) (sound : AreHeights gates ms) (none : get_or ms g.out 0 ≡ 0) (all : all_ranked ms g.operands ≡ true) where
  abbrev value : ℕ
  value = greatest (map (λ s. get_or ms s 0) g.operands) + 1

  fewer : unranked (set ms g.out value) + 1 ≡ unranked ms
  fewer = unranked_set ms g.out value out none (omega arith)

  pub small : value ≤ length ms
  small = let bound : greatest (map (λ s. get_or ms s 0) g.operands) + unranked ms ≤ length ms = greatest_low ms g.operands sound.low in omega (arith, fewer)

  pub less : unranked (set ms g.out value) < unranked ms
  less = omega (arith, fewer)

  low_more : (s : ℕ) → get_or (set ms g.out value) s 0 + unranked (set ms g.out value) ≤ length (set ms g.out value)
  low_more s =
      let bound : greatest (map (λ t. get_or ms t 0) g.operands) + unranked ms ≤ length ms = greatest_low ms g.operands sound.low in
      let old : get_or ms s 0 + unranked ms ≤ length ms = sound.low s in
      let long : length (set ms g.out value) ≡ length ms = simp length-set in
      elim (nat_eq s g.out) as (λ b. nat_eq s g.out ≡ b → get_or (set ms g.out value) s 0 + unranked (set ms g.out value) ≤ length (set ms g.out value)) [
        | true ↦ λ e. let same : s ≡ g.out = grind arith in
            let now : get_or (set ms g.out value) s 0 ≡ value = ap (λ k. get_or (set ms g.out value) k 0) same ∙ get_or-set_same ms g.out value 0 out in omega (arith, fewer)
        | false ↦ λ e. let other : s ≢ g.out = (λ f. grind arith) in
            let now : get_or (set ms g.out value) s 0 ≡ get_or ms s 0 = get_or-set_other ms g.out s value 0 other in omega (arith, fewer)
      ] refl

  this_right : IsRanked (set ms g.out value) g
  this_right =
      let same : (all_ranked (set ms g.out value) g.operands ≡ true) × (map (λ s. get_or (set ms g.out value) s 0) g.operands ≡ map (λ s. get_or ms s 0) g.operands) =
      ranked_same ms g.out value g.operands none all in
      (same.0, get_or-set_same ms g.out value 0 out ∙ ap (λ l. greatest l + 1) (sym same.1))

  other_right : (h : GateLine) → h.out ≢ g.out → (0 < get_or ms h.out 0 → IsRanked ms h) → 0 < get_or (set ms g.out value) h.out 0 → IsRanked (set ms g.out value) h
  other_right h other was some =
      let now : get_or (set ms g.out value) h.out 0 ≡ get_or ms h.out 0 = get_or-set_other ms g.out h.out value 0 other in
      let had : IsRanked ms h = was (rw (← now) some) in
      let same : (all_ranked (set ms g.out value) h.operands ≡ true) × (map (λ s. get_or (set ms g.out value) s 0) h.operands ≡ map (λ s. get_or ms s 0) h.operands) =
      ranked_same ms g.out value h.operands none had.0 in
      (same.0, now ∙ had.1 ∙ ap (λ l. greatest l + 1) (sym same.1))

  apart_from : (h : GateLine) (k : ℕ) → k < length gates → k ≢ place → h ≡ get_or gates k g → h.out ≢ g.out
  apart_from h k low other at e =
      let outs : (get_or gates k g).out ≡ (get_or gates place g).out = ap (λ x. x.out) (sym at) ∙ e ∙ ap (λ x. x.out) is in
      elim (cases_lt k place) [
        | inl lt ↦ one k place g lt in_bounds outs
        | inr le ↦ one place k g (omega (arith, other)) low (sym outs)
      ]

  right_at : (k : ℕ) (d : GateLine) → k < length gates → 0 < get_or (set ms g.out value) (get_or gates k d).out 0 → IsRanked (set ms g.out value) (get_or gates k d)
  right_at k d low =
      elim (nat_eq k place) as (λ b. nat_eq k place ≡ b → 0 < get_or (set ms g.out value) (get_or gates k d).out 0 → IsRanked (set ms g.out value) (get_or gates k d)) [
        | true ↦ λ e some. let same : k ≡ place = grind arith in
            let at : g ≡ get_or gates k d = is ∙ get_or_default gates place g d in_bounds ∙ ap (λ j. get_or gates j d) (sym same) in
            subst (IsRanked (set ms g.out value)) at this_right
        | false ↦ λ e some. let other : k ≢ place = (λ f. grind arith) in
            other_right (get_or gates k d) (apart_from (get_or gates k d) k low other (get_or_default gates k d g low)) (sound.right k d low) some
      ] refl

  pub ranked_more : AreHeights gates (set ms g.out value)
  ranked_more = record { right = right_at; low = low_more }

-- ---- the inputs

pub input_low : (ms : List ℕ) (i : ℕ) → i < length ms → get_or ms i 0 ≡ 0 → ((s : ℕ) → get_or ms s 0 + unranked ms ≤ length ms) →
    (s : ℕ) → get_or (set ms i 1) s 0 + unranked (set ms i 1) ≤ length (set ms i 1)
input_low ms i in_bounds none low s =
    let fewer : unranked (set ms i 1) + 1 ≡ unranked ms = unranked_set ms i 1 in_bounds none (omega arith) in
    let old : get_or ms s 0 + unranked ms ≤ length ms = low s in
    let at : get_or ms i 0 + unranked ms ≤ length ms = low i in
    let long : length (set ms i 1) ≡ length ms = simp length-set in
    elim (nat_eq s i) as (λ b. nat_eq s i ≡ b → get_or (set ms i 1) s 0 + unranked (set ms i 1) ≤ length (set ms i 1)) [
      | true ↦ λ e. let same : s ≡ i = grind arith in
          let now : get_or (set ms i 1) s 0 ≡ 1 = ap (λ k. get_or (set ms i 1) k 0) same ∙ get_or-set_same ms i 1 0 in_bounds in omega arith
      | false ↦ λ e. let other : s ≢ i = (λ f. grind arith) in
          let now : get_or (set ms i 1) s 0 ≡ get_or ms s 0 = get_or-set_other ms i s 1 0 other in omega arith
    ] refl

pub none_yet : (n s : ℕ) → get_or {A = ℕ} (replicate n 0) s 0 ≡ 0
none_yet zero s = refl
none_yet (suc n) zero = refl
none_yet (suc n) (suc s) = none_yet n s

pub all_unranked : (n : ℕ) → unranked (replicate n 0) ≡ n
all_unranked zero = refl
all_unranked (suc n) = let more : unranked (replicate n 0) ≡ n = all_unranked n in omega arith
