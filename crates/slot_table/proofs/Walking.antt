-- Walks over the slots, from one to the next, and from the last to the first.
use Rattle.std.proofs.Common.{◌≡◌, ℕ, zero, suc, ◌+◌, ◌-◌, ◌<◌, if◌then◌else◌, List, [], ◌∷◌, length, slice_get, get_or, set, ◌==◌, replicate, Some, refl, sym, ◌∙◌, ap, subst, arith, ◌⊎◌, inl, inr}
use Rattle.std.proofs.lemmas.Bool.{cases_lt, cases_eq}
use Rattle.std.proofs.lemmas.Option.{slice_get-get_or}
use Rattle.slot_table.specs.Probes.{slot_of, Holds, IsTaken, HasFree}
use Rattle.slot_table.proofs.Places.{none_some}

pub slot-first : (n h : ℕ) → h < n → slot_of n h 0 ≡ h
unfolding slot_of
slot-first n h lt = grind (arith)

pub slot-within : (n h d : ℕ) → h < n → d < n → slot_of n h d < n
unfolding slot_of
slot-within n h d lt le = grind (arith)

-- the slot at the next distance
pub slot-next : (n h d s : ℕ) → h < n → d < n → s ≡ slot_of n h d → s + 1 < n → s + 1 ≡ slot_of n h (d + 1)
unfolding slot_of
slot-next n h d s lt le e more = grind (arith)

pub slot-wraps : (n h d s : ℕ) → h < n → d < n → s ≡ slot_of n h d → s + 1 ≡ n → 0 ≡ slot_of n h (d + 1)
unfolding slot_of
slot-wraps n h d s lt le e last = grind (arith)

-- `next_slot` is the slot at the next distance
pub slot-after : (n h d s r : ℕ) → h < n → d < n → s ≡ slot_of n h d → r ≡ (if s + 1 == n then 0 else (s + 1))
    → (r ≡ slot_of n h (d + 1)) × (r < n)
slot-after n h d s r lt le e f =
    let within : s < n = rw e (slot-within n h d lt le) in
    elim (cases_eq (s + 1) n) [
      | inl last ↦
          let z : r ≡ 0 = grind (arith) in
          (z ∙ slot-wraps n h d s lt le e last, omega arith)
      | inr more ↦
          let z : r ≡ s + 1 = grind (arith) in
          (z ∙ slot-next n h d s lt le e (omega arith), omega arith)
    ]

-- a slot that is not empty holds a place
pub held_at : (ts : List ℕ) (j : ℕ) → j < length ts → (get_or ts j 0 ≡ 0 → ⊥) → (i : ℕ) × (get_or ts j 0 ≡ suc i) × Holds ts j i
held_at ts j lt full =
    let x : ℕ = get_or ts j 0 in
    let e : x ≡ suc (x - 1) = omega arith in
    (x - 1, e, slice_get-get_or ts j 0 lt ∙ ap (λ z. Some z) e)

pub IsTaken-more : (n h : ℕ) (ts : List ℕ) (d : ℕ) → IsTaken n h ts d → (i : ℕ) × Holds ts (slot_of n h d) i → IsTaken n h ts (d + 1)
IsTaken-more n h ts d taken content e lt = elim (cases_eq e d) [
  | inl last ↦ (content.0, ap (λ z. slice_get ts (slot_of n h z)) last ∙ content.1)
  | inr before ↦ taken e (omega arith)
]

-- each slot is at some distance from home
pub slot-onto : (n h j : ℕ) → h < n → j < n → (d : ℕ) × (d < n) × (j ≡ slot_of n h d)
unfolding slot_of
slot-onto n h j lt le = elim (cases_lt j h) [
  | inl before ↦ (n + j - h, omega arith, grind (arith))
  | inr from ↦ (j - h, omega arith, grind (arith))
]

pub slice_get-set_same : (xs : List ℕ) (i x y : ℕ) → slice_get xs i ≡ Some y → slice_get (set xs i x) i ≡ Some x
slice_get-set_same [] i x y e = absurd (none_some y e)
slice_get-set_same (z ∷ zs) zero x y e = refl
slice_get-set_same (z ∷ zs) (suc i) x y e = slice_get-set_same zs i x y e

pub slice_get-set_other : (xs : List ℕ) (i j x : ℕ) → (i ≡ j → ⊥) → slice_get (set xs i x) j ≡ slice_get xs j
slice_get-set_other [] i j x ne = refl
slice_get-set_other (z ∷ zs) zero zero x ne = absurd (ne refl)
slice_get-set_other (z ∷ zs) zero (suc j) x ne = refl
slice_get-set_other (z ∷ zs) (suc i) zero x ne = refl
slice_get-set_other (z ∷ zs) (suc i) (suc j) x ne = slice_get-set_other zs i j x (λ e. ne (ap (λ n. suc n) e))

-- a slot keeps what it holds if an empty slot is written
pub kept : (ts : List ℕ) (j k i v : ℕ) → slice_get ts j ≡ Some 0 → Holds ts k i → Holds (set ts j (suc v)) k i
kept ts j k i v empty h = slice_get-set_other ts j k (suc v) (λ e. clash (sym empty ∙ ap (λ z. slice_get ts z) e ∙ h)) ∙ h
  where
    clash : Some 0 ≡ Some (suc i) → ⊥
    clash e = cc

pub held_cases : (ts : List ℕ) (j k i v : ℕ) → slice_get ts j ≡ Some 0 → Holds (set ts j (suc v)) k i
    → (Holds ts k i) ⊎ ((j ≡ k) × (v ≡ i))
held_cases ts j k i v empty h = elim (cases_eq j k) [
  | inl here ↦
      let f : slice_get (set ts j (suc v)) j ≡ Some (suc v) = slice_get-set_same ts j (suc v) 0 empty in
      let g : slice_get (set ts j (suc v)) j ≡ Some (suc i) = ap (λ z. slice_get (set ts j (suc v)) z) here ∙ h in
      let both : Some (suc v) ≡ Some (suc i) = sym f ∙ g in
      inr (here, cc)
  | inr off ↦ inl (sym (slice_get-set_other ts j k (suc v) off) ∙ h)
]

-- the numbers from a on
unfoldable pub count_up : ℕ → ℕ → List ℕ
count_up a zero = []
count_up a (suc k) = a ∷ count_up (suc a) k

pub length-count_up : (a k : ℕ) → length (count_up a k) ≡ k
unfolding count_up
length-count_up a zero = refl
length-count_up a (suc k) = ap (λ n. suc n) (length-count_up (suc a) k)

pub in_count_up : (a k c : ℕ) → c < k → slice_get (count_up a k) c ≡ Some (a + c)
unfolding count_up
in_count_up a zero c lt = absurd (omega arith)
in_count_up a (suc k) zero lt = ap (λ n. Some n) (omega arith)
in_count_up a (suc k) (suc c) lt = in_count_up (suc a) k c (omega arith) ∙ ap (λ n. Some n) (omega arith)

-- a walk over all slots meets an empty one
pub not_all_passed : (n h : ℕ) (ts : List ℕ) → h < n → HasFree n ts → IsTaken n h ts n → ⊥
not_all_passed n h ts lt free taken = free (λ j le.
    let d = slot-onto n h j lt le in
    let q = taken d.0 d.1 in
    (q.0, subst (λ (z : ℕ). Holds ts z q.0) (sym d.2) q.1))

pub slice_get-replicate : (n i x : ℕ) → slice_get (replicate n 0) i ≡ Some (suc x) → ⊥
slice_get-replicate zero i x e = none_some (suc x) e
slice_get-replicate (suc n) zero x e = let f : Some 0 ≡ Some (suc x) = e in cc
slice_get-replicate (suc n) (suc i) x e = slice_get-replicate n i x e
