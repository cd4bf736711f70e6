-- Stamps: the place in a slot is that of its item, and slots with stamps find items.
use Rattle.std.proofs.Common.{◌≡◌, ℕ, zero, suc, ◌+◌, ◌-◌, ◌*◌, ◌/◌, ◌%◌, ◌^◌, ◌<◌, ◌≤◌, List, [], ◌∷◌, ◌++◌, length, slice_get, get_or, set, replicate, Some, option_map, refl, sym, ◌∙◌, ap, subst, arith, inl, inr, bit_and}
use Rattle.std.proofs.lemmas.Bool.{cases_lt, cases_eq}
use Rattle.std.proofs.lemmas.List.{length-map, map-set}
use Rattle.std.proofs.lemmas.Nat.{and_le_l, and_mask, mod_low, pow-add, pow_pos, mul-add-lt}
use Rattle.std.proofs.lemmas.Option.{slice_get-map, slice_get-get_or, slice_get_within}
use Rattle.std.proofs.Math.Nat.{mod-add-div', div-lt_iff_lt-mul, div-eq_of_lt}
use Rattle.std.proofs.Math.Pow.{pow-lt}
use Rattle.slot_table.specs.Probes.{home_of, slot_of, Holds, IsTaken, IsFree, Probes, HasFree, IsSlotCount}
use Rattle.slot_table.specs.Stamps.{AreStamped, Finds, IsPower, places_in, stamp_of, tag_of}
use Rattle.slot_table.proofs.Counting.{slots-some}
use Rattle.slot_table.proofs.Places.{none_some, slice_get-append, slice_get-push}
use Rattle.slot_table.proofs.Probing.{Probes-empty, Probes-push, not_all_taken}
use Rattle.slot_table.proofs.Walking.{slice_get-set_same, slice_get-set_other}

-- subtracting the k lower bits is multiplying the rest
above : (s k : ℕ) → s - bit_and s (2 ^ k - 1) ≡ s / 2 ^ k * 2 ^ k
above s k =
    let m : bit_and s (2 ^ k - 1) ≡ s % 2 ^ k = and_mask s k in
    let d : s % 2 ^ k + s / 2 ^ k * 2 ^ k ≡ s = mod-add-div' s (2 ^ k) in
    omega arith

below_pow : (s k p : ℕ) → p < 2 ^ k → bit_and (s - bit_and s (2 ^ k - 1) + p) (2 ^ k - 1) ≡ p
below_pow s k p lt =
    ap (λ z. bit_and (z + p) (2 ^ k - 1)) (above s k) ∙ and_mask (s / 2 ^ k * 2 ^ k + p) k ∙ mod_low (s / 2 ^ k) k p lt

-- the bits below a tag are the place
pub below_tag : (s n p : ℕ) → IsPower n → p < n → bit_and (s - bit_and s (n - 1) + p) (n - 1) ≡ p
below_tag s n p power lt =
    subst (λ (z : ℕ). p < z → bit_and (s - bit_and s (z - 1) + p) (z - 1) ≡ p) (sym power.1) (below_pow s power.0 p) lt

fits_low : (s k p : ℕ) → s < 2 ^ 32 → k ≤ 32 → p < 2 ^ k → s / 2 ^ k * 2 ^ k + p < 2 ^ 32
fits_low s k p small low lt =
    let after : k + (32 - k) ≡ 32 = omega arith in
    let before : (32 - k) + k ≡ 32 = omega arith in
    let whole : 2 ^ (k + (32 - k)) ≡ 2 ^ 32 = ap (λ z. 2 ^ z) after in
    let parts : 2 ^ (k + (32 - k)) ≡ 2 ^ k * 2 ^ (32 - k) = pow-add 2 k (32 - k) in
    let turned : 2 ^ ((32 - k) + k) ≡ 2 ^ (32 - k) * 2 ^ k = pow-add 2 (32 - k) k in
    let other : 2 ^ ((32 - k) + k) ≡ 2 ^ 32 = ap (λ z. 2 ^ z) before in
    let within : s < 2 ^ (32 - k) * 2 ^ k = omega arith in
    let high : s / 2 ^ k < 2 ^ (32 - k) = (div-lt_iff_lt-mul (pow_pos k)).1 within in
    let all : s / 2 ^ k * 2 ^ k + p < 2 ^ k * 2 ^ (32 - k) = mul-add-lt (s / 2 ^ k) (2 ^ k) p (2 ^ (32 - k)) high lt in
    omega arith

fits_high : (s k p : ℕ) → s < 2 ^ 32 → 32 < k → p < 2 ^ 32 → s / 2 ^ k * 2 ^ k + p < 2 ^ 32
fits_high s k p small high lt =
    let more : 2 ^ 32 < 2 ^ k = pow-lt high in
    let none : s / 2 ^ k ≡ 0 = div-eq_of_lt (omega arith) in
    let nought : s / 2 ^ k * 2 ^ k ≡ 0 * 2 ^ k = ap (λ z. z * 2 ^ k) none in
    omega arith

fits_pow : (s k p : ℕ) → s < 2 ^ 32 → p < 2 ^ k → p < 2 ^ 32 → s - bit_and s (2 ^ k - 1) + p < 2 ^ 32
fits_pow s k p small lt few = rw (above s k) (elim (cases_lt k 33) [
  | inl low ↦ fits_low s k p small (omega arith) lt
  | inr high ↦ fits_high s k p small (omega arith) few
])

-- a stamp has 32 bits
pub tag_fits : (s n p : ℕ) → IsPower n → s < 2 ^ 32 → p < n → p < 2 ^ 32 → s - bit_and s (n - 1) + p < 2 ^ 32
tag_fits s n p power small lt few =
    subst (λ (z : ℕ). p < z → s - bit_and s (z - 1) + p < 2 ^ 32) (sym power.1) (λ l. fits_pow s power.0 p small l few) lt

-- a slot's place is what its lower bits say
pub place_at : (n : ℕ) (ts : List ℕ) (j t : ℕ) → slice_get ts j ≡ Some t → slice_get (places_in n ts) j ≡ Some (bit_and t (n - 1))
place_at n ts j t at = slice_get-map (λ z. bit_and z (n - 1)) ts j ∙ ap (λ o. option_map (λ z. bit_and z (n - 1)) o) at

-- a slot that holds a place is not empty
pub taken_by_place : (n : ℕ) (ts : List ℕ) (home d : ℕ) → IsTaken n home (places_in n ts) d → IsTaken n home ts d
taken_by_place n ts home d taken e lt =
    let j : ℕ = slot_of n home e in
    let q = taken e lt in
    let within : j < length (places_in n ts) = slice_get_within (places_in n ts) j (suc q.0) q.1 in
    let size : length (places_in n ts) ≡ length ts = length-map ts (λ z. bit_and z (n - 1)) in
    let t : ℕ = get_or ts j 0 in
    let at : slice_get ts j ≡ Some t = slice_get-get_or ts j 0 (omega arith) in
    let both : Some (bit_and t (n - 1)) ≡ Some (suc q.0) = sym (place_at n ts j t at) ∙ q.1 in
    let place : bit_and t (n - 1) ≡ suc q.0 = cc in
    let low : bit_and t (n - 1) ≤ t = and_le_l t (n - 1) in
    let one : t ≡ suc (t - 1) = omega arith in
    (t - 1, at ∙ ap (λ z. Some z) one)

zeros : (n m : ℕ) → places_in n (replicate m 0) ≡ replicate m 0
zeros n zero = refl
zeros n (suc m) = ap (λ zs. 0 ∷ zs) (zeros n m)

in_zeros : (m j t : ℕ) → slice_get (replicate m 0) j ≡ Some t → t ≡ 0
in_zeros zero j t e = absurd (none_some t e)
in_zeros (suc m) zero t e = let f : Some 0 ≡ Some t = e in cc
in_zeros (suc m) (suc j) t e = in_zeros m j t e

module _ {X : Type 0} (slot_hash : X → ℕ) where
  -- empty slots find no item
  pub Finds-empty : (n : ℕ) → Finds slot_hash n [] (replicate n 0)
  Finds-empty n = record {
    probes = subst (λ (z : List ℕ). Probes slot_hash n [] z) (sym (zeros n n)) (Probes-empty slot_hash n);
    stamped = λ j t e. inl (in_zeros n j t e);
  }

  pub size_is : (n : ℕ) (xs : List X) (ts : List ℕ) → Finds slot_hash n xs ts → length ts ≡ n
  size_is n xs ts w = sym (length-map ts (λ z. bit_and z (n - 1))) ∙ w.probes.size

  module _ (n : ℕ) (power : IsPower n) (xs : List X) (ts : List ℕ) (few : length xs < n) (w : Finds slot_hash n xs ts) where
    -- a slot that is not empty holds the stamp of an item
    pub held_item : (j t : ℕ) → slice_get ts j ≡ Some t → (t ≡ 0 → ⊥)
        → (i : ℕ) × (x : X) × (slice_get xs i ≡ Some x) × (t ≡ stamp_of slot_hash n x i) × (bit_and t (n - 1) ≡ suc i)
    held_item j t at full = elim (w.stamped j t at) [
      | inl empty ↦ absurd (full empty)
      | inr content ↦
          let lt = slice_get_within xs content.0 content.1 content.2 in
          (content.0, content.1, content.2, content.3, ap (λ z. bit_and z (n - 1)) content.3 ∙ below_tag (slot_hash content.1 % 2 ^ 32) n (suc content.0) power (omega arith))
    ]

    pub held_place : (j i : ℕ) → Holds ts j i → (k : ℕ) × Holds (places_in n ts) j k
    held_place j i at =
        let h = held_item j (suc i) at (λ e. absurd (omega arith)) in
        (h.0, place_at n ts j (suc i) at ∙ ap (λ z. Some z) h.4)

    -- if there are more slots than items, a slot is empty
    pub has_free : HasFree n ts
    has_free full = not_all_taken slot_hash n xs (places_in n ts) w.probes few (λ j lt. let h = full j lt in held_place j h.0 h.1)

    pub free_place : (home j : ℕ) → IsFree n home ts j → IsFree n home (places_in n ts) j
    free_place home j free = (
      free.0,
      free.1,
      free.2,
      place_at n ts j 0 free.3,
      λ e lt. let h = free.4 e lt in held_place (slot_of n home e) h.0 h.1,
    )

    -- adding an item whose slot is the first empty one from its home
    module _ (x : X) (j : ℕ) (room : length xs + 1 < n) (free : IsFree n (home_of slot_hash n x) ts j) where
      pub stamped_more : AreStamped slot_hash n (xs ++ x ∷ []) (set ts j (stamp_of slot_hash n x (length xs)))
      stamped_more k t at = elim (cases_eq j k) [
        | inl here ↦
            let f : slice_get (set ts j (stamp_of slot_hash n x (length xs))) j ≡ Some (stamp_of slot_hash n x (length xs)) =
            slice_get-set_same ts j (stamp_of slot_hash n x (length xs)) 0 free.3 in
            let g : slice_get (set ts j (stamp_of slot_hash n x (length xs))) j ≡ Some t =
            ap (λ z. slice_get (set ts j (stamp_of slot_hash n x (length xs))) z) here ∙ at in
            let both : Some (stamp_of slot_hash n x (length xs)) ≡ Some t = sym f ∙ g in
            let one : t ≡ stamp_of slot_hash n x (length xs) = cc in
            inr (length xs, x, slice_get-push xs x, one)
        | inr off ↦ elim (w.stamped k t (sym (slice_get-set_other ts j k (stamp_of slot_hash n x (length xs)) off) ∙ at)) [
          | inl empty ↦ inl empty
          | inr content ↦ inr (content.0, content.1, slice_get-append xs (x ∷ []) content.0 content.1 content.2, content.3)
        ]
      ]

      pub Finds-push : Finds slot_hash n (xs ++ x ∷ []) (set ts j (stamp_of slot_hash n x (length xs)))
      Finds-push = record {
        probes =
            let more : Probes slot_hash n (xs ++ x ∷ []) (set (places_in n ts) j (suc (length xs))) =
            Probes-push slot_hash n xs (places_in n ts) x j w.probes (free_place (home_of slot_hash n x) j free) in
            let place : bit_and (stamp_of slot_hash n x (length xs)) (n - 1) ≡ suc (length xs) =
            below_tag (slot_hash x % 2 ^ 32) n (suc (length xs)) power (omega arith) in
            let same : set (places_in n ts) j (suc (length xs)) ≡ places_in n (set ts j (stamp_of slot_hash n x (length xs))) =
            ap (λ z. set (places_in n ts) j z) (sym place) ∙ sym (map-set (λ z. bit_and z (n - 1)) ts j (stamp_of slot_hash n x (length xs))) in
            subst (λ (z : List ℕ). Probes slot_hash n (xs ++ x ∷ []) z) same more;
        stamped = stamped_more;
      }

  -- what a slot that is not empty says of its item: the place, and whether the tag is another
  pub seen : (xs : List X) (ts : List ℕ) (j : ℕ) → Finds slot_hash (length ts) xs ts → IsSlotCount (length xs) (length ts) → j < length ts
      → (get_or ts j 0 ≡ 0 → ⊥)
      → (i : ℕ) × (x : X) × (slice_get xs i ≡ Some x) × (i < length xs) × (bit_and (get_or ts j 0) (length ts - 1) ≡ suc i)
      × (get_or ts j 0 - bit_and (get_or ts j 0) (length ts - 1) ≡ tag_of slot_hash (length ts) x) × Holds (places_in (length ts) ts) j i
  seen xs ts j w count lt full =
      let n : ℕ = length ts in
      let t : ℕ = get_or ts j 0 in
      let some = slots-some (length xs) n count (omega arith) in
      let at : slice_get ts j ≡ Some t = slice_get-get_or ts j 0 lt in
      let h = held_item n some.1 xs ts some.0 w j t at full in
      let whole : t ≡ tag_of slot_hash n h.1 + suc h.0 = h.3 in
      let place : bit_and t (n - 1) ≡ suc h.0 = h.4 in
      (h.0, h.1, h.2, slice_get_within xs h.0 h.1 h.2, place, omega arith, place_at n ts j t at ∙ ap (λ z. Some z) place)
