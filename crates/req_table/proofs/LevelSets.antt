-- The bits of a word, and sets of levels by them.
use Rattle.std.proofs.Common.{◌≡◌, ◌≢◌, ℕ, suc, ◌+◌, ◌-◌, ◌*◌, ◌/◌, ◌%◌, ◌^◌, ◌<◌, ◌≤◌, inl, inr, List, length, get_or, set, min, None, Some, sym, ◌∙◌, ap, subst, arith, lit<, w64, pow-add, pow-suc, div-le_self}
use Rattle.std.specs.Prelude.{bit_and}
use Rattle.std.specs.Int.{bit_at, trailing_zeros, leading_zeros}
use Rattle.std.proofs.Math.Nat.{div-div-eq-div-mul, pos_of_ne-zero}
use Rattle.std.proofs.lemmas.Bool.{cases_lt, cases_eq}
use Rattle.std.proofs.lemmas.List.{get_or-set_same, get_or-set_other}
use Rattle.std.proofs.lemmas.Nat.{leading_top, and_le_r}
use Rattle.std.proofs.lemmas.Nat.Bits.{bit_at-zero, bit_at-lt, bit_at_above, bit_at_cat_high, bit_at_and, bit_at_ones, bit_at_ones_above, bit_at-trailing_zeros, ones_shr}
use Rattle.req_table.specs.LevelSet.{member_of, IsLowestFrom, IsHighestBefore}

-- the bits of a word that is shifted down
pub bit_at_shifted : (n a k : ℕ) → bit_at (n / 2 ^ a) k ≡ bit_at n (a + k)
bit_at_shifted n a k = ap (λ z. z % 2) (div-div-eq-div-mul n (2 ^ a) (2 ^ k) ∙ ap (λ z. n / z) (sym (pow-add 2 a k)))

zero≢one : ◌≡◌ {A = ℕ} 0 1 → ⊥
zero≢one e = omega arith

mask : (end : ℕ) → end ≤ 64 → 18446744073709551615 / 2 ^ (64 - end) ≡ 2 ^ end - 1
mask end le = ones_shr 64 (64 - end) (omega arith) ∙ ap (λ z. 2 ^ z - 1) (let z : 64 - (64 - end) ≡ end = omega arith in z)

div_fits : (n a b : ℕ) → n < b → n / 2 ^ a < b
div_fits n a b lt = let h : n / 2 ^ a ≤ n = div-le_self n (2 ^ a) in omega (arith, h, lt)

-- a set bit of a word from a place on, in the word that is shifted down by the place
above : (word from k : ℕ) → from ≤ k → bit_at word k ≡ bit_at (word / 2 ^ from) (k - from)
above word from k le = ap (bit_at word) (let z : k ≡ from + (k - from) = omega arith in z) ∙ sym (bit_at_shifted word from (k - from))

pub lowest_none : (word from : ℕ) → word / 2 ^ from ≡ 0 → IsLowestFrom word from None
lowest_none word from e k le lt one =
    let none : bit_at (word / 2 ^ from) (k - from) ≡ 0 = ap (λ z. bit_at z (k - from)) e ∙ bit_at-zero (k - from) in
    let at : bit_at word k ≡ bit_at (word / 2 ^ from) (k - from) = above word from k le in
    absurd (cc)

pub lowest_some : (word from : ℕ) → word < 2 ^ 64 → from < 64 → (word / 2 ^ from ≡ 0 → ⊥) → IsLowestFrom word from (Some (from + trailing_zeros w64 (word / 2 ^ from)))
lowest_some word from fit lt some =
    let r : ℕ = word / 2 ^ from in
    let t : ℕ = trailing_zeros w64 r in
    let h = bit_at-trailing_zeros w64 r (pos_of_ne-zero some) (div_fits word from (2 ^ 64) fit) in
    let at : bit_at word (from + t) ≡ 1 = sym (bit_at_shifted word from t) ∙ h.1 in (
      (let z : from ≤ from + t = omega arith in z),
      elim (cases_lt (from + t) 64) [ inl z ↦ z | inr le ↦ absurd (zero≢one (sym (bit_at_above word 64 (from + t) fit le) ∙ at)) ],
      at,
      λ k le below one. zero≢one (sym (h.2 (k - from) (omega arith)) ∙ sym (above word from k le) ∙ one),
    )

-- the bits of a word before a place
before : (word end k : ℕ) → end ≤ 64 → k < end → bit_at word k ≡ bit_at (bit_and word (18446744073709551615 / 2 ^ (64 - end))) k
before word end k le lt =
    let m : 18446744073709551615 / 2 ^ (64 - end) ≡ 2 ^ end - 1 = mask end le in
    let a : bit_at (bit_and word (18446744073709551615 / 2 ^ (64 - end))) k ≡ min (bit_at word k) (bit_at (18446744073709551615 / 2 ^ (64 - end)) k) = bit_at_and word (18446744073709551615 / 2 ^ (64 - end)) k in
    let o : bit_at (18446744073709551615 / 2 ^ (64 - end)) k ≡ 1 = ap (λ z. bit_at z k) m ∙ bit_at_ones end k lt in
    small (bit_at word k) (bit_at-lt word k) ∙ sym (ap (min (bit_at word k)) o) ∙ sym a
  where
    small : (n : ℕ) → n < 2 → n ≡ min n 1
    small n lt = omega arith

pub highest_none : (word end : ℕ) → end ≤ 64 → bit_and word (18446744073709551615 / 2 ^ (64 - end)) ≡ 0 → IsHighestBefore word end None
highest_none word end le e k lt one = zero≢one (sym (bit_at-zero k) ∙ sym (ap (λ z. bit_at z k) e) ∙ sym (before word end k le lt) ∙ one)

-- the highest bit of a number
top_bit : (r j : ℕ) → 2 ^ j ≤ r → r < 2 ^ suc j → bit_at r j ≡ 1
top_bit r j le lt =
    let twice : 2 ^ suc j ≡ 2 ^ j * 2 = pow-suc 2 j in
    let rest : r - 2 ^ j < 2 ^ j = omega (arith, le, lt, twice) in
    let split : r ≡ 1 * 2 ^ j + (r - 2 ^ j) = omega (arith, le) in
    ap (λ z. bit_at z j) split ∙ bit_at_cat_high 1 j (r - 2 ^ j) j rest (let z : j ≤ j = omega arith in z) ∙ ap (bit_at 1) (let z : j - j ≡ 0 = omega arith in z)

pub highest_some : (word end : ℕ) → end ≤ 64 → (bit_and word (18446744073709551615 / 2 ^ (64 - end)) ≡ 0 → ⊥)
    → IsHighestBefore word end (Some (63 - leading_zeros w64 (bit_and word (18446744073709551615 / 2 ^ (64 - end)))))
highest_some word end le some = subst (λ z. IsHighestBefore word end (Some z)) (sym is_j) (inside, before word end j le inside ∙ one, later)
  where
    m : ℕ
    m = 18446744073709551615 / 2 ^ (64 - end)

    r : ℕ
    r = bit_and word m

    fits : r < 2 ^ 64
    fits =
        let a : r ≤ m = and_le_r word m in
        let b : m < 2 ^ 64 = div_fits 18446744073709551615 (64 - end) (2 ^ 64) (lit< tt) in
        omega (arith, a, b)

    found : (j : ℕ) × (leading_zeros w64 r + suc j ≡ 64) × (2 ^ j ≤ r) × (r < 2 ^ suc j)
    found = leading_top 64 r (pos_of_ne-zero some) fits

    j : ℕ
    j = found.0

    is_j : 63 - leading_zeros w64 r ≡ j
    is_j = let e : leading_zeros w64 r + suc j ≡ 64 = found.1 in omega (arith, e)

    one : bit_at r j ≡ 1
    one = top_bit r j found.2 found.3

    inside : j < end
    inside = elim (cases_lt j end) [
      | inl lt ↦ lt
      | inr past ↦
          let z : bit_at m j ≡ 0 = ap (λ z. bit_at z j) (mask end le) ∙ bit_at_ones_above end j past in
          let a : bit_at r j ≡ min (bit_at word j) (bit_at m j) = bit_at_and word m j in
          absurd (none (bit_at r j) (bit_at word j) (bit_at m j) a z one)
    ]
      where
        none : (a b c : ℕ) → a ≡ min b c → c ≡ 0 → a ≡ 1 → ⊥
        none a b c e f g = omega arith

    later : (k : ℕ) → j < k → k < end → bit_at word k ≡ 1 → ⊥
    later k lt within set = zero≢one (sym (bit_at_above r (suc j) k found.3 (omega arith)) ∙ sym (before word end k le within) ∙ set)

-- a word is written
pub member_own : (ws : List ℕ) (v x : ℕ) → v < 64 * length ws → member_of (set ws (v / 64) x) v ≡ bit_at x (v % 64)
member_own ws v x lt = ap (λ z. bit_at z (v % 64)) (get_or-set_same ws (v / 64) x 0 (let z : v / 64 < length ws = omega arith in z))

pub member_other : (ws : List ℕ) (v x : ℕ) → v < 64 * length ws → ((i : ℕ) → i < 64 → i ≢ v % 64 → bit_at x i ≡ bit_at (get_or ws (v / 64) 0) i) → (w : ℕ) → w ≢ v → member_of (set ws (v / 64) x) w ≡ member_of ws w
member_other ws v x lt same w ne =
    elim (cases_eq (w / 64) (v / 64)) [
      | inl e ↦
          ap (λ z. bit_at (get_or (set ws (v / 64) x) z 0) (w % 64)) e
          ∙ ap (λ z. bit_at z (w % 64)) (get_or-set_same ws (v / 64) x 0 (let z : v / 64 < length ws = omega arith in z))
          ∙ same (w % 64) (omega arith) (λ f. ne (by e f))
          ∙ ap (λ z. bit_at (get_or ws z 0) (w % 64)) (sym e)
      | inr d ↦ ap (λ z. bit_at z (w % 64)) (get_or-set_other ws (v / 64) (w / 64) x 0 d)
    ]
  where
    by : w / 64 ≡ v / 64 → w % 64 ≡ v % 64 → w ≡ v
    by e f = omega arith
