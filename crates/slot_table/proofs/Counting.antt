-- The number of slots.
use Rattle.std.proofs.Common.{◌≡◌, ℕ, zero, suc, ◌+◌, ◌*◌, ◌/◌, ◌^◌, ◌<◌, ◌≤◌, sym, ◌∙◌, ap, arith, ◌⊎◌, inl, inr}
use Rattle.std.proofs.Math.Nat.{pow-succ'}
use Rattle.slot_table.specs.Probes.{IsSlotCount}
use Rattle.slot_table.specs.Stamps.{IsPower}

-- if there are slots, there are more than items, and a power of two
pub slots-some : (len n : ℕ) → IsSlotCount len n → 0 < n → (len < n) × IsPower n
slots-some len n count some = elim count [
  | inl none ↦ absurd (omega arith)
  | inr table ↦ (let filled = table.filled in omega arith, table.power)
]

-- slots for one more item leave one empty besides
pub slots-room : (len n : ℕ) → IsSlotCount (len + 1) n → (len + 1 < n) × IsPower n
slots-room len n count = elim count [
  | inl none ↦ absurd (omega arith)
  | inr table ↦ (let filled = table.filled in omega arith, table.power)
]

-- a power of two that is at least 8 is a multiple of 4
quarter_of : (k n : ℕ) → n ≡ 2 ^ k → 8 ≤ n → (q : ℕ) × (n ≡ 4 * q)
quarter_of zero n is eight = absurd (omega arith)
quarter_of (suc zero) n is eight = absurd (omega arith)
quarter_of (suc (suc k)) n is eight =
    let outer = pow-succ' 2 (suc k) in
    let inner = pow-succ' 2 k in
    (2 ^ k, omega arith)

-- doubling gives the number of slots for one more item if three quarters are filled
pub slots-more : (len n more : ℕ) → IsSlotCount len n → n / 4 * 3 ≤ len
    → ((n ≡ 0) × (more ≡ 8)) ⊎ ((n ≡ 0 → ⊥) × (more ≡ 2 * n)) → IsSlotCount (len + 1) more
slots-more len n more count full by = elim count [
  | inl none ↦ elim by [
    | inl first ↦ inr (record { some = omega arith; power = (3, first.1); eight = omega arith; filled = omega arith; least = inl first.1 })
    | inr twice ↦ absurd (twice.0 none.1)
  ]
  | inr table ↦
      let eight = table.eight in
      let filled = table.filled in
      let quarter = quarter_of table.power.0 n table.power.1 eight in
      elim by [
        | inl first ↦ absurd (omega arith)
        | inr twice ↦ inr (record {
          some = omega arith;
          power = (suc table.power.0, twice.1 ∙ ap (λ k. 2 * k) table.power.1 ∙ sym (pow-succ' 2 table.power.0));
          eight = omega arith;
          filled = omega arith;
          least = inr (let whole = quarter.1 in omega arith);
        })
      ]
]
