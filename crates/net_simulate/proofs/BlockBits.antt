-- Bits of blocks.
use Rattle.std.proofs.Common.{◌≡◌, ℕ, zero, suc, ◌-◌, ◌<◌, ◌/◌, ◌%◌, ◌^◌, true, false, not, cond, ◌&&◌, ◌||◌, List, refl, ap, ◌∙◌, get_or, replicate, arith}
use Rattle.std.specs.Prelude.{bit_and, bit_or, bit_xor}
use Rattle.net_simulate.specs.Columns.{bit_in, bit_in_block}
use Rattle.net_simulate.proofs.Bits.{in_all, in_and, in_none, in_or, in_xor}

each_at : (k v j : ℕ) → j < k → get_or {A = ℕ} (replicate k v) j 0 ≡ v
each_at zero v j low = absurd (omega arith)
each_at (suc k) v zero low = refl
each_at (suc k) v (suc j) low = each_at k v j (omega arith)

pub in_no_bits : (i : ℕ) → i < 512 → bit_in_block i (replicate 8 0) ≡ false
in_no_bits i low = ap (bit_in (i % 64)) (each_at 8 0 (i / 64) (omega arith)) ∙ in_none (i % 64)

pub in_all_bits : (i : ℕ) → i < 512 → bit_in_block i (replicate 8 (2 ^ 64 - 1)) ≡ true
in_all_bits i low = ap (bit_in (i % 64)) (each_at 8 (2 ^ 64 - 1) (i / 64) (omega arith)) ∙ in_all (i % 64) (omega arith)

pub in_both : (i : ℕ) (old other new : List ℕ) → i < 512 → ((j : ℕ) → j < 8 → get_or new j 0 ≡ bit_and (get_or old j 0) (get_or other j 0)) →
    bit_in_block i new ≡ (bit_in_block i old && bit_in_block i other)
in_both i old other new low each = ap (bit_in (i % 64)) (each (i / 64) (omega arith)) ∙ in_and (i % 64) (get_or old (i / 64) 0) (get_or other (i / 64) 0)

pub in_one : (i : ℕ) (old other new : List ℕ) → i < 512 → ((j : ℕ) → j < 8 → get_or new j 0 ≡ bit_or (get_or old j 0) (get_or other j 0)) →
    bit_in_block i new ≡ (bit_in_block i old || bit_in_block i other)
in_one i old other new low each = ap (bit_in (i % 64)) (each (i / 64) (omega arith)) ∙ in_or (i % 64) (get_or old (i / 64) 0) (get_or other (i / 64) 0)

pub in_sum : (i : ℕ) (old other new : List ℕ) → i < 512 → ((j : ℕ) → j < 8 → get_or new j 0 ≡ bit_xor (get_or old j 0) (get_or other j 0)) →
    bit_in_block i new ≡ cond (bit_in_block i other) (not (bit_in_block i old)) (bit_in_block i old)
in_sum i old other new low each = ap (bit_in (i % 64)) (each (i / 64) (omega arith)) ∙ in_xor (i % 64) (get_or old (i / 64) 0) (get_or other (i / 64) 0)
