-- The folds of the values of operands, with one more operand, in each bit.
use Rattle.std.proofs.Common.{◌≡◌, ℕ, ◌+◌, ◌<◌, Bool, not, cond, ◌&&◌, ◌||◌, List, sym, subst, ap, ◌∙◌, map, length, get_or, drop}
use Rattle.std.specs.Prelude.{All}
use Rattle.net_bench.specs.Labels.{all_ones, bit_of, odd, some_one}
use Rattle.net_simulate.specs.Columns.{column}
use Rattle.net_simulate.proofs.Bits.{in_column}
use Rattle.net_simulate.proofs.Folding.{all_more, some_more, odd_more}

-- an operand's value as it is read
pub read : {V : Type 0} (bit : ℕ → V → Bool) (i : ℕ) (vs : List V) (xs : List ℕ) (place x number : ℕ) (v : V) → All (λ s. s < length vs) xs → place < length xs → x ≡ get_or xs place x →
    number ≡ x → v ≡ get_or vs number v → bit i v ≡ bit_of (column bit i vs) x
read bit i vs xs place x number v inside low is same at =
    in_column bit i vs number v (subst (λ t. t < length vs) (sym (same ∙ is)) (inside place x low)) at ∙ ap (bit_of (column bit i vs)) same

pub all_step : {V : Type 0} (bit : ℕ → V → Bool) (vs : List V) (xs : List ℕ) (place x i : ℕ) (old new v : V) → place < length xs → x ≡ get_or xs place x → bit i v ≡ bit_of (column bit i vs) x →
    bit i new ≡ (bit i old && bit i v) →
    (bit i new && all_ones (map (bit_of (column bit i vs)) (drop (place + 1) xs))) ≡ (bit i old && all_ones (map (bit_of (column bit i vs)) (drop place xs)))
all_step bit vs xs place x i old new v low is here e =
    ap (λ b. b && all_ones (map (bit_of (column bit i vs)) (drop (place + 1) xs))) (e ∙ ap (λ b. bit i old && b) here) ∙
    all_more (bit_of (column bit i vs)) xs place x low is (bit i old)

pub some_step : {V : Type 0} (bit : ℕ → V → Bool) (vs : List V) (xs : List ℕ) (place x i : ℕ) (old new v : V) → place < length xs → x ≡ get_or xs place x → bit i v ≡ bit_of (column bit i vs) x →
    bit i new ≡ (bit i old || bit i v) →
    (bit i new || some_one (map (bit_of (column bit i vs)) (drop (place + 1) xs))) ≡ (bit i old || some_one (map (bit_of (column bit i vs)) (drop place xs)))
some_step bit vs xs place x i old new v low is here e =
    ap (λ b. b || some_one (map (bit_of (column bit i vs)) (drop (place + 1) xs))) (e ∙ ap (λ b. bit i old || b) here) ∙
    some_more (bit_of (column bit i vs)) xs place x low is (bit i old)

pub odd_step : {V : Type 0} (bit : ℕ → V → Bool) (vs : List V) (xs : List ℕ) (place x i : ℕ) (old new v : V) → place < length xs → x ≡ get_or xs place x → bit i v ≡ bit_of (column bit i vs) x →
    bit i new ≡ cond (bit i v) (not (bit i old)) (bit i old) →
    (let rest = odd (map (bit_of (column bit i vs)) (drop (place + 1) xs)) in cond (bit i new) (not rest) rest) ≡
    (let whole = odd (map (bit_of (column bit i vs)) (drop place xs)) in cond (bit i old) (not whole) whole)
odd_step bit vs xs place x i old new v low is here e =
    ap (λ b. let rest = odd (map (bit_of (column bit i vs)) (drop (place + 1) xs)) in cond b (not rest) rest) (e ∙ ap (λ b. cond b (not (bit i old)) (bit i old)) here) ∙
    odd_more (bit_of (column bit i vs)) xs place x low is (bit i old)
