-- A left fold by steps gives the value after each operand, and the gate's value at the end: NAND, NOR and XNOR
-- complement only in the last step.
use Rattle.std.proofs.Common.{◌≡◌, ◌≢◌, ℕ, zero, suc, ◌+◌, ◌<◌, Bool, true, false, cond, not, ◌&&◌, ◌||◌, List, [], ◌∷◌, ◌++◌, length, get_or, take, refl, sym, ◌∙◌, ap, arith, add-one, inl, inr}
use Rattle.std.proofs.lemmas.Bool.{eq-eqb, ne_eqb}
use Rattle.std.proofs.lemmas.Bool.Decides.{eqb_tells}
use Rattle.dd_store.specs.Complements.{complemented}
use Rattle.net_bench.specs.declared.netlist.Kind.{Kind}
use Rattle.net_bench.specs.Labels.{all_ones, some_one, odd, folded, is_complemented, value_of}
use Rattle.net_bench.specs.declared.netlist.Kind.TheVariants.{And, Nand, Or, Nor, Xor, Xnor, Not, Buff, Dff}
use Rattle.gate_plan.specs.Folds.{value_so_far, plain_step, last_step, step_at}

ones_snoc : (xs : List Bool) (b : Bool) → all_ones (xs ++ b ∷ []) ≡ (all_ones xs && b)
ones_snoc [] true = refl
ones_snoc [] false = refl
ones_snoc (true ∷ xs) b = ones_snoc xs b
ones_snoc (false ∷ xs) b = refl

one_snoc : (xs : List Bool) (b : Bool) → some_one (xs ++ b ∷ []) ≡ (some_one xs || b)
one_snoc [] true = refl
one_snoc [] false = refl
one_snoc (true ∷ xs) b = refl
one_snoc (false ∷ xs) b = one_snoc xs b

flip_cond : (a b : Bool) → not (cond a (not b) b) ≡ cond (not a) (not b) b
flip_cond true true = refl
flip_cond true false = refl
flip_cond false true = refl
flip_cond false false = refl

odd_snoc : (xs : List Bool) (b : Bool) → odd (xs ++ b ∷ []) ≡ cond (odd xs) (not b) b
odd_snoc [] true = refl
odd_snoc [] false = refl
odd_snoc (true ∷ xs) b = ap not (odd_snoc xs b) ∙ flip_cond (odd xs) b
odd_snoc (false ∷ xs) b = odd_snoc xs b

pub folded_snoc : (kind : Kind) (xs : List Bool) (b : Bool) → folded kind (xs ++ b ∷ []) ≡ plain_step kind (folded kind xs) b
folded_snoc And xs b = ones_snoc xs b
folded_snoc Nand xs b = ones_snoc xs b
folded_snoc Not xs b = ones_snoc xs b
folded_snoc Buff xs b = ones_snoc xs b
folded_snoc Dff xs b = ones_snoc xs b
folded_snoc Or xs b = one_snoc xs b
folded_snoc Nor xs b = one_snoc xs b
folded_snoc Xor xs b = odd_snoc xs b
folded_snoc Xnor xs b = odd_snoc xs b

take_snoc : (i : ℕ) (xs : List Bool) → i < length xs → take (suc i) xs ≡ take i xs ++ get_or xs i false ∷ []
take_snoc zero [] h = absurd (omega arith)
take_snoc zero (x ∷ xs) h = refl
take_snoc (suc i) [] h = absurd (omega arith)
take_snoc (suc i) (x ∷ xs) h = ap (λ z. x ∷ z) (take_snoc i xs (omega arith))

take_whole : (xs : List Bool) → take (length xs) xs ≡ xs
take_whole [] = refl
take_whole (x ∷ xs) = ap (λ z. x ∷ z) (take_whole xs)

pub so_far_below : (kind : Kind) (bits : List Bool) (i : ℕ) → i < length bits → value_so_far kind bits i ≡ folded kind (take i bits)
so_far_below kind bits i h = ap (λ b. cond b (value_of kind bits) (folded kind (take i bits))) (ne_eqb i (length bits) (λ (e : i ≡ length bits). omega arith))

pub so_far_last : (kind : Kind) (bits : List Bool) (i : ℕ) → i ≡ length bits → value_so_far kind bits i ≡ value_of kind bits
so_far_last kind bits i h = ap (λ b. cond b (value_of kind bits) (folded kind (take i bits))) (eq-eqb i (length bits) h)

dec_eq : (a b : ℕ) → Dec (a ≡ b)
dec_eq a b = elim (eqb_tells a b) [ inl t ↦ yes t.1 | inr t ↦ no t.1 ]

step_plain : (kind : Kind) (k i : ℕ) → i + 1 ≢ k → (a b : Bool) → step_at kind k i a b ≡ plain_step kind a b
step_plain kind k i ne a b = ap (λ t. cond t (last_step kind a b) (plain_step kind a b)) (ne_eqb (i + 1) k ne)

step_last : (kind : Kind) (k i : ℕ) → i + 1 ≡ k → (a b : Bool) → step_at kind k i a b ≡ last_step kind a b
step_last kind k i e a b = ap (λ t. cond t (last_step kind a b) (plain_step kind a b)) (eq-eqb (i + 1) k e)

-- the step of operand i makes the value of the first i operands that of the first i + 1
pub fold_step : (kind : Kind) (bits : List Bool) (i : ℕ) → i < length bits → value_so_far kind bits (i + 1) ≡ step_at kind (length bits) i (value_so_far kind bits i) (get_or bits i false)
fold_step kind bits i h = by_place (dec_eq (i + 1) (length bits))
  where
    b : Bool
    b = get_or bits i false

    before : value_so_far kind bits i ≡ folded kind (take i bits)
    before = so_far_below kind bits i h

    next : folded kind (take (i + 1) bits) ≡ plain_step kind (folded kind (take i bits)) b
    next = ap (λ m. folded kind (take m bits)) (add-one i) ∙ ap (folded kind) (take_snoc i bits h) ∙ folded_snoc kind (take i bits) b

    by_place : Dec (i + 1 ≡ length bits) → value_so_far kind bits (i + 1) ≡ step_at kind (length bits) i (value_so_far kind bits i) b
    by_place (yes e) =
        let all_bits : folded kind bits ≡ plain_step kind (value_so_far kind bits i) b =
        ap (folded kind) (sym (take_whole bits)) ∙ ap (λ m. folded kind (take m bits)) (sym e) ∙ next ∙ ap (λ a. plain_step kind a b) (sym before) in
        so_far_last kind bits (i + 1) e
        ∙ ap (λ t. cond (is_complemented kind) (not t) t) all_bits
        ∙ sym (step_last kind (length bits) i e (value_so_far kind bits i) b)
    by_place (no ne) =
        so_far_below kind bits (i + 1) (omega arith) ∙ next ∙ ap (λ a. plain_step kind a b) (sym before)
        ∙ sym (step_plain kind (length bits) i ne (value_so_far kind bits i) b)

-- with two or more operands the fold begins with the first
pub fold_start : (kind : Kind) (bits : List Bool) → 1 < length bits → value_so_far kind bits 1 ≡ get_or bits 0 false
fold_start kind bits h =
    so_far_below kind bits 1 h ∙ ap (folded kind) (take_snoc 0 bits (omega arith)) ∙ folded_snoc kind [] (get_or bits 0 false) ∙ one_bit kind (get_or bits 0 false)
  where
    one_bit : (kind : Kind) (b : Bool) → plain_step kind (folded kind []) b ≡ b
    one_bit And b = refl
    one_bit Nand b = refl
    one_bit Not b = refl
    one_bit Buff b = refl
    one_bit Dff b = refl
    one_bit Or b = refl
    one_bit Nor b = refl
    one_bit Xor b = refl
    one_bit Xnor b = refl

-- a gate with one operand has its value, or the complement
pub one_operand : (kind : Kind) (b : Bool) → value_of kind (b ∷ []) ≡ complemented (is_complemented kind) b
one_operand And true = refl
one_operand And false = refl
one_operand Nand true = refl
one_operand Nand false = refl
one_operand Not true = refl
one_operand Not false = refl
one_operand Buff true = refl
one_operand Buff false = refl
one_operand Dff true = refl
one_operand Dff false = refl
one_operand Or true = refl
one_operand Or false = refl
one_operand Nor true = refl
one_operand Nor false = refl
one_operand Xor true = refl
one_operand Xor false = refl
one_operand Xnor true = refl
one_operand Xnor false = refl
