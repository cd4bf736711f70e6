-- The first word of a request determines its operation and first operand, and these the word.
use Rattle.std.specs.Prelude.{◌≡◌, ℕ, ◌+◌, ◌*◌, ◌/◌, ◌%◌, ◌^◌, ◌<◌, ◌⊎◌, Bool, true, false, cond}
use Rattle.std.proofs.Common.{◌∙◌, ap, arith, refl, sym, subst, inl, inr}
use Rattle.std.proofs.lemmas.Bool.Decides.{nat_tests}
use Rattle.dd_store.specs.declared.reference.Ref.{Ref}
use Rattle.dd_store.specs.Words.{reference_of, IsWord}
use Rattle.dd_store.specs.WordLaws.{word_of-reference_of, small_word, differ_if_words_differ}
use Rattle.req_table.specs.declared.Op.{Op}
use Rattle.req_table.specs.declared.Op.TheVariants.{And, Or, Xor, Nand, Nor, Xnor}
use Rattle.req_table.specs.contracts.OperationPartialEq.TheImpl.{eq-value as operation_eq}
use Rattle.req_table.specs.Equal.{key_same}
use Rattle.req_table.specs.Operation.{Operation, IsRequest}
use Rattle.req_table.specs.TerminalCase.{key, form_of, in_order, ref_lt}
use Rattle.req_table.specs.Words.{xor_bit, op_in, first_word, operation_of, IsFirstWord}

-- the bit of the operation of a word is bit 63
pub bit_back : (w : ℕ) → w < 2 ^ 64 → xor_bit (op_in w) ≡ w / 2 ^ 63 * 2 ^ 63
bit_back w small = grind (arith, nat_tests)

-- the first word of what a word says is this word
pub first_word-back : (w : ℕ) → IsFirstWord w → first_word (op_in w) (reference_of (w % 2 ^ 63)) ≡ w
first_word-back w h =
    let op = bit_back w h.0 in
    let f = word_of-reference_of (w % 2 ^ 63) h.1 in
    omega arith

-- ---- a request is And or Xor
IsForm : Op → Type 0
IsForm op = (op ≡ And) ⊎ (op ≡ Xor)

form_op : (op : Op) (f g : Ref) → IsForm (form_of op f g).0.op
unfolding IsForm
form_op And f g = inl refl
form_op Or f g = inl refl
form_op Xor f g = inr refl
form_op Nand f g = inl refl
form_op Nor f g = inl refl
form_op Xnor f g = inr refl

op_in_order : (k : Operation) → (in_order k).op ≡ k.op
op_in_order k = elim (ref_lt k.g k.f) as (λ (t : Bool). (cond t (key k.op k.g k.f) k).op ≡ k.op) [ true ↦ refl | false ↦ refl ]

request_op : (k : Operation) → IsRequest k → IsForm k.op
request_op k i =
    let same : (form_of k.op k.f k.g).0.op ≡ k.op = sym (op_in_order (form_of k.op k.f k.g).0) ∙ ap (λ n. n.0.op) i.ordered in
    subst IsForm same (form_op k.op k.f k.g)

-- ---- what a first word that was made of an operation and an operand says
and_made : (n : ℕ) → n < 2 ^ 63 → op_in (0 + n) ≡ And
and_made n small = grind (arith, nat_tests)

xor_made : (n : ℕ) → op_in (2 ^ 63 + n) ≡ Xor
xor_made n = grind (arith, nat_tests)

abbrev IsMade : Op → ℕ → Type 0
IsMade op n = (op_in (xor_bit op + n) ≡ op) × (xor_bit op + n < 2 ^ 64) × ((xor_bit op + n) % 2 ^ 63 ≡ n)

op_made : (op : Op) (n : ℕ) → IsForm op → n < 2 ^ 63 → IsMade op n
unfolding IsForm
op_made op n (inl e) small = subst (λ (o : Op). IsMade o n) (sym e) (and_made n small, omega arith, omega arith)
op_made op n (inr e) small = subst (λ (o : Op). IsMade o n) (sym e) (xor_made n, omega arith, omega arith)

pub word_made : (k : Operation) (n : ℕ) → IsRequest k → IsWord n → reference_of n ≡ k.f
    → IsFirstWord (xor_bit k.op + n) × (operation_of (xor_bit k.op + n) k.g ≡ k)
word_made k n i h b =
    let small : n < 2 ^ 58 = small_word n h in
    let made = op_made k.op n (request_op k i) (omega arith) in
    let op = made.0 in
    let first : reference_of ((xor_bit k.op + n) % 2 ^ 63) ≡ k.f = ap reference_of made.2 ∙ b in (
      (made.1, subst IsWord (sym made.2) h),
      λ j. record { op = op j; f = first j; g = k.g },
    )

-- requests with different first words are different
pub first_differs : (a b : ℕ) (f g : Ref) (t : Bool) → IsFirstWord a → IsFirstWord b
    → operation_eq.it (operation_of a f) (operation_of b g) ≡ t → (a ≡ b → ⊥) → t ≡ false
first_differs a b f g t h k e n =
    differ_if_words_differ operation_eq.it key_same (λ o. first_word o.op o.f) (operation_of a f) (operation_of b g) t e
    (λ same. n (sym (first_word-back a h) ∙ same ∙ first_word-back b k))
