-- The eight bytes of a request determine the request, and the request its bytes.
use Rattle.std.specs.Prelude.{◌≡◌, ℕ, ◌+◌, ◌-◌, ◌*◌, ◌/◌, ◌%◌, ◌^◌, ◌<◌, nat_eq}
use Rattle.std.specs.Int.RustNames.{bit_and}
use Rattle.std.specs.Cmp.{IsEquivalence}
use Rattle.std.proofs.Common.{◌∙◌, ap, sym, subst, arith}
use Rattle.std.proofs.lemmas.Bool.Decides.{nat_tests}
use Rattle.std.proofs.lemmas.Nat.{and_block, and_mask}
use Rattle.dd_store.specs.declared.reference.Ref.{Ref}
use Rattle.dd_store.specs.Words.{reference_of, IsWord}
use Rattle.dd_store.specs.WordLaws.{word_of-reference_of, compared}
use Rattle.req_table.specs.contracts.OperationPartialEq.TheImpl.{eq-value as operation_eq}
use Rattle.req_table.specs.contracts.OperationEq.TheImpl.Laws.{laws-law}
use Rattle.req_table.specs.Equal.{key_same}
use Rattle.req_table.specs.Words.{op_in, operation_of, IsFirstWord}
use Rattle.req_table.specs.WordLaws.{bit_back}
use Rattle.req_table.specs.Short.{short_word, short_of, IsShortWord}

-- the bytes of what bytes say are these bytes
pub short_word-short_of : (w : ℕ) → IsShortWord w → short_word (short_of w) ≡ w
short_word-short_of w h =
    let op = bit_back w h.0 in
    let f = word_of-reference_of (w % 2 ^ 31) h.2 in
    let g = word_of-reference_of (w / 2 ^ 31 % 2 ^ 31) h.3 in
    let small = h.0 in
    let clear = h.1 in
    omega arith

-- ---- the request of bytes that were made of a first word and the word of the second operand
added_op : (w m : ℕ) → w < 2 ^ 64 → w % 2 ^ 63 < 2 ^ 31 → m < 2 ^ 31 → op_in (w + m * 2 ^ 31) ≡ op_in w
added_op w m most fits less = grind (arith, nat_tests)

pub short_made : (w m : ℕ) (g : Ref) → IsFirstWord w → w % 2 ^ 63 < 2 ^ 31 → m < 2 ^ 31 → IsWord m → reference_of m ≡ g
    → IsShortWord (w + m * 2 ^ 31) × (short_of (w + m * 2 ^ 31) ≡ operation_of w g)
short_made w m g h fits less is_m g-is =
    let most = h.0 in
    let low : (w + m * 2 ^ 31) % 2 ^ 31 ≡ w % 2 ^ 63 = omega arith in
    let high : (w + m * 2 ^ 31) / 2 ^ 31 % 2 ^ 31 ≡ m = omega arith in
    let op = added_op w m most fits less in
    let first : reference_of ((w + m * 2 ^ 31) % 2 ^ 31) ≡ reference_of (w % 2 ^ 63) = ap reference_of low in
    let second : reference_of ((w + m * 2 ^ 31) / 2 ^ 31 % 2 ^ 31) ≡ g = ap reference_of high ∙ g-is in (
      (omega arith, omega arith, subst IsWord (sym low) h.1, subst IsWord (sym high) is_m),
      λ i. record { op = op i; f = first i; g = second i },
    )

-- ---- the first word of the request
masked : (w : ℕ) → w < 2 ^ 64 → bit_and w (2 ^ 63 + 2 ^ 31 - 1) ≡ w / 2 ^ 63 * 2 ^ 63 + w % 2 ^ 31
masked w small =
    let parts : w ≡ w / 2 ^ 63 * 2 ^ 63 + w % 2 ^ 63 = omega arith in
    let top : bit_and (w / 2 ^ 63) 1 ≡ w / 2 ^ 63 % 2 = and_mask (w / 2 ^ 63) 1 in
    let low : bit_and (w % 2 ^ 63) (2 ^ 31 - 1) ≡ w % 2 ^ 63 % 2 ^ 31 = and_mask (w % 2 ^ 63) 31 in
    ap (λ (z : ℕ). bit_and z (2 ^ 63 + 2 ^ 31 - 1)) parts
    ∙ and_block 63 (w / 2 ^ 63) 1 (w % 2 ^ 63) (2 ^ 31 - 1) (omega arith) (omega arith)
    ∙ omega arith

cut_op : (w : ℕ) → w < 2 ^ 64 → op_in (w / 2 ^ 63 * 2 ^ 63 + w % 2 ^ 31) ≡ op_in w
cut_op w small = grind (arith, nat_tests)

pub first_made : (w : ℕ) (g : Ref) → IsShortWord w → reference_of (w / 2 ^ 31 % 2 ^ 31) ≡ g
    → IsFirstWord (bit_and w (2 ^ 63 + 2 ^ 31 - 1)) × (operation_of (bit_and w (2 ^ 63 + 2 ^ 31 - 1)) g ≡ short_of w)
first_made w g h g-is =
    let small = h.0 in
    let is = masked w small in
    let low : bit_and w (2 ^ 63 + 2 ^ 31 - 1) % 2 ^ 63 ≡ w % 2 ^ 31 = omega arith in
    let op : op_in (bit_and w (2 ^ 63 + 2 ^ 31 - 1)) ≡ op_in w = ap op_in is ∙ cut_op w small in
    let first : reference_of (bit_and w (2 ^ 63 + 2 ^ 31 - 1) % 2 ^ 63) ≡ reference_of (w % 2 ^ 31) = ap reference_of low in (
      (omega arith, subst IsWord (sym low) h.2),
      λ i. record { op = op i; f = first i; g = sym g-is i },
    )

operation_laws : IsEquivalence operation_eq.it
operation_laws = laws-law

-- equal bytes say equal requests, and no others do
pub same_short : (a b : ℕ) → IsShortWord a → IsShortWord b → nat_eq a b ≡ operation_eq.it (short_of a) (short_of b)
same_short a b h k =
    compared operation_eq.it key_same short_word operation_laws.refl short_of a b (short_word-short_of a h) (short_word-short_of b k)
