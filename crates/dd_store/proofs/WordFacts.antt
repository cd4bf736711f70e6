-- The words of references: those of nodes, their complement bits, and their order.
use Rattle.std.proofs.Common.{◌≡◌, ℕ, ◌+◌, ◌-◌, ◌*◌, ◌/◌, ◌%◌, ◌^◌, ◌<◌, ◌≤◌, ◌==◌, Bool, true, false, not, nat_eq, refl, sym, ◌∙◌, ap, subst, arith, inl, inr}
use Rattle.std.proofs.lemmas.Bool.Decides.{nat_tests}
use lib.Bits.{xor_add_and, and_mask, xor_zero_r}
use mir.Val.{bool_byte}
use Rattle.std.specs.Int.Bits.{bit_xor, bit_and}
use Rattle.std.proofs.lemmas.Bool.{cases_eq}
use Rattle.dd_store.specs.contracts.reference.ReferencePartialEq.TheImpl.{eq-value as ref_eq}
use Rattle.dd_store.specs.Equal.{ref_same, ref_eq-itself}
use Rattle.dd_store.specs.Complements.{complement_by, negate_of}
use Rattle.dd_store.specs.declared.reference.NodeId.{NodeId}
use Rattle.dd_store.specs.declared.reference.Reference.TheVariants.{Node}
use Rattle.dd_store.specs.Words.{is_near, is_far, near_word, far_word, long_word, node_word, near_node, far_node, long_node, word_of, node_of, reference_of, IsWord, IsNodeWord, IsLongWord}
use Rattle.dd_store.specs.WordLaws.{is_node, named_near, named_far, named_long, near, far, word_of_near, word_of_far, word_of_long, kind_of, past_terminals, word_of-reference_of, compared}
use Rattle.dd_store.specs.WordLaws.Kind.{kind_near, kind_far, kind_long}

-- what is known of the word of a node that has a name
pub record Words (m : NodeId) (w : ℕ) : Type 0 where
  pub word : w ≡ node_word m
  pub within : IsNodeWord w
  pub names : node_of w ≡ m
  pub even : w % 2 ≡ 0

is_near_word : (w : ℕ) → 2 ^ 22 ≤ w → w < 2 ^ 30 → IsNodeWord w
unfolding IsNodeWord
is_near_word w big small = inl (big, small)

is_far_word : (w : ℕ) → 2 ^ 30 + 2 ^ 26 ≤ w → w < 2 ^ 31 → IsNodeWord w
unfolding IsNodeWord
is_far_word w big small = inr (inl (big, small))

is_long_word : (w : ℕ) (m : NodeId) → 2 ^ 41 ≤ w → w < 2 ^ 41 * (2 ^ 16 + 1) → long_node w ≡ m → is_near m ≡ false
    → is_far m ≡ false → IsNodeWord w
unfolding IsNodeWord IsLongWord
is_long_word w m big small is h k = inr (inr (big, small, ap is_near is ∙ h, ap is_far is ∙ k))

named : (a b : NodeId) → a.level ≡ b.level → a.shard ≡ b.shard → a.index ≡ b.index → a ≡ b
named a b l s i = λ j. record { level = l j; shard = s j; index = i j }

near_made : (m : NodeId) (w : ℕ) → m.level < 255 → m.shard < 16 → m.index < 2 ^ 17 → w ≡ near_word m → Words m w
near_made m w l s i is = record {
  word = is ∙ sym (word_of_near m (near m l s i));
  within = is_near_word w (omega arith) (omega arith);
  names = named_near w (omega arith) ∙ named (near_node w) m (omega arith) (omega arith) (omega arith);
  even = omega arith;
}

far_made : (m : NodeId) (w : ℕ) → 255 ≤ m.level → m.level < 4095 → m.shard < 16 → m.index < 2 ^ 13
    → w ≡ far_word m → Words m w
far_made m w l u s i is = record {
  word = (let k = far m l u s i in is ∙ sym (word_of_far m k.0 k.1));
  within = is_far_word w (omega arith) (omega arith);
  names = named_far w (omega arith) (omega arith) ∙ named (far_node w) m (omega arith) (omega arith) (omega arith);
  even = omega arith;
}

long_made : (m : NodeId) (w : ℕ) → m.level < 2 ^ 16 → m.shard < 256 → m.index < 2 ^ 32 → is_near m ≡ false → is_far m ≡ false
    → w ≡ long_word m → Words m w
long_made m w l s i h k is =
    let same : long_node w ≡ m = named (long_node w) m (omega arith) (omega arith) (omega arith) in
    record {
      word = is ∙ sym (word_of_long m h k);
      within = is_long_word w m (omega arith) (omega arith) same h k;
      names = named_long w (omega arith) ∙ same;
      even = omega arith;
    }

-- the parts of a near node, and of a far one
near_parts : (m : NodeId) → is_near m ≡ true → (m.level < 255) × (m.shard < 16) × (m.index < 2 ^ 17)
unfolding is_near
near_parts m h = (grind (arith, nat_tests), grind (arith, nat_tests), grind (arith, nat_tests))

far_parts : (m : NodeId) → is_far m ≡ true → (255 ≤ m.level) × (m.level < 4095) × (m.shard < 16) × (m.index < 2 ^ 13)
unfolding is_far
far_parts m h = (grind (arith, nat_tests), grind (arith, nat_tests), grind (arith, nat_tests), grind (arith, nat_tests))

pub near_words : (m : NodeId) → is_near m ≡ true → Words m (near_word m)
near_words m h = let k = near_parts m h in near_made m (near_word m) k.0 k.1 k.2 refl

pub far_words : (m : NodeId) → is_far m ≡ true → Words m (far_word m)
far_words m h = let k = far_parts m h in far_made m (far_word m) k.0 k.1 k.2 k.3 refl

pub long_words : (m : NodeId) → m.level < 2 ^ 16 → m.shard < 256 → m.index < 2 ^ 32 → is_near m ≡ false → is_far m ≡ false
    → Words m (long_word m)
long_words m l s i h k = long_made m (long_word m) l s i h k refl

-- what such a word refers to
pub refers : (m : NodeId) (w : ℕ) → Words m w → reference_of w ≡ Node m false
refers m w k =
    is_node w (past_terminals w k.within) ∙ ap (λ z. Node z (w % 2 == 1)) k.names ∙ ap (λ z. Node m (z == 1)) k.even

long_kept : (w v : ℕ) → IsLongWord w → long_node v ≡ long_node w → 2 ^ 41 ≤ v → v < 2 ^ 41 * (2 ^ 16 + 1) → IsNodeWord v
unfolding IsLongWord
long_kept w v m one big small = is_long_word v (long_node w) big small one m.2 m.3

-- a word that differs only in bit 0 is one of the same node
pub other_complement_bit : (w v : ℕ) → IsNodeWord w → v / 2 ≡ w / 2 → IsNodeWord v × (node_of v ≡ node_of w)
other_complement_bit w v h same = elim (kind_of w h) [
  | kind_near k l ↦ (
    is_near_word v (omega arith) (omega arith),
    named_near v (omega arith) ∙ named (near_node v) (near_node w) (omega arith) (omega arith) (omega arith) ∙ sym (named_near w l),
  )
  | kind_far k l ↦ (
    is_far_word v (omega arith) (omega arith),
    named_far v (omega arith) (omega arith)
        ∙ named (far_node v) (far_node w) (omega arith) (omega arith) (omega arith)
        ∙ sym (named_far w (omega arith) l),
  )
  | kind_long k l m ↦
      let one : long_node v ≡ long_node w = named (long_node v) (long_node w) (omega arith) (omega arith) (omega arith) in
      (long_kept w v m one (omega arith) (omega arith), named_long v (omega arith) ∙ one ∙ sym (named_long w (omega arith)))
]

-- the name of a node by its word, whichever kind it is of; what is taken off is there, and the level has 16 bits
pub near_some : (w : ℕ) → IsNodeWord w → w < 2 ^ 30 → 1 ≤ w / 2 ^ 22
near_some w h small = elim (kind_of w h) [
  | kind_near k l ↦ omega arith
  | kind_far k l ↦ absurd (omega arith)
  | kind_long k l m ↦ absurd (omega arith)
]

pub far_some : (w : ℕ) → IsNodeWord w → 2 ^ 30 ≤ w → w < 2 ^ 31 → 1 ≤ (w - 2 ^ 30) / 2 ^ 18
far_some w h big small = elim (kind_of w h) [
  | kind_near k l ↦ absurd (omega arith)
  | kind_far k l ↦ omega arith
  | kind_long k l m ↦ absurd (omega arith)
]

pub long_some : (w : ℕ) → IsNodeWord w → 2 ^ 31 ≤ w → (1 ≤ w / 2 ^ 41) × (w / 2 ^ 41 - 1 < 2 ^ 16)
long_some w h big = elim (kind_of w h) [
  | kind_near k l ↦ absurd (omega arith)
  | kind_far k l ↦ absurd (omega arith)
  | kind_long k l m ↦ (omega arith, omega arith)
]

pub named_as_near : (w : ℕ) → w < 2 ^ 30 → near_node w ≡ node_of w
named_as_near w small = sym (named_near w small)

-- a far node as it is read
abbrev pub read_far : ℕ → NodeId
read_far w = record { level = (w - 2 ^ 30) / 2 ^ 18 - 1; shard = w / 2 ^ 14 % 16; index = w / 2 % 2 ^ 13 }

pub named_as_far : (w : ℕ) → 2 ^ 30 ≤ w → w < 2 ^ 31 → read_far w ≡ node_of w
named_as_far w big small = named (read_far w) (far_node w) (omega arith) refl refl ∙ sym (named_far w big small)

pub named_as_long : (w : ℕ) → 2 ^ 31 ≤ w → long_node w ≡ node_of w
named_as_long w big = sym (named_long w big)

-- ---- bit 0
-- a word with bit 0 turned
flipped : (w : ℕ) → (bit_xor w 1 / 2 ≡ w / 2) × (bit_xor w 1 % 2 + w % 2 ≡ 1)
flipped w =
    let sum = xor_add_and w 1 in
    let low : bit_and w 1 ≡ w % 2 = and_mask w 1 in
    let bit : w % 2 < 2 = omega arith in
    (omega arith, omega arith)

flipped_bit : (w v : ℕ) → v % 2 + w % 2 ≡ 1 → (v % 2 == 1) ≡ not (w % 2 == 1)
flipped_bit w v e = grind (arith, nat_tests)

complemented_node : (w v : ℕ) → IsNodeWord w → v / 2 ≡ w / 2 → v % 2 + w % 2 ≡ 1 → IsWord v × (reference_of v ≡ negate_of (reference_of w))
complemented_node w v h half bit =
    let other = other_complement_bit w v h half in (
      inr other.0,
      is_node v (past_terminals v other.0)
          ∙ ap (λ m. Node m (v % 2 == 1)) other.1
          ∙ ap (λ b. Node (node_of w) b) (flipped_bit w v bit)
          ∙ ap negate_of (sym (is_node w (past_terminals w h))),
    )

complemented_terminal : (w v : ℕ) → w < 2 → v / 2 ≡ w / 2 → v % 2 + w % 2 ≡ 1 → IsWord v × (reference_of v ≡ negate_of (reference_of w))
complemented_terminal w v small half bit = elim (cases_eq w 0) [
  | inl e ↦ let one : v ≡ 1 = omega arith in (inl (omega arith), ap reference_of one ∙ sym (ap (λ z. negate_of (reference_of z)) e))
  | inr n ↦ let e : w ≡ 1 = omega arith in let zero : v ≡ 0 = omega arith in
      (inl (omega arith), ap reference_of zero ∙ sym (ap (λ z. negate_of (reference_of z)) e))
]

-- the word of the complement
pub complement_word : (w : ℕ) (b : Bool) → IsWord w
    → IsWord (bit_xor w (bool_byte b)) × (reference_of (bit_xor w (bool_byte b)) ≡ complement_by b (reference_of w))
complement_word w false h = (subst (λ (z : ℕ). IsWord z) (sym (xor_zero_r w)) h, ap reference_of (xor_zero_r w))
complement_word w true (inl small) = let k = flipped w in complemented_terminal w (bit_xor w 1) small k.0 k.1
complement_word w true (inr h) = let k = flipped w in complemented_node w (bit_xor w 1) h k.0 k.1

-- two words are equal exactly if they refer to the same
pub same_words : (a b : ℕ) → IsWord a → IsWord b → nat_eq a b ≡ ref_eq.it (reference_of a) (reference_of b)
same_words a b h k =
    compared ref_eq.it ref_same word_of ref_eq-itself reference_of a b (word_of-reference_of a h) (word_of-reference_of b k)
