-- A word gives back what it refers to, and a reference its word.
use Rattle.std.proofs.Common.{◌≡◌, ℕ, ◌+◌, ◌*◌, ◌^◌, ◌<◌, ◌≤◌, ◌%◌, ◌==◌, ◌⊎◌, Bool, if◌then◌else◌, true, false, nat_eq, refl, sym, ◌∙◌, ap, arith, inl, inr}
use Rattle.std.proofs.lemmas.Bool.{cases_eq, eq-eqb, ne_eqb}
use Rattle.std.proofs.lemmas.Bool.Decides.{nat_tests}
use Rattle.dd_store.specs.declared.reference.NodeId.{NodeId}
use Rattle.dd_store.specs.declared.reference.Reference.{Reference}
use Rattle.dd_store.specs.declared.reference.Reference.TheVariants.{Node}
use Rattle.dd_store.specs.contracts.reference.ReferencePartialEq.TheImpl.{eq-value as ref_eq}
use Rattle.dd_store.specs.Equal.{ref_same}
use Rattle.dd_store.specs.Words.{is_near, is_far, near_word, far_word, long_word, node_word, near_node, far_node, long_node, word_of, node_of, reference_of, IsWord, IsNodeWord, IsLongWord}

-- bit 0 is the complement bit
pub low_bit : (w : ℕ) → (if w % 2 == 1 then 1 else 0) ≡ w % 2
low_bit w = grind (arith, nat_tests)

-- a word that is not one of a terminal refers to a node
pub is_node : (w : ℕ) → 2 ≤ w → reference_of w ≡ Node (node_of w) (w % 2 == 1)
is_node w big = grind (arith, nat_tests)

-- what words name
pub named_near : (w : ℕ) → w < 2 ^ 30 → node_of w ≡ near_node w
unfolding node_of
named_near w small = grind (arith, nat_tests)

pub named_far : (w : ℕ) → 2 ^ 30 ≤ w → w < 2 ^ 31 → node_of w ≡ far_node w
unfolding node_of
named_far w big small = grind (arith, nat_tests)

pub named_long : (w : ℕ) → 2 ^ 31 ≤ w → node_of w ≡ long_node w
unfolding node_of
named_long w big = grind (arith, nat_tests)

-- which nodes are near, and which are far
pub near : (m : NodeId) → m.level < 255 → m.shard < 16 → m.index < 2 ^ 17 → is_near m ≡ true
unfolding is_near
near m l s i = grind (arith, nat_tests)

pub far : (m : NodeId) → 255 ≤ m.level → m.level < 4095 → m.shard < 16 → m.index < 2 ^ 13 → (is_near m ≡ false) × (is_far m ≡ true)
unfolding is_near is_far
far m l u s i = (grind (arith, nat_tests), grind (arith, nat_tests))

-- the words of near nodes, of far ones and of all others
pub word_of_near : (m : NodeId) → is_near m ≡ true → node_word m ≡ near_word m
unfolding node_word
word_of_near m h = ap (λ (b : Bool). if b then near_word m else (if is_far m then far_word m else long_word m)) h

past_near : (m : NodeId) → is_near m ≡ false → node_word m ≡ (if is_far m then far_word m else long_word m)
unfolding node_word
past_near m h = ap (λ (b : Bool). if b then near_word m else (if is_far m then far_word m else long_word m)) h

pub word_of_far : (m : NodeId) → is_near m ≡ false → is_far m ≡ true → node_word m ≡ far_word m
word_of_far m h k = past_near m h ∙ ap (λ (b : Bool). if b then far_word m else long_word m) k

pub word_of_long : (m : NodeId) → is_near m ≡ false → is_far m ≡ false → node_word m ≡ long_word m
word_of_long m h k = past_near m h ∙ ap (λ (b : Bool). if b then far_word m else long_word m) k

-- the words of nodes, one kind after the other
pub data Kind (w : ℕ) : Type 0 where
  kind_near : 2 ^ 22 ≤ w → w < 2 ^ 30 → Kind w
  kind_far : 2 ^ 30 + 2 ^ 26 ≤ w → w < 2 ^ 31 → Kind w
  kind_long : 2 ^ 41 ≤ w → w < 2 ^ 41 * (2 ^ 16 + 1) → IsLongWord w → Kind w

pub kind_of : (w : ℕ) → IsNodeWord w → Kind w
unfolding IsNodeWord IsLongWord
kind_of w (inl h) = kind_near h.0 h.1
kind_of w (inr (inl h)) = kind_far h.0 h.1
kind_of w (inr (inr h)) = kind_long h.0 h.1 h

-- near and far words, and all others, are the word of their node plus the complement bit
near_back : (w : ℕ) → 2 ^ 22 ≤ w → w < 2 ^ 30 → node_word (node_of w) + w % 2 ≡ w
near_back w big small =
    let is = word_of_near (near_node w) (near (near_node w) (omega arith) (omega arith) (omega arith)) in
    ap (λ z. node_word z + w % 2) (named_near w small) ∙ ap (λ z. z + w % 2) is ∙ omega arith

far_back : (w : ℕ) → 2 ^ 30 + 2 ^ 26 ≤ w → w < 2 ^ 31 → node_word (node_of w) + w % 2 ≡ w
far_back w big small =
    let k = far (far_node w) (omega arith) (omega arith) (omega arith) (omega arith) in
    let is = word_of_far (far_node w) k.0 k.1 in
    ap (λ z. node_word z + w % 2) (named_far w (omega arith) small) ∙ ap (λ z. z + w % 2) is ∙ omega arith

long_back : (w : ℕ) → 2 ^ 41 ≤ w → w < 2 ^ 41 * (2 ^ 16 + 1) → IsLongWord w → node_word (node_of w) + w % 2 ≡ w
unfolding IsLongWord
long_back w big small h =
    let is = word_of_long (long_node w) h.2 h.3 in
    ap (λ z. node_word z + w % 2) (named_long w (omega arith)) ∙ ap (λ z. z + w % 2) is ∙ omega arith

pub node_back : (w : ℕ) → IsNodeWord w → node_word (node_of w) + w % 2 ≡ w
node_back w h = elim (kind_of w h) [
  | kind_near k l ↦ near_back w k l
  | kind_far k l ↦ far_back w k l
  | kind_long k l m ↦ long_back w k l m
]

-- the words of nodes are not those of terminals
pub past_terminals : (w : ℕ) → IsNodeWord w → 2 ≤ w
past_terminals w h = elim (kind_of w h) [
  | kind_near k l ↦ omega arith
  | kind_far k l ↦ omega arith
  | kind_long k l m ↦ omega arith
]

pub word_of-reference_of : (w : ℕ) → IsWord w → word_of (reference_of w) ≡ w
word_of-reference_of w (inl small) = elim (cases_eq w 0) [
  | inl e ↦ ap (λ z. word_of (reference_of z)) e ∙ sym e
  | inr n ↦ let e : w ≡ 1 = omega arith in ap (λ z. word_of (reference_of z)) e ∙ sym e
]
word_of-reference_of w (inr h) =
    ap word_of (is_node w (past_terminals w h)) ∙ ap (λ z. node_word (node_of w) + z) (low_bit w) ∙ node_back w h

-- a word has four bytes, or it is one of a node that is neither near nor far
pub short_or_long : (w : ℕ) → IsWord w → (w < 2 ^ 31) ⊎ (2 ^ 41 ≤ w)
short_or_long w (inl small) = inl (omega arith)
short_or_long w (inr h) = elim (kind_of w h) [
  | kind_near k l ↦ inl (omega arith)
  | kind_far k l ↦ inl (omega arith)
  | kind_long k l m ↦ inr k
]

pub small_word : (w : ℕ) → IsWord w → w < 2 ^ 58
small_word w (inl small) = omega arith
small_word w (inr h) = elim (kind_of w h) [
  | kind_near k l ↦ omega arith
  | kind_far k l ↦ omega arith
  | kind_long k l m ↦ omega arith
]

-- the word of what a word refers to
pub word_is : (w : ℕ) (r : Reference) → IsWord w → reference_of w ≡ r → w ≡ word_of r
word_is w r h e = sym (word_of-reference_of w h) ∙ ap word_of e

-- a reference has one word
pub one_word : (m n : ℕ) → IsWord m → IsWord n → reference_of m ≡ reference_of n → m ≡ n
one_word m n h k e = word_is m (reference_of n) h e ∙ word_of-reference_of n k

-- ---- values that have a word each compare as their words do
module _ {V : Type 0} (eq : V → V → Bool) (same : (x y : V) → eq x y ≡ true → x ≡ y) (word : V → ℕ) where
  -- different words belong to different values
  pub differ_if_words_differ : (x y : V) (t : Bool) → eq x y ≡ t → (word x ≡ word y → ⊥) → t ≡ false
  differ_if_words_differ x y false e n = refl
  differ_if_words_differ x y true e n = absurd (n (ap word (same x y e)))

  pub compared : (itself : (x : V) → eq x x ≡ true) (of : ℕ → V) (a b : ℕ) → word (of a) ≡ a → word (of b) ≡ b
      → nat_eq a b ≡ eq (of a) (of b)
  compared itself of a b f g = elim (cases_eq a b) [
    | inl e ↦ eq-eqb a b e ∙ sym (itself (of a)) ∙ ap (λ z. eq (of a) (of z)) e
    | inr n ↦ ne_eqb a b n ∙ sym (differ_if_words_differ (of a) (of b) (eq (of a) (of b)) refl (λ e. n (sym f ∙ e ∙ g)))
  ]

-- references that compare as equal have one word
pub same_word : (x y : Reference) → ref_eq.it x y ≡ true → word_of x ≡ word_of y
same_word x y e = ap word_of (ref_same x y e)
