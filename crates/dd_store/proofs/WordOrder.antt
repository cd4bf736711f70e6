-- Of references whose words have four bytes the order of the words is the order of the references.
use Rattle.std.proofs.Common.{◌≡◌, ℕ, ◌+◌, ◌%◌, ◌^◌, ◌<◌, ◌≤◌, ◌==◌, true, refl, sym, ◌∙◌, ap, arith, inl, inr}
use Rattle.std.proofs.lemmas.Bool.{cases_eq, cases_order}
use Rattle.std.proofs.lemmas.Bool.Decides.{nat_tests}
use Rattle.std.specs.declared.cmp.Ordering.{Ordering}
use Rattle.std.specs.declared.cmp.Ordering.TheVariants.{Less, Equal, Greater}
use Rattle.std.specs.Ordering.{nat_cmp, is_lt, ordering_reverse}
use Rattle.std.specs.Cmp.{nat_cmp_is}
use Rattle.dd_store.specs.declared.reference.NodeId.{NodeId}
use Rattle.dd_store.specs.declared.reference.Reference.{Reference}
use Rattle.dd_store.specs.declared.reference.Reference.TheVariants.{False, True, Node}
use Rattle.dd_store.specs.contracts.reference.ReferenceOrd.TheImpl.Laws as ref_total
use Rattle.dd_store.specs.Order.{ref_cmp, ref_lt}
use Rattle.dd_store.specs.Words.{near_node, far_node, node_of, reference_of, IsWord, IsNodeWord}
use Rattle.dd_store.specs.WordLaws.{is_node, named_near, named_far, kind_of, past_terminals}
use Rattle.dd_store.specs.WordLaws.Kind.{kind_near, kind_far, kind_long}
use Rattle.dd_store.proofs.Order.{ref_cmp_itself, ref_lt-cmp}

-- of two near words the smaller one refers to the node that comes first, or to the same without a complement bit
near_order : (a b : ℕ) → 2 ^ 22 ≤ a → a < b → b < 2 ^ 30 → ref_lt (Node (near_node a) (a % 2 == 1)) (Node (near_node b) (b % 2 == 1)) ≡ true
near_order a b some lt small = grind (arith, nat_tests)

far_order : (a b : ℕ) → 2 ^ 30 + 2 ^ 26 ≤ a → a < b → b < 2 ^ 31
    → ref_lt (Node (far_node a) (a % 2 == 1)) (Node (far_node b) (b % 2 == 1)) ≡ true
far_order a b some lt small = grind (arith, nat_tests)

-- each near node comes before each far one
apart : (a b : ℕ) → a < 2 ^ 30 → 2 ^ 30 + 2 ^ 26 ≤ b → b < 2 ^ 31
    → ref_lt (Node (near_node a) (a % 2 == 1)) (Node (far_node b) (b % 2 == 1)) ≡ true
apart a b small some big = grind (arith, nat_tests)

-- what the word of a node refers to
node_at : (w : ℕ) (m : NodeId) → IsNodeWord w → node_of w ≡ m → reference_of w ≡ Node m (w % 2 == 1)
node_at w m h e = is_node w (past_terminals w h) ∙ ap (λ z. Node z (w % 2 == 1)) e

in_order : (a b : ℕ) (m n : NodeId) → IsNodeWord a → IsNodeWord b → node_of a ≡ m → node_of b ≡ n
    → ref_lt (Node m (a % 2 == 1)) (Node n (b % 2 == 1)) ≡ true → ref_lt (reference_of a) (reference_of b) ≡ true
in_order a b m n h k e f lt =
    ap (λ z. ref_lt z (reference_of b)) (node_at a m h e) ∙ ap (ref_lt (Node m (a % 2 == 1))) (node_at b n k f) ∙ lt

nodes_in_order : (a b : ℕ) → IsNodeWord a → IsNodeWord b → a < b → b < 2 ^ 31 → ref_lt (reference_of a) (reference_of b) ≡ true
nodes_in_order a b h k lt small = elim (kind_of a h) [
  | kind_near p q ↦ elim (kind_of b k) [
    | kind_near r s ↦ in_order a b (near_node a) (near_node b) h k (named_near a q) (named_near b s) (near_order a b p lt s)
    | kind_far r s ↦ in_order a b (near_node a) (far_node b) h k (named_near a q) (named_far b (omega arith) s) (apart a b q r s)
    | kind_long r s t ↦ absurd (omega arith)
  ]
  | kind_far p q ↦ elim (kind_of b k) [
    | kind_near r s ↦ absurd (omega arith)
    | kind_far r s ↦
        in_order a b (far_node a) (far_node b) h k (named_far a (omega arith) q) (named_far b (omega arith) s) (far_order a b p lt s)
    | kind_long r s t ↦ absurd (omega arith)
  ]
  | kind_long p q t ↦ absurd (omega arith)
]

terminal_first : (a b : ℕ) → a < 2 → IsNodeWord b → ref_lt (reference_of a) (reference_of b) ≡ true
terminal_first a b small k =
    let node = is_node b (past_terminals b k) in
    elim (cases_eq a 0) [
      | inl e ↦ ap (λ z. ref_lt (reference_of z) (reference_of b)) e ∙ ap (ref_lt False) node
      | inr n ↦ let e : a ≡ 1 = omega arith in ap (λ z. ref_lt (reference_of z) (reference_of b)) e ∙ ap (ref_lt True) node
    ]

words_in_order : (a b : ℕ) → IsWord a → IsWord b → a < b → b < 2 ^ 31 → ref_lt (reference_of a) (reference_of b) ≡ true
words_in_order a b (inl h) (inl k) lt small =
    let first : a ≡ 0 = omega arith in let second : b ≡ 1 = omega arith in
    ap (λ z. ref_lt (reference_of z) (reference_of b)) first ∙ ap (λ z. ref_lt False (reference_of z)) second
words_in_order a b (inl h) (inr k) lt small = terminal_first a b h k
words_in_order a b (inr h) (inl k) lt small = let most = past_terminals a h in absurd (omega arith)
words_in_order a b (inr h) (inr k) lt small = nodes_in_order a b h k lt small

is_less : (o : Ordering) → is_lt o ≡ true → o ≡ Less
is_less Less e = refl
is_less Equal e = cc e
is_less Greater e = cc e

less : (a b : ℕ) → IsWord a → IsWord b → a < b → b < 2 ^ 31 → ref_cmp (reference_of a) (reference_of b) ≡ Less
less a b h k lt small =
    is_less (ref_cmp (reference_of a) (reference_of b))
    (sym (ref_lt-cmp (reference_of a) (reference_of b)) ∙ words_in_order a b h k lt small)

-- comparing the other way round
turned_order : (x y : Reference) → ref_cmp x y ≡ Less → ref_cmp y x ≡ Greater
turned_order x y e = (ref_total.total-law).antisymm y x ∙ ap ordering_reverse e

-- the order of words of four bytes
pub same_order : (a b : ℕ) → IsWord a → IsWord b → a < 2 ^ 31 → b < 2 ^ 31 → nat_cmp a b ≡ ref_cmp (reference_of a) (reference_of b)
same_order a b h k small few = elim (cases_order a b) [
  | inl e ↦ sym (nat_cmp_is a b Equal e) ∙ sym (ref_cmp_itself (reference_of a)) ∙ ap (λ z. ref_cmp (reference_of a) (reference_of z)) e
  | inr (inl lt) ↦ sym (nat_cmp_is a b Less lt) ∙ sym (less a b h k lt few)
  | inr (inr gt) ↦ sym (nat_cmp_is a b Greater gt) ∙ sym (turned_order (reference_of b) (reference_of a) (less b a k h gt small))
]
