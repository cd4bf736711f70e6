-- Operands in order: they stay so, and the first operand of a request is at the request's level.
use Rattle.std.proofs.Common.{◌≡◌, ℕ, ◌≤◌, Bool, true, false, cond, refl, sym, ◌∙◌, ap, subst, arith}
use Rattle.std.proofs.Math.Nat.{min-eq_left}
use Rattle.std.proofs.lemmas.Bool.Decides.{nat_tests}
use Rattle.std.specs.declared.cmp.Ordering.{Ordering}
use Rattle.std.specs.declared.cmp.Ordering.TheVariants.{Less, Equal, Greater}
use Rattle.std.specs.Ordering.{ordering_reverse, is_lt}
use Rattle.dd_store.specs.declared.reference.NodeId.{NodeId}
use Rattle.dd_store.specs.declared.reference.Ref.{Ref}
use Rattle.dd_store.specs.declared.reference.Reference.TheVariants.{False, True, Node}
use Rattle.dd_store.specs.Graph.{top}
use Rattle.dd_store.specs.Nodes.{Nodes}
use Rattle.dd_store.specs.Order.{node_lt, ref_cmp}
use Rattle.dd_store.specs.contracts.reference.ReferenceOrd.TheImpl.Laws.{total-law}
use Rattle.dd_store.proofs.Order.{ref_lt-cmp}
use Rattle.req_table.specs.declared.Key.{Key}
use Rattle.req_table.specs.Operation.{IsRequest}
use Rattle.req_table.specs.TerminalCase.{key, ref_lt, form_of, in_order}
use Rattle.req_table.specs.Keys.{level_of}
use Rattle.req_table.proofs.TerminalCases.{AreTwoNodes, two_nodes}

less_turn : (o : Ordering) → is_lt o ≡ true → is_lt (ordering_reverse o) ≡ false
less_turn Less e = refl
less_turn Equal e = absurd (cc)
less_turn Greater e = absurd (cc)

ref_turn : (f g : Ref) → ref_lt f g ≡ true → ref_lt g f ≡ false
ref_turn f g e = ref_lt-cmp g f ∙ ap is_lt (total-law.antisymm g f) ∙ less_turn (ref_cmp f g) (sym (ref_lt-cmp f g) ∙ e)

-- operands in order stay so
pub in_order_again : (k : Key) → in_order (in_order k) ≡ in_order k
in_order_again k =
    elim (ref_lt k.g k.f) as (λ t. ref_lt k.g k.f ≡ t → in_order (cond t (key k.op k.g k.f) k) ≡ cond t (key k.op k.g k.f) k) [
      | true ↦ λ e. ap (λ t. cond t (key k.op k.f k.g) (key k.op k.g k.f)) (ref_turn k.g k.f e)
      | false ↦ λ e. ap (λ t. cond t (key k.op k.g k.f) k) e
    ] refl

-- the second of operands in order does not come before the first
IsInOrder : Key → Type 0
IsInOrder k = ref_lt k.g k.f ≡ false

in_order_is : (k : Key) → IsInOrder (in_order k)
unfolding IsInOrder
in_order_is k =
    elim (ref_lt k.g k.f) as (λ t. ref_lt k.g k.f ≡ t → ref_lt (cond t (key k.op k.g k.f) k).g (cond t (key k.op k.g k.f) k).f ≡ false) [
      | true ↦ λ e. ref_turn k.g k.f e
      | false ↦ λ e. e
    ] refl

request_in_order : (k : Key) → IsRequest k → IsInOrder k
request_in_order k i = subst IsInOrder (ap (λ n. n.0) i.ordered) (in_order_is (form_of k.op k.f k.g).0)

-- a node that another does not come before is at no greater level
level_first : (a b : NodeId) → node_lt b a ≡ false → a.level ≤ b.level
level_first a b e = grind (arith, nat_tests)

nodes_first : (l m : NodeId) (b c : Bool) → ref_lt (Node m c) (Node l b) ≡ false → node_lt m l ≡ false
nodes_first l m b c e = grind (arith, nat_tests)

top_first : (n : ℕ) (f g : Ref) → AreTwoNodes f g → ref_lt g f ≡ false → top n f ≤ top n g
top_first n False g t e = absurd t
top_first n True g t e = absurd t
top_first n (Node l b) False t e = absurd t
top_first n (Node l b) True t e = absurd t
top_first n (Node l b) (Node m c) t e = level_first l m (nodes_first l m b c e)

-- the first operand of a request is at its level
pub level_of_first : (S : Nodes) (k : Key) → IsRequest k → level_of S k ≡ top S.levels k.f
unfolding IsInOrder
level_of_first S k i = min-eq_left (top_first S.levels k.f k.g (two_nodes k.op k.f k.g i.long) (request_in_order k i))
