-- Forms and terminal cases: which references they are, and that the order of the operands does not matter.
use Rattle.std.proofs.Common.{◌≡◌, Bool, true, false, cond, Option, Some, None, refl, sym, ◌∙◌, ap, subst, arith}
use Rattle.std.specs.Option.{option_map}
use Rattle.dd_store.specs.declared.reference.NodeId.{NodeId}
use Rattle.dd_store.specs.declared.reference.Ref.{Ref}
use Rattle.dd_store.specs.declared.reference.Reference.TheVariants.{False, True, Node}
use Rattle.dd_store.specs.Complements.{is_complement, negate_of, complement_by, complemented}
use Rattle.dd_store.proofs.Complements.{regular-complement_by}
use Rattle.req_table.specs.declared.Op.{Op}
use Rattle.req_table.specs.declared.Op.TheVariants.{And, Or, Xor, Nand, Nor, Xnor}
use Rattle.req_table.specs.TerminalCase.{Operation, key, node_eq, regular_of, form_of, terminal_and, terminal_xor, terminal_at, terminal_of}

-- a property holds of an answer, if there is one
abbrev pub OnAnswer : (Ref → Type 0) → Option Ref → Type 0
OnAnswer P None = Unit {0}
OnAnswer P (Some r) = P r

-- a property that holds of a reference holds of its complement
abbrev pub IsOfBoth : (Ref → Type 0) → Type 0
IsOfBoth P = (r : Ref) → P r → P (negate_of r)

pub of_complement : (P : Ref → Type 0) → IsOfBoth P → (b : Bool) (r : Ref) → P r → P (complement_by b r)
of_complement P n true r p = n r p
of_complement P n false r p = p

of_complemented : (P : Ref → Type 0) → IsOfBoth P → (b : Bool) (t : Option Ref) → OnAnswer P t → OnAnswer P (option_map (complement_by b) t)
of_complemented P n b None p = tt
of_complemented P n b (Some r) p = of_complement P n b r p

-- the operands of a form are those of the operation, or their complements
pub form_is : (P Q : Ref → Type 0) → IsOfBoth P → IsOfBoth Q → (op : Op) (f g : Ref) → P f → Q g → P (form_of op f g).0.f × Q (form_of op f g).0.g
form_is P Q m n And f g p q = (p, q)
form_is P Q m n Or f g p q = (m f p, n g q)
form_is P Q m n Xor f g p q = (of_complement P m (is_complement f) f p, of_complement Q n (is_complement g) g q)
form_is P Q m n Nand f g p q = (p, q)
form_is P Q m n Nor f g p q = (m f p, n g q)
form_is P Q m n Xnor f g p q = (of_complement P m (is_complement f) f p, of_complement Q n (is_complement g) g q)

and_is : (P : Ref → Type 0) (f g : Ref) → P False → P f → P g → OnAnswer P (terminal_and f g)
and_is P False g a p q = a
and_is P True g a p q = q
and_is P (Node x b) False a p q = a
and_is P (Node x b) True a p q = p
and_is P (Node x b) (Node y c) a p q = elim (node_eq x y) as (λ t. OnAnswer P (cond t (Some (cond (complemented b c) False (Node x b))) None)) [
  | true ↦ elim (complemented b c) as (λ t. P (cond t False (Node x b))) [ true ↦ a | false ↦ p ]
  | false ↦ tt
]

xor_is : (P : Ref → Type 0) → IsOfBoth P → (f g : Ref) → P False → P f → P g → OnAnswer P (terminal_xor f g)
xor_is P n False g a p q = q
xor_is P n True g a p q = n g q
xor_is P n (Node x b) False a p q = p
xor_is P n (Node x b) True a p q = n (Node x b) p
xor_is P n (Node x b) (Node y c) a p q = elim (node_eq x y) as (λ t. OnAnswer P (cond t (Some (cond (complemented b c) True False)) None)) [
  | true ↦ elim (complemented b c) as (λ t. P (cond t True False)) [ true ↦ n False a | false ↦ a ]
  | false ↦ tt
]

at_is : (P : Ref → Type 0) → IsOfBoth P → (op : Op) (f g : Ref) → P False → P f → P g → OnAnswer P (terminal_at (key op f g))
at_is P n And f g a p q = and_is P f g a p q
at_is P n Or f g a p q = tt
at_is P n Xor f g a p q = xor_is P n f g a p q
at_is P n Nand f g a p q = tt
at_is P n Nor f g a p q = tt
at_is P n Xnor f g a p q = tt

-- a terminal case is a terminal or an operand, or the complement of one
pub terminal_is : (P : Ref → Type 0) → IsOfBoth P → (op : Op) (f g : Ref) → P False → P f → P g → OnAnswer P (terminal_of op f g)
terminal_is P n op f g a p q =
    let k = (form_of op f g).0 in
    let h = form_is P P n n op f g p q in
    of_complemented P n (form_of op f g).1 (terminal_at k) (at_is P n k.op k.f k.g a h.0 h.1)

-- the terminal case of an operation's form, complemented if the form is, is that of the operation
pub of_form : (op : Op) (f g : Ref) {n : Operation × Bool} {t : Option Ref} → n ≡ form_of op f g → t ≡ terminal_at n.0 → option_map (complement_by n.1) t ≡ terminal_of op f g
of_form op f g {n} {t} e h = ap (λ z. option_map (complement_by n.1) z) h ∙ ap (λ (z : Operation × Bool). option_map (complement_by z.1) (terminal_at z.0)) e

pub no_form : (op : Op) (f g : Ref) {n : Operation × Bool} → n ≡ form_of op f g → None ≡ terminal_at n.0 → terminal_of op f g ≡ None
no_form op f g {n} e h = sym (of_form op f g {t = None} e h)

-- if the complemented answer is none, there is no answer
pub no_answer : (h : Ref → Ref) (t : Option Ref) → option_map h t ≡ None → t ≡ None
no_answer h None e = refl
no_answer h (Some r) e = absurd (cc)

-- ---- the operands of a request
-- two references are nodes, of different names
abbrev pub AreTwoNodes : Ref → Ref → Type 0
AreTwoNodes False g = ⊥
AreTwoNodes True g = ⊥
AreTwoNodes (Node a b) False = ⊥
AreTwoNodes (Node a b) True = ⊥
AreTwoNodes (Node a b) (Node c d) = node_eq a c ≡ false

no_cond : (t : Bool) (r : Ref) → cond t (Some r) None ≡ None → t ≡ false
no_cond true r e = absurd (cc)
no_cond false r e = refl

and_nodes : (f g : Ref) → terminal_and f g ≡ None → AreTwoNodes f g
and_nodes False g e = cc
and_nodes True g e = cc
and_nodes (Node a b) False e = cc
and_nodes (Node a b) True e = cc
and_nodes (Node a b) (Node c d) e = no_cond (node_eq a c) (cond (complemented b d) False (Node a b)) e

xor_nodes : (f g : Ref) → terminal_xor f g ≡ None → AreTwoNodes f g
xor_nodes False g e = cc
xor_nodes True g e = cc
xor_nodes (Node a b) False e = cc
xor_nodes (Node a b) True e = cc
xor_nodes (Node a b) (Node c d) e = no_cond (node_eq a c) (cond (complemented b d) True False) e

first_regular : (m : Bool) (f g : Ref) → AreTwoNodes (complement_by m f) g → AreTwoNodes f g
first_regular false f g h = h
first_regular true False g h = h
first_regular true True g h = h
first_regular true (Node a b) False h = h
first_regular true (Node a b) True h = h
first_regular true (Node a b) (Node c d) h = h

second_regular : (m : Bool) (f g : Ref) → AreTwoNodes f (complement_by m g) → AreTwoNodes f g
second_regular false f g h = h
second_regular true False g h = h
second_regular true True g h = h
second_regular true (Node a b) False h = h
second_regular true (Node a b) True h = h
second_regular true (Node a b) (Node c d) h = h

both_regular : (m n : Bool) (f g : Ref) → AreTwoNodes (complement_by m f) (complement_by n g) → AreTwoNodes f g
both_regular m n f g h = first_regular m f g (second_regular n (complement_by m f) g h)

at_nodes : (op : Op) (f g : Ref) → terminal_at (form_of op f g).0 ≡ None → AreTwoNodes f g
at_nodes And f g e = and_nodes f g e
at_nodes Or f g e = both_regular true true f g (and_nodes (negate_of f) (negate_of g) e)
at_nodes Xor f g e = both_regular (is_complement f) (is_complement g) f g (xor_nodes (regular_of f) (regular_of g) e)
at_nodes Nand f g e = and_nodes f g e
at_nodes Nor f g e = both_regular true true f g (and_nodes (negate_of f) (negate_of g) e)
at_nodes Xnor f g e = both_regular (is_complement f) (is_complement g) f g (xor_nodes (regular_of f) (regular_of g) e)

-- the operands of an operation without a terminal case are nodes of different names
pub two_nodes : (op : Op) (f g : Ref) → terminal_of op f g ≡ None → AreTwoNodes f g
two_nodes op f g e = at_nodes op f g (no_answer (complement_by (form_of op f g).1) (terminal_at (form_of op f g).0) e)

-- of two nodes the first is a node
pub a_node : (f g : Ref) → AreTwoNodes f g → (m : NodeId) × (b : Bool) × (f ≡ Node m b)
a_node False g h = absurd h
a_node True g h = absurd h
a_node (Node m b) g h = (m, b, refl)

-- ---- the order of the operands does not matter
pub node_same : (a b : NodeId) → node_eq a b ≡ true → a ≡ b
node_same a b e = grind (arith, e)

node_swap : (a b : NodeId) → node_eq a b ≡ node_eq b a
node_swap a b =
    elim (node_eq a b) as (λ t. node_eq a b ≡ t → t ≡ node_eq b a) [
      | true ↦ λ e. sym (subst (λ c. node_eq c a ≡ true) (node_same a b e) (subst (λ c. node_eq a c ≡ true) (sym (node_same a b e)) e))
      | false ↦ λ e. elim (node_eq b a) as (λ t. node_eq b a ≡ t → false ≡ t) [
        | true ↦ λ h. absurd (let s : b ≡ a = node_same b a h in let k : node_eq a a ≡ false = subst (λ c. node_eq a c ≡ false) s e in let l : node_eq a a ≡ true = subst (λ c. node_eq c a ≡ true) s h in cc)
        | false ↦ λ h. refl
      ] refl
    ] refl

turned_swap : (b c : Bool) → complemented b c ≡ complemented c b
turned_swap true true = refl
turned_swap true false = refl
turned_swap false true = refl
turned_swap false false = refl

-- of one node twice, either operand is the answer
either : (a : NodeId) (b c : Bool) → cond (complemented b c) False (Node a b) ≡ cond (complemented c b) False (Node a c)
either a true true = refl
either a true false = refl
either a false true = refl
either a false false = refl

and_swap : (f g : Ref) → terminal_and f g ≡ terminal_and g f
and_swap False False = refl
and_swap False True = refl
and_swap False (Node c d) = refl
and_swap True False = refl
and_swap True True = refl
and_swap True (Node c d) = refl
and_swap (Node a b) False = refl
and_swap (Node a b) True = refl
and_swap (Node a b) (Node c d) =
    ap (λ t. cond t (Some (cond (complemented b d) False (Node a b))) None) (node_swap a c)
    ∙ (elim (node_eq c a) as (λ t. node_eq c a ≡ t → cond t (Some (cond (complemented b d) False (Node a b))) None ≡ cond t (Some (cond (complemented d b) False (Node c d))) None) [
      | true ↦ λ e. ap (λ z. Some (cond (complemented b d) False (Node z b))) (sym (node_same c a e)) ∙ ap (λ z. Some z) (either c b d)
      | false ↦ λ e. refl
    ] refl)

xor_swap : (f g : Ref) → terminal_xor f g ≡ terminal_xor g f
xor_swap False False = refl
xor_swap False True = refl
xor_swap False (Node c d) = refl
xor_swap True False = refl
xor_swap True True = refl
xor_swap True (Node c d) = refl
xor_swap (Node a b) False = refl
xor_swap (Node a b) True = refl
xor_swap (Node a b) (Node c d) =
    ap (λ t. cond t (Some (cond (complemented b d) True False)) None) (node_swap a c)
    ∙ ap (λ u. cond (node_eq c a) (Some (cond u True False)) None) (turned_swap b d)

pub at_swap : (op : Op) (f g : Ref) → terminal_at (key op f g) ≡ terminal_at (key op g f)
at_swap And f g = and_swap f g
at_swap Or f g = refl
at_swap Xor f g = xor_swap f g
at_swap Nand f g = refl
at_swap Nor f g = refl
at_swap Xnor f g = refl

-- ---- a form is its own form, in both orders
-- an operation is And, or Xor of references without complement bits
abbrev pub IsOwn : Operation → Type 0
IsOwn k = form_of k.op k.f k.g ≡ (k, false)

regular_again : (r : Ref) → regular_of (regular_of r) ≡ regular_of r
regular_again r = ap (λ m. complement_by m (regular_of r)) (regular-complement_by r)

xor_own : (f g : Ref) → IsOwn (key Xor (regular_of f) (regular_of g))
xor_own f g =
    let p = regular_again f in let q = regular_again g in
    let m : complemented (is_complement (regular_of f)) (is_complement (regular_of g)) ≡ false = ap (λ z. complemented z (is_complement (regular_of g))) (regular-complement_by f) ∙ regular-complement_by g in
    λ i. (key Xor (p i) (q i), m i)

pub form_own : (op : Op) (f g : Ref) → IsOwn (form_of op f g).0
form_own And f g = refl
form_own Or f g = refl
form_own Xor f g = xor_own f g
form_own Nand f g = refl
form_own Nor f g = refl
form_own Xnor f g = xor_own f g

pub swap_own : (op : Op) (f g : Ref) → IsOwn (key (form_of op f g).0.op (form_of op f g).0.g (form_of op f g).0.f)
swap_own And f g = refl
swap_own Or f g = refl
swap_own Xor f g = xor_own g f
swap_own Nand f g = refl
swap_own Nor f g = refl
swap_own Xnor f g = xor_own g f

-- an own form's terminal case is the operation's
pub own_terminal : (k : Operation) → IsOwn k → terminal_at k ≡ None → terminal_of k.op k.f k.g ≡ None
own_terminal k o e = ap (λ (n : Operation × Bool). option_map (complement_by n.1) (terminal_at n.0)) o ∙ ap (λ t. option_map (complement_by false) t) e
