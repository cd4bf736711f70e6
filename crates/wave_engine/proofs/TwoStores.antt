-- Entries reach as many requests in each store: requests of two stores with the same functions come in pairs.
use Rattle.std.proofs.Common.{◌≡◌, ◌∙◌, ℕ, zero, suc, ◌+◌, ◌<◌, ◌≤◌, ◌⊎◌, inl, inr, Bool, true, false, not, cond, min, List, [], ◌∷◌, ◌++◌, length, set, slice_get, Option, Some, None, refl, sym, ap, subst, arith, Contains, true≢false}
use Rattle.std.specs.Option.{option_map}
use Rattle.std.proofs.lemmas.Bool.{cases_lt}
use Rattle.std.proofs.lemmas.Bool.Decides.{nat_tests}
use Rattle.std.proofs.lemmas.List.{length-set, get_or-set_same, length-append}
use Rattle.std.proofs.lemmas.Option.{slice_get-get_or, slice_get_within}
use Rattle.slot_table.specs.Lists.{IsOnce}
use Rattle.dd_store.specs.declared.reference.Ref.{Ref}
use Rattle.dd_store.specs.declared.reference.Reference.TheVariants.{False, True, Node}
use Rattle.dd_store.specs.declared.reference.NodeId.{NodeId}
use Rattle.dd_store.specs.Functions.{DependsOn}
use Rattle.dd_store.specs.Graph.{bit, IsReduced, walk, Pair}
use Rattle.dd_store.specs.Nodes.{Nodes, IsSound, den, cofactor_of, node as node_at}
use Rattle.dd_store.specs.View.{Has, top, part, part_of}
use Rattle.dd_store.specs.Complements.{is_complement, negate_of, complement_by, complement_both, complemented}
use Rattle.std.specs.declared.cmp.Ordering.{Ordering}
use Rattle.std.specs.declared.cmp.Ordering.TheVariants.{Less, Equal, Greater}
use Rattle.std.specs.Ordering.{ordering_reverse, is_lt}
use Rattle.dd_store.specs.Order.{ref_lt, node_eq, ref_cmp}
use Rattle.dd_store.specs.contracts.reference.ReferenceOrd.TheImpl.Laws.{total-law}
use Rattle.dd_store.proofs.Order.{ref_lt-cmp}
use Rattle.dd_store.proofs.Canonical.{one_complement_bit, walk-set, same_ref}
use Rattle.dd_store.proofs.Complements.{den-negate}
use Rattle.dd_store.proofs.Laws.{den-false, den-true, den-cofactor, cofactor_ref}
use Rattle.dd_store.proofs.References.{seam, longer, reads}
use Rattle.dd_store.proofs.Storing.{children-of}
use Rattle.dd_store.proofs.View.{parts, denotes, one_diagram, has-negate}
use Rattle.req_table.specs.declared.Op.{Op}
use Rattle.req_table.specs.declared.Op.TheVariants.{And, Or, Xor, Nand, Nor, Xnor}
use Rattle.req_table.specs.declared.Operation.{Operation}
use Rattle.req_table.specs.declared.Key.{Key}
use Rattle.req_table.specs.declared.Child.TheVariants.{Ask}
use Rattle.req_table.specs.TerminalCase.{key, regular_of, form_of, in_order, normal_of, terminal_and, terminal_xor, terminal_of}
use Rattle.req_table.specs.Keys.{IsKey, level_of, child_of, answer_of, wave_of}
use Rattle.req_table.specs.Reached.{IsReached, root as root_of, child as child_from}
use Rattle.req_table.proofs.TerminalCases.{AreTwoNodes, two_nodes, a_node, node_same}
use Rattle.req_table.proofs.Waved.{is_key, bounded, held, unread}
use Rattle.reduce_up.specs.Waves.{Entry, requests_of}
use Rattle.reduce_up.proofs.Noting.{head_in, tail_in}
use Rattle.reduce_up.proofs.Rooted.{of_entry, to_request}
use Rattle.wave_engine.specs.Bounds.{AreAtMost, AreMoreThan}

-- ---- references of one function in two stores
-- f denotes in S what g denotes in T
abbrev pub IsSame : Nodes → Nodes → Ref → Ref → Type 0
IsSame S T f g = Has S f × Has T g × ((x : List Bool) → length x ≡ S.levels → den S f x ≡ den T g x)

turned : (S T : Nodes) → T.levels ≡ S.levels → (f g : Ref) → IsSame S T f g → IsSame T S g f
turned S T L f g s = (s.1, s.0, λ x hx. sym (s.2 x (hx ∙ L)))

regular_node : (a : NodeId) (b : Bool) → regular_of (Node a b) ≡ Node a false
regular_node a true = refl
regular_node a false = refl

node_itself : (a : NodeId) → node_eq a a ≡ true
node_itself a = grind (arith, nat_tests)

one_name : (a c : NodeId) → ◌≡◌ {A = Ref} (Node a false) (Node c false) → a ≡ c
one_name a c e = cc

-- two nodes have different names
names_apart : (f g : Ref) → AreTwoNodes f g → regular_of f ≡ regular_of g → ⊥
names_apart False g h e = h
names_apart True g h e = h
names_apart (Node a b) False h e = h
names_apart (Node a b) True h e = h
names_apart (Node a b) (Node c d) h e =
    let s : a ≡ c = one_name a c (sym (regular_node a b) ∙ e ∙ regular_node c d) in
    true≢false (sym (node_itself a) ∙ ap (node_eq a) s ∙ h)

-- nodes with different names are two
are_two : (a c : NodeId) (b d : Bool) → (regular_of (Node a b) ≡ regular_of (Node c d) → ⊥) → AreTwoNodes (Node a b) (Node c d)
are_two a c b d apart = by (node_eq a c) refl
  where
    by : (t : Bool) → node_eq a c ≡ t → node_eq a c ≡ false
    by true e = absurd (apart (regular_node a b ∙ ap (λ z. Node z false) (node_same a c e) ∙ sym (regular_node c d)))
    by false e = e

two_turned : (f g : Ref) → AreTwoNodes f g → AreTwoNodes g f
two_turned False g h = absurd h
two_turned True g h = absurd h
two_turned (Node a b) False h = absurd h
two_turned (Node a b) True h = absurd h
two_turned (Node a b) (Node c d) h = are_two c a d b (λ e. names_apart (Node a b) (Node c d) h (sym e))

-- two nodes have no terminal case
and_none : (f g : Ref) → AreTwoNodes f g → terminal_and f g ≡ None
and_none False g h = absurd h
and_none True g h = absurd h
and_none (Node a b) False h = absurd h
and_none (Node a b) True h = absurd h
and_none (Node a b) (Node c d) h = rw h refl

xor_none : (f g : Ref) → AreTwoNodes f g → terminal_xor f g ≡ None
xor_none False g h = absurd h
xor_none True g h = absurd h
xor_none (Node a b) False h = absurd h
xor_none (Node a b) True h = absurd h
xor_none (Node a b) (Node c d) h = rw h refl

two_by : (m n : Bool) (f g : Ref) → AreTwoNodes f g → AreTwoNodes (complement_by m f) (complement_by n g)
two_by m n False g h = absurd h
two_by m n True g h = absurd h
two_by m n (Node a b) False h = absurd h
two_by m n (Node a b) True h = absurd h
two_by true true (Node a b) (Node c d) h = h
two_by true false (Node a b) (Node c d) h = h
two_by false true (Node a b) (Node c d) h = h
two_by false false (Node a b) (Node c d) h = h

long : (op : Op) (f g : Ref) → AreTwoNodes f g → terminal_of op f g ≡ None
long And f g h = ap (option_map (complement_by false)) (and_none f g h)
long Or f g h = ap (option_map (complement_by true)) (and_none (negate_of f) (negate_of g) (two_by true true f g h))
long Xor f g h = ap (option_map (complement_by (complemented (is_complement f) (is_complement g)))) (xor_none (regular_of f) (regular_of g) (two_by (is_complement f) (is_complement g) f g h))
long Nand f g h = ap (option_map (complement_by true)) (and_none f g h)
long Nor f g h = ap (option_map (complement_by false)) (and_none (negate_of f) (negate_of g) (two_by true true f g h))
long Xnor f g h = ap (option_map (complement_by (not (complemented (is_complement f) (is_complement g))))) (xor_none (regular_of f) (regular_of g) (two_by (is_complement f) (is_complement g) f g h))

-- ---- operands in order
less_turn : (o : Ordering) → is_lt o ≡ true → is_lt (ordering_reverse o) ≡ false
less_turn Less e = refl
less_turn Equal e = absurd (cc)
less_turn Greater e = absurd (cc)

ref_turn : (f g : Ref) → ref_lt f g ≡ true → ref_lt g f ≡ false
ref_turn f g e = ref_lt-cmp g f ∙ ap is_lt (total-law.antisymm g f) ∙ less_turn (ref_cmp f g) (sym (ref_lt-cmp f g) ∙ e)

now_ordered : (k : Key) → ref_lt (in_order k).g (in_order k).f ≡ false
now_ordered k =
    elim (ref_lt k.g k.f) as (λ t. ref_lt k.g k.f ≡ t → ref_lt (cond t (key k.op k.g k.f) k).g (cond t (key k.op k.g k.f) k).f ≡ false) [
      | true ↦ λ e. ref_turn k.g k.f e
      | false ↦ λ e. e
    ] refl

key_ordered : (S : Nodes) (k : Key) → IsKey S k → ref_lt k.g k.f ≡ false
key_ordered S k i = subst (λ (x : Key). ref_lt x.g x.f ≡ false) (ap (λ (n : Operation × Bool). n.0) i.ordered) (now_ordered (form_of k.op k.f k.g).0)

one_comes_first : (a c : NodeId) (b d : Bool) → node_eq a c ≡ false → ref_lt (Node c d) (Node a b) ≡ false → ref_lt (Node a b) (Node c d) ≡ false → ⊥
one_comes_first a c b d e f g = grind (arith, nat_tests)

-- of two nodes one comes before the other
both_ways : (f g : Ref) → AreTwoNodes f g → ref_lt g f ≡ false → ref_lt f g ≡ false → ⊥
both_ways False g h e d = h
both_ways True g h e d = h
both_ways (Node a b) False h e d = h
both_ways (Node a b) True h e d = h
both_ways (Node a b) (Node c d) h e f = one_comes_first a c b d h e f

module _ (S T : Nodes) (w : IsSound S) (z : IsSound T) (L : T.levels ≡ S.levels) where
  same_one : (f h g : Ref) → IsSame S T f g → IsSame S T h g → f ≡ h
  same_one f h g s t = one_diagram S w f h s.0 t.0 (λ x hx. s.2 x hx ∙ sym (t.2 x hx))

  one_back : (f g h : Ref) → IsSame S T f g → IsSame S T f h → g ≡ h
  one_back f g h s t = one_diagram T z g h s.1 t.1 (λ x hx. sym (s.2 x (hx ∙ L)) ∙ t.2 x (hx ∙ L))

  same_bit : (f g : Ref) → IsSame S T f g → is_complement f ≡ is_complement g
  same_bit f g s =
      one_complement_bit S.levels (node_at S) (node_at T) w.reduced (subst (λ n. IsReduced n (node_at T)) L z.reduced) f g s.0 s.1
      (λ x hx. s.2 x hx ∙ ap (λ n. walk n (node_at T) g x) L)

  same_negate : (f g : Ref) → IsSame S T f g → IsSame S T (negate_of f) (negate_of g)
  same_negate f g s = (has-negate S f s.0, has-negate T g s.1, λ x hx. den-negate S f x ∙ ap not (s.2 x hx) ∙ sym (den-negate T g x))

  same_by : (b : Bool) (f g : Ref) → IsSame S T f g → IsSame S T (complement_by b f) (complement_by b g)
  same_by true f g s = same_negate f g s
  same_by false f g s = s

  same_regular : (f g : Ref) → IsSame S T f g → IsSame S T (regular_of f) (regular_of g)
  same_regular f g s = subst (λ b. IsSame S T (regular_of f) (complement_by b g)) (same_bit f g s) (same_by (is_complement f) f g s)

  same_false : IsSame S T False False
  same_false = (tt, tt, λ x hx. den-false S x ∙ sym (den-false T x))

  same_true : IsSame S T True True
  same_true = (tt, tt, λ x hx. den-true S x ∙ sym (den-true T x))

  -- a function that is not constant is that of a node in the other store too
  a_node_too : (a : NodeId) (b : Bool) (g : Ref) → IsSame S T (Node a b) g → (c : NodeId) × (d : Bool) × (g ≡ Node c d)
  a_node_too a b False s = absurd (let e : ◌≡◌ {A = Ref} (Node a b) False = same_one (Node a b) False False s same_false in cc)
  a_node_too a b True s = absurd (let e : ◌≡◌ {A = Ref} (Node a b) True = same_one (Node a b) True True s same_true in cc)
  a_node_too a b (Node c d) s = (c, d, refl)

  two_too : (f g f' g' : Ref) → IsSame S T f f' → IsSame S T g g' → AreTwoNodes f g → AreTwoNodes f' g'
  two_too f g f' g' s t h =
      let m = a_node f g h in
      let n = a_node g f (two_turned f g h) in
      let p = a_node_too m.0 m.1 f' (subst (λ r. IsSame S T r f') m.2 s) in
      let q = a_node_too n.0 n.1 g' (subst (λ r. IsSame S T r g') n.2 t) in
      subst (λ r. AreTwoNodes r g') (sym p.2) (subst (λ r. AreTwoNodes (Node p.0 p.1) r) (sym q.2) (are_two p.0 q.0 p.1 q.1 (λ e. apart (ap regular_of p.2 ∙ e ∙ ap regular_of (sym q.2)))))
    where
      apart : regular_of f' ≡ regular_of g' → ⊥
      apart e = names_apart f g h (same_one (regular_of f) (regular_of g) (regular_of g') (subst (IsSame S T (regular_of f)) e (same_regular f f' s)) (same_regular g g' t))

  -- ---- levels and cofactors
  -- a function has no higher level in the other store
  no_higher : (a : NodeId) (b : Bool) (g : Ref) → IsSame S T (Node a b) g → top T g ≤ a.level
  no_higher a b g s = elim (cases_lt a.level (top T g)) [ inl below ↦ absurd (never below) | inr le ↦ le ]
    where
      depends : DependsOn S.levels a.level (den S (Node a b))
      depends =
          let p : Pair = complement_both b s.0.0 in
          reads Ref same_ref S.levels (part S) (Has S) (den S) (parts S w) (denotes S w) (Node a b) a.level p.0 p.1 s.0 (ap (part_of a) (children-of S a b s.0.0 s.0.1))

      never : a.level < top T g → ⊥
      never below =
          let q = depends.0 in
          let r = depends.1 in
          let hq = depends.2 in
          let hr = depends.3 in
          let short : length (q ++ false ∷ []) ≡ suc a.level = longer q false a.level hq in
          let short' : length (q ++ true ∷ []) ≡ suc a.level = longer q true a.level hq in
          let all : suc a.level + length r ≡ T.levels = omega (arith, hr, L) in
          let same : den T g ((q ++ false ∷ []) ++ r) ≡ den T g ((q ++ true ∷ []) ++ r) = unread T z (suc a.level) g s.1 (omega (arith, below)) (q ++ false ∷ []) (q ++ true ∷ []) r short short' all in
          let n0 = length-append (q ++ false ∷ []) r in
          let n1 = length-append (q ++ true ∷ []) r in
          let m0 : length ((q ++ false ∷ []) ++ r) ≡ S.levels = omega (arith, n0, short, hr) in
          let m1 : length ((q ++ true ∷ []) ++ r) ≡ S.levels = omega (arith, n1, short', hr) in
          depends.4 (
          ap (den S (Node a b)) (sym (seam q false r)) ∙ s.2 ((q ++ false ∷ []) ++ r) m0 ∙ same ∙ sym (s.2 ((q ++ true ∷ []) ++ r) m1) ∙ ap (den S (Node a b)) (seam q true r)
          )

module _ (S T : Nodes) (w : IsSound S) (z : IsSound T) (L : T.levels ≡ S.levels) where
  -- ---- pairs of operands
  -- in either order
  abbrev pub ArePaired : Ref → Ref → Ref → Ref → Type 0
  ArePaired f g f' g' = (IsSame S T f f' × IsSame S T g g') ⊎ (IsSame S T f g' × IsSame S T g f')

  paired_two : (f g f' g' : Ref) → ArePaired f g f' g' → AreTwoNodes f g → AreTwoNodes f' g'
  paired_two f g f' g' (inl p) h = two_too S T w z L f g f' g' p.0 p.1 h
  paired_two f g f' g' (inr p) h = two_turned g' f' (two_too S T w z L f g g' f' p.0 p.1 h)

  paired_by : (h : Ref → Ref) → ((f g : Ref) → IsSame S T f g → IsSame S T (h f) (h g)) → (f g f' g' : Ref) → ArePaired f g f' g' → ArePaired (h f) (h g) (h f') (h g')
  paired_by h keeps f g f' g' (inl p) = inl (keeps f f' p.0, keeps g g' p.1)
  paired_by h keeps f g f' g' (inr p) = inr (keeps f g' p.0, keeps g f' p.1)

  left_turned : (f g f' g' : Ref) → ArePaired f g f' g' → ArePaired g f f' g'
  left_turned f g f' g' (inl p) = inr (p.1, p.0)
  left_turned f g f' g' (inr p) = inl (p.1, p.0)

  right_turned : (f g f' g' : Ref) → ArePaired f g f' g' → ArePaired f g g' f'
  right_turned f g f' g' (inl p) = inr (p.0, p.1)
  right_turned f g f' g' (inr p) = inl (p.0, p.1)

  -- two requests ask for one operation on the same functions
  pub record IsMatch (k l : Key) : Type 0 where
    pub op : k.op ≡ l.op
    pub operands : ArePaired k.f k.g l.f l.g

  form_match : (op : Op) (f g f' g' : Ref) → ArePaired f g f' g' → IsMatch (form_of op f g).0 (form_of op f' g').0
  form_match And f g f' g' p = record { op = refl; operands = p }
  form_match Or f g f' g' p = record { op = refl; operands = paired_by negate_of (same_negate S T w z L) f g f' g' p }
  form_match Xor f g f' g' p = record { op = refl; operands = paired_by regular_of (same_regular S T w z L) f g f' g' p }
  form_match Nand f g f' g' p = record { op = refl; operands = p }
  form_match Nor f g f' g' p = record { op = refl; operands = paired_by negate_of (same_negate S T w z L) f g f' g' p }
  form_match Xnor f g f' g' p = record { op = refl; operands = paired_by regular_of (same_regular S T w z L) f g f' g' p }

  left_ordered : (b : Bool) (k l : Key) → IsMatch k l → IsMatch (cond b (key k.op k.g k.f) k) l
  left_ordered true k l p = record { op = p.op; operands = left_turned k.f k.g l.f l.g p.operands }
  left_ordered false k l p = p

  right_ordered : (b : Bool) (k l : Key) → IsMatch k l → IsMatch k (cond b (key l.op l.g l.f) l)
  right_ordered true k l p = record { op = p.op; operands = right_turned k.f k.g l.f l.g p.operands }
  right_ordered false k l p = p

  normal_match : (op : Op) (f g f' g' : Ref) → ArePaired f g f' g' → IsMatch (normal_of op f g).0 (normal_of op f' g').0
  normal_match op f g f' g' p =
      let k = (form_of op f g).0 in
      let l = (form_of op f' g').0 in
      left_ordered (ref_lt k.g k.f) k (in_order l) (right_ordered (ref_lt l.g l.f) k l (form_match op f g f' g' p))

  -- ---- levels and cofactors
  same_top : (a : NodeId) (b : Bool) (g : Ref) → IsSame S T (Node a b) g → a.level ≡ top T g
  same_top a b g s =
      let p = a_node_too S T w z L a b g s in
      let one : top T g ≤ a.level = no_higher S T w z L a b g s in
      let back : IsSame T S (Node p.0 p.1) (Node a b) = subst (λ r. IsSame T S r (Node a b)) p.2 (turned S T L (Node a b) g s) in
      let two : a.level ≤ p.0.level = no_higher T S z w (sym L) p.0 p.1 (Node a b) back in
      let at : top T g ≡ p.0.level = ap (top T) p.2 in
      omega (arith, one, two, at)

  top_of_first : (f g f' : Ref) → AreTwoNodes f g → IsSame S T f f' → top S f ≡ top T f'
  top_of_first f g f' h s =
      let m = a_node f g h in
      ap (top S) m.2 ∙ same_top m.0 m.1 f' (subst (λ r. IsSame S T r f') m.2 s)

  match_level : (k l : Key) → IsKey S k → IsMatch k l → level_of S k ≡ level_of T l
  match_level k l i p = by p.operands
    where
      two : AreTwoNodes k.f k.g
      two = two_nodes k.op k.f k.g i.long

      by : ArePaired k.f k.g l.f l.g → min (top S k.f) (top S k.g) ≡ min (top T l.f) (top T l.g)
      by (inl q) = let a = top_of_first k.f k.g l.f two q.0 in let b = top_of_first k.g k.f l.g (two_turned k.f k.g two) q.1 in omega (arith, a, b)
      by (inr q) = let a = top_of_first k.f k.g l.g two q.0 in let b = top_of_first k.g k.f l.f (two_turned k.f k.g two) q.1 in omega (arith, a, b)

  -- the cofactors of one function are one function
  same_cofactor : (f g : Ref) (v : ℕ) (b : Bool) → IsSame S T f g → v < S.levels → v ≤ top S f → v ≤ top T g → IsSame S T (cofactor_of S f v b) (cofactor_of T g v b)
  same_cofactor f g v b s lt le le' =
      let p = cofactor_ref S f v b w s.0 lt le in
      let q = cofactor_ref T g v b z s.1 (omega (arith, lt, L)) le' in (
        p.0,
        q.0,
        λ x hx.
            let y : List Bool = set x v b in
            let hy : length y ≡ S.levels = length-set x v b ∙ hx in
            let at : bit y v ≡ b = get_or-set_same x v b false (omega (arith, lt, hx)) in
            let one : den S f y ≡ den S (cofactor_of S f v b) y = subst (λ c. den S f y ≡ den S (cofactor_of S f v c) y) at (den-cofactor S f v y w s.0 lt) in
            let two : den T g y ≡ den T (cofactor_of T g v b) y = subst (λ c. den T g y ≡ den T (cofactor_of T g v c) y) at (den-cofactor T g v y z s.1 (omega (arith, lt, L))) in
            sym (walk-set S.levels (node_at S) w.reduced (cofactor_of S f v b) x v b p.0 p.1) ∙ sym one ∙ s.2 y hy ∙ two ∙ walk-set T.levels (node_at T) z.reduced (cofactor_of T g v b) x v b q.0 q.1,
      )

  cofactors_match : (k l : Key) → IsKey S k → IsKey T l → (p : IsMatch k l) (b : Bool) → ArePaired (cofactor_of S k.f (level_of S k) b) (cofactor_of S k.g (level_of S k) b) (cofactor_of T l.f (level_of T l) b) (cofactor_of T l.g (level_of T l) b)
  cofactors_match k l i j p b = subst (λ v. ArePaired (cofactor_of S k.f (level_of S k) b) (cofactor_of S k.g (level_of S k) b) (cofactor_of T l.f v b) (cofactor_of T l.g v b)) at (by p.operands)
    where
      at : level_of S k ≡ level_of T l
      at = match_level k l i p

      low : level_of S k < S.levels
      low = bounded S w k i

      by : ArePaired k.f k.g l.f l.g → ArePaired (cofactor_of S k.f (level_of S k) b) (cofactor_of S k.g (level_of S k) b) (cofactor_of T l.f (level_of S k) b) (cofactor_of T l.g (level_of S k) b)
      by (inl q) = inl (
        same_cofactor k.f l.f (level_of S k) b q.0 low (omega arith) (omega (arith, at)),
        same_cofactor k.g l.g (level_of S k) b q.1 low (omega arith) (omega (arith, at)),
      )
      by (inr q) = inr (
        same_cofactor k.f l.g (level_of S k) b q.0 low (omega arith) (omega (arith, at)),
        same_cofactor k.g l.f (level_of S k) b q.1 low (omega arith) (omega (arith, at)),
      )

  -- ---- requests
  asked_by : (op : Op) (f g : Ref) (l : ℕ) (c : Key) (m : Bool) (t : Option Ref) → answer_of S op f g t ≡ Ask l c m → (t ≡ None) × ((normal_of op f g).0 ≡ c)
  asked_by op f g l c m None e = (refl, cc)
  asked_by op f g l c m (Some r) e = absurd (cc)

  asks_for : (op : Op) (f g : Ref) (t : Option Ref) → t ≡ None → answer_of T op f g t ≡ Ask (level_of T (normal_of op f g).0) (normal_of op f g).0 (normal_of op f g).1
  asks_for op f g None e = refl
  asks_for op f g (Some r) e = absurd (cc)

  -- l has a child with the same functions as c
  pub record AsksToo (l : Key) (b : Bool) (c : Key) : Type 0 where
    pub level : ℕ
    pub other : Key
    pub complement : Bool
    pub asks : child_of T l b ≡ Ask level other complement
    pub same : IsMatch c other

  -- what a request has as a child, its partner has too
  match_child : (k l : Key) → IsKey S k → IsKey T l → IsMatch k l → (b : Bool) (v : ℕ) (c : Key) (m : Bool) → child_of S k b ≡ Ask v c m → AsksToo l b c
  match_child k l i j p b v c m e = record {
    level = level_of T (normal_of l.op f' g').0;
    other = (normal_of l.op f' g').0;
    complement = (normal_of l.op f' g').1;
    asks = asks_for l.op f' g' (terminal_of l.op f' g') (long l.op f' g' (paired_two f g f' g' q (two_nodes k.op f g a.0)));
    same = subst (λ x. IsMatch x (normal_of l.op f' g').0) a.1 (subst (λ o. IsMatch (normal_of o f g).0 (normal_of l.op f' g').0) (sym p.op) (normal_match l.op f g f' g' q));
  }
    where
      f : Ref
      f = cofactor_of S k.f (level_of S k) b

      g : Ref
      g = cofactor_of S k.g (level_of S k) b

      f' : Ref
      f' = cofactor_of T l.f (level_of T l) b

      g' : Ref
      g' = cofactor_of T l.g (level_of T l) b

      q : ArePaired f g f' g'
      q = cofactors_match k l i j p b

      a : (terminal_of k.op f g ≡ None) × ((normal_of k.op f g).0 ≡ c)
      a = asked_by k.op f g v c m (terminal_of k.op f g) e

  -- a root of the one store has a root of the other
  pub record HasRoot (others : List Key) (k : Key) : Type 0 where
    pub other : Key
    pub among : Contains others other
    pub key_first : IsKey S k
    pub key_second : IsKey T other
    pub same : IsMatch k other

  module _ (roots others : List Key) (partner : (k : Key) → Contains roots k → HasRoot others k) where
    pub record Partner (k : Key) : Type 0 where
      pub other : Key
      pub reached : IsReached (wave_of T 1) others other
      pub key_first : IsKey S k
      pub key_second : IsKey T other
      pub same : IsMatch k other

    -- each request that is reached in the one store has a partner in the other
    reached_partner : (k : Key) → IsReached (wave_of S 1) roots k → Partner k
    reached_partner k (root_of c) = let p = partner k c in record { other = p.other; reached = root_of p.among; key_first = p.key_first; key_second = p.key_second; same = p.same }
    reached_partner k (child_from {x = above} b v m r asks) =
        let p = reached_partner above r in
        let c = match_child above p.other p.key_first p.key_second p.same b v k m asks in
        record {
          other = c.other;
          reached = child_from b c.level c.complement p.reached c.asks;
          key_first = held S w above k b v m p.key_first asks;
          key_second = held T z p.other c.other b c.level c.complement p.key_second c.asks;
          same = c.same;
        }

    others_of : (ks : List Key) → ((k : Key) → Contains ks k → IsReached (wave_of S 1) roots k) → List Key
    others_of [] f = []
    others_of (k ∷ ks) f = (reached_partner k (f k (head_in k ks))).other ∷ others_of ks (λ x c. f x (tail_in k x ks c))

    as_many : (ks : List Key) (f : (k : Key) → Contains ks k → IsReached (wave_of S 1) roots k) → length (others_of ks f) ≡ length ks
    unfolding others_of
    as_many [] f = refl
    as_many (k ∷ ks) f = ap suc (as_many ks (λ x c. f x (tail_in k x ks c)))

    -- l is the partner of the request at place i
    record IsOther (ks : List Key) (i : ℕ) (l : Key) : Type 0 where
      pub one : Key
      pub at : slice_get ks i ≡ Some one
      pub partner_of : Partner one
      pub is : partner_of.other ≡ l

    other_at : (ks : List Key) (f : (k : Key) → Contains ks k → IsReached (wave_of S 1) roots k) (i : ℕ) (l : Key) → slice_get (others_of ks f) i ≡ Some l → IsOther ks i l
    unfolding others_of
    other_at [] f i l e = absurd (let lt : i < 0 = slice_get_within [] i l e in omega (arith, lt))
    other_at (k ∷ ks) f zero l e = record { one = k; at = refl; partner_of = reached_partner k (f k (head_in k ks)); is = let d : Some (reached_partner k (f k (head_in k ks))).other ≡ Some l = e in cc }
    other_at (k ∷ ks) f (suc i) l e = let p = other_at ks (λ x c. f x (tail_in k x ks c)) i l e in record { one = p.one; at = p.at; partner_of = p.partner_of; is = p.is }

    -- two requests with the same partner are equal
    match_one : (k l m : Key) → IsKey S k → IsKey S l → IsMatch k m → IsMatch l m → k ≡ l
    match_one k l m i j p q = by p.operands q.operands
      where
        op : k.op ≡ l.op
        op = p.op ∙ sym q.op

        straight : k.f ≡ l.f → k.g ≡ l.g → k ≡ l
        straight a b = λ n. key (op n) (a n) (b n)

        crossed : k.f ≡ l.g → k.g ≡ l.f → k ≡ l
        crossed a b =
            absurd (both_ways k.f k.g (two_nodes k.op k.f k.g i.long) (key_ordered S k i)
            (subst (λ r. ref_lt k.f r ≡ false) (sym b) (subst (λ r. ref_lt r l.f ≡ false) (sym a) (key_ordered S l j))))

        by : ArePaired k.f k.g m.f m.g → ArePaired l.f l.g m.f m.g → k ≡ l
        by (inl a) (inl b) = straight (same_one S T w z L k.f l.f m.f a.0 b.0) (same_one S T w z L k.g l.g m.g a.1 b.1)
        by (inl a) (inr b) = crossed (same_one S T w z L k.f l.g m.f a.0 b.1) (same_one S T w z L k.g l.f m.g a.1 b.0)
        by (inr a) (inl b) = crossed (same_one S T w z L k.f l.g m.g a.0 b.1) (same_one S T w z L k.g l.f m.f a.1 b.0)
        by (inr a) (inr b) = straight (same_one S T w z L k.f l.f m.g a.0 b.0) (same_one S T w z L k.g l.g m.f a.1 b.1)

    -- if one store has more than n requests, the other does not have at most n
    pub more_in_both : (n : ℕ) (ks : List Key) → IsOnce ks → ((k : Key) → Contains ks k → IsReached (wave_of S 1) roots k) → n < length ks
        → ((ls : List Key) → IsOnce ls → ((l : Key) → Contains ls l → IsReached (wave_of T 1) others l) → length ls ≤ n) → ⊥
    more_in_both n ks once f more few =
        let len : length (others_of ks f) ≡ length ks = as_many ks f in
        let le : length (others_of ks f) ≤ n = few (others_of ks f) apart all_reached in
        omega (arith, len, le, more)
      where
        apart : IsOnce (others_of ks f)
        apart i j l a b =
            let p = other_at ks f i l a in
            let q = other_at ks f j l b in
            let one : p.one ≡ q.one = match_one p.one q.one l p.partner_of.key_first q.partner_of.key_first (subst (IsMatch p.one) p.is p.partner_of.same) (subst (IsMatch q.one) q.is q.partner_of.same) in
            once i j q.one (subst (λ k. slice_get ks i ≡ Some k) one p.at) q.at

        all_reached : (l : Key) → Contains (others_of ks f) l → IsReached (wave_of T 1) others l
        all_reached l c =
            let p = other_at ks f c.0 l (slice_get-get_or (others_of ks f) c.0 l c.1 ∙ ap (λ x. Some x) c.2) in
            subst (λ x. IsReached (wave_of T 1) others x) p.is p.partner_of.reached

  -- an entry asks in the one store for what another asks for in the other
  pub record AsksSame (others : List Entry) (e : Entry) : Type 0 where
    pub other : Entry
    pub among : Contains others other
    pub op : e.0 ≡ other.0
    pub first : IsSame S T e.1 other.1
    pub second : IsSame S T e.2 other.2

  -- entries for the same functions reach as many requests
  pub no_more : (n : ℕ) (entries others : List Entry) → ((e : Entry) → Contains entries e → AsksSame others e) → AreMoreThan n S entries → AreAtMost n T others → ⊥
  no_more n entries others f more few = more_in_both (requests_of entries) (requests_of others) root n more.requests more.once more.reached more.more few
    where
      of_one : (e : Entry) → AsksSame others e → terminal_of e.0 e.1 e.2 ≡ None → (k : Key) → k ≡ (normal_of e.0 e.1 e.2).0 → HasRoot (requests_of others) k
      of_one e d none k is = record {
        other = (normal_of d.other.0 d.other.1 d.other.2).0;
        among = to_request others d.other d.among long_too;
        key_first = subst (IsKey S) (sym is) (is_key S e.0 e.1 e.2 d.first.0 d.second.0 none);
        key_second = is_key T d.other.0 d.other.1 d.other.2 d.first.1 d.second.1 long_too;
        same = subst (λ x. IsMatch x (normal_of d.other.0 d.other.1 d.other.2).0) (sym is)
            (subst (λ o. IsMatch (normal_of e.0 e.1 e.2).0 (normal_of o d.other.1 d.other.2).0) d.op (normal_match e.0 e.1 e.2 d.other.1 d.other.2 (inl (d.first, d.second))));
      }
        where
          long_too : terminal_of d.other.0 d.other.1 d.other.2 ≡ None
          long_too = long d.other.0 d.other.1 d.other.2 (paired_two e.1 e.2 d.other.1 d.other.2 (inl (d.first, d.second)) (two_nodes e.0 e.1 e.2 none))

      root : (k : Key) → Contains (requests_of entries) k → HasRoot (requests_of others) k
      root k c = let e = of_entry entries k c in of_one e.0 (f e.0 e.1) e.2 k e.3
