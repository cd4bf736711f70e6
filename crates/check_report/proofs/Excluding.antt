-- If the needed nodes are within a limit, no store of needed nodes is beyond it.
use Rattle.std.proofs.Common.{Option, ◌≡◌, ◌∙◌, ◌≢◌, ℕ, ◌<◌, ◌≤◌, ◌⊎◌, inl, inr, Bool, true, false, List, [], ◌∷◌, length, refl, sym, ap, subst, arith}
use Rattle.std.specs.Prelude.{not}
use Rattle.dd_store.specs.declared.reference.Ref.{Ref}
use Rattle.dd_store.specs.declared.reference.Reference.TheVariants.{Node}
use Rattle.dd_store.specs.Functions.{Agree, OfEither}
use Rattle.dd_store.specs.Graph.{walk, IsReduced}
use Rattle.dd_store.specs.Complements.{is_complement, complement_by, complement_both, complemented}
use Rattle.dd_store.specs.Nodes.{Nodes, den, IsSound, count_of}
use Rattle.dd_store.specs.Nodes as nodes
use Rattle.dd_store.specs.Parts.{Part}
use Rattle.dd_store.specs.Parts.Part.{node}
use Rattle.dd_store.specs.View.{part, Has}
use Rattle.dd_store.proofs.Canonical.{canonical, one_complement_bit}
use Rattle.dd_store.proofs.Complements.{not-not, complemented-twice, regular-complement_by, IsRef-complement_by, den-complement_by}
use Rattle.dd_store.proofs.Storing.{node-of}
use Rattle.dd_store.proofs.View.{of_part, part-negate, same_ref}
use Rattle.net_bench.specs.Circuit.{Circuit}
use Rattle.net_order.specs.Order.{NamingModel}
use Rattle.gate_plan.specs.Need.{IsCounted, IsLean, IsComplete, HasNode}
use Rattle.compare_built.specs.Limits.{IsNeededIn, HasAllNeeded, FitsWithin, Exceeds}
use Rattle.check_report.proofs.Pigeons.{Among, without, pigeons}
use Rattle.check_report.proofs.Numbering.{refs_of, length-all_refs, distinct_all, has_each, is_node}

-- Node x of S and node y of T are at one level and denote one function.
record Twins (n : ℕ) (S T : Nodes) (x y : Ref) : Type 0 where
  level : ℕ
  low : Ref
  high : Ref
  has : Has S x
  is_part : part S x ≡ node level low high
  low' : Ref
  high' : Ref
  has' : Has T y
  is_part' : part T y ≡ node level low' high'
  same : Agree n (den S x) (den T y)

one_ref : (n : ℕ) (S : Nodes) → IsSound S → S.levels ≡ n → (x z : Ref) → Has S x → Has S z → Agree n (den S x) (den S z) → x ≡ z
one_ref n S sound levels x z hx hz same = canonical S.levels (nodes.node S) sound.reduced x z hx hz (λ y len. same y (len ∙ levels))

-- references that denote one function have the same complement bit
complement_bit_as : (n : ℕ) (S T : Nodes) → IsSound S → IsSound T → S.levels ≡ n → T.levels ≡ n → (x y : Ref) → Has S x → Has T y → Agree n (den S x) (den T y) → is_complement x ≡ is_complement y
complement_bit_as n S T sound sound' e e' x y hx hy same =
    one_complement_bit n (nodes.node S) (nodes.node T) (subst (λ d. IsReduced d (nodes.node S)) e sound.reduced) (subst (λ d. IsReduced d (nodes.node T)) e' sound'.reduced) x y hx hy
    (λ z len. ap (λ d. walk d (nodes.node S) x z) (sym e) ∙ same z len ∙ ap (λ d. walk d (nodes.node T) y z) e')

-- a node's reference without complement bit is listed
listed : (T : Nodes) (y : Ref) (v : ℕ) (lo hi : Ref) → Has T y → part T y ≡ node v lo hi → is_complement y ≡ false → Among y (refs_of T)
listed T y v lo hi h e regular =
    let m = of_part T y v lo hi h e in
    let none : m.1 ≡ false = sym (ap is_complement m.2) ∙ regular in
    subst (λ r. Among r (refs_of T)) (ap (Node m.0) (sym none) ∙ sym m.2) (has_each T m.0 (complement_both m.1 (lo, hi)) (node-of T m.0 m.1 (lo, hi) m.4))

-- a node for a function is one for each function that agrees with it
node_as : (n : ℕ) (S : Nodes) (v : ℕ) (f g : List Bool → Bool) → Agree n f g → HasNode n (part S) (Has S) (den S) v f → HasNode n (part S) (Has S) (den S) v g
node_as n S v f g same h = record { reference = h.reference; low = h.low; high = h.high; has = h.has; is_node = h.is_node; denotes = λ z len. h.denotes z len ∙ same z len }

-- with its complement bit changed it is a node for the complement
part-complement_by : (S : Nodes) (b : Bool) (r : Ref) (v : ℕ) (lo hi : Ref) → Has S r → part S r ≡ node v lo hi → part S (complement_by b r) ≡ node v (complement_by b lo) (complement_by b hi)
part-complement_by S false r v lo hi h e = e
part-complement_by S true r v lo hi h e = part-negate S r v lo hi h e

complement_node : (n : ℕ) (S : Nodes) (b : Bool) (v : ℕ) (g : List Bool → Bool) → HasNode n (part S) (Has S) (den S) v g → HasNode n (part S) (Has S) (den S) v (λ z. complemented b (g z))
complement_node n S b v g h = record {
  reference = complement_by b h.reference;
  low = complement_by b h.low;
  high = complement_by b h.high;
  has = IsRef-complement_by (nodes.node S) b h.reference h.has;
  is_node = part-complement_by S b h.reference v h.low h.high h.has h.is_node;
  denotes = λ z len. den-complement_by S b h.reference z ∙ ap (complemented b) (h.denotes z len);
}

-- so a complete store also has a node for the complement of a counted function
either_node : (n : ℕ) (Values : (List Bool → Bool) → Type 0) (T : Nodes) → IsComplete n Values (part T) (Has T) (den T) → (v : ℕ) (g : List Bool → Bool) → OfEither (IsCounted n Values v) g →
    HasNode n (part T) (Has T) (den T) v g
either_node n Values T complete v g (inl c) = complete.present v g c
either_node n Values T complete v g (inr c) =
    node_as n T v (λ z. complemented true (not (g z))) g (λ z len. not-not (g z)) (complement_node n T true v (λ z. not (g z)) (complete.present v (λ z. not (g z)) c))

one_level : (v w : ℕ) (lo hi lo' hi' : Ref) → ◌≡◌ {A = Part Ref} (node v lo hi) (node w lo' hi') → v ≡ w
one_level v w lo hi lo' hi' e = cc

module _ (n : ℕ) (Values : (List Bool → Bool) → Type 0) (S T : Nodes) (sound : IsSound S) (sound' : IsSound T) (levels : S.levels ≡ n) (levels' : T.levels ≡ n)
    (lean : IsLean n Values (part S) (Has S) (den S)) (complete : IsComplete n Values (part T) (Has T) (den T)) where
  -- each node of S has a twin in T
  twin : (x : Ref) → Among x (refs_of S) → (y : Ref) × Among y (refs_of T) × Twins n S T x y
  twin x a =
      let k = is_node S x a in
      let h : HasNode n (part T) (Has T) (den T) k.0 (den S x) = either_node n Values T complete k.0 (den S x) (lean.counted x k.0 k.1 k.2 k.3 k.4) in
      let regular : is_complement h.reference ≡ false = complement_bit_as n T S sound' sound levels' levels h.reference x h.has k.3 h.denotes ∙ k.5 in (
        h.reference,
        listed T h.reference k.0 h.low h.high h.has h.is_node regular,
        record {
          level = k.0;
          low = k.1;
          high = k.2;
          has = k.3;
          is_part = k.4;
          low' = h.low;
          high' = h.high;
          has' = h.has;
          is_part' = h.is_node;
          same = λ z len. sym (h.denotes z len);
        },
      )

  -- and no other node of S has this twin
  own : (x z v : Ref) → Twins n S T x v → Twins n S T z v → x ≡ z
  own x z v a b = one_ref n S sound levels x z a.has b.has (λ y len. a.same y len ∙ sym (b.same y len))

  no_longer : length (refs_of S) ≤ length (refs_of T)
  no_longer = pigeons (Twins n S T) (refs_of S) (refs_of T) (distinct_all 0 S.shards) twin own

  -- a node of T is the twin of some node of the list, or each node of the list has another twin
  seek : (y : Ref) (xs : List Ref) → ((x : Ref) → Among x xs → (w : Ref) × Among w (refs_of T) × Twins n S T x w) →
      ((x : Ref) × Twins n S T x y) ⊎ ((x : Ref) → Among x xs → (w : Ref) × Among w (refs_of T) × Twins n S T x w × (w ≢ y))
  seek y [] f = inr (λ x a. absurd a)
  seek y (x ∷ xs) f = by (same_ref (f x (inl refl)).0 y) (seek y xs (λ z a. f z (inr a)))
    where
      each : ((f x (inl refl)).0 ≢ y) → ((z : Ref) → Among z xs → (w : Ref) × Among w (refs_of T) × Twins n S T z w × (w ≢ y)) →
          (z : Ref) → Among z (x ∷ xs) → (w : Ref) × Among w (refs_of T) × Twins n S T z w × (w ≢ y)
      each ne g z (inl e) =
          subst (λ u. (w : Ref) × Among w (refs_of T) × Twins n S T u w × (w ≢ y)) (sym e) ((f x (inl refl)).0, (f x (inl refl)).1, (f x (inl refl)).2, ne)
      each ne g z (inr a) = g z a

      by : Dec ((f x (inl refl)).0 ≡ y) → ((z : Ref) × Twins n S T z y) ⊎ ((z : Ref) → Among z xs → (w : Ref) × Among w (refs_of T) × Twins n S T z w × (w ≢ y)) →
          ((z : Ref) × Twins n S T z y) ⊎ ((z : Ref) → Among z (x ∷ xs) → (w : Ref) × Among w (refs_of T) × Twins n S T z w × (w ≢ y))
      by (yes e) later = inl (x, subst (λ r. Twins n S T x r) e (f x (inl refl)).2)
      by (no ne) (inl found) = inl found
      by (no ne) (inr g) = inr (each ne g)

  -- if S has as many nodes as T, it has a node for each counted function
  all_there : length (refs_of T) ≤ length (refs_of S) → IsComplete n Values (part S) (Has S) (den S)
  unfolding complement_node
  all_there le = record { present = λ v g counted. with_mark v g (complete.present v g counted) }
    where
      kept : (y : Ref) (rest : List Ref) (w : Ref) → (w ≢ y) → (w ≡ y) ⊎ Among w rest → Among w rest
      kept y rest w ne (inl e) = absurd (ne e)
      kept y rest w ne (inr a) = a

      found : (v : ℕ) (g : List Bool → Bool) (h : HasNode n (part T) (Has T) (den T) v g) → Among h.reference (refs_of T) →
          ((x : Ref) × Twins n S T x h.reference) ⊎ ((x : Ref) → Among x (refs_of S) → (w : Ref) × Among w (refs_of T) × Twins n S T x w × (w ≢ h.reference)) →
          HasNode n (part S) (Has S) (den S) v g
      found v g h here (inl (x, t)) =
          let level : t.level ≡ v = one_level t.level v t.low' t.high' h.low h.high (sym t.is_part' ∙ h.is_node) in
          record {
            reference = x;
            low = t.low;
            high = t.high;
            has = t.has;
            is_node = t.is_part ∙ ap (λ l. node l t.low t.high) level;
            denotes = λ z len. t.same z len ∙ h.denotes z len;
          }
      found v g h here (inr others) =
          let less = without h.reference (refs_of T) here in
          let fewer = less.fewer in
          let terminal_case : length (refs_of S) ≤ length less.rest =
          pigeons (Twins n S T) (refs_of S) less.rest (distinct_all 0 S.shards)
          (λ x a. let o = others x a in (o.0, kept h.reference less.rest o.0 o.3 (less.others o.0 o.1), o.2)) own in
          absurd (omega arith)

      -- from the node's reference without complement bit
      by_regular : (v : ℕ) (g : List Bool → Bool) (h : HasNode n (part T) (Has T) (den T) v g) → is_complement h.reference ≡ false → HasNode n (part S) (Has S) (den S) v g
      by_regular v g h regular = found v g h (listed T h.reference v h.low h.high h.has h.is_node regular) (seek h.reference (refs_of S) twin)

      with_mark : (v : ℕ) (g : List Bool → Bool) → HasNode n (part T) (Has T) (den T) v g → HasNode n (part S) (Has S) (den S) v g
      with_mark v g h =
          let b : Bool = is_complement h.reference in
          node_as n S v (λ z. complemented b (complemented b (g z))) g (λ z len. complemented-twice b (g z))
          (complement_node n S b v (λ z. complemented b (g z)) (by_regular v (λ z. complemented b (g z)) (complement_node n T b v g h) (regular-complement_by h.reference)))

-- the nodes that two netlists need are not both within a limit and beyond it
pub one_of_both : (limit : ℕ) (a b : Circuit) (given : Option Circuit) (p : NamingModel) → FitsWithin limit a b given p → Exceeds limit a b given p → ⊥
one_of_both limit a b given p f e = by e.over
  where
    few : count_of e.store ≤ count_of f.store
    few =
        let le = no_longer (length p.names) (IsNeededIn a b given p) e.store f.store e.sound f.sound e.levels f.levels e.lean f.complete in
        let s = length-all_refs 0 e.store.shards in
        let t = length-all_refs 0 f.store.shards in
        omega arith

    by : (limit < count_of e.store) ⊎ ((count_of e.store ≡ limit) × (HasAllNeeded a b given p e.store → ⊥)) → ⊥
    by (inl over) = let le = few in let within = f.within in omega arith
    by (inr full) =
        let within = f.within in
        let same = full.0 in
        let s = length-all_refs 0 e.store.shards in
        let t = length-all_refs 0 f.store.shards in
        full.1 (all_there (length p.names) (IsNeededIn a b given p) e.store f.store e.sound f.sound e.levels f.levels e.lean f.complete (omega arith))
