-- All nodes of a store in one list, each once, as references without complement bit.
use Rattle.std.proofs.Common.{◌≡◌, ◌∙◌, ℕ, false, zero, suc, ◌+◌, ◌-◌, ◌*◌, ◌/◌, ◌%◌, ◌<◌, ◌≤◌, ◌⊎◌, inl, inr, List, [], ◌∷◌, ◌++◌, length, get_or, slice_get, Some, refl, sym, ap, subst, arith, length-append}
use Rattle.std.specs.List.{sum_by}
use Rattle.std.specs.Option.{option_map}
use Rattle.std.proofs.lemmas.List.Sums.{sum_by-cons}
use Rattle.dd_store.specs.declared.reference.NodeId.{NodeId}
use Rattle.dd_store.specs.declared.reference.Ref.{Ref}
use Rattle.dd_store.specs.declared.reference.Reference.TheVariants.{False, True, Node}
use Rattle.dd_store.specs.Graph.{Pair}
use Rattle.dd_store.specs.Complements.{is_complement, complement_both}
use Rattle.dd_store.specs.Nodes.{Nodes, node as node_at}
use Rattle.dd_store.specs.Parts.Part.{node}
use Rattle.dd_store.specs.View.{Has, part, part_of}
use Rattle.dd_store.proofs.Places.{none_some}
use Rattle.dd_store.proofs.Storing.{node_in_shard, node_from_shard}
use Rattle.check_report.proofs.Pigeons.{Among, Distinct, among_left, among_right, among_parts, distinct_parts}

-- the reference, without complement bit, of the node at a place of a shard; the shards of all levels are numbered in
-- one sequence
abbrev pub named : ℕ → ℕ → Ref
named i j = Node (record { level = i / 16; shard = i % 16; index = j }) false

abbrev pub shard_refs : ℕ → ℕ → List Pair → List Ref
shard_refs i j [] = []
shard_refs i j (p ∷ ps) = named i j ∷ shard_refs i (suc j) ps

abbrev pub all_refs : ℕ → List (List Pair) → List Ref
all_refs i [] = []
all_refs i (ps ∷ pss) = shard_refs i 0 ps ++ all_refs (suc i) pss

index_of : Ref → ℕ
index_of False = 0
index_of True = 0
index_of (Node m b) = m.index

place_of : Ref → ℕ
place_of False = 0
place_of True = 0
place_of (Node m b) = 16 * m.level + m.shard

length-shard_refs : (i j : ℕ) (ps : List Pair) → length (shard_refs i j ps) ≡ length ps
length-shard_refs i j [] = refl
length-shard_refs i j (p ∷ ps) = ap (λ n. suc n) (length-shard_refs i (suc j) ps)

pub length-all_refs : (i : ℕ) (pss : List (List Pair)) → length (all_refs i pss) ≡ sum_by (λ (ps : List Pair). length ps) pss
length-all_refs i [] = refl
length-all_refs i (ps ∷ pss) =
    let e = length-append (shard_refs i 0 ps) (all_refs (suc i) pss) in
    let f = length-shard_refs i 0 ps in
    let g = length-all_refs (suc i) pss in
    let h : sum_by (λ (qs : List Pair). length qs) (ps ∷ pss) ≡ length ps + sum_by (λ (qs : List Pair). length qs) pss = sum_by-cons (λ (qs : List Pair). length qs) ps pss in
    e ∙ (let z : length (shard_refs i 0 ps) + length (all_refs (suc i) pss) ≡ length ps + sum_by (λ (qs : List Pair). length qs) pss = omega arith in z) ∙ sym h

in_shard : (i j : ℕ) (ps : List Pair) (r : Ref) → Among r (shard_refs i j ps) → (k : ℕ) × (r ≡ named i (j + k)) × (k < length ps)
in_shard i j [] r a = absurd a
in_shard i j (p ∷ ps) r (inl e) = (0, e ∙ ap (named i) (let z : j ≡ j + 0 = omega arith in z), omega arith)
in_shard i j (p ∷ ps) r (inr a) =
    let w = in_shard i (suc j) ps r a in
    let lt : w.0 < length ps = w.2 in
    (w.0 + 1, w.1 ∙ ap (named i) (let z : suc j + w.0 ≡ j + (w.0 + 1) = omega arith in z), omega arith)

-- the place of a node among the shards from i on
IsNamed : ℕ → List (List Pair) → Ref → Type 0
IsNamed i pss r = (a : ℕ) × (k : ℕ) × (i ≤ a) × (r ≡ named a k) × (k < length (get_or pss (a - i) []))

in_first : (i : ℕ) (ps : List Pair) (pss : List (List Pair)) (r : Ref) → (k : ℕ) × (r ≡ named i (0 + k)) × (k < length ps) → IsNamed i (ps ∷ pss) r
unfolding IsNamed
in_first i ps pss r w =
    let none : 0 ≡ i - i = omega arith in
    let at : w.0 < length (get_or (ps ∷ pss) (i - i) []) = subst (λ n. w.0 < length (get_or (ps ∷ pss) n [])) none w.2 in
    (i, w.0, omega arith, w.1 ∙ ap (named i) (let z : 0 + w.0 ≡ w.0 = omega arith in z), at)

in_rest : (i : ℕ) (ps : List Pair) (pss : List (List Pair)) (r : Ref) → IsNamed (suc i) pss r → IsNamed i (ps ∷ pss) r
unfolding IsNamed
in_rest i ps pss r w =
    let le : suc i ≤ w.0 = w.2 in
    let next : suc (w.0 - suc i) ≡ w.0 - i = omega arith in
    let at : w.1 < length (get_or (ps ∷ pss) (w.0 - i) []) = subst (λ n. w.1 < length (get_or (ps ∷ pss) n [])) next w.4 in
    (w.0, w.1, omega arith, w.3, at)

in_either : (i : ℕ) (ps : List Pair) (pss : List (List Pair)) (r : Ref) → (Among r (all_refs (suc i) pss) → IsNamed (suc i) pss r) → Among r (shard_refs i 0 ps) ⊎ Among r (all_refs (suc i) pss) → IsNamed i (ps ∷ pss) r
in_either i ps pss r behind (inl a) = in_first i ps pss r (in_shard i 0 ps r a)
in_either i ps pss r behind (inr a) = in_rest i ps pss r (behind a)

in_all : (i : ℕ) (pss : List (List Pair)) (r : Ref) → Among r (all_refs i pss) → IsNamed i pss r
in_all i [] r m = absurd m
in_all i (ps ∷ pss) r m = in_either i ps pss r (in_all (suc i) pss r) (among_parts r (shard_refs i 0 ps) (all_refs (suc i) pss) m)

distinct_shard : (i j : ℕ) (ps : List Pair) → Distinct (shard_refs i j ps)
unfolding index_of
distinct_shard i j [] = tt
distinct_shard i j (p ∷ ps) =
    (λ a. let w = in_shard i (suc j) ps (named i j) a in let e : j ≡ suc j + w.0 = ap index_of w.1 in absurd (omega arith), distinct_shard i (suc j) ps)

pub distinct_all : (i : ℕ) (pss : List (List Pair)) → Distinct (all_refs i pss)
unfolding place_of IsNamed
distinct_all i [] = tt
distinct_all i (ps ∷ pss) =
    distinct_parts (shard_refs i 0 ps) (all_refs (suc i) pss) (distinct_shard i 0 ps) (distinct_all (suc i) pss)
    (λ r a b.
    let v = in_shard i 0 ps r a in
    let w = in_all (suc i) pss r b in
    let e : 16 * (i / 16) + i % 16 ≡ 16 * (w.0 / 16) + w.0 % 16 = ap place_of (sym v.1 ∙ w.3) in
    let le : suc i ≤ w.0 = w.2 in
    absurd (omega arith))

shard_has : (i j : ℕ) (ps : List Pair) (k : ℕ) (p : Pair) → slice_get ps k ≡ Some p → Among (named i (j + k)) (shard_refs i j ps)
shard_has i j [] k p e = absurd (none_some p e)
shard_has i j (q ∷ ps) zero p e = inl (ap (named i) (let z : j + 0 ≡ j = omega arith in z))
shard_has i j (q ∷ ps) (suc k) p e =
    inr (subst (λ n. Among (named i n) (shard_refs i (suc j) ps)) (let z : suc j + k ≡ j + suc k = omega arith in z) (shard_has i (suc j) ps k p e))

all_have : (i : ℕ) (pss : List (List Pair)) (a k : ℕ) (p : Pair) → slice_get (get_or pss a []) k ≡ Some p → Among (named (i + a) k) (all_refs i pss)
all_have i [] a k p e = absurd (none_some p e)
all_have i (ps ∷ pss) zero k p e =
    among_left (named (i + 0) k) (shard_refs i 0 ps) (all_refs (suc i) pss)
    (subst (λ n. Among (named n k) (shard_refs i 0 ps)) (let z : i ≡ i + 0 = omega arith in z)
    (subst (λ n. Among (named i n) (shard_refs i 0 ps)) (let z : 0 + k ≡ k = omega arith in z) (shard_has i 0 ps k p e)))
all_have i (ps ∷ pss) (suc a) k p e =
    among_right (named (i + suc a) k) (shard_refs i 0 ps) (all_refs (suc i) pss)
    (subst (λ n. Among (named n k) (all_refs (suc i) pss)) (let z : suc i + a ≡ i + suc a = omega arith in z) (all_have (suc i) pss a k p e))

-- the list of all nodes of a store
abbrev pub refs_of : Nodes → List Ref
refs_of S = all_refs 0 S.shards

-- each node is in the list
pub has_each : (S : Nodes) (m : NodeId) (p : Pair) → node_at S m ≡ Some p → Among (Node m false) (refs_of S)
has_each S m p e =
    let h = node_in_shard S m p e in
    let small : m.shard < 16 = h.0 in
    let i : ℕ = 16 * m.level + m.shard in
    let level : (16 * m.level + m.shard) / 16 ≡ m.level = omega arith in
    let shard : (16 * m.level + m.shard) % 16 ≡ m.shard = omega arith in
    let zero_more : 0 + (16 * m.level + m.shard) ≡ 16 * m.level + m.shard = omega arith in
    let among : Among (named (16 * m.level + m.shard) m.index) (refs_of S) =
    subst (λ n. Among (named n m.index) (refs_of S)) zero_more (all_have 0 S.shards (16 * m.level + m.shard) m.index p h.1) in
    subst (λ n. Among (Node (record { level = m.level; shard = n; index = m.index }) false) (refs_of S)) shard
    (subst (λ n. Among (Node (record { level = n; shard = (16 * m.level + m.shard) % 16; index = m.index }) false) (refs_of S)) level among)

at_lt : (ps : List Pair) (k : ℕ) → k < length ps → (p : Pair) × (slice_get ps k ≡ Some p)
at_lt [] k lt = absurd (omega arith)
at_lt (p ∷ ps) zero lt = (p, refl)
at_lt (p ∷ ps) (suc k) lt = at_lt ps k (omega arith)

-- and nothing else is
pub is_node : (S : Nodes) (r : Ref) → Among r (refs_of S) → (v : ℕ) × (lo : Ref) × (hi : Ref) × Has S r × (part S r ≡ node v lo hi) × (is_complement r ≡ false)
unfolding IsNamed
is_node S r a =
    let w = in_all 0 S.shards r a in
    let i : ℕ = w.0 in
    let k : ℕ = w.1 in
    let q = at_lt (get_or S.shards (w.0 - 0) []) w.1 w.4 in
    let m : NodeId = record { level = w.0 / 16; shard = w.0 % 16; index = w.1 } in
    let same : w.0 - 0 ≡ 16 * (w.0 / 16) + w.0 % 16 = omega arith in
    let small : w.0 % 16 < 16 = omega arith in
    let at : slice_get (get_or S.shards (16 * (w.0 / 16) + w.0 % 16) []) w.1 ≡ Some q.0 = subst (λ n. slice_get (get_or S.shards n []) w.1 ≡ Some q.0) same q.1 in
    let e : node_at S m ≡ Some q.0 = node_from_shard S m q.0 small at in
    subst (λ (x : Ref). (v : ℕ) × (lo : Ref) × (hi : Ref) × Has S x × (part S x ≡ node v lo hi) × (is_complement x ≡ false)) (sym w.3) (m.level, q.0.0, q.0.1, (q.0, e), ap (λ z. part_of m (option_map (complement_both false) z)) e, refl)
