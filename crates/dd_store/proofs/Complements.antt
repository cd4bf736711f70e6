-- Complement bits: complementing twice changes nothing, and the complement has the complemented values.
use Rattle.std.proofs.Common.{◌≡◌, ℕ, suc, zero, Bool, true, false, not, ◌+◌, ◌%◌, List, refl, sym, ◌∙◌, ap}
pub use Rattle.std.proofs.Math.Bool.{not-not}
use Rattle.dd_store.specs.declared.reference.NodeId.{NodeId}
use Rattle.dd_store.specs.declared.reference.Ref.{Ref}
use Rattle.dd_store.specs.declared.reference.Reference.TheVariants.{False, True, Node}
use Rattle.dd_store.specs.Complements.{is_complement, negate_of, complement_by, complement_both, regular_pair, complemented}
use Rattle.dd_store.specs.Hashes.{block_of, shard_of_pair}
use Rattle.dd_store.specs.Graph.{Pair, Graph, top, IsRef, walk}
use Rattle.dd_store.specs.Nodes.{Nodes, den}

pub complemented-not : (b v : Bool) → complemented (not b) v ≡ not (complemented b v)
complemented-not true v = sym (not-not v)
complemented-not false v = refl

pub complemented-twice : (b v : Bool) → complemented b (complemented b v) ≡ v
complemented-twice true v = not-not v
complemented-twice false v = refl

-- complementing twice changes nothing
pub negate-negate : (r : Ref) → negate_of (negate_of r) ≡ r
negate-negate False = refl
negate-negate True = refl
negate-negate (Node m b) = ap (Node m) (not-not b)

pub complement_by-twice : (b : Bool) (r : Ref) → complement_by b (complement_by b r) ≡ r
complement_by-twice true r = negate-negate r
complement_by-twice false r = refl

pub complement_both-twice : (b : Bool) (p : Pair) → complement_both b (complement_both b p) ≡ p
complement_both-twice b p = let lo = complement_by-twice b p.0 in let hi = complement_by-twice b p.1 in λ i. (lo i, hi i)

-- references are equal if their complements are
pub complement_by-one : (b : Bool) (r s : Ref) → complement_by b r ≡ complement_by b s → r ≡ s
complement_by-one b r s e = sym (complement_by-twice b r) ∙ ap (complement_by b) e ∙ complement_by-twice b s

pub is_complement-negate : (r : Ref) → is_complement (negate_of r) ≡ not (is_complement r)
is_complement-negate False = refl
is_complement-negate True = refl
is_complement-negate (Node m b) = refl

-- a reference without its own complement bit has none
pub regular-complement_by : (r : Ref) → is_complement (complement_by (is_complement r) r) ≡ false
regular-complement_by False = refl
regular-complement_by True = refl
regular-complement_by (Node m true) = refl
regular-complement_by (Node m false) = refl

pub regular_pair-regular : (lo hi : Ref) → is_complement (regular_pair lo hi).1 ≡ false
regular_pair-regular lo hi = regular-complement_by hi

-- a pair whose second has no complement bit is as nodes have it
pub regular_pair-same : (lo hi : Ref) → is_complement hi ≡ false → regular_pair lo hi ≡ (lo, hi)
regular_pair-same lo hi regular = ap (λ b. complement_both b (lo, hi)) regular

-- a pair and the pair of the complements have the same form in nodes
pub regular_pair-complemented : (b : Bool) (p : Pair) → regular_pair (complement_by b p.0) (complement_by b p.1) ≡ regular_pair p.0 p.1
regular_pair-complemented false p = refl
regular_pair-complemented true p = ap (λ c. complement_both c (complement_both true p)) (is_complement-negate p.1) ∙ again (is_complement p.1)
  where
    again : (c : Bool) → complement_both (not c) (complement_both true p) ≡ complement_both c p
    again true = refl
    again false = complement_both-twice true p

-- a pair and the pair as nodes have it belong to one shard
pub shard_of_regular : (lo hi : Ref) → shard_of_pair (regular_pair lo hi).0 (regular_pair lo hi).1 ≡ shard_of_pair lo hi
shard_of_regular lo hi =
    ap (λ (p : Pair). (block_of p.0 + block_of p.1) % 16) (regular_pair-same (regular_pair lo hi).0 (regular_pair lo hi).1 (regular_pair-regular lo hi))

pub shard_of_complemented : (b : Bool) (p : Pair) → shard_of_pair (complement_by b p.0) (complement_by b p.1) ≡ shard_of_pair p.0 p.1
shard_of_complemented b p = ap (λ (q : Pair). (block_of q.0 + block_of q.1) % 16) (regular_pair-complemented b p)

-- the complement of a node's reference, by its complement bit
pub complement_by-node : (b : Bool) (m : NodeId) → complement_by b (Node m false) ≡ Node m b
complement_by-node true m = refl
complement_by-node false m = refl

-- complementing changes neither the level nor whether the reference is in the graph
pub top-complement_by : (n : ℕ) (b : Bool) (r : Ref) → top n (complement_by b r) ≡ top n r
top-complement_by n false r = refl
top-complement_by n true False = refl
top-complement_by n true True = refl
top-complement_by n true (Node m c) = refl

pub IsRef-complement_by : (g : Graph) (b : Bool) (r : Ref) → IsRef g r → IsRef g (complement_by b r)
IsRef-complement_by g false r i = i
IsRef-complement_by g true False i = tt
IsRef-complement_by g true True i = tt
IsRef-complement_by g true (Node m c) i = i

-- complementing changes the value
pub walk-negate : (k : ℕ) (g : Graph) (r : Ref) (x : List Bool) → walk k g (negate_of r) x ≡ not (walk k g r x)
unfolding walk
walk-negate zero g False x = refl
walk-negate zero g True x = refl
walk-negate zero g (Node m b) x = refl
walk-negate (suc k) g False x = refl
walk-negate (suc k) g True x = refl
walk-negate (suc k) g (Node m b) x = complemented-not b _

pub walk-complement_by : (k : ℕ) (g : Graph) (b : Bool) (r : Ref) (x : List Bool) → walk k g (complement_by b r) x ≡ complemented b (walk k g r x)
walk-complement_by k g true r x = walk-negate k g r x
walk-complement_by k g false r x = refl

pub den-negate : (S : Nodes) (r : Ref) (x : List Bool) → den S (negate_of r) x ≡ not (den S r x)
den-negate S r x = walk-negate S.levels _ r x

pub den-complement_by : (S : Nodes) (b : Bool) (r : Ref) (x : List Bool) → den S (complement_by b r) x ≡ complemented b (den S r x)
den-complement_by S b r x = walk-complement_by S.levels _ b r x
