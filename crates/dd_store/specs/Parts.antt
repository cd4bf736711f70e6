-- A reduced ordered store of decision diagrams, seen only through its references.
use Rattle.std.specs.Prelude.{◌≡◌, ◌≢◌, ℕ, ◌<◌, ◌==◌, Bool, cond, List, ◌∷◌, ◌++◌}
use Rattle.std.proofs.Common.{length}

-- what a reference refers to: a terminal with its value, or a node with its level, low and high
pub data Part (R : Type 0) : Type 0 where
  leaf : Bool → Part R
  node : ℕ → R → R → Part R

-- the level of what a reference refers to; that of a terminal is n
abbrev pub top_of : {R : Type 0} → ℕ → Part R → ℕ
top_of n (leaf b) = n
top_of n (node v lo hi) = v

-- the cofactor of a reference for the bit b at level v, by what it refers to
abbrev pub step_of : {R : Type 0} → ℕ → R → Bool → Part R → R
step_of v r b (leaf c) = r
step_of v r b (node u lo hi) = cond (u == v) (cond b hi lo) r

-- n levels; Has: the references of the store
pub record AreParts {R : Type 0} (n : ℕ) (part : R → Part R) (Has : R → Type 0) : Type 0 where
  pub level : (r : R) (v : ℕ) (lo hi : R) → Has r → part r ≡ node v lo hi → v < n
  pub low : (r : R) (v : ℕ) (lo hi : R) → Has r → part r ≡ node v lo hi → Has lo × (v < top_of n (part lo))
  pub high : (r : R) (v : ℕ) (lo hi : R) → Has r → part r ≡ node v lo hi → Has hi × (v < top_of n (part hi))
  pub proper : (r : R) (v : ℕ) (lo hi : R) → Has r → part r ≡ node v lo hi → lo ≢ hi
  pub unique : (a b : R) → Has a → Has b → part a ≡ part b → a ≡ b

-- den is what references denote
pub record IsDenotation {R : Type 0} (n : ℕ) (part : R → Part R) (Has : R → Type 0) (den : R → List Bool → Bool) : Type 0 where
  pub at_leaf : (r : R) (b : Bool) → Has r → part r ≡ leaf b → (x : List Bool) → length x ≡ n → den r x ≡ b
  pub at_node : (r : R) (v : ℕ) (lo hi : R) → Has r → part r ≡ node v lo hi →
      (q : List Bool) (b : Bool) (x : List Bool) → length q ≡ v → length (q ++ b ∷ x) ≡ n →
      den r (q ++ b ∷ x) ≡ den (cond b hi lo) (q ++ b ∷ x)

-- the references on all ways down from r
pub data IsReachable {R : Type 0} (part : R → Part R) (r : R) : R → Type 0 where
  here : IsReachable part r r
  at_low : {m lo hi : R} {v : ℕ} → IsReachable part r m → part m ≡ node v lo hi → IsReachable part r lo
  at_high : {m lo hi : R} {v : ℕ} → IsReachable part r m → part m ≡ node v lo hi → IsReachable part r hi
