-- Diagrams by level: the level of a request, and what all levels have together.
use Rattle.std.specs.Prelude.{◌≡◌, ℕ, List, [], ◌∷◌, ◌++◌, Contains, slice_index_or}
use Rattle.dd_store.specs.declared.reference.Ref.{Ref}
use Rattle.req_table.specs.declared.Key.{Key}
use Rattle.req_table.specs.Keys.{level_at}

-- the level of a request, from its operands: that of the first node of the two, or 4096 if there is none
abbrev pub place_of : Key → ℕ
place_of k = level_at 4096 k

-- keys with the references at the same places
abbrev pub paired : List Key → List Ref → List (Key × Ref)
paired [] rs = []
paired (k ∷ ks) [] = []
paired (k ∷ ks) (r ∷ rs) = (k, r) ∷ paired ks rs

-- several lists, one after the other
abbrev pub joined : {X : Type 0} → List (List X) → List X
joined [] = []
joined (xs ∷ xss) = xs ++ joined xss

-- each key is in the list of its level
abbrev pub ArePlaced : List (List (Key × Ref)) → Type 0
ArePlaced rows = (i : ℕ) (k : Key) (r : Ref) → Contains (slice_index_or rows i []) (k, r) → place_of k ≡ i
