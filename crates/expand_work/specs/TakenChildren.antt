-- Children of requests, taken by a sink one after the other.
use Rattle.std.specs.Prelude.{◌≡◌, true, false, List, [], ◌∷◌}
use Rattle.dd_store.specs.Nodes.{Nodes}
use Rattle.req_table.specs.declared.Child.{Child}
use Rattle.req_table.specs.declared.Key.{Key}
use Rattle.req_table.specs.declared.packed_child.PackedChild.{PackedChild}
use Rattle.req_table.specs.Keys.{child_of}

-- From a to b the sink has taken the two children of each request, the low one before the high one, and these pairs are
-- what it returned for them.
abbrev pub AreTaken : {A : Type 0} → (A → Child → PackedChild → A → Type 0) → Nodes → A → List Key → List (PackedChild × PackedChild) → A → Type 0
AreTaken takes S a [] [] b = b ≡ a
AreTaken takes S a [] (d ∷ ds) b = ⊥
AreTaken takes S a (k ∷ ks) [] b = ⊥
AreTaken {A} takes S a (k ∷ ks) (d ∷ ds) b =
    (m : A) × (n : A) × takes a (child_of S k false) d.0 m × takes m (child_of S k true) d.1 n × AreTaken takes S n ks ds b
