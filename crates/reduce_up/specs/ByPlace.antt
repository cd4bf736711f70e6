-- Expanded requests by place: each request has the children that it is split into, by place.
use Rattle.std.specs.Prelude.{◌≡◌, ℕ, ◌<◌, true, false, List, length}
use Rattle.std.specs.List.{AllZip}
use Rattle.req_table.specs.declared.Key.{Key}
use Rattle.dd_store.specs.Nodes.{Nodes}
use Rattle.req_table.specs.Keys.{IsKey, level_of, child, child_of, wave_of}
use Rattle.req_table.specs.Reached.{IsReached}
use Rattle.req_table.specs.Places.{row, IsAtPlace, IsPlaced}
use Rattle.reduce_up.specs.Waves.{Entry, requests_of}
use Rattle.req_table.specs.declared.packed_child.PackedChild.{PackedChild}

-- a request at a place of level w is a key of the store and of this level, and the entries reach it
pub record IsAdmitted (s : Nodes) (entries : List Entry) (w : ℕ) (k : Key) : Type 0 where
  pub key : IsKey s k
  pub level : level_of s k ≡ w
  pub reached : IsReached (wave_of s 1) (requests_of entries) k

-- a table of such keys for each level
pub record AreAdmitted (s : Nodes) (entries : List Entry) (tables : List (List Key)) : Type 0 where
  pub levels : length tables ≡ s.levels
  pub keys : (w q : ℕ) (k : Key) → IsAtPlace tables w q k → IsAdmitted s entries w k

-- the pair is the two children of the key, by place
abbrev pub IsSplitAt : Nodes → List (List Key) → Key → PackedChild × PackedChild → Type 0
IsSplitAt s tables k d = IsPlaced tables d.0 (child_of s k false) × IsPlaced tables d.1 (child_of s k true)

-- the levels before v are expanded
pub record AreExpanded (s : Nodes) (entries : List Entry) (roots : List PackedChild) (v : ℕ) (tables : List (List Key))
    (rows : List (List (PackedChild × PackedChild))) : Type 0 where
  pub admitted : AreAdmitted s entries tables
  pub rooted : AllZip (λ e p. IsPlaced tables p (child s e.0 e.1 e.2)) entries roots
  pub levels : length rows ≡ s.levels
  pub counts : (w : ℕ) → w < v → length (row rows w) ≡ length (row tables w)
  pub split : (w q : ℕ) (k : Key) (d : PackedChild × PackedChild) → w < v → IsAtPlace tables w q k → IsAtPlace rows w q d → IsSplitAt s tables k d
