-- Lists of pairs for the shards of a level.
use Rattle.std.specs.Prelude.{◌<◌, ◌+◌, ◌≡◌, ◌≤◌, ℕ, List, [], ◌∷◌, ◌++◌, length, slice_index_or, slice_get, map, Option, Some, None}
use Rattle.std.specs.List.{AllZip}
use Rattle.std.specs.declared.vec.Vec.{Vec}
use Rattle.std.specs.declared.alloc.Global.{Global}
use Rattle.dd_store.specs.declared.level.ShardState.{ShardState}
use Rattle.dd_store.specs.declared.StoreFault.{StoreFault}
use Rattle.dd_store.specs.declared.StoreFault.TheVariants.{Full, OutOfMemory}
use Rattle.dd_store.specs.declared.reference.Ref.{Ref}
use Rattle.dd_store.specs.declared.reference.Reference.TheVariants.{Node}
use Rattle.dd_store.specs.Graph.{Pair}
use Rattle.dd_store.specs.Complements.{is_complement, regular_pair}
use Rattle.dd_store.specs.Growing.{Grows, IsAddListFault, Lacks}

-- the list for a shard
abbrev pub list_at : List (Vec Pair Global) → ℕ → List Pair
list_at lists s = slice_index_or (map (λ (v : Vec Pair Global). v.items) lists) s []

-- the pairs for a shard in all parts, one part after the other
abbrev pub all_at : List (Vec (Vec Pair Global) Global) → ℕ → List Pair
all_at [] s = []
all_at (part ∷ parts) s = list_at part.items s ++ all_at parts s

-- the pairs of a list as nodes have them: both complemented if the second has a complement bit
abbrev pub regular_list : List Pair → List Pair
regular_list ps = map (λ (p : Pair). regular_pair p.0 p.1) ps

-- the pairs of the list for each shard as nodes have them
abbrev pub regular_lists : (ℕ → List Pair) → ℕ → List Pair
regular_lists lists s = regular_list (lists s)

-- the references for a shard
abbrev pub refs_at : List (Vec Ref Global) → ℕ → List Ref
refs_at lists s = slice_index_or (map (λ (v : Vec Ref Global). v.items) lists) s []

-- a shard has grown by pairs of a list, within the limit
abbrev pub IsGrown : ℕ → List Pair → ShardState → ShardState → Type 0
IsGrown limit list old new = Grows list old.nodes new.nodes × (length old.nodes ≤ limit → length new.nodes ≤ limit)

-- what a shard is after a list was added: its pairs are in it as nodes have them, or the fault has its cause
abbrev pub IsAdded : ℕ → List Pair → ShardState → ShardState → Type 0
IsAdded limit list old new = IsGrown limit (regular_list list) old new × IsAddListFault limit (regular_list list) new.nodes new.fault

-- a reference refers to a place in shard s of level v that has the pair as nodes have it; the reference has a
-- complement bit if the pair's second has one
abbrev pub IsReferenceAt : ℕ → ℕ → List Pair → Pair → Ref → Type 0
IsReferenceAt v s pairs p r =
    (i : ℕ) × (r ≡ Node (record { level = v; shard = s; index = i }) (is_complement p.1)) × (slice_get pairs i ≡ Some (regular_pair p.0 p.1))

-- the cause of a fault in place of the references of a list; want of memory may also mean that they could not be noted
abbrev pub IsMakeListFault : ℕ → List Pair → List Pair → StoreFault → Type 0
IsMakeListFault limit list new Full = (limit ≤ length new) × Lacks list new
IsMakeListFault limit list new OutOfMemory = Unit {0}

-- the references of a list, in its order, or a fault with its cause
abbrev pub AreNoted : ℕ → ℕ → ℕ → List Pair → List Pair → List Ref → Option StoreFault → Type 0
AreNoted limit v s list new found None = AllZip (IsReferenceAt v s new) list found
AreNoted limit v s list new found (Some f) = IsMakeListFault limit (regular_list list) new f

-- what a shard is after a list was made: it has grown by its pairs, and their references are noted, or the fault has
-- its cause
abbrev pub IsNoted : ℕ → ℕ → ℕ → List Pair → ShardState → ShardState → Type 0
IsNoted limit v s list old new = IsGrown limit (regular_list list) old new × AreNoted limit v s list new.nodes new.found.items new.fault

-- what neighbouring shards, from number `first` on, are after the parts' lists for them were made
abbrev pub AreMadeFrom : ℕ → ℕ → List (Vec (Vec Pair Global) Global) → ℕ → List ShardState → List ShardState → Type 0
AreMadeFrom limit v parts first old new = (i : ℕ) (d : ShardState) → i < length old
    → IsNoted limit v (first + i) (all_at parts (first + i)) (slice_index_or old i d) (slice_index_or new i d)

-- the pairs of each shard
abbrev pub pairs_of : List ShardState → List (List Pair)
pairs_of shards = map (λ (c : ShardState). c.nodes) shards

-- each shard has at most `limit` pairs
abbrev pub AreWithin : ℕ → List ShardState → Type 0
AreWithin limit shards = (i : ℕ) → length (slice_index_or (pairs_of shards) i []) ≤ limit

-- the fault of a level: that of one of its shards, and none if no shard has one
abbrev pub IsFault : List ShardState → Option StoreFault → Type 0
IsFault shards None = (i : ℕ) (c : ShardState) → slice_get shards i ≡ Some c → c.fault ≡ None
IsFault shards (Some f) = (i : ℕ) × (c : ShardState) × (slice_get shards i ≡ Some c) × (c.fault ≡ Some f)

-- no shard was refused memory
abbrev pub HadMemory : List ShardState → Type 0
HadMemory shards = (i : ℕ) (c : ShardState) → slice_get shards i ≡ Some c → c.fault ≡ Some OutOfMemory → ⊥
