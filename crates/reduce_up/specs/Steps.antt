-- The steps of a level that threads do, each in a task of its own: reading a part's children, and picking a part's
-- diagrams.
use Rattle.std.specs.Prelude.{◌≡◌, ℕ, ◌<◌, List, length, slice_index_or, All, OnOk}
use Rattle.std.specs.List.{AllZip}
use Rattle.std.specs.declared.vec.Vec.{Vec}
use Rattle.std.specs.declared.alloc.Global.{Global}
use Rattle.dd_store.specs.Graph.{Pair}
use Rattle.dd_store.specs.Levels.{list_at}
use Rattle.dd_store.specs.Nodes.{Nodes, IsThere}
use Rattle.dd_store.specs.declared.reference.Ref.{Ref}
use Rattle.req_table.specs.declared.packed_child.PackedChild.{PackedChild}
use Rattle.req_table.specs.Places.{row}
use Rattle.reduce_up.specs.ReductionPhase.{ResolvesTo}
use Rattle.reduce_up.specs.declared.up.LevelToReduce.{LevelToReduce}
use Rattle.reduce_up.specs.declared.division.Origins.{Origins}
use Rattle.reduce_up.specs.declared.reads.ReadTask.{ReadTask}
use Rattle.reduce_up.specs.declared.picking.PickTask.{PickTask}
use Rattle.reduce_up.specs.Division.{IsDivided, IsPickedOf}

-- the diagrams of two children
abbrev pub BothResolveTo : List (List Ref) → PackedChild × PackedChild → Pair → Type 0
BothResolveTo answers d p = ResolvesTo answers d.0 p.0 × ResolvesTo answers d.1 p.1

-- r is the reference for the diagrams of the two children
abbrev pub IsMadeOf : List (List Ref) → Nodes → ℕ → PackedChild × PackedChild → Ref → Type 0
IsMadeOf answers s v d r = (p : Pair) × BothResolveTo answers d p × IsThere s v p.0 p.1 r

-- a part of level v may be read: it has this level, and the diagram of each child is known
pub record MayRead (answers : List (List Ref)) (v : ℕ) (part : List (List (PackedChild × PackedChild))) : Type 0 where
  pub level : v < length part
  pub resolvable : All (λ d. (p : Pair) × BothResolveTo answers d p) (row part v)

-- each part may be read
abbrev pub MayReadLevel : LevelToReduce → Type 0
MayReadLevel l = All (MayRead l.answers.now l.number) l.parts.now

-- the pairs of the children were read and divided
pub record IsPartRead (answers : List (List Ref)) (children : List (PackedChild × PackedChild)) (lists : Vec (Vec Pair Global) Global)
    (origins : Origins) : Type 0 where
  pub pairs : List Pair
  pub read : AllZip (BothResolveTo answers) children pairs
  pub sixteen : length lists.items ≡ 16
  pub divided : IsDivided pairs origins (list_at lists.items)

-- part k of a level was read in a task, unless memory was refused
abbrev pub IsTaskRead : LevelToReduce → ℕ → ReadTask → Type 0
IsTaskRead l k task = OnOk task.done (IsPartRead l.answers.now (row (row l.parts.now k) l.number) task.divided.lists task.divided.origins)

-- each part was read, in its task
abbrev pub AreAllRead : LevelToReduce → List ReadTask → Type 0
AreAllRead l tasks = (k : ℕ) (d : ReadTask) → k < length tasks → IsTaskRead l k (slice_index_or tasks k d)

-- the first m parts were read
pub record AreRead (l : LevelToReduce) (m : ℕ) (lists : List (Vec (Vec Pair Global) Global)) (origins : List Origins) : Type 0 where
  pub many_lists : length lists ≡ m
  pub many_origins : length origins ≡ m
  pub each : (k : ℕ) (d : Vec (Vec Pair Global) Global) (h : Origins) → k < m
      → IsPartRead l.answers.now (row (row l.parts.now k) l.number) (slice_index_or lists k d) (slice_index_or origins k h)

-- the diagrams of part k were picked in a task, unless memory was refused
abbrev pub IsTaskPicked : List (Vec (Vec Pair Global) Global) → List Origins → List (Vec Ref Global) → ℕ → PickTask → Type 0
IsTaskPicked parts origins refs k task = (h : Origins) → OnOk task.done
    (IsPickedOf parts refs k (slice_index_or origins k h) task.answers)

-- the diagrams of all parts were picked, each part's in its task
abbrev pub AreAllPicked : List (Vec (Vec Pair Global) Global) → List Origins → List (Vec Ref Global) → List PickTask → Type 0
AreAllPicked parts origins refs tasks = (k : ℕ) (d : PickTask) → k < length tasks
    → IsTaskPicked parts origins refs k (slice_index_or tasks k d)
