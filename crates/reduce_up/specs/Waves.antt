-- Waves: lists of operations on references of a store, which are done together, and what a wave leaves.
use Rattle.std.specs.Prelude.{◌≡◌, ℕ, ◌<◌, ◌≤◌, ◌⊎◌, Bool, List, [], ◌∷◌, ◌++◌, length, map, Contains, Option, None, Some, Result, IfOk}
use Rattle.std.specs.Prelude.{IfErr, OnOk}
use Rattle.std.specs.List.{AllZip}
use Rattle.std.specs.declared.vec.Vec.{Vec}
use Rattle.std.specs.declared.alloc.Global.{Global}
use Rattle.dd_store.specs.declared.reference.Ref.{Ref}
use Rattle.dd_store.specs.Functions.{Agree, IsFixedSomehow, DependsOn}
use Rattle.dd_store.specs.Parts.{IsReachable}
use Rattle.dd_store.specs.Nodes.{Nodes, den, IsDiagram, IsSound, count_of}
use Rattle.dd_store.specs.View.{part, Has, IsOneNode}
use Rattle.req_table.specs.declared.Op.{Op}
use Rattle.req_table.specs.declared.Key.{Key}
use Rattle.req_table.specs.declared.Record.{Record}
use Rattle.dd_store.specs.Complements.{complement_by}
use Rattle.req_table.specs.Keys.{key, normal_of, meaning, wave_of}
use Rattle.req_table.specs.Settled.{IsClosure}
use Rattle.req_table.specs.Tables.{row_at}
use Rattle.req_table.specs.TerminalCase.{terminal_of}
use Rattle.expand_work.specs.declared.fault.WaveFault.{WaveFault}
use Rattle.reduce_up.specs.Reducing.{AddsDescribed}
use Rattle.expand_work.specs.declared.fault.WaveFault.TheVariants as wave_faults

-- an operation and its two operands
abbrev pub Entry : Type 0
Entry = Op × Ref × Ref

-- the function of an entry
abbrev pub entry_value : Nodes → Entry → List Bool → Bool
entry_value s e = meaning s (key e.0 e.1 e.2)

-- both operands are references of the store
abbrev pub IsEntry : Nodes → Entry → Type 0
IsEntry s e = Has s e.1 × Has s e.2

-- an answer for each entry, in order: the diagram in the store `new` of the entry's function in the store `old`
abbrev pub AnswersEach : Nodes → List Entry → Nodes → List Ref → Type 0
AnswersEach old entries new answers = AllZip (λ e r. IsDiagram new r (entry_value old e)) entries answers

-- f is the function of an entry with the bits before level v fixed, and depends on the bit of level v
pub record IsWanted (s : Nodes) (entries : List Entry) (v : ℕ) (f : List Bool → Bool) : Type 0 where
  pub entry : Entry
  pub is_entry : Contains entries entry
  pub fixed : IsFixedSomehow s.levels v (entry_value s entry) f
  pub depends : DependsOn s.levels v f

-- each node of `new` is one of `old`, or is below an answer, or is the complement of one that is
abbrev pub AddsBelow : Nodes → Nodes → List Ref → Type 0
AddsBelow old new answers = (m : Ref) → Has new m → Has old m
    ⊎ ((r : Ref) × (c : Ref) × Contains answers r × IsReachable (part new) r c × IsOneNode new m c)

-- a request as an entry
abbrev pub entry_for : Key → Entry
entry_for k = (k.op, k.f, k.g)

-- requests as entries, in order
abbrev pub entries_for : List Key → List Entry
entries_for ks = map entry_for ks

-- some entry needs a request: it has no terminal case
abbrev pub HasRequest : List Entry → Type 0
HasRequest entries = (e : Entry) × Contains entries e × (terminal_of e.0 e.1 e.2 ≡ None)

-- the store `new` is within its limit, or no entry needed a request and the store is as before
abbrev pub IsWithinLimit : Nodes → List Entry → Nodes → Type 0
IsWithinLimit old entries new = (count_of new ≤ new.limit) ⊎ ((HasRequest entries → ⊥) × (new ≡ old))

-- some function is wanted that no reference of the store `new` denotes
abbrev pub LacksWanted : Nodes → List Entry → Nodes → Type 0
LacksWanted old entries new =
    (v : ℕ) × (f : List Bool → Bool) × IsWanted old entries v f × ((r : Ref) → Has new r → Agree new.levels (den new r) f → ⊥)

-- the cause of a wave's fault: Full means that some entry needed a request, and that the store has more nodes than its
-- limit, or as many and lacks one that is wanted
abbrev pub IsWaveFault : Nodes → List Entry → Nodes → WaveFault → Type 0
IsWaveFault old entries new wave_faults.OutOfMemory = Unit {0}
IsWaveFault old entries new wave_faults.NoWorker = Unit {0}
IsWaveFault old entries new wave_faults.TooManyRequests = Unit {0}
IsWaveFault old entries new wave_faults.Stopped = Unit {0}
IsWaveFault old entries new wave_faults.Full =
    HasRequest entries × ((new.limit < count_of new) ⊎ ((count_of new ≡ new.limit) × LacksWanted old entries new))

-- the result of a wave over entries, and the store that it leaves; `asked` are the entries that no computed table
-- answers
pub record AnswersWave (old : Nodes) (entries asked : List Entry) (result : Result (Vec Ref Global) WaveFault) (new : Nodes) : Type 0 where
  pub sound : IsSound new
  -- it keeps what was there, and each new node denotes a function that is wanted, or the complement of one
  pub adds : AddsDescribed old new (IsWanted old entries)
  pub answers : IfOk result (λ found. AnswersEach old entries new found.items)
  pub no_others : IfOk result (λ found. AddsBelow old new found.items)
  pub within : OnOk result (IsWithinLimit old asked new)
  pub fault : IfErr result (λ e. IsWaveFault old asked new e)

-- the request of an entry that has no terminal case
abbrev pub request_of : Option Ref → Entry → List Key
request_of None e = (normal_of e.0 e.1 e.2).0 ∷ []
request_of (Some r) e = []

-- the requests of a list of entries, in order
abbrev pub requests_of : List Entry → List Key
requests_of [] = []
requests_of (e ∷ es) = request_of (terminal_of e.0 e.1 e.2) e ++ requests_of es

-- r is the terminal case of an entry, or what the pairs have for its request, complemented if the entry is the
-- request's complement
abbrev pub IsTakenFrom : List (Key × Ref) → Option Ref → Entry → Ref → Type 0
IsTakenFrom pairs None e r = (a : Ref) × Contains pairs ((normal_of e.0 e.1 e.2).0, a) × (r ≡ complement_by (normal_of e.0 e.1 e.2).1 a)
IsTakenFrom pairs (Some s) e r = r ≡ s

-- by level exactly the requests that the roots reach, with their children
pub record IsClosureOf (s : Nodes) (workers : ℕ) (roots : List Key) (rows : List (List Record)) : Type 0 where
  pub levels : length rows ≡ s.levels
  pub closure : IsClosure (wave_of s workers) roots (row_at rows)
