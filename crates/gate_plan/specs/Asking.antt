-- Whether the steps of gates need requests, which a step does if it has no terminal case; and whether they need more
-- than a bound.
use Rattle.std.specs.Prelude.{◌≡◌, ℕ, ◌+◌, ◌<◌, ◌≤◌, ◌==◌, ◌⊎◌, Bool, cond, List, [], Option, None, Some, Contains, map, slice_index}
use Rattle.dd_store.specs.declared.reference.Ref.{Ref}
use Rattle.dd_store.specs.Nodes.{Nodes, IsSound, count_of}
use Rattle.dd_store.specs.View.{Has}
use Rattle.net_bench.specs.declared.netlist.GateLine.{GateLine}
use Rattle.net_bench.specs.Circuit.{Circuit, circuit, greatest, AreRanks, rank_of}
use Rattle.net_bench.specs.Labels.{bit_of}
use Rattle.net_order.specs.Order.{NamingModel}
use Rattle.req_table.specs.ComputedTables.{ComputedView, IsRight}
use Rattle.req_table.specs.TerminalCase.{terminal_of}
use Rattle.reduce_up.specs.Waves.{Entry}
use Rattle.wave_engine.specs.Bounds.{AreMoreThan, AreAtMost}
use Rattle.gate_plan.specs.Building.{PlannedNet, Levelled, levelled, levelled_of, folds_at, input_level, Denotes, value_after}
use Rattle.gate_plan.specs.Plans.{folds_of, step_at, operand_at}

-- the first operand of step j of a gate's fold, by the labels: the gate's first operand, or the value so far
abbrev pub first_taken : GateLine → ℕ → List Bool → Bool
first_taken g j bits = cond (j == 0) (bit_of bits (operand_at g 0)) (value_after g (j + 1) bits)

-- the second operand of the step: one of the gate's operands
abbrev pub second_taken : GateLine → ℕ → List Bool → Bool
second_taken g j bits = bit_of bits (step_at g j).second

-- the gate has a step j, and references of the store that denote its operands have no terminal case
pub record IsAsked (c : Circuit) (level : ℕ → ℕ) (S : Nodes) (g : GateLine) (j : ℕ) : Type 0 where
  pub step : j < folds_of g
  pub first : Ref
  pub second : Ref
  pub has_first : Has S first
  pub has_second : Has S second
  pub takes_first : Denotes c level S first (first_taken g j)
  pub takes_second : Denotes c level S second (second_taken g j)
  pub long : terminal_of (step_at g j).op first second ≡ None

-- some gate of the netlist has a step without a terminal case
abbrev pub Asks : Circuit → (ℕ → ℕ) → Nodes → Type 0
Asks c level S = (g : GateLine) × Contains c.gates g × ((j : ℕ) × IsAsked c level S g j)

-- some gate of one of the netlists that are built for a pairing has such a step
abbrev pub AnyAsks : Circuit → Circuit → Option Circuit → NamingModel → Nodes → Type 0
AnyAsks a b given p S = (one : Levelled) × Contains (levelled a b given p) one × Asks one.netlist one.level S

-- some gate of this rank has a step j without a terminal case
abbrev pub AsksAt : PlannedNet → Nodes → ℕ → ℕ → Type 0
AsksAt one S r j = (g : GateLine) × Contains one.net.gates g × (rank_of one.net g ≡ r) × IsAsked (circuit one.net) (input_level one) S g j

-- some gate of this rank of one of the netlists has such a step
abbrev pub AnyAsksAt : List PlannedNet → Nodes → ℕ → ℕ → Type 0
AnyAsksAt sides S r j = (one : PlannedNet) × Contains sides one × AsksAt one S r j

-- some gate of this rank has some step without a terminal case
abbrev pub AnyAsksIn : List PlannedNet → Nodes → ℕ → Type 0
AnyAsksIn sides S r = (j : ℕ) × AnyAsksAt sides S r j

-- some gate of the first n ranks has such a step
abbrev pub AnyAsksBelow : List PlannedNet → Nodes → ℕ → Type 0
AnyAsksBelow sides S n = (k : ℕ) × (k < n) × AnyAsksIn sides S (k + 1)

-- the store `new` is within its limit, or nothing was asked for and it is as before
abbrev pub IsWithinOrUnasked : Type 0 → Nodes → Nodes → Type 0
IsWithinOrUnasked asked old new = (count_of new ≤ new.limit) ⊎ ((asked → ⊥) × (new ≡ old))

-- what is held is right for the store; and if something is held, the store is within its limit
pub record IsRightAndWithinLimit (S : Nodes) (m : ComputedView) : Type 0 where
  pub right : IsRight S m
  pub within : (m.pairs ≡ []) ⊎ (count_of S ≤ S.limit)

-- ---- more than a bound

-- the entry is step j of the gate: its operation, on references of the store that denote the step's operands
pub record IsEntryOf (c : Circuit) (level : ℕ → ℕ) (S : Nodes) (g : GateLine) (j : ℕ) (e : Entry) : Type 0 where
  pub step : j < folds_of g
  pub op : e.0 ≡ (step_at g j).op
  pub has_first : Has S e.1
  pub has_second : Has S e.2
  pub takes_first : Denotes c level S e.1 (first_taken g j)
  pub takes_second : Denotes c level S e.2 (second_taken g j)

-- the gate has this rank
abbrev pub HasRank : Circuit → GateLine → ℕ → Type 0
HasRank c g r = (ranks : List ℕ) × AreRanks c ranks × (slice_index ranks g.out ≡ r)

-- the entry is step j of a gate of rank r of one of the netlists
abbrev pub IsEntryAt : List Levelled → Nodes → (r j : ℕ) → Entry → Type 0
IsEntryAt netlists S r j e =
    (one : Levelled) × Contains netlists one × ((g : GateLine) × Contains one.netlist.gates g × HasRank one.netlist g r
    × IsEntryOf one.netlist one.level S g j e)

-- In some store over so many levels, one wave of the netlists' building reaches more than n requests: that of a step of the gates of one
-- rank.
pub record IsWide (n depth : ℕ) (netlists : List Levelled) : Type 0 where
  pub store : Nodes
  pub sound : IsSound store
  pub levels : store.levels ≡ depth
  pub rank : ℕ
  pub step : ℕ
  pub entries : List Entry
  pub asked : (e : Entry) → Contains entries e → IsEntryAt netlists store rank step e
  pub more : AreMoreThan n store entries

-- one wave of the building reaches more requests than the bound, if there is one
abbrev pub IsPast : Option ℕ → (depth : ℕ) → List Levelled → Type 0
IsPast None depth netlists = ⊥
IsPast (Some n) depth netlists = IsWide n depth netlists

-- ---- within a bound

-- the gate has this rank, which is the only one
abbrev pub IsOfRank : Circuit → GateLine → ℕ → Type 0
IsOfRank c g r = (ranks : List ℕ) → AreRanks c ranks → slice_index ranks g.out ≡ r

-- In some store over so many levels, one wave of the netlists' building has an entry for step j of each gate of rank r, and all of them
-- together reach at most n requests.
pub record IsNarrowAt (n depth : ℕ) (netlists : List Levelled) (r j : ℕ) : Type 0 where
  pub store : Nodes
  pub sound : IsSound store
  pub levels : store.levels ≡ depth
  pub entries : List Entry
  pub asked : (one : Levelled) (g : GateLine) → Contains netlists one → Contains one.netlist.gates g → IsOfRank one.netlist g r → j < folds_of g
      → (e : Entry) × Contains entries e × IsEntryOf one.netlist one.level store g j e
  pub few : AreAtMost n store entries

-- each wave of the building reaches at most n requests, for each gate and each of its steps
abbrev pub IsNarrow : (n depth : ℕ) → List Levelled → Type 0
IsNarrow n depth netlists = (one : Levelled) (g : GateLine) (r j : ℕ) → Contains netlists one → Contains one.netlist.gates g → IsOfRank one.netlist g r
    → j < folds_of g → IsNarrowAt n depth netlists r j

-- the waves of the first f steps of rank r reach at most n requests
abbrev pub AreNarrowTo : (n depth : ℕ) → List PlannedNet → (r f : ℕ) → Type 0
AreNarrowTo n depth sides r f = (j : ℕ) → j < f → IsNarrowAt n depth (map levelled_of sides) r j

-- the waves of all steps of the first m ranks reach at most n requests
abbrev pub AreNarrowBelow : (n depth : ℕ) → List PlannedNet → (m : ℕ) → Type 0
AreNarrowBelow n depth sides m = (k : ℕ) → k < m → AreNarrowTo n depth sides (k + 1) (greatest (map (folds_at (k + 1)) sides))
