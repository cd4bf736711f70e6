-- What is built of netlists over the variables of a pairing: for each signal a reference that denotes its function.
use Rattle.std.specs.Prelude.{◌≡◌, ℕ, ◌+◌, ◌<◌, ◌≤◌, ◌⊎◌, Bool, List, [], ◌∷◌, ◌++◌, map, length, min, unwrap_or, Option, Some, None}
use Rattle.std.specs.Prelude.{slice_index, slice_index_or, slice_set, Contains}
use Rattle.dd_store.specs.declared.StoreFault.{StoreFault}
use Rattle.dd_store.specs.declared.StoreFault.TheVariants as store_faults
use Rattle.dd_store.specs.declared.reference.Ref.{Ref}
use Rattle.dd_store.specs.declared.reference.Reference.TheVariants.{False}
use Rattle.dd_store.specs.Graph.{bit}
use Rattle.dd_store.specs.Nodes.{Nodes, den}
use Rattle.dd_store.specs.View.{Has}
use Rattle.expand_work.specs.declared.fault.WaveFault.{WaveFault}
use Rattle.expand_work.specs.declared.fault.WaveFault.TheVariants as wave_faults
use Rattle.req_table.specs.declared.Op.{Op}
use Rattle.net_bench.specs.declared.netlist.GateLine.{GateLine}
use Rattle.net_bench.specs.Circuit.{Circuit, Net, circuit, variables_of, rank_of}
use Rattle.net_bench.specs.Labels.{bit_of, IsLabelling, IsFunctionOf}
use Rattle.net_names.specs.declared.order.Match.{Match}
use Rattle.net_names.specs.declared.order.Order.{Order}
use Rattle.net_order.specs.Order.{NamingModel, IsPairing, condition, first_level, second_level, given_level, level_in}
use Rattle.gate_plan.specs.declared.circuits.Circuits.{Circuits}
use Rattle.net_order.specs.declared.netlist_role.NetlistRole.{NetlistRole}
use Rattle.gate_plan.specs.declared.steps.Step.{Step}
use Rattle.gate_plan.specs.declared.steps.CopyStep.{CopyStep}
use Rattle.dd_store.specs.Complements.{complement_by}
use Rattle.gate_plan.specs.Folds.{value_so_far}
use Rattle.gate_plan.specs.Plans.{plan_steps, plan_copies, plan_folds, IsPlan, RankSteps}

-- a reference for each signal of the first netlist, of the second and of the condition
pub record References : Type 0 where
  pub first : List Ref
  pub second : List Ref
  pub given : List Ref

-- one of the netlists of a pairing, with the plan of its gates
pub record PlannedNet : Type 0 where
  pub net : Net
  pub which : NetlistRole
  pub pairing : NamingModel
  pub plan : List RankSteps

-- the greatest rank of its gates
abbrev pub ranks_of : PlannedNet → ℕ
ranks_of one = length one.plan

-- the number of folds of its gates of a rank
abbrev pub folds_at : ℕ → PlannedNet → ℕ
folds_at rank one = plan_folds one.net one.net.gates rank

-- the netlists that are built together: two, and the condition if there is one, over the variables of a pairing
pub record PairedCircuits : Type 0 where
  pub first : Circuit
  pub second : Circuit
  pub given : Option Circuit
  pub pairing : NamingModel

-- what `Circuits` has, for contracts
abbrev pub circuits_of : Circuits → PairedCircuits
circuits_of c = record { first = circuit c.first.now; second = circuit c.second.now; given = condition c.given; pairing = c.pairing.now }

-- p is the pairing of the two netlists, with this condition or none, for some matching and some order
abbrev pub IsPaired : Circuit → Circuit → Option Circuit → NamingModel → Type 0
IsPaired a b given p = (how : Match) × (order : Order) × IsPairing how a b given order p

-- the level of an input of a netlist of a pairing
abbrev pub input_level : PlannedNet → ℕ → ℕ
input_level one s = level_in one.pairing one.which s

-- a netlist with the levels of its variables
pub record Levelled : Type 0 where
  pub netlist : Circuit
  pub level : ℕ → ℕ

-- the condition as a list, with its levels
abbrev pub levelled_given : Option Circuit → NamingModel → List Levelled
levelled_given None p = []
levelled_given (Some c) p = record { netlist = c; level = given_level p } ∷ []

-- the netlists that are built for a pairing: the first, the second, and the condition if there is one
abbrev pub levelled : Circuit → Circuit → Option Circuit → NamingModel → List Levelled
levelled a b given p = record { netlist = a; level = first_level p } ∷ record { netlist = b; level = second_level p }
    ∷ levelled_given given p

-- a netlist of a pairing without its plan
abbrev pub levelled_of : PlannedNet → Levelled
levelled_of one = record { netlist = circuit one.net; level = input_level one }

-- a netlist of a pairing is at the end of a list, with its plan
pub record AddsPlannedNet (old : List PlannedNet) (net : Net) (which : NetlistRole) (p : NamingModel) (new : List PlannedNet) : Type 0 where
  pub one : PlannedNet
  pub added : new ≡ old ++ one ∷ []
  pub is : one ≡ record { net = net; which = which; pairing = p; plan = one.plan }
  pub plan : IsPlan net one.plan

-- the netlists that are built for a pairing, each with its plan
pub record ArePlannedNets (a b : Circuit) (given : Option Circuit) (p : NamingModel) (sides : List PlannedNet) : Type 0 where
  pub netlists : map levelled_of sides ≡ levelled a b given p
  pub plans : (one : PlannedNet) → Contains sides one → IsPlan one.net one.plan

-- P holds of each netlist of a list and its references
abbrev pub ForEachNetlist : (PlannedNet → List Ref → Type 0) → List PlannedNet → List (List Ref) → Type 0
ForEachNetlist P sides built =
    (length built ≡ length sides) ×
    ((k : ℕ) (one : PlannedNet) (refs : List Ref) → k < length sides → slice_index_or sides k one ≡ one → slice_index_or built k refs ≡ refs
    → P one refs)

-- the reference of a signal
abbrev pub reference_of : List Ref → ℕ → Ref
reference_of refs s = slice_index_or refs s False

-- each signal has a reference of the store, and that reference denotes the signal's function
pub record AreDiagrams (c : Circuit) (level : ℕ → ℕ) (S : Nodes) (refs : List Ref) : Type 0 where
  pub each : length refs ≡ length c.names
  pub has : (s : ℕ) → s < length c.names → Has S (reference_of refs s)
  pub functions : (s : ℕ) → s < length c.names → IsFunctionOf c level S.levels s (den S (reference_of refs s))

-- ---- steps, done on references

abbrev pub wave_fault_of : StoreFault → WaveFault
wave_fault_of store_faults.Full = wave_faults.Full
wave_fault_of store_faults.OutOfMemory = wave_faults.OutOfMemory

-- the first operand of a step, which is the signal itself if the fold goes on
abbrev pub first_operand : Step → ℕ
first_operand s = unwrap_or s.first s.out

-- the entry of a step
abbrev pub entry_of : List Ref → Step → Op × Ref × Ref
entry_of refs s = (s.op, reference_of refs (first_operand s), reference_of refs s.second)

abbrev pub IsStepBelow : ℕ → Step → Type 0
IsStepBelow n s = (s.out < n) × (first_operand s < n) × (s.second < n)

abbrev pub IsCopyBelow : ℕ → CopyStep → Type 0
IsCopyBelow n c = (c.out < n) × (c.of < n)

-- the references after the copies were done, one after the other
abbrev pub copied_all : List Ref → List CopyStep → List Ref
copied_all refs [] = refs
copied_all refs (c ∷ cs) = copied_all (slice_set refs c.out (complement_by c.complement (reference_of refs c.of))) cs

-- the references after each step's gate has got its answer
abbrev pub answered_all : List Ref → List Step → List Ref → List Ref
answered_all refs [] answers = refs
answered_all refs (s ∷ ss) [] = refs
answered_all refs (s ∷ ss) (a ∷ answers) = answered_all (slice_set refs s.out a) ss answers

-- ---- the state of a build

-- the variables by level
pub record AreVariables (S : Nodes) (variables : List Ref) : Type 0 where
  pub each : length variables ≡ S.levels
  pub has : (v : ℕ) → v < S.levels → Has S (reference_of variables v)
  pub bits : (v : ℕ) → v < S.levels → (x : List Bool) → den S (reference_of variables v) x ≡ bit x v

-- a reference for each signal; that of an input or register is its variable
pub record AreInputs (net : Net) (level : ℕ → ℕ) (variables refs : List Ref) : Type 0 where
  pub each : length refs ≡ length net.names
  pub inputs : (s : ℕ) → Contains (variables_of (circuit net)) s → reference_of refs s ≡ reference_of variables (level s)
  pub others : (s : ℕ) → (Contains (variables_of (circuit net)) s → ⊥) → reference_of refs s ≡ False

-- for every labelling, r denotes at each assignment the function `value` of the labels
abbrev pub Denotes : Circuit → (ℕ → ℕ) → Nodes → Ref → (List Bool → Bool) → Type 0
Denotes c level S r value = (x bits : List Bool) → length x ≡ S.levels → IsLabelling c level x bits → den S r x ≡ value bits

-- some reference denotes at each assignment the function `value` of the labels
abbrev pub IsDenoted : Circuit → (ℕ → ℕ) → Nodes → (List Bool → Bool) → Type 0
IsDenoted c level S value = (r : Ref) × Has S r × Denotes c level S r value

-- the value of a gate after its first i operands, by the labels of the operands
abbrev pub value_after : GateLine → ℕ → List Bool → Bool
value_after g i bits = value_so_far g.kind (map (bit_of bits) g.operands) i

-- the signals of lower ranks denote their labels, and the store has the values of their gates after each fold
pub record AreRight (net : Net) (level : ℕ → ℕ) (S : Nodes) (refs : List Ref) (rank : ℕ) : Type 0 where
  pub each : length refs ≡ length net.names
  pub known : (s : ℕ) → Has S (reference_of refs s)
  pub below : (s : ℕ) → s < length net.names → slice_index net.ranks s < rank
      → Denotes (circuit net) level S (reference_of refs s) (λ bits. bit_of bits s)
  pub values : (g : GateLine) → Contains net.gates g → rank_of net g < rank → (i : ℕ) → 0 < i → i ≤ length g.operands
      → IsDenoted (circuit net) level S (value_after g i)

-- a gate has a value after so many folds: after none only if it is a copy
abbrev pub HasValueAfter : GateLine → ℕ → Type 0
HasValueAfter g fold = (0 < fold) ⊎ (length g.operands ≡ 1)

-- The signals of lower ranks are right; each gate of this rank denotes its value after so many folds, and the store has
-- all its values up to this one.
pub record AreFolded (net : Net) (level : ℕ → ℕ) (S : Nodes) (refs : List Ref) (rank fold : ℕ) : Type 0 where
  pub right : AreRight net level S refs rank
  pub here : (g : GateLine) → Contains net.gates g → rank_of net g ≡ rank → HasValueAfter g fold →
      Denotes (circuit net) level S (reference_of refs g.out) (value_after g (min (fold + 1) (length g.operands)))
  pub values : (g : GateLine) → Contains net.gates g → rank_of net g ≡ rank → HasValueAfter g fold →
      (i : ℕ) → 0 < i → i ≤ min (fold + 1) (length g.operands) → IsDenoted (circuit net) level S (value_after g i)

-- ---- all netlists together

abbrev pub AllRight : List PlannedNet → Nodes → List (List Ref) → ℕ → Type 0
AllRight sides S built rank = ForEachNetlist (λ one refs. AreRight one.net (input_level one) S refs rank) sides built

abbrev pub AllFolded : List PlannedNet → Nodes → List (List Ref) → ℕ → ℕ → Type 0
AllFolded sides S built rank fold = ForEachNetlist (λ one refs. AreFolded one.net (input_level one) S refs rank fold) sides built

-- the state before the first rank: each netlist with its plan, and references for all signals, of which those of inputs
-- and registers are right
pub record IsBuildStart (c : PairedCircuits) (S : Nodes) (sides : List PlannedNet) (built : List (List Ref)) : Type 0 where
  pub placed : ArePlannedNets c.first c.second c.given c.pairing sides
  pub variables : (variables : List Ref) × AreVariables S variables
  pub right : AllRight sides S built 1

-- the entries of a rank and a fold number, netlist after netlist
abbrev pub asked : List PlannedNet → List (List Ref) → ℕ → ℕ → List (Op × Ref × Ref)
asked [] built rank fold = []
asked (one ∷ sides) [] rank fold = []
asked (one ∷ sides) (refs ∷ built) rank fold = map (entry_of refs) (plan_steps one.net one.net.gates rank fold)
    ++ asked sides built rank fold

-- the references after the copies of a rank
abbrev pub AreCopied : List PlannedNet → List (List Ref) → List (List Ref) → ℕ → Type 0
AreCopied sides old new rank =
    (length new ≡ length old) ×
    ((k : ℕ) (one : PlannedNet) (refs : List Ref) → k < length sides → slice_index_or sides k one ≡ one → slice_index_or old k refs ≡ refs →
    slice_index_or new k [] ≡ copied_all refs (plan_copies one.net one.net.gates rank))
