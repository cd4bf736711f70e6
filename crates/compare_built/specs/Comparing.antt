-- The states of a comparison: the diagrams are built, the pairs have their references, the pairs have their verdicts.
use Rattle.std.specs.Prelude.{◌≡◌, ℕ, ◌+◌, ◌<◌, ⊤, Bool, false, List, ◌++◌, length, map, All, IfSome, Option, slice_index_or}
use Rattle.std.specs.List.{AllZip}
use Rattle.net_bench.specs.Circuit.{Circuit}
use Rattle.net_bench.specs.Labels.{IsFunctionOf}
use Rattle.net_order.specs.Order.{NamingModel, first_level, second_level, given_level}
use Rattle.counter_walk.specs.DeclaredOrder.{IsOrder, by_declared}
use Rattle.dd_store.specs.declared.reference.Ref.{Ref}
use Rattle.dd_store.specs.Functions.{Agree}
use Rattle.dd_store.specs.Nodes.{Nodes, den}
use Rattle.dd_store.specs.View.{Has}
use Rattle.gate_plan.specs.Building.{References, AreDiagrams, reference_of}
use Rattle.report_text.specs.declared.outcome.PairKind.{PairKind}
use Rattle.report_text.specs.declared.outcome.PairKind.TheVariants.{Output}
use Rattle.compare_built.specs.declared.subject.Subject.{Subject}
use Rattle.compare_built.specs.declared.verdict_order.Details.{Details}
use Rattle.compare_built.specs.declared.verdict_order.VerdictOrder.{VerdictOrder}
use Rattle.compare_built.specs.declared.verdict_order.VerdictOrder.TheVariants.{ByLevel, Arranged}
use Rattle.report_text.specs.declared.verdict.Verdict.{Verdict}
use Rattle.compare_built.specs.Conditions.{HoldsWhere, restricted}
use Rattle.compare_built.specs.Report.{Compared, AreFunctions, IsVerdictOf, subjects}

-- the signals of a pair are signals of the netlists
abbrev pub IsInside : Circuit → Circuit → Subject → Type 0
IsInside a b subject = (subject.named < length a.names) × (subject.first < length a.names) × (subject.second < length b.names)

-- the signals of all pairs, and those without a partner, are signals of the netlists
pub record AreSignals (a b : Circuit) (p : NamingModel) : Type 0 where
  pub compared : All (IsInside a b) (subjects a b p)
  pub only_first : All (λ s. s < length a.names) p.outputs.only_first
  pub only_second : All (λ s. s < length b.names) p.outputs.only_second
  pub only_first_next : All (λ s. s < length a.names) p.registers.only_first
  pub only_second_next : All (λ s. s < length b.names) p.registers.only_second

-- the store has the diagram of each signal of the netlists, over the variables of their pairing
pub record AreBuilt (a b : Circuit) (given : Option Circuit) (p : NamingModel) (S : Nodes) (refs : References) : Type 0 where
  pub levels : S.levels ≡ length p.names
  pub first : AreDiagrams a (first_level p) S refs.first
  pub second : AreDiagrams b (second_level p) S refs.second
  pub condition : IfSome given (λ c. AreDiagrams c (given_level p) S refs.given)
  pub signals : AreSignals a b p

-- the pair at this place
abbrev pub subject_at : List Subject → ℕ → Subject
subject_at of i = slice_index_or of i (record { role = Output; named = 0; first = 0; second = 0 })

-- the references of the pairs: those of all first signals, then those of all second signals
abbrev pub references : References → List Subject → List Ref
references refs of = map (λ subject. reference_of refs.first subject.first) of
    ++ map (λ subject. reference_of refs.second subject.second) of

-- a denotation as it is built: over the variables by level
abbrev pub as_built : (List Bool → Bool) → List Bool → Bool
as_built f = f

-- a denotation as it is reported: over the variables by level, or in another order
abbrev pub as_reported : VerdictOrder → (List Bool → Bool) → List Bool → Bool
as_reported (ByLevel asked) f = as_built f
as_reported (Arranged order support) f = by_declared order.now f

-- the order in which verdicts are reported is that of the n levels, or has the variable of each of them once
abbrev pub IsVerdictOrder : ℕ → VerdictOrder → Type 0
IsVerdictOrder n (ByLevel asked) = ⊤
IsVerdictOrder n (Arranged order support) = IsOrder n order.now

-- the details that are reported besides verdicts
abbrev pub details_of : VerdictOrder → Details
details_of (ByLevel asked) = asked
details_of (Arranged order support) = record { sizes = false; support = support }

-- r denotes, as it is reported, the function of a signal, restricted to the condition
abbrev pub DenotesWhere : (reported : (List Bool → Bool) → List Bool → Bool) → (List Bool → Bool) → Circuit → (ℕ → ℕ) → Nodes → ℕ → Ref → Type 0
DenotesWhere reported holds c level S s r = Has S r × ((whole : List Bool → Bool) × IsFunctionOf c level S.levels s whole
    × Agree S.levels (reported (den S r)) (restricted holds whole))

-- the references of the pairs denote, as they are reported, the functions of the pairs' signals, restricted to the
-- condition, over the variables of the pairing
pub record DenoteCompared (reported : (List Bool → Bool) → List Bool → Bool) (a b : Circuit) (given : Option Circuit) (p : NamingModel) (S : Nodes)
    (of : List Subject) (refs : List Ref) : Type 0 where
  pub holds : List Bool → Bool
  pub condition : HoldsWhere given p holds
  pub each : length refs ≡ length of + length of
  pub first : (i : ℕ) → i < length of → DenotesWhere reported holds a (first_level p) S (subject_at of i).first (reference_of refs i)
  pub second : (i : ℕ) → i < length of → DenotesWhere reported holds b (second_level p) S (subject_at of i).second
      (reference_of refs (length of + i))

-- these are all pairs, and these are their references in the store
pub record AreCompared (reported : (List Bool → Bool) → List Bool → Bool) (a b : Circuit) (given : Option Circuit) (p : NamingModel) (S : Nodes)
    (of : List Subject) (refs : List Ref) : Type 0 where
  pub levels : S.levels ≡ length p.names
  pub signals : AreSignals a b p
  pub all : of ≡ subjects a b p
  pub shown : DenoteCompared reported a b given p S of refs

-- these are the verdicts of these pairs, for this condition
pub record HaveVerdicts (asked : Details) (holds : List Bool → Bool) (a b : Circuit) (p : NamingModel) (of : List Subject)
    (verdicts : List Verdict) : Type 0 where
  pub compared : List Compared
  pub functions : AllZip (AreFunctions a b p) of compared
  pub are_verdicts : AllZip (IsVerdictOf (length p.names) asked holds) compared verdicts

-- these are the verdicts of all pairs, for the condition of a comparison
abbrev pub HaveAllVerdicts : Details → Circuit → Circuit → Option Circuit → NamingModel → List Verdict → Type 0
HaveAllVerdicts asked a b given p verdicts = (holds : List Bool → Bool) × HoldsWhere given p holds
    × HaveVerdicts asked holds a b p (subjects a b p) verdicts

-- the pair of the functions that these references denote, as they are reported, with this role and name
abbrev pub compared_of : (reported : (List Bool → Bool) → List Bool → Bool) → Nodes → PairKind → List ℕ → Ref → Ref → Compared
compared_of reported S role name first second = record { role = role; name = name; first = reported (den S first); second = reported (den S second) }
