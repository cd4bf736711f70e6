-- The report of two netlists, with a condition or without. It is defined by functions and their sizes only, without
-- diagrams, references or numbers of nodes in a store.
use Rattle.std.specs.Prelude.{◌≡◌, ℕ, Bool, true, false, List, ◌++◌, ◌==◌, map, find, length, Option, Some, None, slice_index, ◌↔◌}
use Rattle.std.specs.List.{AllZip}
use Rattle.net_bench.specs.Circuit.{Circuit}
use Rattle.net_bench.specs.Labels.{IsFunctionOf}
use Rattle.net_order.specs.Order.{NamingModel, gate_operands, name_of, names_of}
use Rattle.dd_store.specs.Size.{HasSize}
use Rattle.report_text.specs.declared.outcome.Outcome.{Outcome}
use Rattle.report_text.specs.declared.outcome.PairKind.{PairKind}
use Rattle.report_text.specs.declared.outcome.PairKind.TheVariants.{Output, NextState}
use Rattle.report_text.specs.declared.outcome.Side.{Side}
use Rattle.report_text.specs.declared.outcome.Side.TheVariants.{First, Second}
use Rattle.compare_built.specs.declared.subject.Subject.{Subject}
use Rattle.counter_walk.specs.Support.{IsSupportOf}
use Rattle.report_text.specs.declared.verdict.Extras.{Extras}
use Rattle.report_text.specs.declared.verdict.Verdict.{Verdict}
use Rattle.compare_built.specs.declared.verdict_order.Details.{Details}
use Rattle.report_text.specs.declared.verdict.Verdict.TheVariants.{Equal, Differs, Unmatched, Undecided}
use Rattle.compare_built.specs.Conditions.{HoldsWhere, restricted, AgreeWhere, IsLeastWhere}
use Rattle.report_text.specs.Lines.{Found, counted}

-- the signal whose value a register takes next: its operand
abbrev pub next_of : Circuit → ℕ → ℕ
next_of c register = slice_index (gate_operands (find (λ g. g.out == register) c.registers)) 0

-- the pair of two outputs that are compared
abbrev pub output_subject : ℕ × ℕ → Subject
output_subject pair = record { role = Output; named = pair.0; first = pair.0; second = pair.1 }

-- the pair of the next states of two registers; its name is that of the first netlist's register
abbrev pub next_subject : Circuit → Circuit → ℕ × ℕ → Subject
next_subject a b pair = record { role = NextState; named = pair.0; first = next_of a pair.0; second = next_of b pair.1 }

-- all pairs: those of outputs, then those of next states
abbrev pub subjects : Circuit → Circuit → NamingModel → List Subject
subjects a b p = map output_subject p.outputs.pairs ++ map (next_subject a b) p.registers.pairs

-- A pair as its verdict reports it: its role, its name, and the two functions.
pub record Compared : Type 0 where
  pub role : PairKind
  pub name : List ℕ
  pub first : List Bool → Bool
  pub second : List Bool → Bool

-- a size is shown exactly if sizes are asked for, and then it is the size of the function's diagram over n levels
abbrev pub IsSizeShown : Bool → ℕ → (List Bool → Bool) → Option ℕ → Type 0
IsSizeShown false n f shown = shown ≡ None
IsSizeShown true n f shown = (k : ℕ) × HasSize n f k × (shown ≡ Some k)

-- the same for two functions
abbrev pub AreSizesShown : Bool → ℕ → (List Bool → Bool) → (List Bool → Bool) → Option (ℕ × ℕ) → Type 0
AreSizesShown false n f g shown = shown ≡ None
AreSizesShown true n f g shown = (k : ℕ) × (m : ℕ) × HasSize n f k × HasSize n g m × (shown ≡ Some (k, m))

-- if it is asked for, the levels are shown on which one of the two functions depends
abbrev pub IsSupportShown : Bool → ℕ → (List Bool → Bool) → (List Bool → Bool) → Option (List Bool) → Type 0
IsSupportShown false n f g shown = shown ≡ None
IsSupportShown true n f g shown = (levels : List Bool) × IsSupportOf n f g levels × (shown ≡ Some levels)

-- what is reported of two different functions besides an assignment, if it is asked for
pub record AreExtrasShown (asked : Details) (n : ℕ) (f g : List Bool → Bool) (shown : Extras) : Type 0 where
  pub least : shown.least ≡ true
  pub sizes : AreSizesShown asked.sizes n f g shown.sizes
  pub support : IsSupportShown asked.support n f g shown.support

-- The verdict of a pair whose functions have n bits: Equal if they agree wherever the condition holds, and otherwise
-- Differs, with the least difference there and the two values. Sizes and support are those of the functions restricted
-- to the condition. There is no verdict of another kind.
pub data IsVerdictOf (n : ℕ) (asked : Details) (holds : List Bool → Bool) (c : Compared) : Verdict → Type 0 where
  where_equal : {shown : Option ℕ} → AgreeWhere n holds c.first c.second → IsSizeShown asked.sizes n (restricted holds c.first) shown
      → IsVerdictOf n asked holds c (Equal c.role c.name shown)
  where_different : {x : List Bool} {shown : Extras} → IsLeastWhere n holds c.first c.second x
      → AreExtrasShown asked n (restricted holds c.first) (restricted holds c.second) shown →
      IsVerdictOf n asked holds c (Differs c.role c.name x (c.first x) (c.second x) shown)

-- the functions of a pair are those of its two signals, over the variables of the pairing
pub record AreFunctions (a b : Circuit) (p : NamingModel) (subject : Subject) (c : Compared) : Type 0 where
  pub role : c.role ≡ subject.role
  pub name : c.name ≡ name_of a subject.named
  pub first : IsFunctionOf a (slice_index p.first) (length p.names) subject.first c.first
  pub second : IsFunctionOf b (slice_index p.second) (length p.names) subject.second c.second

-- the verdicts of one netlist's outputs without a partner, then of its registers
abbrev pub unmatched_of_side : Side → Circuit → List ℕ → List ℕ → List Verdict
unmatched_of_side side c outputs registers = map (Unmatched side Output) (names_of c outputs) ++ map (Unmatched side NextState) (names_of c registers)

-- the verdicts of all outputs and registers without a partner
abbrev pub unmatched_verdicts : Circuit → Circuit → NamingModel → List Verdict
unmatched_verdicts a b p = unmatched_of_side First a p.outputs.only_first p.registers.only_first
    ++ unmatched_of_side Second b p.outputs.only_second p.registers.only_second

-- the verdict says that its two functions are equal
abbrev pub CallsEqual : Verdict → Type 0
CallsEqual (Equal role name size) = Unit {0}
CallsEqual (Differs role name at first second extras) = ⊥
CallsEqual (Unmatched side role name) = ⊥
CallsEqual (Undecided role name) = ⊥

-- The findings of a comparison of two netlists that are paired: a verdict for each pair of outputs, then for the next
-- states of each pair of registers, then for the outputs and registers without a partner. A condition has no verdicts
-- of its own. The variables are in the order of their levels.
pub record AreVerdicts (asked : Details) (a b : Circuit) (given : Option Circuit) (p : NamingModel) (found : Found) : Type 0 where
  pub variables : found.variables ≡ p.names
  pub holds : List Bool → Bool
  pub condition : HoldsWhere given p holds
  pub compared : List Compared
  pub functions : AllZip (AreFunctions a b p) (subjects a b p) compared
  pub of_pairs : List Verdict
  pub are_verdicts : AllZip (IsVerdictOf (length p.names) asked holds) compared of_pairs
  -- a pair is reported as equal exactly if its functions agree wherever the condition holds
  pub called_equal : AllZip (λ c v. CallsEqual v ↔ AgreeWhere (length p.names) holds c.first c.second) compared of_pairs
  pub all : found.verdicts ≡ of_pairs ++ unmatched_verdicts a b p

-- The report of two netlists that are paired, in some form: the text of the findings, and the counts of their verdicts.
pub record IsReport (form : Found → List ℕ) (asked : Details) (a b : Circuit) (given : Option Circuit) (p : NamingModel) (o : Outcome)
    (bytes : List ℕ) : Type 0 where
  pub found : Found
  pub verdicts : AreVerdicts asked a b given p found
  pub counts : o ≡ counted found.verdicts
  pub text : bytes ≡ form found
