-- Pairs that are judged one by one, each by its cones.
use Rattle.std.specs.Prelude.{◌≡◌, ◌<◌, ◌/◌, ◌⊎◌, ◌↔◌, ℕ, max, ◌++◌, Bool, List, [], Option, Some, None, length, slice_index}
use Rattle.std.specs.Prelude.{All, ⊤}
use Rattle.std.specs.List.{AllZip, slice_index_or}
use Rattle.expand_work.specs.Bounds.{MayStop, WaveBound}
use Rattle.net_bench.specs.Circuit.{Circuit, Net, circuit, variables_of}
use Rattle.net_cone.specs.Cones.{IsCone}
use Rattle.net_names.specs.declared.order.Match.TheVariants.{Name}
use Rattle.net_names.specs.declared.order.Order.{Order}
use Rattle.net_order.specs.Order.{IsPairing, NamingModel, max_variables, variables_in}
use Rattle.report_text.specs.declared.verdict.Verdict.{Verdict}
use Rattle.report_text.specs.declared.verdict.Verdict.TheVariants.{Equal, Undecided}
use Rattle.report_text.specs.Lines.{Found}
use Rattle.compare_built.specs.declared.strategy.AttemptOrder.{AttemptOrder}
use Rattle.compare_built.specs.declared.strategy.AttemptOrder.TheVariants.{Computed}
use Rattle.compare_built.specs.declared.strategy.Candidate.{Candidate}
use Rattle.compare_built.specs.declared.subject.Subject.{Subject}
use Rattle.compare_built.specs.Attempts.{IsBudget, requests_within}
use Rattle.compare_built.specs.Candidates.{IsPairingBy}
use Rattle.report_text.specs.declared.difference.Difference.{Difference}
use Rattle.report_text.specs.declared.difference.Difference.TheVariants.{Least, AnyOne}
use Rattle.compare_built.specs.Conditions.{AgreeWhere, HoldsWhere, everywhere, output_of}
use Rattle.compare_built.specs.Facts.{IsShownDifference}
use Rattle.compare_built.specs.Limits.{Exceeds, FitsWithin}
use Rattle.compare_built.specs.declared.verdict_order.Details.{Details}
use Rattle.compare_built.specs.Report.{AreFunctions, CallsEqual, Compared, IsVerdictOf}
use Rattle.compare_built.specs.Widths.{IsTooWide}

-- ---- cones

-- the names of a netlist's variables, by signal, are those that a naming gives to their levels
pub record AreNamed (c : Circuit) (levels : List ℕ) (p : NamingModel) (names : List (List ℕ)) : Type 0 where
  pub each : length names ≡ length c.names
  pub variables : All (λ s. slice_index_or names s [] ≡ slice_index_or p.names (slice_index levels s) []) (variables_of c)

-- This is the cone of a signal, and its variables have the names of a naming.
pub record IsConeIn (c : Circuit) (levels : List ℕ) (p : NamingModel) (root : ℕ) (cone : Circuit) : Type 0 where
  pub whole : Net
  pub part : Net
  pub names : List (List ℕ)
  pub from : List ℕ
  pub is_whole : circuit whole ≡ c
  pub is_part : circuit part ≡ cone
  pub named : AreNamed c levels p names
  pub cone_of : IsCone whole root names part from

-- this is the cone of the condition's output, if there is a condition
abbrev pub IsConditionCone : Option Circuit → NamingModel → Option Circuit → Type 0
IsConditionCone None p None = ⊤
IsConditionCone None p (Some w) = ⊥
IsConditionCone (Some c) p None = ⊥
IsConditionCone (Some c) p (Some w) = IsConeIn c p.given p (output_of c) w

-- these are the cones of a pair, and of the condition
pub record AreCones (a b : Circuit) (given : Option Circuit) (p : NamingModel) (s : Subject) (k m : Circuit) (w : Option Circuit) : Type 0 where
  pub first : IsConeIn a p.first p s.first k
  pub second : IsConeIn b p.second p s.second m
  pub condition : IsConditionCone given p w

-- ---- attempts

-- The most nodes that a pair may need by its cones: a quarter of the limit, so that four pairs can be judged at the
-- same time within it.
abbrev pub cone_limit : (limit : ℕ) → ℕ
cone_limit limit = max 1 (limit / 4)

-- in each candidate's order of the cones' variables an attempt was given up: more nodes are needed than the budget has,
-- or one wave reaches more requests than an attempt within the budget may have, or the run may stop before the attempt
-- has ended
abbrev pub AreGivenUpIn : (budget : ℕ) → (bound : WaveBound) → (first second : Circuit) → (condition : Option Circuit) → Type 0
AreGivenUpIn budget bound first second condition = (c : Candidate) → (q : NamingModel) × IsPairingBy Name first second condition (Computed c) q
    × (Exceeds budget first second condition q ⊎ IsTooWide (requests_within budget bound) first second condition q ⊎ MayStop bound)

-- this is the pairing of the cones in the order that is listed for them; there is none if no order is listed
abbrev pub IsPairingInListed : (order : Option Order) → (first second : Circuit) → (condition : Option Circuit) → NamingModel → Type 0
IsPairingInListed None first second condition q = ⊥
IsPairingInListed (Some order) first second condition q = IsPairing Name first second condition order q

-- if an order is listed for the cones, the attempt in it was given up too, for one of the same causes
abbrev pub IsListedGivenUp : (order : Option Order) → (budget : ℕ) → (bound : WaveBound) → (first second : Circuit)
    → (condition : Option Circuit) → Type 0
IsListedGivenUp None budget bound first second condition = ⊤
IsListedGivenUp (Some order) budget bound first second condition = (q : NamingModel) × IsPairing Name first second condition order q
    × (Exceeds budget first second condition q ⊎ IsTooWide (requests_within budget bound) first second condition q ⊎ MayStop bound)

-- Within the budget a pair is not decided by its cones: they have more variables together than a pairing may have, or
-- each attempt was given up, also the one in the listed order if there is one.
pub record AreConesGivenUp (order : Option Order) (budget : ℕ) (bound : WaveBound) (a b : Circuit) (given : Option Circuit)
    (p : NamingModel) (s : Subject) : Type 0 where
  pub first : Circuit
  pub second : Circuit
  pub condition : Option Circuit
  pub cones : AreCones a b given p s first second condition
  pub cause : (max_variables < length (variables_in Name first second condition))
      ⊎ (AreGivenUpIn budget bound first second condition × IsListedGivenUp order budget bound first second condition)

-- Within the budget a pair is undecided: it is not decided by its cones, or the run may stop before they are tried.
abbrev pub IsUndecidedWithin : (order : Option Order) → (budget : ℕ) → (bound : WaveBound) → Circuit → Circuit → Option Circuit
    → NamingModel → Subject → Type 0
IsUndecidedWithin order budget bound a b given p s = AreConesGivenUp order budget bound a b given p s ⊎ MayStop bound

-- No budget up to the cones' limit decides the pair.
abbrev pub IsUndecided : (order : Option Order) → (limit : ℕ) → (bound : WaveBound) → Circuit → Circuit → Option Circuit
    → NamingModel → Subject → Type 0
IsUndecided order limit bound a b given p s =
    (budget : ℕ) → IsBudget (cone_limit limit) budget → IsUndecidedWithin order budget bound a b given p s

-- this is the pairing of the cones in the order of some attempt, or in the order that is listed for them
abbrev pub IsConeAttempt : (order : Option Order) → (first second : Circuit) → (condition : Option Circuit) → NamingModel → Type 0
IsConeAttempt order first second condition q =
    ((t : AttemptOrder) × IsPairingBy Name first second condition t q) ⊎ IsPairingInListed order first second condition q

-- In the order of some attempt, or in the one that is listed for them, the cones of a pair need at most this many
-- nodes.
pub record FitByCones (order : Option Order) (limit : ℕ) (a b : Circuit) (given : Option Circuit) (p : NamingModel) (s : Subject)
    : Type 0 where
  pub first : Circuit
  pub second : Circuit
  pub condition : Option Circuit
  pub cones : AreCones a b given p s first second condition
  pub pairing : NamingModel
  pub paired : IsConeAttempt order first second condition pairing
  pub fit : FitsWithin limit first second condition pairing

-- ---- verdicts

-- a difference that may not be the least may be reported: any difference is asked for, or each attempt was given up
abbrev pub MayShow : Difference → (left : Type 0) → Type 0
MayShow Least left = left
MayShow AnyOne left = ⊤

-- The verdict of a pair over the variables of the naming. It is that of its functions restricted to the condition, if
-- its cones are within their limit (`within`); or Equal, if the functions agree everywhere; or it has an assignment at
-- which they differ, which may not be the least; or it is Undecided, if no attempt decides the pair (`left`) and no
-- pattern shows that it differs (`unshown`).
pub data IsVerdictOrUndecided (n : ℕ) (asked : Details) (difference : Difference) (within left unshown : Type 0) (holds : List Bool → Bool)
    (c : Compared) : Verdict → Type 0 where
  decided : {v : Verdict} → within → IsVerdictOf n asked holds c v → (CallsEqual v ↔ AgreeWhere n holds c.first c.second)
      → IsVerdictOrUndecided n asked difference within left unshown holds c v
  merged : AgreeWhere n everywhere c.first c.second
      → IsVerdictOrUndecided n asked difference within left unshown holds c (Equal c.role c.name None)
  shown : {v : Verdict} → MayShow difference left → IsShownDifference n holds c v
      → IsVerdictOrUndecided n asked difference within left unshown holds c v
  undecided : left → unshown → IsVerdictOrUndecided n asked difference within left unshown holds c (Undecided c.role c.name)

-- The same for a pair, whose functions are those of its signals.
pub record IsConeVerdict (asked : Details) (difference : Difference) (within left unshown : Subject → Type 0) (a b : Circuit)
    (given : Option Circuit) (p : NamingModel) (s : Subject) (v : Verdict) : Type 0 where
  pub holds : List Bool → Bool
  pub condition : HoldsWhere given p holds
  pub compared : Compared
  pub functions : AreFunctions a b p s compared
  pub verdict : IsVerdictOrUndecided (length p.names) asked difference (within s) (left s) (unshown s) holds compared v

-- The findings of a comparison by cones: a verdict for each pair that is picked, then these lines of outputs and
-- registers without a partner. The variables are in the order of their levels.
pub record AreConeVerdicts (asked : Details) (difference : Difference) (within left unshown : Subject → Type 0) (a b : Circuit)
    (given : Option Circuit) (p : NamingModel) (pairs : List Subject) (unmatched_lines : List Verdict) (found : Found) : Type 0 where
  pub variables : found.variables ≡ p.names
  pub of_pairs : List Verdict
  pub verdicts : AllZip (IsConeVerdict asked difference within left unshown a b given p) pairs of_pairs
  pub all : found.verdicts ≡ of_pairs ++ unmatched_lines
