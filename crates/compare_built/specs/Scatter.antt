-- What is found of a pair by its cones, over all variables of its naming.
use Rattle.std.specs.Prelude.{◌≡◌, ◌<◌, ℕ, Bool, false, List, fold, map, length, replicate, zip, Option, Some, None, IfSome, slice_index}
use Rattle.std.specs.Prelude.{slice_set, All}
use Rattle.net_bench.specs.Circuit.{Circuit, Net, IsNet, circuit}
use Rattle.net_cone.specs.Cones.{variable_name}
use Rattle.net_names.specs.declared.order.Match.TheVariants.{Name}
use Rattle.net_names.specs.declared.order.Order.{Order}
use Rattle.net_names.specs.declared.order.Match.{Match}
use Rattle.net_order.specs.Order.{NamingModel, IsNaming, IsPairing}
use Rattle.report_text.specs.declared.outcome.PairKind.{PairKind}
use Rattle.report_text.specs.declared.verdict.Verdict.{Verdict}
use Rattle.report_text.specs.declared.verdict.Verdict.TheVariants.{Equal, Differs, Unmatched, Undecided}
use Rattle.compare_built.specs.declared.subject.Subject.{Subject}
use Rattle.compare_built.specs.Cones.{AreCones}

-- ---- assignments

-- the places rise, and each is less than n
pub record ArePlaces (n : ℕ) (places : List ℕ) : Type 0 where
  pub below : All (λ l. l < n) places
  pub rising : (i j : ℕ) → i < j → j < length places → slice_index places i < slice_index places j

-- the assignment after this bit is put at this place
abbrev pub with_bit : List Bool → ℕ × Bool → List Bool
with_bit bits at = slice_set bits at.0 at.1

-- the assignment of n bits that has the bits of x at the places, and 0 elsewhere
abbrev pub scattered : (n : ℕ) → (places : List ℕ) → List Bool → List Bool
scattered n places x = fold with_bit (replicate n false) (zip places x)

-- ---- verdicts

-- a support over the variables at the places as one over all n variables, if there is one
abbrev pub scatter_support : (n : ℕ) → (places : List ℕ) → Option (List Bool) → Option (List Bool)
scatter_support n places None = None
scatter_support n places (Some marks) = Some (scattered n places marks)

-- A verdict over the variables at the places as the verdict of this role and name over all n variables. Sizes are left
-- out.
abbrev pub widened_verdict : PairKind → (name : List ℕ) → (n : ℕ) → (places : List ℕ) → Verdict → Verdict
widened_verdict role name n places (Equal own_role own_name size) = Equal role name None
widened_verdict role name n places (Differs own_role own_name x first second extras) = Differs role name (scattered n places x) first second
    (record { least = extras.least; support = scatter_support n places extras.support; sizes = None })
widened_verdict role name n places (Unmatched side own_role own_name) = Unmatched side role name
widened_verdict role name n places (Undecided own_role own_name) = Undecided role name

-- ---- cones

-- this is the circuit of a netlist that was read
pub record IsOfNet (c : Circuit) : Type 0 where
  pub net : Net
  pub sound : IsNet net
  pub is_circuit : circuit net ≡ c

-- p is the naming of the two netlists, with this condition or none, for some way of matching and some order
abbrev pub IsNamed : Circuit → Circuit → Option Circuit → NamingModel → Type 0
IsNamed a b given p = (how : Match) × (order : Order) × IsNaming how a b given order p

-- Two netlists have a naming, and the cones of a pair of their signals are paired by name. The variables of the cones
-- are those at these places of the naming, in its order. Each has its name from the naming, after a 'v'.
pub record IsConePairing (a b : Circuit) (given : Option Circuit) (p : NamingModel) (s : Subject) (k m : Circuit) (w : Option Circuit)
    (places : List ℕ) (q : NamingModel) : Type 0 where
  pub first : IsOfNet a
  pub second : IsOfNet b
  pub condition : IfSome given IsOfNet
  pub whole : IsNamed a b given p
  pub cones : AreCones a b given p s k m w
  pub in_order : ArePlaces (length p.names) places
  pub order : Order
  pub paired : IsPairing Name k m w order q
  pub names : q.names ≡ map (variable_name p.names) places
