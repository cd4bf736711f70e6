-- The orders of the attempts. A candidate's order is made from the netlists, so it is a relation between them and an
-- order.
use Rattle.std.specs.Prelude.{◌≡◌, ℕ, List, Option, IfSome}
use Rattle.std.specs.Borrow.{Bor}
use Rattle.net_bench.specs.Circuit.{Circuit, IsNet, Net, circuit}
use Rattle.net_names.specs.declared.order.Match.{Match}
use Rattle.net_names.specs.declared.order.Order.{Order}
use Rattle.net_names.specs.declared.order.Order.TheVariants as orders
use Rattle.net_order.specs.Order.{NamingModel, IsPairing, condition}
use Rattle.group_order.specs.Sides.{IndexedNetlistModel}
use Rattle.group_order.specs.Orders.{IsOrderBy, force_groups_numbers, msb_first_numbers, weights_numbers}
use Rattle.compare_built.specs.declared.strategy.Candidate.{Candidate}
use Rattle.compare_built.specs.declared.strategy.Candidate.TheVariants.{MsbFirst, Weights, ForceGroups}
use Rattle.compare_built.specs.declared.strategy.AttemptOrder.{AttemptOrder}
use Rattle.compare_built.specs.declared.strategy.AttemptOrder.TheVariants.{Computed, Declared}
use Rattle.compare_built.specs.Check.{AreGiven}
use Rattle.compare_built.specs.Devices.{DeviceTexts}

-- the rule by which the order of a candidate is made
abbrev pub rule_of : Candidate → List (List ℕ) → List IndexedNetlistModel → List ℕ
rule_of MsbFirst = msb_first_numbers
rule_of Weights = weights_numbers
rule_of ForceGroups = force_groups_numbers

-- The order is made by this rule from the netlists that have these circuits, with their ranks.
pub record IsMadeBy (rule : List (List ℕ) → List IndexedNetlistModel → List ℕ) (how : Match) (a b : Circuit) (given : Option Circuit) (order : Order) : Type 0 where
  pub first : Net
  pub second : Net
  pub conditional : Option (Bor Net)
  pub first_net : IsNet first
  pub second_net : IsNet second
  pub conditional_net : IfSome conditional (λ n. IsNet n.now)
  pub is_first : circuit first ≡ a
  pub is_second : circuit second ≡ b
  pub is_conditional : condition conditional ≡ given
  pub by_rule : IsOrderBy rule how first second conditional order

-- this is the order of an attempt at two netlists, with a condition or without
abbrev pub IsOrderOf : Match → Circuit → Circuit → Option Circuit → AttemptOrder → Order → Type 0
IsOrderOf how a b given (Computed c) order = IsMadeBy (rule_of c) how a b given order
IsOrderOf how a b given Declared order = order ≡ orders.Declared

-- this is the pairing in the order of an attempt
abbrev pub IsPairingBy : Match → Circuit → Circuit → Option Circuit → AttemptOrder → NamingModel → Type 0
IsPairingBy how a b given t p = (order : Order) × IsOrderOf how a b given t order × IsPairing how a b given order p

-- this is the order of an attempt at what the devices gave
abbrev pub IsOrderIn : DeviceTexts → Match → AttemptOrder → Order → Type 0
IsOrderIn input how t order = (a b : Circuit) × (given : Option Circuit) × AreGiven input a b given × IsOrderOf how a b given t order

-- this holds of the order of an attempt at what the devices gave
abbrev pub InOrderOf : DeviceTexts → Match → AttemptOrder → (Order → Type 0) → Type 0
InOrderOf input how t P = (order : Order) × IsOrderIn input how t order × P order
