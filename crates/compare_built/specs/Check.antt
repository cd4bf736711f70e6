-- What a check has done: the report that it wrote, or why it wrote none.
use Rattle.std.specs.Prelude.{◌≡◌, ◌⊎◌, ℕ, ◌<◌, ◌≤◌, List, Option, Some, None, IfSome, IsSomeAnd, length, ⊤}
use Rattle.net_bench.specs.Circuit.{Circuit}
use Rattle.net_bench.specs.Fault.{MakesNetlist, IsRefused as IsTextRefused}
use Rattle.net_bench.specs.declared.fault.BenchFault.{BenchFault}
use Rattle.net_bench.specs.declared.fault.BenchFault.TheVariants.{Read as ReadFailed, OutOfMemory as NoTextMemory}
use Rattle.net_names.specs.declared.order.Match.{Match}
use Rattle.net_names.specs.declared.order.Order.{Order}
use Rattle.net_names.specs.declared.order.OrderFault.TheVariants.{OutOfMemory as NoOrderMemory}
use Rattle.net_order.specs.Order.{NamingModel, IsNaming, IsPairing, IsRefused, max_variables, variables_in}
use Rattle.compare_built.specs.Devices.{DeviceTexts}
use Rattle.compare_built.specs.declared.strategy.Strategy.{Strategy}
use Rattle.compare_built.specs.declared.strategy.Strategy.TheVariants.{One, Computed, Best, Auto, Cones, ConesByList, Merge}
use Rattle.compare_built.specs.declared.fault.CheckFault.{CheckFault}
use Rattle.compare_built.specs.declared.fault.CheckFault.TheVariants.{First, Second, Given, GivenOutputs, Order as OrderRefused, Only}
use Rattle.compare_built.specs.declared.fault.CheckFault.TheVariants.{Explain, Wave, GivenUp, Write, OutOfMemory}
use Rattle.compare_built.specs.Conditions.{HasOneOutput}
use Rattle.report_text.specs.Lines.{Found}
use Rattle.compare_built.specs.declared.verdict_order.Details.{Details}
use Rattle.compare_built.specs.Report.{AreVerdicts}

-- what a device gave is the text of this netlist
abbrev pub Gives : Option (List ℕ) → Circuit → Type 0
Gives input c = IfSome input (λ text. MakesNetlist text c)

-- what the condition's device gave, if there is one, is the text of a netlist with exactly one output
abbrev pub IsCondition : Option (Option (List ℕ)) → Option Circuit → Type 0
IsCondition None None = Unit {0}
IsCondition None (Some c) = ⊥
IsCondition (Some input) None = ⊥
IsCondition (Some input) (Some c) = Gives input c × HasOneOutput c

-- the devices gave these netlists, and this condition if there is one
pub record AreGiven (input : DeviceTexts) (a b : Circuit) (c : Option Circuit) : Type 0 where
  pub first : Gives input.first a
  pub second : Gives input.second b
  pub condition : IsCondition input.given c

-- the devices gave two netlists, and the condition if there is one, and this is their naming
pub record HaveNaming (input : DeviceTexts) (how : Match) (order : Order) (a b : Circuit) (c : Option Circuit) (p : NamingModel) : Type 0 where
  pub netlists : AreGiven input a b c
  pub naming : IsNaming how a b c order p

-- the devices gave two netlists, and the condition if there is one, and this is their pairing
pub record ArePaired (input : DeviceTexts) (how : Match) (order : Order) (a b : Circuit) (c : Option Circuit) (p : NamingModel) : Type 0 where
  pub netlists : AreGiven input a b c
  pub pairing : IsPairing how a b c order p

-- These are the findings of a comparison of what the devices gave.
pub record IsJudged (input : DeviceTexts) (how : Match) (order : Order) (asked : Details) (found : Found) : Type 0 where
  pub a : Circuit
  pub b : Circuit
  pub c : Option Circuit
  pub p : NamingModel
  pub paired : ArePaired input how order a b c p
  pub verdicts : AreVerdicts asked a b c p found

-- Why a text is refused: memory was refused, a device has failed, or the text has this first fault. Only a device that
-- has failed is a cause of `Read`.
pub record IsUnread (input : Option (List ℕ)) (has_failed : Type 0) (fault : BenchFault) : Type 0 where
  pub cause : (fault ≡ NoTextMemory) ⊎ (fault ≡ ReadFailed) ⊎ IfSome input (λ text. IsTextRefused text fault)
  pub read : fault ≡ ReadFailed → has_failed

-- why there is no condition: its text is refused, or has not exactly one output; `has_failed` is the statement that its
-- device has failed
abbrev pub IsConditionFault : Option (Option (List ℕ)) → (has_failed : Type 0) → CheckFault → Type 0
IsConditionFault given has_failed (First fault) = ⊥
IsConditionFault given has_failed (Second fault) = ⊥
IsConditionFault given has_failed (Given fault) = IsSomeAnd given (λ input. IsUnread input has_failed fault)
IsConditionFault given has_failed GivenOutputs = (c : Circuit) × IsSomeAnd given (λ input. Gives input c) × (HasOneOutput c → ⊥)
IsConditionFault given has_failed (OrderRefused fault) = ⊥
IsConditionFault given has_failed Only = ⊥
IsConditionFault given has_failed Explain = ⊥
IsConditionFault given has_failed (Wave fault) = ⊥
IsConditionFault given has_failed GivenUp = ⊥
IsConditionFault given has_failed Write = ⊥
IsConditionFault given has_failed OutOfMemory = ⊥

-- the devices gave netlists that have more variables than a pairing may have
abbrev pub HaveTooManyVariables : DeviceTexts → Match → Type 0
HaveTooManyVariables input how = (a b : Circuit) × (c : Option Circuit) × AreGiven input a b c × (max_variables < length (variables_in how a b c))

-- there are at most as many variables as a pairing may have, unless by this choice pairs may be judged by their cones
abbrev pub AreVariablesFewFor : Strategy → Match → Circuit → Circuit → Option Circuit → Type 0
AreVariablesFewFor (One o) how a b c = length (variables_in how a b c) ≤ max_variables
AreVariablesFewFor (Computed k) how a b c = length (variables_in how a b c) ≤ max_variables
AreVariablesFewFor Best how a b c = length (variables_in how a b c) ≤ max_variables
AreVariablesFewFor Auto how a b c = ⊤
AreVariablesFewFor Cones how a b c = ⊤
AreVariablesFewFor Merge how a b c = ⊤
AreVariablesFewFor (ConesByList names) how a b c = ⊤

-- the devices gave netlists that have a naming, and a pairing unless by this choice pairs may be judged by their cones
abbrev pub AreAccepted : DeviceTexts → Strategy → Match → Order → Type 0
AreAccepted input choice how order = (a b : Circuit) × (c : Option Circuit) × (p : NamingModel) × HaveNaming input how order a b c p
    × AreVariablesFewFor choice how a b c

-- this is a fault of reading the texts, which comes before the pairing
abbrev pub IsFaultOfReading : CheckFault → Type 0
IsFaultOfReading (First fault) = Unit {0}
IsFaultOfReading (Second fault) = Unit {0}
IsFaultOfReading (Given fault) = Unit {0}
IsFaultOfReading GivenOutputs = Unit {0}
IsFaultOfReading (OrderRefused fault) = ⊥
IsFaultOfReading Only = ⊥
IsFaultOfReading Explain = ⊥
IsFaultOfReading (Wave fault) = ⊥
IsFaultOfReading GivenUp = ⊥
IsFaultOfReading Write = ⊥
IsFaultOfReading OutOfMemory = ⊥

-- this is a fault that comes after the pairing and before the writing of the report
abbrev pub IsComparisonFault : CheckFault → Type 0
IsComparisonFault (First fault) = ⊥
IsComparisonFault (Second fault) = ⊥
IsComparisonFault (Given fault) = ⊥
IsComparisonFault GivenOutputs = ⊥
IsComparisonFault (OrderRefused fault) = ⊥
IsComparisonFault Only = ⊥
IsComparisonFault Explain = ⊥
IsComparisonFault (Wave fault) = Unit {0}
IsComparisonFault GivenUp = ⊥
IsComparisonFault Write = ⊥
IsComparisonFault OutOfMemory = Unit {0}

-- Why there is no report by this choice. The three statements say that the first device has failed, the second, and the
-- condition's. All that is looked at before the cause was accepted: the first text, the second, the condition's, its
-- outputs, and the pairing, or the naming if pairs may be judged by their cones. What is to be explained is looked up
-- elsewhere, before anything is compared.
abbrev pub IsCheckFault : DeviceTexts → (first_failed second_failed given_failed : Type 0) → Strategy → Match → Order → CheckFault → Type 0
IsCheckFault input first_failed second_failed given_failed choice how order (First fault) = IsUnread input.first first_failed fault
IsCheckFault input first_failed second_failed given_failed choice how order (Second fault) = (a : Circuit) × Gives input.first a
    × IsUnread input.second second_failed fault
IsCheckFault input first_failed second_failed given_failed choice how order (Given fault) =
    (a b : Circuit) × Gives input.first a × Gives input.second b × IsConditionFault input.given given_failed (Given fault)
IsCheckFault input first_failed second_failed given_failed choice how order GivenOutputs =
    (a b : Circuit) × Gives input.first a × Gives input.second b × IsConditionFault input.given given_failed GivenOutputs
IsCheckFault input first_failed second_failed given_failed choice how order (OrderRefused fault) =
    (a b : Circuit) × (c : Option Circuit) × AreGiven input a b c × ((fault ≡ NoOrderMemory) ⊎ IsRefused how a b c order fault)
IsCheckFault input first_failed second_failed given_failed choice how order Only = AreAccepted input choice how order
IsCheckFault input first_failed second_failed given_failed choice how order Explain = ⊥
IsCheckFault input first_failed second_failed given_failed choice how order (Wave fault) = AreAccepted input choice how order
IsCheckFault input first_failed second_failed given_failed choice how order GivenUp = AreAccepted input choice how order
IsCheckFault input first_failed second_failed given_failed choice how order Write = AreAccepted input choice how order
IsCheckFault input first_failed second_failed given_failed choice how order OutOfMemory = AreAccepted input choice how order
