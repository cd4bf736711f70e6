-- Faults after the pairing.
use Rattle.std.proofs.Common.{◌≢◌, ◌≤◌, Option, length, subst}
use Rattle.net_bench.specs.Circuit.{Circuit}
use Rattle.net_names.specs.declared.order.Match.{Match}
use Rattle.net_names.specs.declared.order.Order.{Order}
use Rattle.net_names.specs.declared.order.OrderFault.TheVariants.{TooManyInputs}
use Rattle.net_order.specs.Order.{max_variables, variables_in}
use Rattle.compare_built.specs.Devices.{DeviceTexts}
use Rattle.compare_built.specs.declared.strategy.Strategy.{Strategy}
use Rattle.compare_built.specs.declared.strategy.Strategy.TheVariants.{One, Computed, Best, Auto, Cones, ConesByList, Merge}
use Rattle.compare_built.specs.declared.fault.CheckFault.{CheckFault}
use Rattle.compare_built.specs.declared.fault.CheckFault.TheVariants as faults
use Rattle.compare_built.specs.Attempts.{MayGoByCones}
use Rattle.compare_built.specs.Check.{AreAccepted, AreVariablesFewFor, IsCheckFault, IsComparisonFault}

-- a fault after the pairing has its cause
pub late_fault : (input : DeviceTexts) (first_failed second_failed third_failed : Type 0) (choice : Strategy) (how : Match) (order : Order) (e : CheckFault) → AreAccepted input choice how order → IsComparisonFault e → IsCheckFault input first_failed second_failed third_failed choice how order e
late_fault input ff sf tf choice how order (faults.First fault) accepted late = absurd late
late_fault input ff sf tf choice how order (faults.Second fault) accepted late = absurd late
late_fault input ff sf tf choice how order (faults.Given fault) accepted late = absurd late
late_fault input ff sf tf choice how order faults.GivenOutputs accepted late = absurd late
late_fault input ff sf tf choice how order (faults.Order fault) accepted late = absurd late
late_fault input ff sf tf choice how order faults.Only accepted late = absurd late
late_fault input ff sf tf choice how order faults.Explain accepted late = absurd late
late_fault input ff sf tf choice how order (faults.Wave fault) accepted late = accepted
late_fault input ff sf tf choice how order faults.GivenUp accepted late = absurd late
late_fault input ff sf tf choice how order faults.Write accepted late = absurd late
late_fault input ff sf tf choice how order faults.OutOfMemory accepted late = accepted

-- no fault after the pairing is that there are too many variables
pub late_whole : (e : CheckFault) → IsComparisonFault e → e ≢ faults.Order TooManyInputs
late_whole e late is = subst IsComparisonFault is late

-- ---- how many variables there are

-- if there are few variables, there are few by any choice
pub few_for : (choice : Strategy) (how : Match) (a b : Circuit) (c : Option Circuit) → length (variables_in how a b c) ≤ max_variables → AreVariablesFewFor choice how a b c
few_for (One o) how a b c few = few
few_for (Computed k) how a b c few = few
few_for Best how a b c few = few
few_for Auto how a b c few = tt
few_for Cones how a b c few = tt
few_for Merge how a b c few = tt
few_for (ConesByList names) how a b c few = tt

-- if pairs may be judged by their cones, there may be any number of variables
pub any_for : (choice : Strategy) (how : Match) (a b : Circuit) (c : Option Circuit) → MayGoByCones choice → AreVariablesFewFor choice how a b c
any_for (One o) how a b c may = absurd may
any_for (Computed k) how a b c may = absurd may
any_for Best how a b c may = absurd may
any_for Auto how a b c may = tt
any_for Cones how a b c may = tt
any_for Merge how a b c may = tt
any_for (ConesByList names) how a b c may = tt
