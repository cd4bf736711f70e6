-- The order of the variables, as it is printed.
use Rattle.std.specs.Prelude.{◌≡◌, ℕ, List, Option, Result, IfErr, IfOk}
use Rattle.net_bench.specs.Circuit.{Circuit}
use Rattle.net_names.specs.declared.order.Match.{Match}
use Rattle.net_names.specs.declared.order.Order.{Order}
use Rattle.net_order.specs.Order.{NamingModel}
use Rattle.net_names.specs.OrderText.{order_text}
use Rattle.compare_built.specs.Devices.{DeviceTexts}
use Rattle.compare_built.specs.Attempts.{IsFound}
use Rattle.compare_built.specs.Check.{ArePaired}
use Rattle.compare_built.specs.declared.fault.CheckFault.{CheckFault}
use Rattle.compare_built.specs.declared.settings.Settings.{Settings}
use Rattle.compare_built.specs.declared.strategy.Attempt.{Attempt}
use Rattle.compare_built.specs.declared.task.Task.{Task}
use Rattle.order_search.specs.Tasks.{OfTask}
use Rattle.explain_report.specs.Dumping.{Bytes}
use Rattle.check_report.specs.Decisions.{HasCause}

-- The bytes are the order file of the variables of what the devices gave, from level 0 on.
pub record IsOrderPrinted (input : DeviceTexts) (how : Match) (order : Order) (bytes : List ℕ) : Type 0 where
  pub a : Circuit
  pub b : Circuit
  pub c : Option Circuit
  pub p : NamingModel
  pub paired : ArePaired input how order a b c p
  pub text : bytes ≡ order_text p.names

-- the bytes are the order file of an order that the settings allow, and of this attempt if orders are tried
abbrev pub IsListing : DeviceTexts → Settings → Option Attempt → List ℕ → Type 0
IsListing input s tried bytes =
    (order : Order) × IsOrderPrinted input s.matching order bytes × IsFound input s.matching s.order s.limit tried order

-- ---- the result of listing the variables of a task: an order file and the attempt that found the order, or a fault

-- if there is an order file, it is one of the task
abbrev pub IfListed : {H : Type 0} → Task H → Result (Bytes × Option Attempt) CheckFault → Type 0
IfListed task result = OfTask task (λ input s. IfOk result (λ r. IsListing input s r.1 r.0.items))

-- if there is a fault, it has its cause in an order that the settings allow
abbrev pub IfUnlisted : {H : Type 0} → Task H → Result (Bytes × Option Attempt) CheckFault → Type 0
IfUnlisted task result = OfTask task (λ input s. IfErr result (HasCause input ⊥ ⊥ ⊥ s))
