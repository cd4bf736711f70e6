-- Statements about a task.
use Rattle.std.specs.Prelude.{◌≡◌, Result, IfErr}
use Rattle.net_bench.specs.Circuit.{circuit}
use Rattle.net_names.specs.declared.order.Order.{Order}
use Rattle.net_names.specs.declared.order.OrderFault.{OrderFault}
use Rattle.net_order.specs.Order.{IsFit, condition, variables_in}
use Rattle.group_order.specs.Orders.{IsOrderFault}
use Rattle.compare_built.specs.declared.fault.CheckFault.{CheckFault}
use Rattle.compare_built.specs.declared.fault.CheckFault.TheVariants.{Order as OrderRefused}
use Rattle.compare_built.specs.declared.settings.Settings.{Settings}
use Rattle.compare_built.specs.declared.strategy.AttemptOrder.{AttemptOrder}
use Rattle.compare_built.specs.declared.subject.Subject.{Subject}
use Rattle.compare_built.specs.declared.task.Task.{Task}
use Rattle.compare_built.specs.Candidates.{IsOrderOf}
use Rattle.compare_built.specs.Check.{AreGiven, IsCheckFault}
use Rattle.compare_built.specs.Comparing.{IsInside}
use Rattle.compare_built.specs.Devices.{DeviceTexts}

-- This holds of the task's settings and of any devices' texts that are those of its netlists and, if there is one, of
-- its condition.
abbrev pub OfTask : {H : Type 0} → Task H → (DeviceTexts → Settings → Type 0) → Type 0
OfTask task P = (input : DeviceTexts) → AreGiven input (circuit task.first.now) (circuit task.second.now) (condition task.given)
    → P input task.settings.now

-- the signals of a pair are signals of the task's netlists
abbrev pub IsInTask : {H : Type 0} → Task H → Subject → Type 0
IsInTask task s = IsInside (circuit task.first.now) (circuit task.second.now) s

-- ---- orders of a task's variables

-- the order has each variable of the task's netlists once
abbrev pub IsFitFor : {H : Type 0} → Task H → Order → Type 0
IsFitFor task order = IsFit (variables_in task.settings.now.matching (circuit task.first.now) (circuit task.second.now) (condition task.given)) order

-- the order is that of an attempt at the task
abbrev pub IsAttemptOrder : {H : Type 0} → Task H → AttemptOrder → Order → Type 0
IsAttemptOrder task o order = IsOrderOf task.settings.now.matching (circuit task.first.now) (circuit task.second.now) (condition task.given) o order

-- why there is no order of an attempt at the task
abbrev pub HasNoOrder : {H : Type 0} → Task H → OrderFault → Type 0
HasNoOrder task fault = IsOrderFault task.settings.now.matching task.first.now task.second.now task.given fault

-- the fault is that of an order
abbrev pub IsOfOrder : CheckFault → Type 0
IsOfOrder fault = (f : OrderFault) × (fault ≡ OrderRefused f)

-- if the result is a fault, it has its cause in this order
abbrev pub IfErrInOrder : {H X : Type 0} → Task H → Order → Result X CheckFault → Type 0
IfErrInOrder task order result = OfTask task (λ input s. IfErr result (IsCheckFault input ⊥ ⊥ ⊥ s.order s.matching order))
