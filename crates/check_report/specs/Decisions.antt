-- What the verdicts of a comparison are, and why there are none.
use Rattle.std.specs.Prelude.{◌≢◌, Option, Result, IfErr, IfOk, IfSome}
use Rattle.expand_work.specs.Bounds.{WaveBound}
use Rattle.net_names.specs.declared.order.Order.{Order}
use Rattle.report_text.specs.Lines.{Found}
use Rattle.compare_built.specs.Attempts.{AreGivenUp, IsAllowed, last_budget}
use Rattle.compare_built.specs.Check.{IsCheckFault}
use Rattle.compare_built.specs.Devices.{DeviceTexts}
use Rattle.compare_built.specs.Findings.{VerdictsModel, found_of}
use Rattle.compare_built.specs.declared.fault.CheckFault.{CheckFault}
use Rattle.compare_built.specs.declared.fault.CheckFault.TheVariants.{Write}
use Rattle.compare_built.specs.declared.settings.Settings.{Settings}
use Rattle.compare_built.specs.declared.strategy.Attempt.{Attempt}
use Rattle.compare_built.specs.declared.task.Task.{Task}
use Rattle.order_search.specs.Tasks.{OfTask}
use Rattle.explain_report.specs.Deciding.{IsFoundBy}
use Rattle.explain_report.specs.Explaining.{HaveReportNaming}
use Rattle.check_report.specs.Refusals.{MayAnswer}

-- the fault has its cause in an order that the settings allow; the first arguments say that the devices have failed
abbrev pub HasCause : DeviceTexts → (first_failed second_failed given_failed : Type 0) → Settings → CheckFault → Type 0
HasCause input first_failed second_failed given_failed s fault =
    (order : Order) × IsAllowed s.order order × IsCheckFault input first_failed second_failed given_failed s.order s.matching order fault

-- if an attempt is reported, those before it were given up: each within a smaller budget, and within the first budget
-- each before it
abbrev pub AreGivenUpBefore : DeviceTexts → Settings → (bound : WaveBound) → Option Attempt → Type 0
AreGivenUpBefore input s bound tried = IfSome tried (AreGivenUp input s.matching (last_budget s.order s.limit) bound)

-- The verdicts are those of what the devices gave, by these settings and this attempt. The attempts before it were given
-- up.
pub record IsDecision (input : DeviceTexts) (s : Settings) (bound : WaveBound) (found : Found) (tried : Option Attempt) : Type 0 where
  pub found_by : IsFoundBy input s bound found tried
  pub earlier_given_up : AreGivenUpBefore input s bound tried

-- Why there are no verdicts: the fault has its cause, if the arguments say that the devices have failed, and the table
-- of faults allows it. Nothing was to be written.
pub record IsNoDecision (input : DeviceTexts) (first_failed second_failed given_failed : Type 0) (s : Settings) (bound : WaveBound)
    (fault : CheckFault) : Type 0 where
  pub cause : HasCause input first_failed second_failed given_failed s fault
  pub answer : MayAnswer input s bound fault
  pub unwritten : fault ≢ Write

-- ---- the result of comparing a task: verdicts and the attempt that is reported with them, or a fault

-- if there are verdicts, they are those of the task
abbrev pub IfDecided : {H : Type 0} → Task H → (bound : WaveBound) → Result (VerdictsModel × Option Attempt) CheckFault → Type 0
IfDecided task bound result = OfTask task (λ input s. IfOk result (λ r. IsDecision input s bound (found_of r.0) r.1))

-- if there are verdicts, their naming is that of the task's netlists in the order of the report
abbrev pub IfNamed : {H : Type 0} → Task H → Result (VerdictsModel × Option Attempt) CheckFault → Type 0
IfNamed task result = IfOk result (λ r. HaveReportNaming task r.1 r.0)

-- if there is a fault, the task may have it
abbrev pub IfRefused : {H : Type 0} → Task H → (bound : WaveBound) → Result (VerdictsModel × Option Attempt) CheckFault → Type 0
IfRefused task bound result = OfTask task (λ input s. IfErr result (IsNoDecision input ⊥ ⊥ ⊥ s bound))
