-- The table of a run's faults, and the statements for each fault.
use Rattle.std.proofs.Common.{subst, refl, ℕ, List, Option}
use Rattle.expand_work.specs.declared.fault.WaveFault.TheVariants.{OutOfMemory as NoWaveMemory, NoWorker, Full, TooManyRequests, Stopped}
use Rattle.compare_built.specs.declared.fault.CheckFault.TheVariants.{First, Second, Given, GivenOutputs, Order, Only, Explain, Wave, GivenUp}
use Rattle.compare_built.specs.declared.fault.CheckFault.TheVariants.{Write, OutOfMemory as NoCheckMemory}
use Rattle.command_line.specs.declared.options.Options.{Options}
use Rattle.check_tool.specs.declared.fault.ToolFault.{ToolFault}
use Rattle.check_tool.specs.declared.fault.ToolFault.TheVariants.{OneFile, InputTwice, CannotOpen, CannotSave, InputUnread, InputTooLong, InputUndivided, BadPairs, BadOrder, Check, OutOfMemory}
use Rattle.check_tool.specs.Failures.{MayFail, RunSaysOfEach}

module _ (bytes_at : List ℕ → Option (List ℕ)) (input_broken : Type 0) (input : Option (List ℕ)) (o : Options) where
  pub to_each : (fault : ToolFault) → MayFail bytes_at input_broken input o fault → RunSaysOfEach bytes_at input_broken input o fault
  to_each fault h = record {
    read = λ e. subst (MayFail bytes_at input_broken input o) e h;
    full = λ e. (subst (MayFail bytes_at input_broken input o) e h).1;
    given_up = λ e. (subst (MayFail bytes_at input_broken input o) e h).1;
    by_cones = λ may. (λ e. (subst (MayFail bytes_at input_broken input o) e h).0 may, λ e. (subst (MayFail bytes_at input_broken input o) e h).0 may);
    thread_for_named_order = λ e. subst (MayFail bytes_at input_broken input o) e h;
    stopped = λ e. subst (MayFail bytes_at input_broken input o) e h;
    only = λ e. subst (MayFail bytes_at input_broken input o) e h;
    never_too_many_requests = λ e. subst (MayFail bytes_at input_broken input o) e h;
  }

  pub from_each : (fault : ToolFault) → RunSaysOfEach bytes_at input_broken input o fault → MayFail bytes_at input_broken input o fault
  from_each OneFile h = tt
  from_each InputTwice h = tt
  from_each (CannotOpen place obstacle) h = tt
  from_each (CannotSave obstacle) h = tt
  from_each InputUnread h = h.read refl
  from_each InputTooLong h = tt
  from_each InputUndivided h = tt
  from_each (BadPairs fault) h = tt
  from_each (BadOrder fault) h = tt
  from_each (Check (First fault)) h = tt
  from_each (Check (Second fault)) h = tt
  from_each (Check (Given fault)) h = tt
  from_each (Check GivenOutputs) h = tt
  from_each (Check (Order fault)) h = tt
  from_each (Check Only) h = h.only refl
  from_each (Check Explain) h = tt
  from_each (Check (Wave NoWaveMemory)) h = tt
  from_each (Check (Wave NoWorker)) h = h.thread_for_named_order refl
  from_each (Check (Wave Full)) h = (λ may. (h.by_cones may).0 refl, h.full refl)
  from_each (Check (Wave TooManyRequests)) h = h.never_too_many_requests refl
  from_each (Check (Wave Stopped)) h = h.stopped refl
  from_each (Check GivenUp) h = (λ may. (h.by_cones may).1 refl, h.given_up refl)
  from_each (Check Write) h = tt
  from_each (Check NoCheckMemory) h = tt
  from_each OutOfMemory h = tt
