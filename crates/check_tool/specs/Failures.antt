-- The faults that a run may end with, and what each of them implies besides its cause.
use Rattle.std.specs.Prelude.{◌≡◌, ◌≢◌, ℕ, false, List, Option, ⊤}
use Rattle.expand_work.specs.Bounds.{MayStop}
use Rattle.expand_work.specs.declared.fault.WaveFault.TheVariants.{OutOfMemory as NoWaveMemory, NoWorker, Full, TooManyRequests, Stopped}
use Rattle.compare_built.specs.declared.fault.CheckFault.TheVariants.{First, Second, Given, GivenOutputs, Order, Only, Explain, Wave, GivenUp}
use Rattle.compare_built.specs.declared.fault.CheckFault.TheVariants.{Write, OutOfMemory as NoCheckMemory}
use Rattle.compare_built.specs.declared.fault.CheckFault.{CheckFault}
use Rattle.explain_report.specs.Explaining.{IsAfterNames}
use Rattle.command_line.specs.declared.options.Options.{Options}
use Rattle.check_tool.specs.declared.fault.ToolFault.{ToolFault}
use Rattle.check_tool.specs.declared.fault.ToolFault.TheVariants.{OneFile, InputTwice, CannotOpen, CannotSave, InputUnread, InputTooLong}
use Rattle.check_tool.specs.declared.fault.ToolFault.TheVariants.{InputUndivided, BadPairs, BadOrder, Check, OutOfMemory}
use Rattle.check_tool.specs.Running.{AreUnknown, IsBeyond, IsExplainKnown, IsGivenUp, MayGoByCones, NamesOrder, bound_of}

-- What a fault of a run of these options implies besides its cause. The limit, attempts that were given up and a
-- stopped run are faults only if no pair may be judged by its cones; a missing thread only of a comparison in a named
-- order; and too many requests are never one.
abbrev pub MayFail : (List ℕ → Option (List ℕ)) → (input_broken : Type 0) → Option (List ℕ) → Options → ToolFault → Type 0
MayFail bytes_at input_broken input o OneFile = ⊤
MayFail bytes_at input_broken input o InputTwice = ⊤
MayFail bytes_at input_broken input o (CannotOpen place obstacle) = ⊤
MayFail bytes_at input_broken input o (CannotSave obstacle) = ⊤
MayFail bytes_at input_broken input o InputUnread = input_broken
MayFail bytes_at input_broken input o InputTooLong = ⊤
MayFail bytes_at input_broken input o InputUndivided = ⊤
MayFail bytes_at input_broken input o (BadPairs fault) = ⊤
MayFail bytes_at input_broken input o (BadOrder fault) = ⊤
MayFail bytes_at input_broken input o (Check (First fault)) = ⊤
MayFail bytes_at input_broken input o (Check (Second fault)) = ⊤
MayFail bytes_at input_broken input o (Check (Given fault)) = ⊤
MayFail bytes_at input_broken input o (Check GivenOutputs) = ⊤
MayFail bytes_at input_broken input o (Check (Order fault)) = ⊤
MayFail bytes_at input_broken input o (Check Only) = AreUnknown bytes_at input o
MayFail bytes_at input_broken input o (Check Explain) = ⊤
MayFail bytes_at input_broken input o (Check (Wave NoWaveMemory)) = ⊤
MayFail bytes_at input_broken input o (Check (Wave NoWorker)) = (o.print_order ≡ false) × NamesOrder o.order
MayFail bytes_at input_broken input o (Check (Wave Full)) = (MayGoByCones o.order → ⊥) × IsBeyond bytes_at input o
MayFail bytes_at input_broken input o (Check (Wave TooManyRequests)) = ⊥
MayFail bytes_at input_broken input o (Check (Wave Stopped)) = (MayGoByCones o.order → ⊥) × MayStop (bound_of o)
MayFail bytes_at input_broken input o (Check GivenUp) = (MayGoByCones o.order → ⊥) × IsGivenUp bytes_at input o
MayFail bytes_at input_broken input o (Check Write) = ⊤
MayFail bytes_at input_broken input o (Check NoCheckMemory) = ⊤
MayFail bytes_at input_broken input o OutOfMemory = ⊤

-- The same as one statement for each fault that implies more than its cause.
pub record RunSaysOfEach (bytes_at : List ℕ → Option (List ℕ)) (input_broken : Type 0) (input : Option (List ℕ)) (o : Options)
    (fault : ToolFault) : Type 0 where
  -- The input is a cause only if it has failed.
  pub read : fault ≡ InputUnread → input_broken
  -- Full: the nodes that the texts need are not within the limit, in each order that the options allow.
  pub full : fault ≡ Check (Wave Full) → IsBeyond bytes_at input o
  -- GivenUp: orders are tried, and each attempt within the limit was given up, one of them for its requests or because
  -- the run may stop.
  pub given_up : fault ≡ Check GivenUp → IsGivenUp bytes_at input o
  -- If pairs may be judged by their cones, neither of these two faults is possible.
  pub by_cones : MayGoByCones o.order → (fault ≢ Check (Wave Full)) × (fault ≢ Check GivenUp)
  -- NoWorker: it is a comparison in a named order.
  pub thread_for_named_order : fault ≡ Check (Wave NoWorker) → (o.print_order ≡ false) × NamesOrder o.order
  -- Stopped: seconds are given, and no pair may be judged by its cones.
  pub stopped : fault ≡ Check (Wave Stopped) → (MayGoByCones o.order → ⊥) × MayStop (bound_of o)
  -- A pattern is refused only if it matches no output and no register of the first text.
  pub only : fault ≡ Check Only → AreUnknown bytes_at input o
  -- TooManyRequests is not possible: the waves of a run are bounded only within attempts, which are then given up.
  pub never_too_many_requests : fault ≢ Check (Wave TooManyRequests)

-- with a fault of a comparison that is found after the names to be explained were looked up, each of these names is
-- known
abbrev pub AreNamesFirst : (List ℕ → Option (List ℕ)) → Option (List ℕ) → Options → ToolFault → Type 0
AreNamesFirst bytes_at input o fault =
    (check : CheckFault) → fault ≡ Check check → IsAfterNames check → o.print_order ≡ false → IsExplainKnown bytes_at input o
