-- How a run ends: what it has written, what it has printed on standard error, and its status.
use Rattle.std.specs.Prelude.{◌≡◌, ◌≢◌, ◌⊎◌, ◌↔◌, ◌==◌, ◌/◌, ◌||◌, ℕ, zero, suc, Bool, true, false, List, [], ◌++◌, Option, Some, None, IsTrue}
use Rattle.std.specs.Prelude.{string_bytes, codes, decimal, if◌then◌else◌, is_some, nat_lt, ⊤}
use Rattle.std.specs.Io.KnownBytes.{Appends, Keeps}
use Rattle.report_text.specs.declared.outcome.Outcome.{Outcome}
use Rattle.compare_built.specs.declared.strategy.Attempt.{Attempt}
use Rattle.compare_built.specs.Attempts.{attempt_text}
use Rattle.compare_built.specs.Cones.{cone_limit}
use Rattle.compare_built.specs.declared.fault.CheckFault.TheVariants.{Write}
use Rattle.report_text.specs.Writing.{AppendsFront}
use Rattle.command_line.specs.declared.options.Options.{Options}
use Rattle.command_line.specs.declared.options.OrderChoice.{OrderChoice}
use Rattle.command_line.specs.declared.options.OrderChoice.TheVariants.{Named, Best, Auto, Cones, ConesByList, Merge, File, Extended}
use Rattle.command_line.specs.declared.reading.Refused.{Refused}
use Rattle.command_line.specs.declared.reading.Refused.TheVariants.{Help, Mistake, OutOfMemory as NoWordMemory}
use Rattle.command_line.specs.Words.{AskFor, IsRefusal}
use Rattle.check_tool.specs.declared.done.Done.{Done}
use Rattle.check_tool.specs.declared.done.Done.TheVariants.{Compared, OrderPrinted}
use Rattle.check_tool.specs.declared.fault.ToolFault.{ToolFault}
use Rattle.check_tool.specs.declared.fault.ToolFault.TheVariants.{Check, OutOfMemory}
use Rattle.check_tool.specs.declared.process.ArgumentsError.{ArgumentsError}
use Rattle.check_tool.specs.declared.process.ArgumentsError.TheVariants.{OutOfMemory as NoArguments, NotUtf8}
use Rattle.check_tool.specs.declared.undecided.UndecidedCause.{UndecidedCause}
use Rattle.check_tool.specs.declared.undecided.UndecidedCause.TheVariants.{Stopped, Wide, GivenUp, Both}
use Rattle.check_tool.specs.Faults.{fault_line, fault_status, number_text}
use Rattle.check_tool.specs.Helping.{IsHelp, refused_paths}
use Rattle.check_tool.specs.Opening.{Try, Save, Extends, AreTried, opened}
use Rattle.check_tool.specs.Failures.{AreNamesFirst, MayFail}
use Rattle.check_tool.specs.Running.{paths_of, HasReported, HasReportedFront, AreEarlierAttemptsGivenUp, IsToolFault, AreOnStandardInput, limit_of}
use Rattle.check_tool.specs.Running.{node_bytes}
use Rattle.check_tool.specs.Saving.{IsSaveFault, saves_of}

-- What a device held and what it holds now, whether it has failed by now, and whether a write has taken no byte of a
-- text that was left.
pub record Written : Type 0 where
  pub held : Option (List ℕ)
  pub holds : Option (List ℕ)
  pub has_failed : Bool
  pub has_stopped : Bool

-- what was written to a device between these two states
abbrev pub written : {D : Type 0} → (contents : D → Option (List ℕ)) → (has_failed has_stopped : D → Bool) → (before now : D) → Written
written contents has_failed has_stopped before now =
    record { held = contents before; holds = contents now; has_failed = has_failed now; has_stopped = has_stopped now }

-- a front part of the bytes was written, and the device has failed or has taken nothing of the rest
abbrev pub HasFront : Written → List ℕ → Type 0
HasFront w bytes = AppendsFront w.held w.holds w.has_failed w.has_stopped bytes

-- a device has taken this text, or a front part of it and then failed or taken nothing of the rest
abbrev pub Says : Written → List ℕ → Type 0
Says w text = Appends w.held w.holds text ⊎ HasFront w text

-- The line of this fault was printed, and this is its status.
pub record IsSaid (w : Written) (fault : ToolFault) (status : ℕ) : Type 0 where
  pub line : Says w (fault_line fault)
  pub code : status ≡ fault_status fault

-- a device has taken this text as above, or nothing, if there was no memory for the text
abbrev pub MaySay : Written → List ℕ → Type 0
MaySay w text = Says w text ⊎ Keeps w.held w.holds

-- The state of a device between two texts: what it holds, and whether it has failed or stopped.
pub record DeviceState : Type 0 where
  pub holds : Option (List ℕ)
  pub has_failed : Bool
  pub has_stopped : Bool

-- what was written up to this state
abbrev pub written_until : Written → DeviceState → Written
written_until w b = record { held = w.held; holds = b.holds; has_failed = b.has_failed; has_stopped = b.has_stopped }

-- what was written from this state on
abbrev pub written_from : Written → DeviceState → Written
written_from w b = record { held = b.holds; holds = w.holds; has_failed = w.has_failed; has_stopped = w.has_stopped }

-- whether more than faults may be printed on standard error: more is asked for, or the run may stop, which is then
-- printed
abbrev pub says_more : Options → Bool
says_more o = o.verbose || is_some o.seconds

-- whether something may be printed before a run has ended: progress, if more is asked for or the error device is a
-- terminal, or that the run was stopped
abbrev pub shows_progress : Options → (on_terminal : Bool) → Bool
shows_progress o on_terminal = says_more o || on_terminal

-- what a device holds after progress: the same as before if none may be printed; otherwise nothing is promised
abbrev pub HasProgress : (shows_progress : Bool) → Written → Type 0
HasProgress false w = Keeps w.held w.holds
HasProgress true w = ⊤

-- the property holds of what was written after progress
abbrev pub IsAfterProgress : (shows_progress : Bool) → Written → (Written → Type 0) → Type 0
IsAfterProgress t w P = (b : DeviceState) × HasProgress t (written_until w b) × P (written_from w b)

-- the end of the line for a run that was stopped after this number of seconds
abbrev pub stop_unit : ℕ → List ℕ
stop_unit seconds = if seconds == 1 then codes " second\n" else codes " seconds\n"

-- the line for a run that was stopped after this number of seconds
abbrev pub stop_line : ℕ → List ℕ
stop_line seconds = codes "bddcheck: stopped after " ++ (decimal seconds ++ stop_unit seconds)

-- what is printed for each fault of a run: its line, and after it the line of what helps
abbrev pub IsSaidOf : (bytes_at : List ℕ → Option (List ℕ)) → Options → Written → ToolFault → (status : ℕ) → Type 0
IsSaidOf bytes_at o w fault status = (b : DeviceState) × IsSaid (written_until w b) fault status × (line : List ℕ) × IsHelp bytes_at o fault line
    × MaySay (written_from w b) line

-- the line that names the attempt that has succeeded
abbrev pub attempt_line : Attempt → List ℕ
attempt_line t = codes "bddcheck: order " ++ attempt_text t.order ++ codes " decided within " ++ decimal t.budget ++ codes " nodes\n"

-- what is printed of the attempt that a run ended with, if orders were tried
abbrev pub IsAttemptSaid : Option Attempt → Written → Type 0
IsAttemptSaid None w = Keeps w.held w.holds
IsAttemptSaid (Some t) w = Says w (attempt_line t)

-- the line of a run whose pairs were judged by their cones
abbrev pub cones_line : List ℕ
cones_line = codes "bddcheck: each pair was judged by its cones\n"

-- what is printed of what has decided a run, if an order was to be found: an attempt, or cones
abbrev pub IsMethodSaid : OrderChoice → Option Attempt → Written → Type 0
IsMethodSaid choice (Some t) w = IsAttemptSaid (Some t) w
IsMethodSaid Auto None w = Says w cones_line
IsMethodSaid Cones None w = Says w cones_line
IsMethodSaid Merge None w = Says w cones_line
IsMethodSaid (ConesByList path) None w = Says w cones_line
IsMethodSaid (Named name) None w = IsAttemptSaid None w
IsMethodSaid Best None w = IsAttemptSaid None w
IsMethodSaid (File path) None w = IsAttemptSaid None w
IsMethodSaid (Extended path) None w = IsAttemptSaid None w

-- the option that allows more nodes: `--limit` if it is the lower bound, and otherwise `--memory`
abbrev pub larger_option : Options → List ℕ
larger_option o = if nat_lt o.limit (o.memory / node_bytes) then codes "--limit" else codes "--memory"

-- the words before the number of pairs that have too many variables, if some have, or before the statement of all pairs
abbrev pub before_wide : Option ℕ → List ℕ
before_wide None = codes "; none"
before_wide (Some wide) = codes "; the number of those with more than 4096 variables is "

-- the words after this number
abbrev pub after_wide : Option ℕ → List ℕ
after_wide None = codes ""
after_wide (Some wide) = codes "; no other"

-- the line for undecided pairs that were given up: within how many nodes, and what helps; `wide` is the number of pairs
-- that have too many variables, if some have, and the others have at most `variables` variables
abbrev pub given_up_words : (undecided : ℕ) → (wide : Option ℕ) → (variables nodes : ℕ) → (larger : List ℕ) → List ℕ
given_up_words n wide variables nodes larger =
    codes "bddcheck: the number of undecided pairs is " ++ (decimal n
    ++ (before_wide wide ++ (number_text wide ++ (after_wide wide
    ++ (codes " has more than " ++ (decimal variables
    ++ (codes " variables, and each was given up in three orders within "
    ++ (decimal nodes ++ (codes " nodes or two requests for each of them; a larger "
    ++ (larger ++ codes ", a list by --order-file, or a condition by --given may help\n"))))))))))

abbrev pub given_up_line : Options → (undecided : ℕ) → (wide : Option ℕ) → (variables : ℕ) → List ℕ
given_up_line o n wide variables = given_up_words n wide variables (cone_limit (limit_of o)) (larger_option o)

-- the line for undecided pairs whose cause has no numbers
abbrev pub plain_cause_line : (undecided : ℕ) → (cause : List ℕ) → List ℕ
plain_cause_line n cause = codes "bddcheck: the number of undecided pairs is " ++ (decimal n ++ cause)

-- the line with the number of undecided pairs, the cause, and what helps
abbrev pub undecided_line : Options → UndecidedCause → (undecided : ℕ) → List ℕ
undecided_line o Stopped n =
    plain_cause_line n (codes "; the run was stopped before all attempts had their end, and more --seconds may be enough\n")
undecided_line o Wide n =
    plain_cause_line n (codes "; each has more than 4096 variables, and parts of the netlists that have fewer may be compared\n")
undecided_line o (GivenUp variables) n = given_up_line o n None variables
undecided_line o (Both wide variables) n = given_up_line o n (Some wide) variables

-- it is printed if there are undecided pairs, whether more is asked for or not
abbrev pub IsUndecidedSaid : Options → UndecidedCause → (undecided : ℕ) → Written → Type 0
IsUndecidedSaid o cause zero w = Keeps w.held w.holds
IsUndecidedSaid o cause (suc n) w = Says w (undecided_line o cause (suc n))

-- what is printed of what has decided, if more is asked for
abbrev pub IsDecisionSaid : (verbose : Bool) → Options → Done → Written → Type 0
IsDecisionSaid false o done w = Keeps w.held w.holds
IsDecisionSaid true o (Compared outcome tried vcd) w = IsMethodSaid o.order tried w
IsDecisionSaid true o (OrderPrinted tried) w = IsAttemptSaid tried w

-- how many pairs a run has left undecided
abbrev pub undecided_of : Done → ℕ
undecided_of (Compared outcome tried vcd) = outcome.undecided
undecided_of (OrderPrinted tried) = 0

-- what is printed after a run: what has decided, if more is asked for, and why pairs are undecided, if some are
abbrev pub IsDoneSaid : Options → UndecidedCause → Done → Written → Type 0
IsDoneSaid o cause done w = (b : DeviceState) × IsDecisionSaid o.verbose o done (written_until w b)
    × IsUndecidedSaid o cause (undecided_of done) (written_from w b)

-- This is why pairs are undecided: the run was stopped, or `wide` of them have more variables than a pairing may have,
-- and `given_up` others were given up, of which none has more than `variables` variables.
pub record IsCauseOf (has_stopped : Bool) (wide given_up variables : ℕ) (cause : UndecidedCause) : Type 0 where
  pub if_stopped : has_stopped ≡ true → cause ≡ Stopped
  pub if_none_is_wide : has_stopped ≡ false → wide ≡ 0 → cause ≡ GivenUp variables
  pub if_all_are_wide : has_stopped ≡ false → wide ≢ 0 → given_up ≡ 0 → cause ≡ Wide
  pub if_some_are_wide : has_stopped ≡ false → wide ≢ 0 → given_up ≢ 0 → cause ≡ Both wide variables

-- a run of these options may have this cause: only a run with `--seconds` is ever stopped
abbrev pub MayBeCause : Options → UndecidedCause → Type 0
MayBeCause o cause = cause ≡ Stopped → is_some o.seconds ≡ true

-- the arguments ask for more on standard error than faults, or for seconds after which the run stops
abbrev pub AskForMore : List (List ℕ) → Type 0
AskForMore words = (o : Options) × AskFor words o × (says_more o ≡ true)

-- some outputs or next states differ, or have no partner
abbrev pub AreUnlike : Outcome → Type 0
AreUnlike o = (o.different ≢ 0) ⊎ (o.unmatched ≢ 0)

-- The status of a report: 1 if some outputs or next states differ or have no partner, otherwise 3 if some pairs are
-- undecided, and otherwise 0.
pub record IsReportStatus (outcome : Outcome) (status : ℕ) : Type 0 where
  pub zero : (status ≡ 0) ↔ ((outcome.different ≡ 0) × (outcome.unmatched ≡ 0) × (outcome.undecided ≡ 0))
  pub one : (status ≡ 1) ↔ AreUnlike outcome
  pub three : (status ≡ 3) ↔ ((outcome.different ≡ 0) × (outcome.unmatched ≡ 0) × (outcome.undecided ≢ 0))

-- the status of a run that was not refused, which is 0 for an order that was printed
abbrev pub IsDoneStatus : Done → (status : ℕ) → Type 0
IsDoneStatus (Compared outcome tried vcd) status = IsReportStatus outcome status
IsDoneStatus (OrderPrinted tried) status = status ≡ 0

-- What a run is given and what it leaves: whether the error device is a terminal, the files that are known, the
-- openings and the savings before and now, the bytes of the input and whether it has failed by now, and what was
-- written to the output and to the error device.
pub record RunEffects : Type 0 where
  pub on_terminal : Bool
  pub bytes_at : List ℕ → Option (List ℕ)
  pub tried : Option (List Try)
  pub tries : Option (List Try)
  pub saved : Option (List Save)
  pub saves : Option (List Save)
  pub input : Option (List ℕ)
  pub input_failed : Bool
  pub output : Written
  pub errors : Written

-- the same from a folder and an input before and now
abbrev pub run_effects_of : {F R : Type 0} → (on_terminal : Bool) → (bytes_at : F → List ℕ → Option (List ℕ)) → (tries : F → Option (List Try))
    → (saves : F → Option (List Save)) → (folder folder' : F) → (remaining : R → Option (List ℕ)) → (has_failed : R → Bool)
    → (input input' : R) → (output errors : Written) → RunEffects
run_effects_of on_terminal bytes_at tries saves folder folder' remaining has_failed input input' output errors = record {
  on_terminal = on_terminal;
  bytes_at = bytes_at folder;
  tried = tries folder;
  tries = tries folder';
  saved = saves folder;
  saves = saves folder';
  input = remaining input;
  input_failed = has_failed input';
  output = output;
  errors = errors;
}

-- The report or order that the options ask for was written, all files were opened, and the VCD was saved if there is
-- one. Without `--verbose` nothing was printed on standard error except progress on a terminal, that the run was
-- stopped, and why pairs are undecided.
pub record Reports (s : RunEffects) (o : Options) (done : Done) (status : ℕ) : Type 0 where
  pub report : HasReported s.bytes_at s.input o s.output.held s.output.holds done
  pub opened_all : Extends s.tried s.tries (opened (paths_of o))
  pub earlier_given_up : AreEarlierAttemptsGivenUp s.bytes_at s.input o done
  pub saved : Extends s.saved s.saves (saves_of o done true)
  pub cause : UndecidedCause
  pub may_be : MayBeCause o cause
  pub said : IsAfterProgress (shows_progress o s.on_terminal) s.errors (IsDoneSaid o cause done)
  pub code : IsDoneStatus done status

-- The report was written as above, and then the VCD could not be saved, which was printed.
pub record IsUnsaved (s : RunEffects) (o : Options) (done : Done) (fault : ToolFault) (status : ℕ) : Type 0 where
  pub report : HasReported s.bytes_at s.input o s.output.held s.output.holds done
  pub opened_all : Extends s.tried s.tries (opened (paths_of o))
  pub earlier_given_up : AreEarlierAttemptsGivenUp s.bytes_at s.input o done
  pub cause : IsSaveFault o done fault
  pub saved : Extends s.saved s.saves (saves_of o done false)
  pub line : IsAfterProgress (shows_progress o s.on_terminal) s.errors (λ w. IsSaidOf s.bytes_at o w fault status)

-- After a report its VCD was saved, if there is one, and no file was opened. Without `--verbose` only the cause of
-- undecided pairs was printed.
pub record Finishes (o : Options) (cause : UndecidedCause) (done : Done) (tried tries : Option (List Try)) (saved saves : Option (List Save)) (w : Written)
    (status : ℕ) : Type 0 where
  pub unopened : Extends tried tries []
  pub saved_all : Extends saved saves (saves_of o done true)
  pub said : IsDoneSaid o cause done w
  pub code : IsDoneStatus done status

-- After a report its VCD could not be saved, which was printed.
pub record FailsToSave (bytes_at : List ℕ → Option (List ℕ)) (o : Options) (done : Done) (tried tries : Option (List Try))
    (saved saves : Option (List Save)) (w : Written) (fault : ToolFault) (status : ℕ) : Type 0 where
  pub unopened : Extends tried tries []
  pub saved_part : Extends saved saves (saves_of o done false)
  pub cause : IsSaveFault o done fault
  pub line : IsSaidOf bytes_at o w fault status

-- There is a fault: its line was printed, and the line of what helps. Nothing was written, except a front part of the
-- report if writing has failed. The refused file, or that of the first netlist for a name that it does not have, may
-- have been opened again. Nothing was saved.
pub record Refuses (broken : List ℕ → Type 0) (s : RunEffects) (o : Options) (fault : ToolFault) (status : ℕ) : Type 0 where
  pub tries : List Try
  pub again : List Try
  pub tried : Extends s.tried s.tries (tries ++ again)
  pub once_more : AreTried (refused_paths o fault) again
  pub cause : IsToolFault s.bytes_at broken (IsTrue s.input_failed) s.input o tries fault
  pub may : MayFail s.bytes_at (IsTrue s.input_failed) s.input o fault
  pub names_first : AreNamesFirst s.bytes_at s.input o fault
  pub line : IsAfterProgress (shows_progress o s.on_terminal) s.errors (λ w. IsSaidOf s.bytes_at o w fault status)
  pub front : fault ≡ Check Write → HasReportedFront s.bytes_at s.input o s.output.held s.output.holds s.output.has_failed s.output.has_stopped
  pub nothing : fault ≢ Check Write → Keeps s.output.held s.output.holds
  pub unsaved : Extends s.saved s.saves []

-- the options' report was written, and it leaves a pair undecided
abbrev pub LeavesUndecided : RunEffects → Options → Type 0
LeavesUndecided s o = (done : Done) × HasReported s.bytes_at s.input o s.output.held s.output.holds done × (undecided_of done ≢ 0)

-- the arguments ask for options whose report leaves a pair undecided
abbrev pub LeaveUndecided : RunEffects → List (List ℕ) → Type 0
LeaveUndecided s words = (o : Options) × AskFor words o × LeavesUndecided s o

-- how a run of these options ends; `broken` says of a path that a file that was opened there has failed
abbrev pub IsEnding : (broken : List ℕ → Type 0) → RunEffects → Options → ℕ → Type 0
IsEnding broken s o status = ((done : Done) × Reports s o done status)
    ⊎ (((done : Done) × (fault : ToolFault) × IsUnsaved s o done fault status) ⊎ ((fault : ToolFault) × Refuses broken s o fault status))

-- what is printed for arguments that ask for no options: help on the output, a mistake, or want of memory
abbrev pub IsEndOfRefused : (output errors : Written) → Refused → ℕ → Type 0
IsEndOfRefused output errors (Help text) status =
    Keeps errors.held errors.holds
    × ((Appends output.held output.holds (string_bytes text) × (status ≡ 0)) ⊎ (HasFront output (string_bytes text) × (status ≡ 3)))
IsEndOfRefused output errors (Mistake text) status = Keeps output.held output.holds × Says errors (string_bytes text) × (status ≡ 2)
IsEndOfRefused output errors NoWordMemory status = Keeps output.held output.holds × IsSaid errors OutOfMemory status

-- the arguments are refused for a cause, which is printed
abbrev pub IsRefusedEnding : RunEffects → List (List ℕ) → ℕ → Type 0
IsRefusedEnding s words status = (refused : Refused) × IsRefusal words refused × IsEndOfRefused s.output s.errors refused status

-- How a run of the program on its arguments ends. Either they ask for options, whose run ends as above, and the input
-- is not read unless a text is on it. Or they are refused, no file is opened, and the input is not read.
abbrev pub IsRun : (broken : List ℕ → Type 0) → RunEffects → (unopened unread : Type 0) → List (List ℕ) → ℕ → Type 0
IsRun broken s unopened unread words status =
    ((o : Options) × AskFor words o × IsEnding broken s o status × ((AreOnStandardInput o.texts → ⊥) → unread))
    ⊎ (IsRefusedEnding s words status × unopened × unread)

-- what is printed if the arguments of the process could not be read
abbrev pub IsArgumentsErrorSaid : (errors : Written) → ArgumentsError → ℕ → Type 0
IsArgumentsErrorSaid errors NoArguments status = IsSaid errors OutOfMemory status
IsArgumentsErrorSaid errors NotUtf8 status = Says errors (codes "bddcheck: a word of the command line is no UTF-8\n") × (status ≡ 2)
