-- How a run ends after its report.
use Rattle.std.proofs.Common.{◌≡◌, ◌≢◌, ◌∙◌, ◌⊎◌, arith, zero, suc, ap, ap₂, inl, inr, sym, ℕ, Bool, true, false, List, [], Option, Some, refl, subst, append-nil}
use Rattle.std.specs.Io.KnownBytes.{Keeps}
use Rattle.std.specs.Prelude.{◌||◌, is_some}
use Rattle.command_line.specs.declared.options.Options.{Options}
use Rattle.check_tool.specs.declared.done.Done.{Done}
use Rattle.check_tool.specs.declared.fault.ToolFault.{ToolFault}
use Rattle.check_tool.specs.declared.undecided.UndecidedCause.{UndecidedCause}
use Rattle.check_tool.specs.Ending.{DeviceState, FailsToSave, Finishes, HasProgress, IsEnding, MayBeCause, RunEffects, written, written_from, shows_progress, written_until}
use Rattle.check_tool.specs.Opening.{Extends, Save, Try, opened}
use Rattle.check_tool.specs.Running.{AreEarlierAttemptsGivenUp, HasReported, paths_of}
use Rattle.check_tool.specs.Saving.{saves_of}
use Rattle.check_tool.proofs.Composing.{extends_more, keeps_own}

-- a list has grown by these, and then by nothing
extends_last : (a b c : Option (List Try)) (ts : List Try) → Extends a b ts → Extends b c [] → Extends a c ts
extends_last a b c ts e f = subst (λ l. Extends a c l) (append-nil ts) (extends_more a b c ts [] e f)

-- more is not asked for if nothing more is printed
pub not_asked : (verbose on_terminal : Bool) → (verbose || on_terminal) ≡ false → verbose ≡ false
not_asked true on_terminal e = cc
not_asked false on_terminal e = refl

-- without `--verbose`, `--seconds` and a terminal no progress is printed
pub nothing_more : (o : Options) (on_terminal : Bool) → shows_progress o on_terminal ≡ false → (o.verbose ≡ false) × (is_some o.seconds ≡ false) × (on_terminal ≡ false)
nothing_more o on_terminal e = by o.verbose (is_some o.seconds) on_terminal e
  where
    by : (verbose seconds on_terminal : Bool) → ((verbose || seconds) || on_terminal) ≡ false → (verbose ≡ false) × (seconds ≡ false) × (on_terminal ≡ false)
    by true seconds on_terminal e = cc
    by false true on_terminal e = cc
    by false false true e = cc
    by false false false e = (refl, refl, refl)

-- if progress has a form, it is printed
pub shows_then : {A : Type 0} (o : Options) (on_terminal : Bool) (found : Option A) (form : A) → found ≡ Some form → is_some found ≡ (o.verbose || on_terminal) → shows_progress o on_terminal ≡ false → ⊥
shows_then {A} o on_terminal found form is asked none =
    let n = nothing_more o on_terminal none in
    let some : is_some found ≡ true = ap (λ (x : Option A). is_some x) is in
    let never : (o.verbose || on_terminal) ≡ false = ap₂ (λ (x y : Bool). x || y) n.0 n.2 in
    let bad : true ≡ false = sym some ∙ asked ∙ never in
    cc

-- a device on which nothing was printed holds what it held
pub silent_progress : {D : Type 0} (o : Options) (on_terminal : Bool) (contents : D → Option (List ℕ)) (has_failed has_stopped : D → Bool) (before now : D) → (shows_progress o on_terminal ≡ false → now ≡ before) → HasProgress (shows_progress o on_terminal) (written contents has_failed has_stopped before now)
silent_progress {D} o on_terminal contents has_failed has_stopped before now same = by (shows_progress o on_terminal) same
  where
    by : (shows : Bool) → (shows ≡ false → now ≡ before) → HasProgress shows (written contents has_failed has_stopped before now)
    by true h = tt
    by false h = subst (λ (d : D). Keeps (contents before) (contents d)) (sym (h refl)) (keeps_own (contents before))

-- a pair is undecided, or a property holds because none is
pub undecided_or : {A B : Type 0} (n : ℕ) → (n ≢ 0 → A) → (n ≡ 0 → B) → A ⊎ B
undecided_or zero f g = inr (g refl)
undecided_or (suc n) f g = inl (f (λ e. omega (arith, e)))

pub ended : (broken : List ℕ → Type 0) (s : RunEffects) (o : Options) (cause : UndecidedCause) → MayBeCause o cause → (done : Done) (tries : Option (List Try)) (saves : Option (List Save)) (b : DeviceState) (status : ℕ) → HasReported s.bytes_at s.input o s.output.held s.output.holds done
    → Extends s.tried tries (opened (paths_of o)) → AreEarlierAttemptsGivenUp s.bytes_at s.input o done → saves ≡ s.saved → HasProgress (shows_progress o s.on_terminal) (written_until s.errors b)
    → Finishes o cause done tries s.tries saves s.saves (written_from s.errors b) status ⊎ ((fault : ToolFault) × FailsToSave s.bytes_at o done tries s.tries saves s.saves (written_from s.errors b) fault status)
    → IsEnding broken s o status
ended broken s o cause may_be done tries saves b status report before earlier_given_up same progress (inl f) = inl (
  done,
  record {
    report = report;
    opened_all = extends_last s.tried tries s.tries (opened (paths_of o)) before f.unopened;
    earlier_given_up = earlier_given_up;
    saved = subst (λ x. Extends x s.saves (saves_of o done true)) same f.saved_all;
    cause = cause;
    may_be = may_be;
    said = (b, progress, f.said);
    code = f.code;
  },
)
ended broken s o cause may_be done tries saves b status report before earlier_given_up same progress (inr (fault, f)) = inr (inl (
  done,
  fault,
  record {
    report = report;
    opened_all = extends_last s.tried tries s.tries (opened (paths_of o)) before f.unopened;
    earlier_given_up = earlier_given_up;
    cause = f.cause;
    saved = subst (λ x. Extends x s.saves (saves_of o done false)) same f.saved_part;
    line = (b, progress, f.line);
  },
))
