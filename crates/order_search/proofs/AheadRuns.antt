-- The results of attempts that are made side by side.
use Rattle.std.proofs.Common.{◌≡◌, ◌<◌, inl, inr, subst, sym, arith, ℕ, true, false, Bool, List, Option, Some, None, length, get_or}
use Rattle.std.specs.Borrow.{Bor}
use Rattle.std.proofs.lemmas.Bool.{cases_lt}
use Rattle.std.proofs.lemmas.List.{get_or_past}
use Rattle.expand_work.specs.Bounds.{WaveBound}
use Rattle.net_order.specs.Order.{NamingModel}
use Rattle.compare_built.specs.Attempts.{requests_within}
use Rattle.compare_built.specs.declared.fault.CheckFault.{CheckFault}
use Rattle.compare_built.specs.declared.task.Task.{Task}
use Rattle.order_search.specs.Ahead.{AreRuns, IsRunAt, IsRunEnd, IsRunOf}
use Rattle.order_search.specs.Trials.{HasOtherCause, IsTrialFault, NeedsMore}
use Rattle.order_search.specs.declared.attempts.Ended.{Ended}
use Rattle.order_search.specs.declared.attempts.Ended.TheVariants.{Decided, GivenUp}
use Rattle.order_search.specs.declared.trials.Trial.{Trial}

module _ {H : Type 0} (task : Task H) (declared : Option (Bor NamingModel)) (budget : ℕ) (bound : WaveBound) where
  -- the bound of such an attempt's waves, which may be stopped
  abbrev pub run_bound : Bool → WaveBound
  run_bound stops = record { requests = Some (requests_within budget bound); stops = stops }

  -- an attempt that ends with a fault was given up with it, or has no result
  pub run_ended : (stops : Bool) (t : Trial) (fault : CheckFault) (run : Option Ended) → IsRunEnd fault run → IsTrialFault task budget (run_bound stops) t.pairing fault → IsRunOf task declared budget bound t run
  run_ended stops t fault None is h = tt
  run_ended stops t fault (Some (Decided verdicts)) is h = absurd is
  run_ended stops t fault (Some (GivenUp true)) is h =
      let more : NeedsMore task budget t.pairing = subst (IsTrialFault task budget (run_bound stops) t.pairing) is h in
      record { cause = inl more; nodes = λ _. more; others = λ e. absurd (let never : true ≡ false = e in cc) }
  run_ended stops t fault (Some (GivenUp false)) is h =
      let other : HasOtherCause task budget bound t.pairing = inl (subst (IsTrialFault task budget (run_bound stops) t.pairing) is h) in
      record { cause = inr other; nodes = λ e. absurd (let never : false ≡ true = e in cc); others = λ _. other }

  -- the results that the threads have left, by place
  pub runs_made : (trials : List Trial) (old new : List (Option Ended)) → length new ≡ length old →
      ((i : ℕ) → i < length old → IsRunAt task declared budget bound trials i (get_or new i None)) → AreRuns task declared budget bound trials new
  runs_made trials old new long each = λ place t lt. elim (cases_lt place (length old)) [
    | inl here ↦ each place here t lt
    | inr past ↦ subst (IsRunOf task declared budget bound (get_or trials place t)) (sym (get_or_past new place None (omega (arith, long, past)))) tt
  ]

  -- no attempt has a result
  pub runs_none : (trials : List Trial) (new : List (Option Ended)) → length new ≡ 0 → AreRuns task declared budget bound trials new
  runs_none trials new none = λ place t lt. subst (IsRunOf task declared budget bound (get_or trials place t)) (sym (get_or_past new place None (omega (arith, none)))) tt
