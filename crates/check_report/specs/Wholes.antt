-- The attempts at the whole netlists that auto makes.
use Rattle.std.specs.Prelude.{◌≡◌, ◌⊎◌, ℕ, Option, Some, None}
use Rattle.std.specs.Borrow.{Bor}
use Rattle.expand_work.specs.Bounds.{WaveBound}
use Rattle.net_order.specs.Order.{NamingModel}
use Rattle.compare_built.specs.Attempts.{IsBudget, first_whole_limit, whole_limit}
use Rattle.report_text.specs.declared.difference.Difference.TheVariants.{AnyOne}
use Rattle.compare_built.specs.declared.strategy.Attempt.{Attempt}
use Rattle.compare_built.specs.declared.strategy.AttemptOrder.TheVariants.{Declared}
use Rattle.compare_built.specs.declared.strategy.Candidate.{Candidate}
use Rattle.compare_built.specs.declared.task.Task.{Task}
use Rattle.order_search.specs.declared.attempts.Decided.{Decided as DecidedValue}
use Rattle.order_search.specs.Trials.{AreAllGivenUp, AreEarlierGivenUp, AreTrials, IsCandidateGivenUp, IsDecided, IsFoundWithin, IsOrderGivenUp, WereGivenUp}
use Rattle.check_report.specs.declared.whole.TriedBefore.{TriedBefore}
use Rattle.check_report.specs.declared.whole.TriedBefore.TheVariants.{Nothing, First, Second}
use Rattle.check_report.specs.declared.whole.WholeEnd.{WholeEnd}
use Rattle.check_report.specs.declared.whole.WholeEnd.TheVariants.{Decided, GivenUp}

-- the attempt that has succeeded
abbrev pub attempt_of : DecidedValue → Attempt
attempt_of d = record { order = d.trial.order; budget = d.budget }

-- the result of a search up to a limit
abbrev pub IsSearched : {H : Type 0} → Task H → Option (Bor NamingModel) → (limit : ℕ) → (bound : WaveBound) → WholeEnd → Type 0
IsSearched task declared limit bound (Decided d) = IsFoundWithin task declared limit bound d
IsSearched task declared limit bound (GivenUp trials) = AreTrials task trials.items × AreAllGivenUp task limit bound

-- An attempt at the whole netlists has succeeded, within one of the budgets up to the second limit, or within the limit
-- of the run. All attempts before it were given up.
pub record IsDecidedWhole {H : Type 0} (task : Task H) (declared : Option (Bor NamingModel)) (bound : WaveBound) (d : DecidedValue) : Type 0 where
  pub decided : IsDecided task declared d.budget d.trial d.verdicts.items
  pub budget : IsBudget (whole_limit task.settings.now.limit) d.budget ⊎ (d.budget ≡ task.settings.now.limit)
  pub earlier_given_up : AreEarlierGivenUp task (whole_limit task.settings.now.limit) bound (attempt_of d)

-- the result of the attempts up to the second limit, some of which were made earlier
abbrev pub IsTriedAgain : {H : Type 0} → Task H → Option (Bor NamingModel) → (bound : WaveBound) → WholeEnd → Type 0
IsTriedAgain task declared bound (Decided d) = IsDecidedWhole task declared bound d
IsTriedAgain task declared bound (GivenUp trials) = AreTrials task trials.items × AreAllGivenUp task (whole_limit task.settings.now.limit) bound

-- the attempts that were given up before the pairs were judged
abbrev pub AreTriedBefore : {H : Type 0} → Task H → (bound : WaveBound) → TriedBefore → Type 0
AreTriedBefore task bound Nothing = task.settings.now.difference ≡ AnyOne
AreTriedBefore task bound (First trials) = AreTrials task trials.items × AreAllGivenUp task (first_whole_limit task.settings.now.limit) bound
AreTriedBefore task bound (Second trials) = AreTrials task trials.items × AreAllGivenUp task (whole_limit task.settings.now.limit) bound

-- each candidate was given up within the limit of the run
abbrev pub AreGivenUpToLimit : {H : Type 0} → Task H → (bound : WaveBound) → Type 0
AreGivenUpToLimit task bound = (c : Candidate) → IsCandidateGivenUp task task.settings.now.limit bound c

-- the result of the attempts in the orders of the candidates within the limit of the run, and the trials of those that
-- were made after the second limit
abbrev pub IsTriedToLimit : {H : Type 0} → Task H → Option (Bor NamingModel) → (bound : WaveBound) → WholeEnd → Type 0
IsTriedToLimit task declared bound (Decided d) = IsDecidedWhole task declared bound d
IsTriedToLimit task declared bound (GivenUp trials) = WereGivenUp task task.settings.now.limit bound trials.items × AreGivenUpToLimit task bound

-- the result of the attempts after the pairs: one of them succeeds, or each candidate was given up within the limit of
-- the run, and so was declared order
abbrev pub IsRestOfWhole : {H : Type 0} → Task H → Option (Bor NamingModel) → (bound : WaveBound) → Option DecidedValue → Type 0
IsRestOfWhole task declared bound (Some d) = IsDecidedWhole task declared bound d
IsRestOfWhole task declared bound None = AreGivenUpToLimit task bound × IsOrderGivenUp task task.settings.now.limit bound Declared
