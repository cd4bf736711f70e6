-- What a search among the candidates has found: which attempts were given up, and which attempt decides.
use Rattle.std.specs.Prelude.{◌≡◌, ◌⊎◌, ℕ, ◌-◌, ◌^◌, ◌<◌, ◌≤◌, Bool, true, false, ◌&&◌, List, Option, Some, None, All, Contains}
use Rattle.std.specs.Prelude.{IsPermutation, IsSomeAnd, length, remove, slice_index_or, take, ⊤}
use Rattle.std.specs.Borrow.{Bor}
use Rattle.expand_work.specs.Bounds.{MayStop, WaveBound, most_of}
use Rattle.expand_work.specs.declared.fault.WaveFault.TheVariants.{OutOfMemory as NoWaveMemory, Full, TooManyRequests, NoWorker, Stopped}
use Rattle.net_bench.specs.Circuit.{circuit}
use Rattle.net_names.specs.declared.order.Order.{Order}
use Rattle.net_names.specs.declared.order.Order.TheVariants as orders
use Rattle.net_order.specs.Order.{NamingModel, IsNaming, IsPairing, condition, max_variables, variables_in}
use Rattle.report_text.specs.declared.verdict.Verdict.{Verdict}
use Rattle.order_search.specs.declared.attempt_end.GiveUpReason.{GiveUpReason}
use Rattle.order_search.specs.declared.attempt_end.GiveUpReason.TheVariants as reasons
use Rattle.order_search.specs.declared.attempts.Decided.{Decided as DecidedValue}
use Rattle.order_search.specs.declared.attempts.Ended.{Ended}
use Rattle.order_search.specs.declared.attempts.Ended.TheVariants as endings
use Rattle.order_search.specs.declared.attempts.Round.{Round}
use Rattle.order_search.specs.declared.attempts.Round.TheVariants as rounds
use Rattle.compare_built.specs.declared.strategy.Attempt.{Attempt}
use Rattle.compare_built.specs.declared.strategy.AttemptOrder.{AttemptOrder}
use Rattle.compare_built.specs.declared.strategy.AttemptOrder.TheVariants.{Computed, Declared}
use Rattle.compare_built.specs.declared.strategy.Candidate.{Candidate}
use Rattle.compare_built.specs.declared.fault.CheckFault.{CheckFault}
use Rattle.compare_built.specs.declared.fault.CheckFault.TheVariants.{Order as OrderRefused, Wave, GivenUp, OutOfMemory}
use Rattle.compare_built.specs.declared.task.Task.{Task}
use Rattle.order_search.specs.declared.trials.Trial.{Trial}
use Rattle.compare_built.specs.Attempts.{AllBefore, IsBudget, first_budget, requests_within}
use Rattle.compare_built.specs.Candidates.{IsPairingBy}
use Rattle.compare_built.specs.Check.{IsCheckFault}
use Rattle.compare_built.specs.Limits.{FitsWithin, Exceeds}
use Rattle.compare_built.specs.Details.{details_in}
use Rattle.compare_built.specs.Report.{AreVerdicts}
use Rattle.compare_built.specs.Widths.{IsTooWide}
use Rattle.order_search.specs.Tasks.{OfTask}

-- ---- namings and pairings of a task's netlists

-- this is the pairing of the task's netlists in this order
abbrev pub IsPairingIn : {H : Type 0} → Task H → Order → NamingModel → Type 0
IsPairingIn task order p = IsPairing task.settings.now.matching (circuit task.first.now) (circuit task.second.now)
    (condition task.given) order p

-- this is the naming of the task's netlists in this order
abbrev pub IsNamingIn : {H : Type 0} → Task H → Order → NamingModel → Type 0
IsNamingIn task order p = IsNaming task.settings.now.matching (circuit task.first.now) (circuit task.second.now)
    (condition task.given) order p

-- this is a pairing of the task's netlists, in some order
abbrev pub IsSomePairing : {H : Type 0} → Task H → NamingModel → Type 0
IsSomePairing task p = (order : Order) × IsPairingIn task order p

-- this is the pairing of the task's netlists in declared order
abbrev pub IsDeclaredPairing : {H : Type 0} → Task H → NamingModel → Type 0
IsDeclaredPairing task p = IsPairingIn task orders.Declared p

-- this is the naming of the task's netlists in declared order
abbrev pub IsDeclaredNaming : {H : Type 0} → Task H → NamingModel → Type 0
IsDeclaredNaming task p = IsNamingIn task orders.Declared p

-- the task's netlists have more variables than a pairing may have
abbrev pub HasTooManyVariables : {H : Type 0} → Task H → Type 0
HasTooManyVariables task = max_variables < length (variables_in task.settings.now.matching (circuit task.first.now) (circuit task.second.now)
    (condition task.given))

-- this is the pairing of the task's netlists in the order of an attempt
abbrev pub IsPairedBy : {H : Type 0} → Task H → AttemptOrder → NamingModel → Type 0
IsPairedBy task o p = IsPairingBy task.settings.now.matching (circuit task.first.now) (circuit task.second.now) (condition task.given) o p

-- the trial has the pairing in its order
abbrev pub IsTrial : {H : Type 0} → Task H → Trial → Type 0
IsTrial task t = IsPairedBy task t.order t.pairing

-- the order is that of a candidate
abbrev pub IsOfCandidate : AttemptOrder → Type 0
IsOfCandidate (Computed c) = ⊤
IsOfCandidate Declared = ⊥

-- each of the trials is in the order of a candidate
abbrev pub AreOfCandidates : List Trial → Type 0
AreOfCandidates trials = All (λ t. IsOfCandidate t.order) trials

-- One of the trials has the pairing in the order of this attempt.
pub record IsTried {H : Type 0} (task : Task H) (trials : List Trial) (o : AttemptOrder) : Type 0 where
  pub trial : Trial
  pub among : Contains trials trial
  pub paired : IsPairedBy task o trial.pairing

-- Each trial has the pairing in its order, which is that of a candidate, and each candidate has a trial with its
-- pairing.
pub record AreTrials {H : Type 0} (task : Task H) (trials : List Trial) : Type 0 where
  pub own : All (IsTrial task) trials
  pub of_candidates : AreOfCandidates trials
  pub each : (c : Candidate) → IsTried task trials (Computed c)

-- if verdicts are reported in another order than the attempt's, this is a pairing in it, and no sizes are asked for
abbrev pub IsReportedIn : {H : Type 0} → Task H → Option (Bor NamingModel) → Type 0
IsReportedIn task None = ⊤
IsReportedIn task (Some d) = (order : Order) × IsPairingIn task order d.now × (task.settings.now.sizes ≡ false)

-- the pairing over whose variables the verdicts of an attempt are reported
abbrev pub reported_pairing : Option (Bor NamingModel) → NamingModel → NamingModel
reported_pairing None p = p
reported_pairing (Some d) p = d.now

-- ---- attempts

-- An attempt within the budget has decided: these are its verdicts.
pub record IsDecided {H : Type 0} (task : Task H) (declared : Option (Bor NamingModel)) (budget : ℕ) (t : Trial)
    (verdicts : List Verdict) : Type 0 where
  pub paired : IsTrial task t
  pub within : FitsWithin budget (circuit task.first.now) (circuit task.second.now) (condition task.given) t.pairing
  pub verdicts_of : AreVerdicts (details_in task.settings.now) (circuit task.first.now) (circuit task.second.now) (condition task.given)
      (reported_pairing declared t.pairing)
      (record { variables = (reported_pairing declared t.pairing).names; verdicts = verdicts })

-- A comparison in the order of a pairing has ended within the budget, and these are its verdicts, reported over the
-- variables of another pairing.
pub record AreVerdictsIn {H : Type 0} (task : Task H) (declared : NamingModel) (budget : ℕ) (p : NamingModel) (verdicts : List Verdict)
    : Type 0 where
  pub within : FitsWithin budget (circuit task.first.now) (circuit task.second.now) (condition task.given) p
  pub verdicts_of : AreVerdicts (details_in task.settings.now) (circuit task.first.now) (circuit task.second.now) (condition task.given)
      declared (record { variables = declared.names; verdicts = verdicts })

-- a pairing needs more nodes than the budget has
abbrev pub NeedsMore : {H : Type 0} → Task H → (budget : ℕ) → NamingModel → Type 0
NeedsMore task budget p = Exceeds budget (circuit task.first.now) (circuit task.second.now) (condition task.given) p

-- one wave of a comparison by this pairing reaches more requests than an attempt within the budget may have
abbrev pub AsksMore : {H : Type 0} → Task H → (budget : ℕ) → (bound : WaveBound) → NamingModel → Type 0
AsksMore task budget bound p = IsTooWide (requests_within budget bound) (circuit task.first.now) (circuit task.second.now)
    (condition task.given) p

-- Another cause than its nodes for which an attempt with this pairing is given up within the budget: a wave reaches
-- more requests than it may have, or the run may stop before the attempt has ended.
abbrev pub HasOtherCause : {H : Type 0} → Task H → (budget : ℕ) → (bound : WaveBound) → NamingModel → Type 0
HasOtherCause task budget bound p = AsksMore task budget bound p ⊎ MayStop bound

-- Why an attempt with this pairing is given up within the budget: it needs more nodes, or there is another cause.
abbrev pub IsGivenUpFor : {H : Type 0} → Task H → (budget : ℕ) → (bound : WaveBound) → NamingModel → Type 0
IsGivenUpFor task budget bound p = NeedsMore task budget p ⊎ HasOtherCause task budget bound p

-- Why a comparison with this pairing has no verdicts within the budget, if each of its waves may have as many requests
-- as this bound says: more nodes are needed; a wave reaches more requests; no thread could be started, which is a cause
-- only if the bound is the greatest number; the run has stopped; or memory was refused.
abbrev pub IsTrialFault : {H : Type 0} → Task H → (budget : ℕ) → (bound : WaveBound) → NamingModel → CheckFault → Type 0
IsTrialFault task budget bound p (Wave Full) = NeedsMore task budget p
IsTrialFault task budget bound p (Wave TooManyRequests) =
    IsSomeAnd bound.requests (λ n. IsTooWide n (circuit task.first.now) (circuit task.second.now) (condition task.given) p)
IsTrialFault task budget bound p (Wave NoWorker) = 2 ^ 64 - 1 ≤ most_of bound.requests
IsTrialFault task budget bound p (Wave Stopped) = MayStop bound
IsTrialFault task budget bound p (Wave NoWaveMemory) = ⊤
IsTrialFault task budget bound p OutOfMemory = ⊤
IsTrialFault task budget bound p fault = ⊥

-- the fault of a comparison that is given up for this reason
abbrev pub fault_for : GiveUpReason → CheckFault
fault_for reasons.MoreNodes = Wave Full
fault_for reasons.TooManyRequests = Wave TooManyRequests
fault_for reasons.Stopped = Wave Stopped

-- An attempt was given up, and `full` says whether it was for its nodes.
pub record WasGivenUp {H : Type 0} (task : Task H) (budget : ℕ) (bound : WaveBound) (full : Bool) (p : NamingModel) : Type 0 where
  pub cause : IsGivenUpFor task budget bound p
  pub nodes : full ≡ true → NeedsMore task budget p
  pub others : full ≡ false → HasOtherCause task budget bound p

-- the result of an attempt
abbrev pub IsEnded : {H : Type 0} → Task H → Option (Bor NamingModel) → (budget : ℕ) → (bound : WaveBound) → Trial → Ended → Type 0
IsEnded task declared budget bound t (endings.Decided verdicts) = IsDecided task declared budget t verdicts.items
IsEnded task declared budget bound t (endings.GivenUp full) = WasGivenUp task budget bound full t.pairing

-- ---- candidates

-- An attempt in this order was given up within the budget.
pub record IsOrderGivenUp {H : Type 0} (task : Task H) (budget : ℕ) (bound : WaveBound) (o : AttemptOrder) : Type 0 where
  pub pairing : NamingModel
  pub paired : IsPairedBy task o pairing
  pub cause : IsGivenUpFor task budget bound pairing

-- the same for a candidate's order
abbrev pub IsCandidateGivenUp : {H : Type 0} → Task H → (budget : ℕ) → (bound : WaveBound) → Candidate → Type 0
IsCandidateGivenUp task budget bound c = IsOrderGivenUp task budget bound (Computed c)

-- An attempt in this order was given up within the budget, for another cause than its nodes.
pub record IsOrderGivenUpOtherwise {H : Type 0} (task : Task H) (budget : ℕ) (bound : WaveBound) (o : AttemptOrder) : Type 0 where
  pub pairing : NamingModel
  pub paired : IsPairedBy task o pairing
  pub cause : HasOtherCause task budget bound pairing

-- the same for the order of one of the candidates
abbrev pub IsSomeGivenUpOtherwise : {H : Type 0} → Task H → (budget : ℕ) → (bound : WaveBound) → Type 0
IsSomeGivenUpOtherwise task budget bound = (c : Candidate) × IsOrderGivenUpOtherwise task budget bound (Computed c)

-- An attempt in a candidate's order was given up because it needs more nodes.
pub record IsFull {H : Type 0} (task : Task H) (budget : ℕ) (c : Candidate) : Type 0 where
  pub pairing : NamingModel
  pub paired : IsPairedBy task (Computed c) pairing
  pub exceeds : NeedsMore task budget pairing

-- ---- rounds: the attempts within one budget

-- One of these trials was given up for another cause than its nodes.
pub record HasOtherTrial {H : Type 0} (task : Task H) (budget : ℕ) (bound : WaveBound) (trials : List Trial) : Type 0 where
  pub trial : Trial
  pub among : Contains trials trial
  pub cause : HasOtherCause task budget bound trial.pairing

-- Each of these trials was given up, and `full` says whether all were for their nodes.
pub record AreGivenUpTrials {H : Type 0} (task : Task H) (budget : ℕ) (bound : WaveBound) (full : Bool) (trials : List Trial) : Type 0 where
  pub own : All (IsTrial task) trials
  pub causes : All (λ t. IsGivenUpFor task budget bound t.pairing) trials
  pub nodes : full ≡ true → All (λ t. NeedsMore task budget t.pairing) trials
  pub others : full ≡ false → HasOtherTrial task budget bound trials

-- each of these trials was given up, whatever the causes
abbrev pub WereGivenUp : {H : Type 0} → Task H → (budget : ℕ) → (bound : WaveBound) → List Trial → Type 0
WereGivenUp task budget bound trials = (full : Bool) × AreGivenUpTrials task budget bound full trials

-- Each candidate was given up, and so was each of these trials. `full` says whether all were for their nodes.
pub record AreCandidatesGivenUp {H : Type 0} (task : Task H) (budget : ℕ) (bound : WaveBound) (full : Bool) (trials : List Trial) : Type 0 where
  pub trials_of : AreTrials task trials
  pub given_up : AreGivenUpTrials task budget bound full trials
  pub each : (c : Candidate) → IsCandidateGivenUp task budget bound c
  pub nodes : full ≡ true → (c : Candidate) → IsFull task budget c
  pub others : full ≡ false → IsSomeGivenUpOtherwise task budget bound

-- the attempt decides, within this budget
abbrev pub Decides : {H : Type 0} → Task H → Option (Bor NamingModel) → (budget : ℕ) → DecidedValue → Type 0
Decides task declared budget d = IsDecided task declared budget d.trial d.verdicts.items × (d.budget ≡ budget)

-- the result of a round, and the trials that are there after it
abbrev pub IsRound : {H : Type 0} → Task H → Option (Bor NamingModel) → (budget : ℕ) → (bound : WaveBound) → List Trial → Round → Type 0
IsRound task declared budget bound trials (rounds.Decided d) = Decides task declared budget d
IsRound task declared budget bound trials (rounds.GivenUp full) = AreCandidatesGivenUp task budget bound full trials

-- the result of the first attempt in one order: if trials before were given up, the same holds with this one, and the
-- order has a trial; an order that was tried before adds no cause
abbrev pub IsFirstAttempt : {H : Type 0} → Task H → Option (Bor NamingModel) → (budget : ℕ) → (bound : WaveBound) → AttemptOrder → (old new : List Trial)
    → Round → Type 0
IsFirstAttempt task declared budget bound o old new (rounds.Decided d) = Decides task declared budget d × (d.trial.order ≡ o)
IsFirstAttempt task declared budget bound o old new (rounds.GivenUp full) =
    ((all : Bool) → AreGivenUpTrials task budget bound all old → AreGivenUpTrials task budget bound (all && full) new)
    × IsTried task new o × ((k : AttemptOrder) → IsTried task old k → IsTried task new k)
    × (IsOfCandidate o → AreOfCandidates old → AreOfCandidates new)

-- The attempt of this trial decides in a sequence of trials: each trial before it was given up. It is taken from the list.
pub record IsFirstToDecide {H : Type 0} (task : Task H) (budget : ℕ) (bound : WaveBound) (trials : List Trial) (decided : Trial)
    (left : List Trial) : Type 0 where
  pub place : ℕ
  pub in_bounds : place < length trials
  pub at_place : decided ≡ slice_index_or trials place decided
  pub given_up : All (λ t. IsGivenUpFor task budget bound t.pairing) (take place trials)
  pub others : left ≡ remove trials place

-- the result of a round that goes through the trials in this sequence, and the trials that are left
abbrev pub IsRoundInSequence : {H : Type 0} → Task H → (budget : ℕ) → (bound : WaveBound) → (trials left : List Trial) → Round → Type 0
IsRoundInSequence task budget bound trials left (rounds.Decided d) = IsFirstToDecide task budget bound trials d.trial left
IsRoundInSequence task budget bound trials left (rounds.GivenUp full) = left ≡ trials

-- the same for a round that puts the trials into a sequence of its own first
abbrev pub IsRoundInSomeSequence : {H : Type 0} → Task H → (budget : ℕ) → (bound : WaveBound) → (trials left : List Trial) → Round → Type 0
IsRoundInSomeSequence task budget bound trials left round =
    (sequence : List Trial) × IsPermutation trials sequence × IsRoundInSequence task budget bound sequence left round

-- in the first round the candidates before the one that decides were given up
abbrev pub IsFirstRound : {H : Type 0} → Task H → (budget : ℕ) → (bound : WaveBound) → Round → Type 0
IsFirstRound task budget bound (rounds.Decided d) = AllBefore d.trial.order (IsCandidateGivenUp task budget bound)
IsFirstRound task budget bound (rounds.GivenUp full) = ⊤

-- ---- the search

-- In a search up to a limit, all attempts before this one were given up.
pub record AreEarlierGivenUp {H : Type 0} (task : Task H) (limit : ℕ) (bound : WaveBound) (t : Attempt) : Type 0 where
  pub smaller : (budget : ℕ) → IsBudget limit budget → budget < t.budget → (c : Candidate) → IsCandidateGivenUp task budget bound c
  pub first : t.budget ≡ first_budget limit → AllBefore t.order (IsCandidateGivenUp task t.budget bound)

-- every attempt of a search up to a limit was given up
abbrev pub AreAllGivenUp : {H : Type 0} → Task H → (limit : ℕ) → (bound : WaveBound) → Type 0
AreAllGivenUp task limit bound = (budget : ℕ) → IsBudget limit budget → (c : Candidate) → IsCandidateGivenUp task budget bound c

-- The result of a search up to a limit: the attempt that decides, within one of the budgets, and all attempts before it
-- were given up.
pub record IsFoundWithin {H : Type 0} (task : Task H) (declared : Option (Bor NamingModel)) (limit : ℕ) (bound : WaveBound)
    (d : DecidedValue) : Type 0 where
  pub decided : IsDecided task declared d.budget d.trial d.verdicts.items
  pub budget : IsBudget limit d.budget
  pub earlier_given_up : AreEarlierGivenUp task limit bound (record { order = d.trial.order; budget = d.budget })

-- the result of the last attempt: it decides, or declared order was given up
abbrev pub IsLastAttempt : {H : Type 0} → Task H → Option (Bor NamingModel) → (budget : ℕ) → (bound : WaveBound) → Round → Type 0
IsLastAttempt task declared budget bound (rounds.Decided d) = Decides task declared budget d
IsLastAttempt task declared budget bound (rounds.GivenUp full) = IsOrderGivenUp task budget bound Declared

-- ---- faults

-- the fault has its cause in declared order, from which the orders of the candidates are made
abbrev pub IsCandidateFault : {H : Type 0} → Task H → CheckFault → Type 0
IsCandidateFault task fault = OfTask task (λ input s. IsCheckFault input ⊥ ⊥ ⊥ s.order s.matching orders.Declared fault)

-- this is the fault of a search whose attempts were all given up
abbrev pub IsGivingUp : CheckFault → Type 0
IsGivingUp fault = (fault ≡ Wave Full) ⊎ (fault ≡ GivenUp) ⊎ (fault ≡ Wave Stopped)

-- A fault with which no attempt is given up, so that it ends a search at once: an order is refused, or memory is
-- refused, to a wave or elsewhere.
abbrev pub EndsAtOnce : CheckFault → Type 0
EndsAtOnce (OrderRefused fault) = ⊤
EndsAtOnce (Wave NoWaveMemory) = ⊤
EndsAtOnce OutOfMemory = ⊤
EndsAtOnce fault = ⊥

-- A fault with which a search ends: that of a search whose attempts were all given up, or one that ends it at once.
abbrev pub EndsSearch : CheckFault → Type 0
EndsSearch (Wave Full) = ⊤
EndsSearch GivenUp = ⊤
EndsSearch (Wave Stopped) = ⊤
EndsSearch fault = EndsAtOnce fault

-- Why a search up to a limit finds nothing. If the fault is Full, each candidate needs more nodes. If it is GivenUp,
-- every attempt was given up, one of them within the limit for another cause than its nodes. If it is Stopped, the run
-- may stop.
pub record IsSearchFault {H : Type 0} (task : Task H) (limit : ℕ) (bound : WaveBound) (fault : CheckFault) : Type 0 where
  pub full : fault ≡ Wave Full → (c : Candidate) → IsFull task limit c
  pub given_up : IsGivingUp fault → AreAllGivenUp task limit bound
  pub others : fault ≡ GivenUp → IsSomeGivenUpOtherwise task limit bound
  pub stopped : fault ≡ Wave Stopped → MayStop bound
  pub cause : IsCandidateFault task fault
  pub ends : EndsSearch fault
