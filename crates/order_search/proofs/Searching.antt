-- The result of a search: the attempt that decides, or a fault.
use Rattle.std.proofs.Common.{◌≡◌, ◌≢◌, ◌∙◌, refl, inl, inr, sym, subst, ℕ, ◌*◌, ◌^◌, ◌<◌, ◌≤◌, Bool, true, false, ◌&&◌, List, [], length, arith, Option, Result, Ok, Err, IfErr}
use Rattle.std.specs.Prelude.{IfOk}
use Rattle.std.specs.Borrow.{Bor}
use Rattle.expand_work.specs.Bounds.{MayStop, WaveBound}
use Rattle.expand_work.specs.declared.fault.WaveFault.TheVariants.{Full, TooManyRequests, NoWorker, Stopped}
use Rattle.net_order.specs.Order.{NamingModel}
use Rattle.compare_built.specs.declared.fault.CheckFault.{CheckFault}
use Rattle.compare_built.specs.declared.fault.CheckFault.TheVariants.{Wave, GivenUp, Only, Write}
use Rattle.compare_built.specs.declared.strategy.Candidate.{Candidate}
use Rattle.compare_built.specs.declared.strategy.Candidate.TheVariants.{MsbFirst}
use Rattle.compare_built.specs.declared.strategy.AttemptOrder.TheVariants.{Computed, Declared}
use Rattle.net_names.specs.declared.order.Order.TheVariants as orders
use Rattle.compare_built.specs.declared.task.Task.{Task}
use Rattle.compare_built.specs.Attempts.{AllBefore, IsBudget, first_budget}
use Rattle.compare_built.specs.Check.{IsCheckFault}
use Rattle.order_search.specs.declared.attempts.Decided.{Decided as DecidedValue}
use Rattle.order_search.specs.declared.attempts.Round.{Round}
use Rattle.order_search.specs.declared.attempts.Round.TheVariants as rounds
use Rattle.order_search.specs.declared.trials.Trial.{Trial}
use Rattle.order_search.specs.Tasks.{OfTask}
use Rattle.order_search.specs.Trials.{AreAllGivenUp, AreCandidatesGivenUp, AreEarlierGivenUp, Decides, EndsAtOnce, EndsSearch, IsCandidateFault, IsCandidateGivenUp}
use Rattle.order_search.specs.Trials.{AreGivenUpTrials, AreOfCandidates, IsFirstAttempt, IsLastAttempt, WereGivenUp}
use Rattle.order_search.specs.Trials.{IsDecided, IsFoundWithin, IsFull, IsGivingUp, IsSearchFault}
use Rattle.order_search.proofs.Budgets.{first_is_one}
use Rattle.order_search.proofs.Rounds.{given_up_fault, passed_at, passed_by, passed_first}

-- ---- sets of faults

-- a search may end with a fault that ends it at once, and with one of giving up
pub search_ends : (fault : CheckFault) → EndsAtOnce fault → EndsSearch fault
search_ends (Wave Full) h = tt
search_ends GivenUp h = tt
search_ends (Wave Stopped) h = tt
search_ends fault h = h

pub giving_up_ends : (fault : CheckFault) → IsGivingUp fault → EndsSearch fault
giving_up_ends fault (inl nodes) = subst EndsSearch (sym nodes) tt
giving_up_ends fault (inr (inl given_up)) = subst EndsSearch (sym given_up) tt
giving_up_ends fault (inr (inr stopped)) = subst EndsSearch (sym stopped) tt

-- it ends with no other fault
pub at_once : (fault : CheckFault) → EndsSearch fault → (IsGivingUp fault → ⊥) → EndsAtOnce fault
at_once (Wave Full) ends apart = absurd (apart (inl refl))
at_once GivenUp ends apart = absurd (apart (inr (inl refl)))
at_once (Wave Stopped) ends apart = absurd (apart (inr (inr refl)))
at_once fault ends apart = ends

pub never_gives_up : (fault : CheckFault) → EndsAtOnce fault → IsGivingUp fault → ⊥
never_gives_up fault ends (inl nodes) = subst EndsAtOnce nodes ends
never_gives_up fault ends (inr (inl given_up)) = subst EndsAtOnce given_up ends
never_gives_up fault ends (inr (inr stopped)) = subst EndsAtOnce stopped ends

-- ---- the result of a search

module _ {H : Type 0} (task : Task H) (declared : Option (Bor NamingModel)) (limit : ℕ) (bound : WaveBound) where
  -- an attempt within the first budget decides
  pub found_first : (budget : ℕ) (d : DecidedValue) → budget ≡ first_budget limit → Decides task declared budget d → AllBefore d.trial.order (IsCandidateGivenUp task budget bound) →
      IsFoundWithin task declared limit bound d
  found_first budget d first decides before =
      let own : d.budget ≡ first_budget limit = decides.1 ∙ first in
      record {
        decided = subst (λ n. IsDecided task declared n d.trial d.verdicts.items) (sym decides.1) decides.0;
        budget = first_is_one limit d.budget own;
        earlier_given_up = passed_first task limit bound (record { order = d.trial.order; budget = d.budget }) own
            (subst (λ n. AllBefore d.trial.order (IsCandidateGivenUp task n bound)) (sym decides.1) before);
      }

  -- an attempt within a later budget decides
  pub found_later : (k budget : ℕ) (d : DecidedValue) → budget ≤ 16384 * 32 ^ k → budget ≤ limit → 16384 < budget → IsBudget limit budget →
      ((j : ℕ) → j < k → (c : Candidate) → IsCandidateGivenUp task (16384 * 32 ^ j) bound c) → Decides task declared budget d → IsFoundWithin task declared limit bound d
  found_later k budget d most within more is tried decides = record {
    decided = subst (λ n. IsDecided task declared n d.trial d.verdicts.items) (sym decides.1) decides.0;
    budget = subst (IsBudget limit) (sym decides.1) is;
    earlier_given_up = passed_at task limit bound k budget (record { order = d.trial.order; budget = d.budget }) most within more tried decides.1;
  }

  -- every attempt was given up, the last within the limit
  pub all_given_up : (full : Bool) (trials : List Trial) (fault : CheckFault) → AreCandidatesGivenUp task limit bound full trials → AreAllGivenUp task limit bound → IsGivingUp fault → (fault ≡ Wave Full → full ≡ true) →
      (fault ≡ GivenUp → full ≡ false) → (fault ≡ Wave Stopped → MayStop bound) → IsSearchFault task limit bound fault
  all_given_up full trials fault last all which nodes others stopped = record {
    full = λ e. last.nodes (nodes e);
    given_up = λ _. all;
    others = λ e. last.others (others e);
    stopped = stopped;
    cause = λ input given. given_up_fault task input given (Computed MsbFirst) (last.each MsbFirst).pairing fault (last.each MsbFirst).paired which;
    ends = giving_up_ends fault which;
  }

  -- an attempt has failed with a fault that ends the search at once
  pub ended_at_once : (fault : CheckFault) → IsCandidateFault task fault → EndsAtOnce fault → IsSearchFault task limit bound fault
  ended_at_once fault cause ends = record {
    full = λ e. absurd (subst EndsAtOnce e ends);
    given_up = λ h. absurd (never_gives_up fault ends h);
    others = λ e. absurd (subst EndsAtOnce e ends);
    stopped = λ e. absurd (subst EndsAtOnce e ends);
    cause = cause;
    ends = search_ends fault ends;
  }

-- ---- the first attempt and the last

module _ {H : Type 0} (task : Task H) (declared : Option (Bor NamingModel)) (budget : ℕ) (bound : WaveBound) where
  -- no trial was given up yet
  pub none_given_up : (trials : List Trial) → trials ≡ [] → AreGivenUpTrials task budget bound true trials
  none_given_up trials e = record {
    own = λ k d lt. absurd (none k lt);
    causes = λ k d lt. absurd (none k lt);
    nodes = λ _ k d lt. absurd (none k lt);
    others = λ never. absurd (cc);
  }
    where
      none : (k : ℕ) → k < length trials → ⊥
      none k lt = let no : k < 0 = subst (λ ts. k < length ts) e lt in omega (arith, no)

  -- no trial is in another order than a candidate's
  pub none_otherwise : (trials : List Trial) → trials ≡ [] → AreOfCandidates trials
  none_otherwise trials e = λ k d lt. absurd (let no : k < 0 = subst (λ ts. k < length ts) e lt in omega (arith, no))

  -- after the attempts of these trials were given up, the one in declared order decides or is given up too
  pub last_of : (old new : List Trial) (r : Result Round CheckFault) → WereGivenUp task budget bound old → IfOk r (IsFirstAttempt task declared budget bound Declared old new) → IfOk r (IsLastAttempt task declared budget bound)
  last_of old new (Ok (rounds.Decided d)) given turn = turn.0
  last_of old new (Ok (rounds.GivenUp full)) given turn = passed_by task budget bound (given.0 && full) new Declared (turn.0 given.0 given.1) turn.1
  last_of old new (Err fault) given turn = tt

-- ---- the contract of a search, clause by clause

-- the faults with which a search does not end
pub search_never : (fault : CheckFault) → EndsSearch fault → (fault ≢ Write) × (fault ≢ Wave TooManyRequests) × (fault ≢ Wave NoWorker) × (fault ≢ Only)
search_never fault ends = (λ e. subst EndsSearch e ends, λ e. subst EndsSearch e ends, λ e. subst EndsSearch e ends, λ e. subst EndsSearch e ends)

-- the faults that do not end a search at once
pub at_once_never : (fault : CheckFault) → EndsAtOnce fault → EndsSearch fault × (fault ≢ Wave Full) × (fault ≢ GivenUp)
at_once_never fault ends = (search_ends fault ends, λ e. subst EndsAtOnce e ends, λ e. subst EndsAtOnce e ends)

module _ {H : Type 0} (task : Task H) (declared : Option (Bor NamingModel)) (limit : ℕ) (bound : WaveBound) where
  -- what holds of the attempt that is found
  pub found_says : (r : Result DecidedValue CheckFault) → IfOk r (IsFoundWithin task declared limit bound) →
      IfOk r (λ d. IsDecided task declared d.budget d.trial d.verdicts.items)
      × IfOk r (λ d. IsBudget limit d.budget)
      × IfOk r (λ d. AreEarlierGivenUp task limit bound (record { order = d.trial.order; budget = d.budget }))
  found_says (Ok d) h = (h.decided, h.budget, h.earlier_given_up)
  found_says (Err fault) h = (tt, tt, tt)

  -- what holds of the fault
  pub fault_says : (r : Result DecidedValue CheckFault) → IfErr r (IsSearchFault task limit bound) →
      (r ≡ Err (Wave Full) → (c : Candidate) → IsFull task limit c)
      × IfErr r (λ fault. IsGivingUp fault → AreAllGivenUp task limit bound)
      × OfTask task (λ input s. IfErr r (IsCheckFault input ⊥ ⊥ ⊥ s.order s.matching orders.Declared))
      × IfErr r EndsSearch
  fault_says (Ok d) h = (λ e. absurd (let never : ⊥ = cc in never), tt, λ input given. tt, tt)
  fault_says (Err fault) h = (λ e. h.full (let same : fault ≡ Wave Full = cc in same), h.given_up, h.cause, h.ends)
