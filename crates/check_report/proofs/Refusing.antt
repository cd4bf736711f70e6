-- The tables of faults, and the statements for each fault.
use Rattle.std.proofs.Common.{◌≡◌, ◌≢◌, inl, inr, sym, subst, refl, arith, ℕ, ◌<◌, ◌≤◌, ◌-◌, ◌^◌}
use Rattle.std.proofs.lemmas.Bool.{cases_lt}
use Rattle.expand_work.specs.Bounds.{WaveBound, most_of}
use Rattle.expand_work.specs.declared.fault.WaveFault.TheVariants.{OutOfMemory as NoWaveMemory, NoWorker, Full, TooManyRequests, Stopped}
use Rattle.net_names.specs.declared.order.OrderFault.TheVariants.{CountsDiffer, NotAPermutation, TooManyInputs, OutOfMemory as NoOrderMemory}
use Rattle.net_names.specs.declared.order.OrderFault.TheVariants.{BadName, TooLong, Read}
use Rattle.compare_built.specs.Attempts.{AreTried, MayGoByCones}
use Rattle.compare_built.specs.Check.{IsFaultOfReading}
use Rattle.compare_built.specs.Devices.{DeviceTexts}
use Rattle.compare_built.specs.declared.fault.CheckFault.{CheckFault}
use Rattle.compare_built.specs.declared.fault.CheckFault.TheVariants.{First, Second, Given, GivenOutputs, Order as OrderRefused, Only, Explain}
use Rattle.compare_built.specs.declared.fault.CheckFault.TheVariants.{Wave, GivenUp, Write, OutOfMemory}
use Rattle.compare_built.specs.declared.settings.Settings.{Settings}
use Rattle.compare_built.specs.declared.strategy.Strategy.{Strategy}
use Rattle.compare_built.specs.declared.strategy.Strategy.TheVariants.{One, Computed, Best, Auto, Cones, ConesByList, Merge}
use Rattle.cone_check.specs.ConeRounds.{EndsAuto}
use Rattle.explain_report.specs.Deciding.{IsUnknown}
use Rattle.order_search.specs.Trials.{EndsAtOnce, EndsSearch}
use Rattle.check_report.specs.Refusals.{ListSaysOfEach, MayAnswer, MayList, SaysOfEach}

-- if orders are tried, no pair may be judged by its cones
not_both : (choice : Strategy) → MayGoByCones choice → AreTried choice → ⊥
not_both (One o) may tried = may
not_both (Computed c) may tried = may
not_both Best may tried = may
not_both Auto may tried = tried
not_both Cones may tried = tried
not_both Merge may tried = tried
not_both (ConesByList names) may tried = tried

at_least : (n m : ℕ) → (n < m → ⊥) → m ≤ n
at_least n m none = elim (cases_lt n m) [
  | inl less ↦ absurd (none less)
  | inr more ↦ more
]

apart : (n m : ℕ) → n < m → m ≤ n → ⊥
apart n m less more = omega (arith, less, more)

module _ (input : DeviceTexts) (s : Settings) (bound : WaveBound) where
  -- ---- a comparison

  pub to_each : (fault : CheckFault) → MayAnswer input s bound fault → SaysOfEach input s bound fault
  to_each fault h = record {
    full = λ e. (subst (MayAnswer input s bound) e h).1;
    given_up = λ e. subst (MayAnswer input s bound) e h;
    by_cones = λ may. (λ e. (subst (MayAnswer input s bound) e h).0 may, λ e. not_both s.order may (subst (MayAnswer input s bound) e h).0);
    any_number_of_inputs = λ may e. subst (MayAnswer input s bound) e h may;
    only = λ e. subst (MayAnswer input s bound) e h;
    past = λ e. subst (MayAnswer input s bound) e h;
    stopped = λ e. subst (MayAnswer input s bound) e h;
    needs_no_thread = λ less e. apart (most_of bound.requests) (2 ^ 64 - 1) less (subst (MayAnswer input s bound) e h).1;
    thread_for_named_order = λ e. (subst (MayAnswer input s bound) e h).0;
  }

  pub from_each : (fault : CheckFault) → SaysOfEach input s bound fault → MayAnswer input s bound fault
  from_each (First fault) h = tt
  from_each (Second fault) h = tt
  from_each (Given fault) h = tt
  from_each GivenOutputs h = tt
  from_each (OrderRefused CountsDiffer) h = tt
  from_each (OrderRefused (NotAPermutation place)) h = tt
  from_each (OrderRefused TooManyInputs) h = λ may. h.any_number_of_inputs may refl
  from_each (OrderRefused NoOrderMemory) h = tt
  from_each (OrderRefused (BadName line)) h = tt
  from_each (OrderRefused TooLong) h = tt
  from_each (OrderRefused Read) h = tt
  from_each Only h = h.only refl
  from_each Explain h = tt
  from_each (Wave NoWaveMemory) h = tt
  from_each (Wave NoWorker) h = (h.thread_for_named_order refl, at_least (most_of bound.requests) (2 ^ 64 - 1) (λ less. h.needs_no_thread less refl))
  from_each (Wave Full) h = (λ may. (h.by_cones may).0 refl, h.full refl)
  from_each (Wave TooManyRequests) h = h.past refl
  from_each (Wave Stopped) h = h.stopped refl
  from_each GivenUp h = h.given_up refl
  from_each Write h = tt
  from_each OutOfMemory h = tt

  -- a fault that ends a comparison at once is in the table
  pub at_once : (fault : CheckFault) → EndsAtOnce fault → (MayGoByCones s.order → fault ≢ OrderRefused TooManyInputs) → MayAnswer input s bound fault
  at_once fault ends few = from_each fault (record {
    full = λ e. absurd (subst EndsAtOnce e ends);
    given_up = λ e. absurd (subst EndsAtOnce e ends);
    by_cones = λ may. (λ e. subst EndsAtOnce e ends, λ e. subst EndsAtOnce e ends);
    any_number_of_inputs = few;
    only = λ e. absurd (subst EndsAtOnce e ends);
    past = λ e. absurd (subst EndsAtOnce e ends);
    stopped = λ e. absurd (subst EndsAtOnce e ends);
    needs_no_thread = λ _ e. subst EndsAtOnce e ends;
    thread_for_named_order = λ e. absurd (subst EndsAtOnce e ends);
  })

  -- and so is one that ends a comparison by cones
  pub by_auto : (fault : CheckFault) → EndsAuto fault → (fault ≡ Only → IsUnknown input s.picked) → fault ≢ OrderRefused TooManyInputs → MayAnswer input s bound fault
  by_auto fault (inl only) unknown few = subst (MayAnswer input s bound) (sym only) (unknown only)
  by_auto fault (inr ends) unknown few = at_once fault ends (λ may. few)

  -- and a fault of reading
  pub early : (fault : CheckFault) → IsFaultOfReading fault → MayAnswer input s bound fault
  early fault h = from_each fault (record {
    full = λ e. absurd (subst IsFaultOfReading e h);
    given_up = λ e. absurd (subst IsFaultOfReading e h);
    by_cones = λ may. (λ e. subst IsFaultOfReading e h, λ e. subst IsFaultOfReading e h);
    any_number_of_inputs = λ may e. subst IsFaultOfReading e h;
    only = λ e. absurd (subst IsFaultOfReading e h);
    past = λ e. absurd (subst IsFaultOfReading e h);
    stopped = λ e. absurd (subst IsFaultOfReading e h);
    needs_no_thread = λ less e. subst IsFaultOfReading e h;
    thread_for_named_order = λ e. absurd (subst IsFaultOfReading e h);
  })

  -- ---- printing an order

  pub to_list : (fault : CheckFault) → MayList input s bound fault → ListSaysOfEach input s bound fault
  to_list fault h = record {
    full = λ e. (subst (MayList input s bound) e h).1;
    given_up = λ e. subst (MayList input s bound) e h;
    by_cones = λ may. (λ e. (subst (MayList input s bound) e h).0 may, λ e. not_both s.order may (subst (MayList input s bound) e h).0);
    stopped = λ e. subst (MayList input s bound) e h;
    never_too_many_requests = λ e. subst (MayList input s bound) e h;
    needs_no_thread = λ e. subst (MayList input s bound) e h;
    no_unknown_name = λ e. subst (MayList input s bound) e h;
  }

  pub from_list : (fault : CheckFault) → ListSaysOfEach input s bound fault → MayList input s bound fault
  from_list (First fault) h = tt
  from_list (Second fault) h = tt
  from_list (Given fault) h = tt
  from_list GivenOutputs h = tt
  from_list (OrderRefused fault) h = tt
  from_list Only h = h.no_unknown_name refl
  from_list Explain h = tt
  from_list (Wave NoWaveMemory) h = tt
  from_list (Wave NoWorker) h = h.needs_no_thread refl
  from_list (Wave Full) h = (λ may. (h.by_cones may).0 refl, h.full refl)
  from_list (Wave TooManyRequests) h = h.never_too_many_requests refl
  from_list (Wave Stopped) h = h.stopped refl
  from_list GivenUp h = h.given_up refl
  from_list Write h = tt
  from_list OutOfMemory h = tt

  -- a fault of a search for an order is also in the table of printing
  pub of_search : (fault : CheckFault) → EndsSearch fault → MayAnswer input s bound fault → MayList input s bound fault
  of_search fault ends h =
      let each = to_each fault h in
      from_list fault (record {
        full = each.full;
        given_up = each.given_up;
        by_cones = each.by_cones;
        stopped = each.stopped;
        never_too_many_requests = λ e. subst EndsSearch e ends;
        needs_no_thread = λ e. subst EndsSearch e ends;
        no_unknown_name = λ e. subst EndsSearch e ends;
      })

  pub list_at_once : (fault : CheckFault) → EndsAtOnce fault → MayList input s bound fault
  list_at_once fault ends = from_list fault (record {
    full = λ e. absurd (subst EndsAtOnce e ends);
    given_up = λ e. absurd (subst EndsAtOnce e ends);
    by_cones = λ may. (λ e. subst EndsAtOnce e ends, λ e. subst EndsAtOnce e ends);
    stopped = λ e. absurd (subst EndsAtOnce e ends);
    never_too_many_requests = λ e. subst EndsAtOnce e ends;
    needs_no_thread = λ e. subst EndsAtOnce e ends;
    no_unknown_name = λ e. subst EndsAtOnce e ends;
  })

  pub list_early : (fault : CheckFault) → IsFaultOfReading fault → MayList input s bound fault
  list_early fault h = from_list fault (record {
    full = λ e. absurd (subst IsFaultOfReading e h);
    given_up = λ e. absurd (subst IsFaultOfReading e h);
    by_cones = λ may. (λ e. subst IsFaultOfReading e h, λ e. subst IsFaultOfReading e h);
    stopped = λ e. absurd (subst IsFaultOfReading e h);
    never_too_many_requests = λ e. subst IsFaultOfReading e h;
    needs_no_thread = λ e. subst IsFaultOfReading e h;
    no_unknown_name = λ e. subst IsFaultOfReading e h;
  })

-- reading never fails with Write
pub early_unwritten : (fault : CheckFault) → IsFaultOfReading fault → fault ≢ Write
early_unwritten fault h e = subst IsFaultOfReading e h
