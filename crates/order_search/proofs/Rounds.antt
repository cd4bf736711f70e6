-- Candidates that are tried in turn, and those that are given up.
use Rattle.std.proofs.Common.{◌≡◌, ◌≢◌, ◌&&◌, inl, inr, ◌∙◌, sym, subst, arith, refl, lit<, get_or, length, take, ◌+◌, ◌-◌, ℕ, zero, suc, ◌*◌, ◌^◌, ◌<◌, ◌≤◌, Bool, true, false, List, [], ◌∷◌, ◌++◌, All, Contains, Option, IfSome}
use Rattle.std.proofs.Common.{Some, Result, Ok, Err, IfErr}
use Rattle.std.specs.Prelude.{IfOk, IsSomeAnd, OnOk}
use Rattle.std.specs.Borrow.{Bor}
use Rattle.std.proofs.lemmas.Bool.{cases_lt}
use Rattle.std.proofs.lemmas.List.Elements.{All-contains, All-more, All-push, Contains-append_left, Contains-get_or, Contains-push}
use Rattle.std.proofs.lemmas.List.Sorted.{All-permutation, Contains-permutation}
use Rattle.std.proofs.lemmas.List.{take_all}
use Rattle.std.specs.List.Sorted.{IsPermutation}
use Rattle.net_bench.specs.Circuit.{Circuit, circuit}
use Rattle.net_names.specs.declared.order.Match.{Match}
use Rattle.net_names.specs.declared.order.Order.{Order}
use Rattle.net_names.specs.declared.order.Order.TheVariants as orders
use Rattle.net_names.specs.declared.order.OrderFault.{OrderFault}
use Rattle.net_order.specs.Order.{NamingModel, IsPairing, HasLevels, condition, own, names_by}
use Rattle.expand_work.specs.Bounds.{MayStop, WaveBound, most_of}
use Rattle.expand_work.specs.declared.fault.WaveFault.TheVariants.{OutOfMemory as NoWaveMemory, Full, TooManyRequests, NoWorker, Stopped}
use Rattle.compare_built.specs.Details.{details_in}
use Rattle.compare_built.specs.declared.strategy.Attempt.{Attempt}
use Rattle.compare_built.specs.declared.strategy.Candidate.{Candidate}
use Rattle.compare_built.specs.declared.strategy.Candidate.TheVariants.{MsbFirst, Weights, ForceGroups}
use Rattle.compare_built.specs.declared.strategy.AttemptOrder.{AttemptOrder}
use Rattle.compare_built.specs.declared.strategy.AttemptOrder.TheVariants.{Computed, Declared}
use Rattle.compare_built.specs.declared.strategy.Strategy.{Strategy}
use Rattle.compare_built.specs.declared.fault.CheckFault.{CheckFault}
use Rattle.compare_built.specs.declared.fault.CheckFault.TheVariants.{Order as OrderRefused, Wave, OutOfMemory}
use Rattle.compare_built.specs.declared.task.Task.{Task}
use Rattle.order_search.specs.declared.trials.Trial.{Trial}
use Rattle.compare_built.specs.Attempts.{AllBefore, AreGivenUp, IsAttemptGivenUp, IsGivenUpOtherwise, IsGivenUpWithin, first_budget, requests_within}
use Rattle.compare_built.specs.Candidates.{InOrderOf, IsOrderIn, IsOrderOf}
use Rattle.report_text.specs.declared.verdict.Verdict.{Verdict}
use Rattle.report_text.specs.Lines.{Found}
use Rattle.compare_built.specs.Check.{AreAccepted, AreVariablesFewFor, AreGiven, IsCheckFault, IsJudged, IsComparisonFault}
use Rattle.compare_built.specs.Report.{AreVerdicts}
use Rattle.compare_built.specs.Devices.{DeviceTexts}
use Rattle.compare_built.specs.Limits.{AreBeyond, AreWithin, Exceeds, FitsWithin}
use Rattle.order_search.proofs.Budgets.{each_smaller}
use Rattle.order_search.proofs.Ordering.{declared_pairing}
use Rattle.compare_built.specs.Widths.{IsTooWide}
use Rattle.order_search.proofs.Reporting.{few_for, late_fault}
use Rattle.order_search.specs.declared.attempt_end.GiveUpReason.{GiveUpReason}
use Rattle.order_search.specs.declared.attempt_end.GiveUpReason.TheVariants as reasons
use Rattle.order_search.specs.Trials.{AreGivenUpTrials, AreVerdictsIn, AreCandidatesGivenUp, AreEarlierGivenUp, AreTrials, EndsAtOnce, IsCandidateFault, IsDecided, IsFull, IsGivenUpFor, IsGivingUp, IsNamingIn, IsOrderGivenUp, IsPairedBy, IsPairingIn, IsCandidateGivenUp, IsTrial, IsTrialFault, IsTried, NeedsMore, WasGivenUp, fault_for}
use Rattle.order_search.specs.Trials.{AreOfCandidates, HasOtherCause, HasOtherTrial, IsOfCandidate, IsOrderGivenUpOtherwise, IsSomeGivenUpOtherwise, reported_pairing}

-- ---- orders

-- a pairing that has the names of one in another order is the pairing in that order
pub same_pairing : (how : Match) (a b : Circuit) (given : Option Circuit) (o k : Order) (p q : NamingModel) → IsPairing how a b given o p → IsPairing how a b given k q → p.names ≡ q.names → IsPairing how a b given k p
same_pairing how a b given o k p q one other same =
    let is = one.naming in
    let of = other.naming in
    let e : names_by how a b given o ≡ names_by how a b given k = sym is.names ∙ same ∙ of.names in
    record {
      naming = record {
        counted = of.counted;
        fit = of.fit;
        names = same ∙ of.names;
        first = subst (λ n. HasLevels n (own a) p.first) e is.first;
        second = subst (λ n. HasLevels n (record { how = how; name_source = a; net = b }) p.second) e is.second;
        conditional = subst (λ n. IfSome given (λ c. HasLevels n (own c) p.given)) e is.conditional;
        outputs = is.outputs;
        registers = is.registers;
      };
      few = other.few;
    }

-- ---- candidates in turn

-- if P implies Q, and P holds of all candidates before an order, so does Q
pub all_before : (P Q : Candidate → Type 0) → ((c : Candidate) → P c → Q c) → (o : AttemptOrder) → AllBefore o P → AllBefore o Q
all_before P Q f (Computed MsbFirst) h = tt
all_before P Q f (Computed Weights) h = f MsbFirst h
all_before P Q f (Computed ForceGroups) h = (f MsbFirst h.0, f Weights h.1)
all_before P Q f Declared h = (f MsbFirst h.0, f Weights h.1, f ForceGroups h.2)

-- what holds of each candidate holds of all candidates before an order
pub before_any : (P : Candidate → Type 0) (o : AttemptOrder) → ((c : Candidate) → P c) → AllBefore o P
before_any P (Computed MsbFirst) h = tt
before_any P (Computed Weights) h = h MsbFirst
before_any P (Computed ForceGroups) h = (h MsbFirst, h Weights)
before_any P Declared h = (h MsbFirst, h Weights, h ForceGroups)

pub each_candidate : (P : Candidate → Type 0) → P MsbFirst → P Weights → P ForceGroups → (c : Candidate) → P c
each_candidate P m w f MsbFirst = m
each_candidate P m w f Weights = w
each_candidate P m w f ForceGroups = f

-- the same in the order in which they are tried
abbrev pub candidates : List Candidate
candidates = MsbFirst ∷ Weights ∷ ForceGroups ∷ []

pub each_at : (P : Candidate → Type 0) (d : Candidate) → ((j : ℕ) → j < 3 → P (get_or candidates j d)) → (c : Candidate) → P c
each_at P d h = each_candidate P (h 0 (lit< tt)) (h 1 (lit< tt)) (h 2 (lit< tt))

pub before_at : (P : Candidate → Type 0) (k : ℕ) (d : Candidate) → k < 3 → ((j : ℕ) → j < k → P (get_or candidates j d)) → AllBefore (Computed (get_or candidates k d)) P
before_at P zero d lt h = tt
before_at P (suc zero) d lt h = h 0 (lit< tt)
before_at P (suc (suc zero)) d lt h = (h 0 (lit< tt), h 1 (lit< tt))
before_at P (suc (suc (suc k))) d lt h = absurd (omega (arith, lt))

-- ---- given up

module _ {H : Type 0} (task : Task H) (input : DeviceTexts) (given : AreGiven input (circuit task.first.now) (circuit task.second.now) (condition task.given)) where
  pub accepted : (choice : Strategy) (o : Order) (p : NamingModel) → IsNamingIn task o p → AreVariablesFewFor choice task.settings.now.matching (circuit task.first.now) (circuit task.second.now) (condition task.given) →
      AreAccepted input choice task.settings.now.matching o
  accepted choice o p is few = (circuit task.first.now, circuit task.second.now, condition task.given, p, record { netlists = given; naming = is }, few)

  pub accepted_paired : (choice : Strategy) (o : Order) (p : NamingModel) → IsPairingIn task o p → AreAccepted input choice task.settings.now.matching o
  accepted_paired choice o p is = accepted choice o p is.naming (few_for choice task.settings.now.matching (circuit task.first.now) (circuit task.second.now) (condition task.given) is.few)

  pub judged : (o : Order) (p : NamingModel) (found verdicts : Found) → IsPairingIn task o p → found ≡ verdicts →
      AreVerdicts (details_in task.settings.now) (circuit task.first.now) (circuit task.second.now) (condition task.given) p verdicts → IsJudged input task.settings.now.matching o (details_in task.settings.now) found
  judged o p found verdicts is e v = record {
    a = circuit task.first.now;
    b = circuit task.second.now;
    c = condition task.given;
    p = p;
    paired = record { netlists = given; pairing = is };
    verdicts = subst (AreVerdicts (details_in task.settings.now) (circuit task.first.now) (circuit task.second.now) (condition task.given) p) (sym e) v;
  }

  pub within : (o : Order) (p : NamingModel) (budget : ℕ) → IsPairingIn task o p → FitsWithin budget (circuit task.first.now) (circuit task.second.now) (condition task.given) p → AreWithin input task.settings.now.matching o budget
  within o p budget is fits = (circuit task.first.now, circuit task.second.now, condition task.given, p, record { netlists = given; pairing = is }, fits)

  pub beyond : (o : Order) (p : NamingModel) (budget : ℕ) → IsPairingIn task o p → Exceeds budget (circuit task.first.now) (circuit task.second.now) (condition task.given) p → AreBeyond input task.settings.now.matching o budget
  beyond o p budget is more = (circuit task.first.now, circuit task.second.now, condition task.given, p, record { netlists = given; pairing = is }, more)

  -- if there is a pairing in the order of an attempt, declared order is accepted
  pub accepted_by : (choice : Strategy) (o : AttemptOrder) (p : NamingModel) → IsPairedBy task o p → AreAccepted input choice task.settings.now.matching orders.Declared
  accepted_by choice o p is =
      let d = declared_pairing task.settings.now.matching (circuit task.first.now) (circuit task.second.now) (condition task.given) o p is in
      accepted_paired choice orders.Declared d.0 d.1

  pub given_up_fault : (o : AttemptOrder) (p : NamingModel) (fault : CheckFault) → IsPairedBy task o p → IsGivingUp fault →
      IsCheckFault input ⊥ ⊥ ⊥ task.settings.now.order task.settings.now.matching orders.Declared fault
  given_up_fault o p fault is (inl e) = subst (IsCheckFault input ⊥ ⊥ ⊥ task.settings.now.order task.settings.now.matching orders.Declared) (sym e) (accepted_by task.settings.now.order o p is)
  given_up_fault o p fault is (inr (inl e)) = subst (IsCheckFault input ⊥ ⊥ ⊥ task.settings.now.order task.settings.now.matching orders.Declared) (sym e) (accepted_by task.settings.now.order o p is)
  given_up_fault o p fault is (inr (inr e)) = subst (IsCheckFault input ⊥ ⊥ ⊥ task.settings.now.order task.settings.now.matching orders.Declared) (sym e) (accepted_by task.settings.now.order o p is)

  -- the order of an attempt at a task is that of an attempt at what the devices gave
  pub order_in_input : (o : AttemptOrder) (k : Order) → IsOrderOf task.settings.now.matching (circuit task.first.now) (circuit task.second.now) (condition task.given) o k → IsOrderIn input task.settings.now.matching o k
  order_in_input o k is = (circuit task.first.now, circuit task.second.now, condition task.given, given, is)

  pub given_up_in_input : (budget : ℕ) (bound : WaveBound) (o : AttemptOrder) → IsOrderGivenUp task budget bound o → IsAttemptGivenUp input task.settings.now.matching budget bound o
  given_up_in_input budget bound o g = (g.paired.0, order_in_input o g.paired.0 g.paired.1, by g.cause)
    where
      by : IsGivenUpFor task budget bound g.pairing → IsGivenUpWithin input task.settings.now.matching budget bound g.paired.0
      by (inl more) = inl (circuit task.first.now, circuit task.second.now, condition task.given, g.pairing, record { netlists = given; pairing = g.paired.2 }, more)
      by (inr (inl wide)) = inr (inl (circuit task.first.now, circuit task.second.now, condition task.given, g.pairing, record { netlists = given; pairing = g.paired.2 }, wide))
      by (inr (inr stops)) = inr (inr stops)

  -- an order that was given up for another cause than its nodes, for what the devices gave
  pub otherwise_in_input : (budget : ℕ) (bound : WaveBound) (o : AttemptOrder) → IsOrderGivenUpOtherwise task budget bound o →
      InOrderOf input task.settings.now.matching o (IsGivenUpOtherwise input task.settings.now.matching budget bound)
  otherwise_in_input budget bound o g = (g.paired.0, order_in_input o g.paired.0 g.paired.1, by g.cause)
    where
      by : HasOtherCause task budget bound g.pairing → IsGivenUpOtherwise input task.settings.now.matching budget bound g.paired.0
      by (inl wide) = inl (circuit task.first.now, circuit task.second.now, condition task.given, g.pairing, record { netlists = given; pairing = g.paired.2 }, wide)
      by (inr stops) = inr stops

  pub beyond_in_input : (budget : ℕ) (c : Candidate) → IsFull task budget c → InOrderOf input task.settings.now.matching (Computed c) (λ k. AreBeyond input task.settings.now.matching k budget)
  beyond_in_input budget c g = (
    g.paired.0,
    order_in_input (Computed c) g.paired.0 g.paired.1,
    (circuit task.first.now, circuit task.second.now, condition task.given, g.pairing, record { netlists = given; pairing = g.paired.2 }, g.exceeds),
  )

  pub earlier_in_input : (limit : ℕ) (bound : WaveBound) (t : Attempt) → AreEarlierGivenUp task limit bound t → AreGivenUp input task.settings.now.matching limit bound t
  earlier_in_input limit bound t p = record {
    smaller = λ budget is lt c. given_up_in_input budget bound (Computed c) (p.smaller budget is lt c);
    first = λ e. all_before (IsCandidateGivenUp task t.budget bound) (λ c. IsAttemptGivenUp input task.settings.now.matching t.budget bound (Computed c)) (λ c. given_up_in_input t.budget bound (Computed c)) t.order (p.first e);
  }

-- ---- why an attempt is given up

-- the bound of the waves of an attempt within the budget
abbrev pub attempt_bound : (budget : ℕ) → WaveBound → WaveBound
attempt_bound budget bound = record { requests = Some (requests_within budget bound); stops = bound.stops }

module _ {H : Type 0} (task : Task H) (budget : ℕ) (bound : WaveBound) (p : NamingModel) where
  -- the attempt was not begun, since the run had stopped
  pub was_stopped : MayStop bound → WasGivenUp task budget bound false p
  was_stopped stops = record { cause = inr (inr stops); nodes = λ e. absurd (cc); others = λ _. inr stops }

  -- the attempt has failed with the fault of this reason
  pub was_given_up : (reason : GiveUpReason) (full : Bool) (fault : CheckFault) → IsTrialFault task budget (attempt_bound budget bound) p fault → fault ≡ fault_for reason → (full ≡ true → reason ≡ reasons.MoreNodes) →
      (full ≡ false → reason ≢ reasons.MoreNodes) → WasGivenUp task budget bound full p
  was_given_up reasons.MoreNodes full fault h is nodes others =
      let more : NeedsMore task budget p = subst (IsTrialFault task budget (attempt_bound budget bound) p) is h in
      record { cause = inl more; nodes = λ _. more; others = λ e. absurd (others e refl) }
  was_given_up reasons.TooManyRequests full fault h is nodes others =
      let other : HasOtherCause task budget bound p = inl (subst (IsTrialFault task budget (attempt_bound budget bound) p) is h) in
      record {
        cause = inr other;
        nodes = λ e. absurd (let other : reasons.TooManyRequests ≡ reasons.MoreNodes = nodes e in cc);
        others = λ _. other;
      }
  was_given_up reasons.Stopped full fault h is nodes others =
      let other : HasOtherCause task budget bound p = inr (subst (IsTrialFault task budget (attempt_bound budget bound) p) is h) in
      record {
        cause = inr other;
        nodes = λ e. absurd (let other : reasons.Stopped ≡ reasons.MoreNodes = nodes e in cc);
        others = λ _. other;
      }

-- an attempt whose fault has a reason is given up for it
pub given_up_for : {H : Type 0} (task : Task H) (budget : ℕ) (bound : WaveBound) (p : NamingModel) (reason : GiveUpReason) (fault : CheckFault) →
    IsTrialFault task budget (attempt_bound budget bound) p fault → fault ≡ fault_for reason → IsGivenUpFor task budget bound p
given_up_for task budget bound p reasons.MoreNodes fault h is = inl (subst (IsTrialFault task budget (attempt_bound budget bound) p) is h)
given_up_for task budget bound p reasons.TooManyRequests fault h is = inr (inl (subst (IsTrialFault task budget (attempt_bound budget bound) p) is h))
given_up_for task budget bound p reasons.Stopped fault h is = inr (inr (subst (IsTrialFault task budget (attempt_bound budget bound) p) is h))

-- ---- rounds

module _ {H : Type 0} (task : Task H) where
  -- an order whose trial was given up
  pub passed_by : (budget : ℕ) (bound : WaveBound) (full : Bool) (trials : List Trial) (o : AttemptOrder) → AreGivenUpTrials task budget bound full trials → IsTried task trials o → IsOrderGivenUp task budget bound o
  passed_by budget bound full trials o g t = record {
    pairing = t.trial.pairing;
    paired = t.paired;
    cause = All-contains (λ (t : Trial). IsGivenUpFor task budget bound t.pairing) trials t.trial g.causes t.among;
  }

  pub full_by : (budget : ℕ) (bound : WaveBound) (full : Bool) (trials : List Trial) (c : Candidate) → AreGivenUpTrials task budget bound full trials → full ≡ true → IsTried task trials (Computed c) → IsFull task budget c
  full_by budget bound full trials c g e t = record {
    pairing = t.trial.pairing;
    paired = t.paired;
    exceeds = All-contains (λ (t : Trial). NeedsMore task budget t.pairing) trials t.trial (g.nodes e) t.among;
  }

  -- a candidate whose trial was given up for another cause than its nodes
  some_otherwise : (budget : ℕ) (bound : WaveBound) (p : NamingModel) (o : AttemptOrder) → IsOfCandidate o → IsPairedBy task o p → HasOtherCause task budget bound p → IsSomeGivenUpOtherwise task budget bound
  some_otherwise budget bound p (Computed c) of is cause = (c, record { pairing = p; paired = is; cause = cause })
  some_otherwise budget bound p Declared of is cause = absurd of

  pub otherwise_by : (budget : ℕ) (bound : WaveBound) (trials : List Trial) → All (IsTrial task) trials → AreOfCandidates trials → HasOtherTrial task budget bound trials → IsSomeGivenUpOtherwise task budget bound
  otherwise_by budget bound trials own of h =
      some_otherwise budget bound h.trial.pairing h.trial.order
      (All-contains (λ (t : Trial). IsOfCandidate t.order) trials h.trial of h.among)
      (All-contains (IsTrial task) trials h.trial own h.among)
      h.cause

  -- the candidates of a round whose trials were all given up
  pub all_passed : (budget : ℕ) (bound : WaveBound) (full : Bool) (trials : List Trial) → AreGivenUpTrials task budget bound full trials → AreOfCandidates trials → ((c : Candidate) → IsTried task trials (Computed c)) →
      AreCandidatesGivenUp task budget bound full trials
  all_passed budget bound full trials g of each = record {
    trials_of = record { own = g.own; of_candidates = of; each = each };
    given_up = g;
    each = λ c. passed_by budget bound full trials (Computed c) g (each c);
    nodes = λ e c. full_by budget bound full trials c g e (each c);
    others = λ e. otherwise_by budget bound trials g.own of (g.others e);
  }

  -- an order with the same names as a trial's was tried
  pub tried_before : (trials : List Trial) (o : AttemptOrder) (p : NamingModel) → All (IsTrial task) trials → IsPairedBy task o p → (t : Trial) × Contains trials t × (t.pairing.names ≡ p.names) → IsTried task trials o
  tried_before trials o p own is (t, among, same) =
      let of = All-contains (IsTrial task) trials t own among in
      record {
        trial = t;
        among = among;
        paired = (
          is.0,
          is.1,
          same_pairing task.settings.now.matching (circuit task.first.now) (circuit task.second.now) (condition task.given) of.0 is.0 t.pairing p of.2 is.2 same,
        );
      }

  -- one more trial, which was given up
  and_left : (all full : Bool) → all && full ≡ true → all ≡ true
  and_left true full e = refl
  and_left false full e = e

  and_right : (all full : Bool) → all && full ≡ true → full ≡ true
  and_right true full e = e
  and_right false full e = cc

  -- a trial that was given up for another cause: one of those before, or this one
  other_of : (budget : ℕ) (bound : WaveBound) (all full : Bool) (trials : List Trial) (t : Trial) → (all ≡ false → HasOtherTrial task budget bound trials) → (full ≡ false → HasOtherCause task budget bound t.pairing) →
      all && full ≡ false → HasOtherTrial task budget bound (trials ++ t ∷ [])
  other_of budget bound true full trials t before now e = record { trial = t; among = Contains-push trials t; cause = now e }
  other_of budget bound false full trials t before now e =
      let h = before refl in
      record { trial = h.trial; among = Contains-append_left trials (t ∷ []) h.trial h.among; cause = h.cause }

  pub one_more : (budget : ℕ) (bound : WaveBound) (all full : Bool) (trials : List Trial) (t : Trial) → IsTrial task t → WasGivenUp task budget bound full t.pairing →
      AreGivenUpTrials task budget bound all trials → AreGivenUpTrials task budget bound (all && full) (trials ++ t ∷ [])
  one_more budget bound all full trials t is w g = record {
    own = All-push (IsTrial task) trials t g.own is;
    causes = All-push (λ (t : Trial). IsGivenUpFor task budget bound t.pairing) trials t g.causes w.cause;
    nodes = λ e. All-push (λ (t : Trial). NeedsMore task budget t.pairing) trials t (g.nodes (and_left all full e)) (w.nodes (and_right all full e));
    others = other_of budget bound all full trials t g.others w.others;
  }

  -- the next place of a round
  pub causes_more : (budget : ℕ) (bound : WaveBound) (full : Bool) (trials : List Trial) (i : ℕ) (t : Trial) → i < length trials → t ≡ get_or trials i t → WasGivenUp task budget bound full t.pairing →
      All (λ (t : Trial). IsGivenUpFor task budget bound t.pairing) (take i trials) → All (λ (t : Trial). IsGivenUpFor task budget bound t.pairing) (take (i + 1) trials)
  causes_more budget bound full trials i t lt is w before =
      let P : Trial → Type 0 = λ (t : Trial). IsGivenUpFor task budget bound t.pairing in
      All-more P trials i t lt before (subst P is w.cause)

  pub nodes_more : (budget : ℕ) (bound : WaveBound) (all full : Bool) (trials : List Trial) (i : ℕ) (t : Trial) → i < length trials → t ≡ get_or trials i t → WasGivenUp task budget bound full t.pairing →
      (all ≡ true → All (λ (t : Trial). NeedsMore task budget t.pairing) (take i trials)) → all && full ≡ true → All (λ (t : Trial). NeedsMore task budget t.pairing) (take (i + 1) trials)
  nodes_more budget bound all full trials i t lt is w before e =
      let P : Trial → Type 0 = λ (t : Trial). NeedsMore task budget t.pairing in
      All-more P trials i t lt (before (and_left all full e)) (subst P is (w.nodes (and_right all full e)))

  pub others_more : (budget : ℕ) (bound : WaveBound) (all full : Bool) (trials : List Trial) (i : ℕ) (t : Trial) → i < length trials → t ≡ get_or trials i t → WasGivenUp task budget bound full t.pairing →
      (all ≡ false → HasOtherTrial task budget bound trials) → all && full ≡ false → HasOtherTrial task budget bound trials
  others_more budget bound true full trials i t lt is w before e = record { trial = t; among = subst (Contains trials) (sym is) (Contains-get_or trials i t lt); cause = w.others e }
  others_more budget bound false full trials i t lt is w before e = before refl

  -- the last place
  pub whole_round : (budget : ℕ) (bound : WaveBound) (full : Bool) (trials : List Trial) (n : ℕ) → length trials ≤ n → AreTrials task trials →
      All (λ (t : Trial). IsGivenUpFor task budget bound t.pairing) (take n trials) → (full ≡ true → All (λ (t : Trial). NeedsMore task budget t.pairing) (take n trials)) →
      (full ≡ false → HasOtherTrial task budget bound trials) → AreCandidatesGivenUp task budget bound full trials
  whole_round budget bound full trials n le h causes nodes others =
      all_passed budget bound full trials
      (record {
        own = h.own;
        causes = subst (All (λ (t : Trial). IsGivenUpFor task budget bound t.pairing)) (take_all n trials le) causes;
        nodes = λ e. subst (All (λ (t : Trial). NeedsMore task budget t.pairing)) (take_all n trials le) (nodes e);
        others = others;
      })
      h.of_candidates
      h.each

  -- an attempt within a later budget
  pub passed_at : (limit : ℕ) (bound : WaveBound) (k budget : ℕ) (t : Attempt) → budget ≤ 16384 * 32 ^ k → budget ≤ limit → 16384 < budget →
      ((j : ℕ) → j < k → (c : Candidate) → IsCandidateGivenUp task (16384 * 32 ^ j) bound c) → t.budget ≡ budget → AreEarlierGivenUp task limit bound t
  passed_at limit bound k budget t most within more tried e = record {
    smaller = each_smaller (λ n. (c : Candidate) → IsCandidateGivenUp task n bound c) limit k t.budget tried (omega (arith, e, most)) (omega (arith, e, within));
    first = λ same. absurd (omega (arith, same, e, more));
  }

  -- an attempt within the first budget
  pub passed_first : (limit : ℕ) (bound : WaveBound) (t : Attempt) → t.budget ≡ first_budget limit → AllBefore t.order (IsCandidateGivenUp task t.budget bound) → AreEarlierGivenUp task limit bound t
  passed_first limit bound t e before = record {
    smaller = each_smaller (λ n. (c : Candidate) → IsCandidateGivenUp task n bound c) limit 0 t.budget (λ j lt. absurd (omega (arith, lt))) (omega (arith, e)) (omega (arith, e));
    first = λ same. before;
  }

  pub and_true : (budget : ℕ) (bound : WaveBound) (all : Bool) (trials : List Trial) → AreGivenUpTrials task budget bound all trials → AreGivenUpTrials task budget bound (all && true) trials
  and_true budget bound true trials g = g
  and_true budget bound false trials g = g

  pub tried_last : (trials : List Trial) (t : Trial) → IsTrial task t → IsTried task (trials ++ t ∷ []) t.order
  tried_last trials t is = record { trial = t; among = Contains-push trials t; paired = is }

  pub tried_still : (trials : List Trial) (t : Trial) (k : AttemptOrder) → IsTried task trials k → IsTried task (trials ++ t ∷ []) k
  tried_still trials t k h = record { trial = h.trial; among = Contains-append_left trials (t ∷ []) h.trial h.among; paired = h.paired }

  -- one more trial in the order of a candidate
  pub of_candidates_more : (trials : List Trial) (t : Trial) → IsOfCandidate t.order → AreOfCandidates trials → AreOfCandidates (trials ++ t ∷ [])
  of_candidates_more trials t is of = All-push (λ (t : Trial). IsOfCandidate t.order) trials t of is

  -- trials in another order
  pub moved : (old new : List Trial) → IsPermutation old new → AreTrials task old → AreTrials task new
  moved old new p h = record {
    own = All-permutation (IsTrial task) old new p h.own;
    of_candidates = All-permutation (λ (t : Trial). IsOfCandidate t.order) old new p h.of_candidates;
    each = λ c. record { trial = (h.each c).trial; among = Contains-permutation old new (h.each c).trial p (h.each c).among; paired = (h.each c).paired };
  }

-- ---- faults

-- a fault of the pairing ends a search at once, and so does refused memory
pub order_ends : (fault : CheckFault) (f : OrderFault) → fault ≡ OrderRefused f → EndsAtOnce fault
order_ends fault f is = subst EndsAtOnce (sym is) tt

pub memory_ends : EndsAtOnce OutOfMemory
memory_ends = tt

-- ---- the comparison in the order of a trial

module _ {H : Type 0} (task : Task H) where
  module _ (budget : ℕ) (bound : WaveBound) (p : NamingModel) where
    -- its faults are those of a comparison
    pub of_comparison : (fault : CheckFault) → IsTrialFault task budget bound p fault → IsComparisonFault fault
    of_comparison (Wave fault) h = tt
    of_comparison OutOfMemory h = tt
    of_comparison fault h = absurd h

    -- why it has no verdicts
    pub trial_fault : {V : Type 0} (r : Result V CheckFault) → IfErr r IsComparisonFault → (r ≡ Err (Wave Full) → NeedsMore task budget p) →
        (r ≡ Err (Wave TooManyRequests) → IsSomeAnd bound.requests (λ n. IsTooWide n (circuit task.first.now) (circuit task.second.now) (condition task.given) p)) →
        (most_of bound.requests < 2 ^ 64 - 1 → r ≢ Err (Wave NoWorker)) → (r ≡ Err (Wave Stopped) → MayStop bound) → IfErr r (IsTrialFault task budget bound p)
    trial_fault (Ok v) late full wide thread stopped = tt
    trial_fault (Err (Wave Full)) late full wide thread stopped = full refl
    trial_fault (Err (Wave TooManyRequests)) late full wide thread stopped = wide refl
    trial_fault (Err (Wave NoWorker)) late full wide thread stopped = elim (cases_lt (most_of bound.requests) (2 ^ 64 - 1)) [ inl lt ↦ absurd (thread lt refl) | inr le ↦ le ]
    trial_fault (Err (Wave Stopped)) late full wide thread stopped = stopped refl
    trial_fault (Err (Wave NoWaveMemory)) late full wide thread stopped = tt
    trial_fault (Err OutOfMemory) late full wide thread stopped = tt
    trial_fault (Err fault) late full wide thread stopped = absurd late

  -- such a fault has its cause in the trial's order
  pub trial_cause : (budget : ℕ) (bound : WaveBound) (t : Trial) (fault : CheckFault) → IsTrial task t → IsTrialFault task budget bound t.pairing fault → IsCandidateFault task fault
  trial_cause budget bound t fault is h = λ input given.
      let how = task.settings.now.matching in
      let choice = task.settings.now.order in
      late_fault input ⊥ ⊥ ⊥ choice how orders.Declared fault (accepted_by task input given choice t.order t.pairing is) (of_comparison budget bound t.pairing fault h)

  -- the verdicts in the order of a pairing are those of a comparison in it
  pub pairing_decides : {V : Type 0} (items : V → List Verdict) (declared p : NamingModel) (budget : ℕ) (r : Result V CheckFault) →
      OnOk r (FitsWithin budget (circuit task.first.now) (circuit task.second.now) (condition task.given) p) →
      IfOk r (λ v. AreVerdicts (details_in task.settings.now) (circuit task.first.now) (circuit task.second.now) (condition task.given) declared
      (record { variables = declared.names; verdicts = items v })) →
      IfOk r (λ v. AreVerdictsIn task declared budget p (items v))
  pairing_decides items declared p budget (Ok v) within verdicts = record { within = within; verdicts_of = verdicts }
  pairing_decides items declared p budget (Err fault) within verdicts = tt

  -- the verdicts of a trial decide
  pub trial_decides : {V : Type 0} (items : V → List Verdict) (declared : Option (Bor NamingModel)) (budget : ℕ) (t : Trial) (r : Result V CheckFault) → IsTrial task t →
      OnOk r (FitsWithin budget (circuit task.first.now) (circuit task.second.now) (condition task.given) t.pairing) →
      IfOk r (λ v. AreVerdicts (details_in task.settings.now) (circuit task.first.now) (circuit task.second.now) (condition task.given) (reported_pairing declared t.pairing)
      (record { variables = (reported_pairing declared t.pairing).names; verdicts = items v })) →
      IfOk r (λ v. IsDecided task declared budget t (items v))
  trial_decides items declared budget t (Ok v) is fits verdicts = record { paired = is; within = fits; verdicts_of = verdicts }
  trial_decides items declared budget t (Err fault) is fits verdicts = tt
