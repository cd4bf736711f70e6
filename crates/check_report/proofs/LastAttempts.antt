-- How auto ends: with an attempt at the whole netlists, or with the pairs, after the last attempts if a pair is left.
use Rattle.std.proofs.Common.{◌≡◌, ◌⊎◌, ◌<◌, ◌∙◌, ap, refl, inl, inr, sym, subst, ℕ, Bool, true, false, Option, Some, None, Result, Ok, Err, IfErr, length}
use Rattle.std.specs.Borrow.{Bor}
use Rattle.std.specs.List.{list_any}
use Rattle.std.specs.declared.alloc.Global.{Global}
use Rattle.std.specs.declared.vec.Vec.{Vec}
use Rattle.expand_work.specs.Bounds.{WaveBound}
use Rattle.net_bench.specs.Circuit.{circuit}
use Rattle.net_names.specs.declared.order.Order.TheVariants as orders
use Rattle.net_order.specs.Order.{NamingModel, condition, max_variables}
use Rattle.net_order.proofs.InputLevels.{names_count}
use Rattle.compare_built.specs.Findings.{VerdictsModel, found_of}
use Rattle.report_text.specs.Lines.{Found}
use Rattle.compare_built.specs.declared.fault.CheckFault.{CheckFault}
use Rattle.compare_built.specs.declared.settings.Settings.{Settings}
use Rattle.compare_built.specs.declared.strategy.Attempt.{Attempt}
use Rattle.compare_built.specs.declared.strategy.AttemptOrder.TheVariants.{Declared}
use Rattle.compare_built.specs.declared.strategy.AttemptOrder.TheVariants as tried_orders
use Rattle.compare_built.specs.declared.strategy.Strategy.{Strategy}
use Rattle.compare_built.specs.declared.strategy.Strategy.TheVariants.{One, Computed, Best, Auto, Cones, ConesByList, Merge}
use Rattle.compare_built.specs.declared.task.Task.{Task}
use Rattle.compare_built.specs.Attempts.{AreGivenUp, IsChosen, MayGoByCones, first_whole_limit, last_budget, whole_limit}
use Rattle.compare_built.specs.Check.{AreGiven, HaveTooManyVariables}
use Rattle.compare_built.specs.Details.{details_in}
use Rattle.compare_built.specs.Devices.{DeviceTexts}
use Rattle.compare_built.specs.Picking.{TakesPicks}
use Rattle.compare_built.specs.Report.{AreVerdicts}
use Rattle.explain_report.specs.Deciding.{AreLastGivenUp, HasLastAttempt, MayTakeCones, is_open}
use Rattle.explain_report.specs.Deciding.IsFoundBy.{in_order}
use Rattle.order_search.specs.declared.attempts.Decided.{Decided as DecidedValue}
use Rattle.order_search.specs.declared.trials.Trial.{Trial}
use Rattle.order_search.specs.Trials.{AreAllGivenUp, AreTrials, EndsAtOnce, IsFoundWithin, IsNamingIn, IsOrderGivenUp, IsPairingIn, reported_pairing}
use Rattle.order_search.proofs.Rounds.{earlier_in_input, given_up_in_input, judged, order_in_input, within}
use Rattle.cone_check.specs.ConeRounds.{IsFoundByCones}
use Rattle.check_report.specs.Decisions.{IsDecision, IsNoDecision}
use Rattle.check_report.specs.Pairs.{EndsComparison}
use Rattle.check_report.specs.Wholes.{AreGivenUpToLimit, AreTriedBefore, IsDecidedWhole, IsRestOfWhole, IsSearched, IsTriedAgain, attempt_of}
use Rattle.check_report.specs.declared.whole.WholeEnd.{WholeEnd}
use Rattle.check_report.specs.declared.whole.WholeEnd.TheVariants.{Decided, GivenUp as WholeGivenUp}
use Rattle.check_report.specs.declared.whole.TriedBefore.{TriedBefore}
use Rattle.check_report.specs.declared.whole.TriedBefore.TheVariants.{Nothing, First, Second}
use Rattle.check_report.proofs.Findings.{auto_cause, cones_fault, cones_whole, found_by_cones, none_by_cones}
use Rattle.check_report.proofs.Wholes.{all_first, decided_first}

module _ {H : Type 0} (task : Task H) (input : DeviceTexts) (given : AreGiven input (circuit task.first.now) (circuit task.second.now) (condition task.given)) (bound : WaveBound) where
  -- each of these ways to end is enough if another attempt could improve the verdict of a pair
  pub last_of_auto : (found : Found) → task.settings.now.order ≡ Auto →
      (list_any (is_open task.settings.now.difference) found.verdicts ≡ true → AreLastGivenUp input task.settings.now bound ⊎ HaveTooManyVariables input task.settings.now.matching) →
      HasLastAttempt input task.settings.now bound task.settings.now.order found
  last_of_auto found auto h = subst (λ choice. HasLastAttempt input task.settings.now bound choice found) (sym auto) h

  pub none_open : (found : Found) → task.settings.now.order ≡ Auto → list_any (is_open task.settings.now.difference) found.verdicts ≡ false → HasLastAttempt input task.settings.now bound task.settings.now.order found
  none_open found auto none = last_of_auto found auto (λ some. let never : false ≡ true = sym none ∙ some in cc)

  pub many_before : (found : Found) (p : NamingModel) → task.settings.now.order ≡ Auto → IsNamingIn task orders.Declared p → max_variables < length p.names →
      HasLastAttempt input task.settings.now bound task.settings.now.order found
  many_before found p auto is many =
      let count = names_count task.settings.now.matching (circuit task.first.now) (circuit task.second.now) (condition task.given) orders.Declared p is in
      last_of_auto found auto (λ _. inr (circuit task.first.now, circuit task.second.now, condition task.given, given, subst (λ n. max_variables < n) count many))

  each_given_up : AreGivenUpToLimit task bound → IsOrderGivenUp task task.settings.now.limit bound Declared → AreLastGivenUp input task.settings.now bound
  each_given_up each last (tried_orders.Computed c) = given_up_in_input task input given task.settings.now.limit bound (tried_orders.Computed c) (each c)
  each_given_up each last Declared = given_up_in_input task input given task.settings.now.limit bound Declared last

  pub given_up_last : (found : Found) → task.settings.now.order ≡ Auto → AreGivenUpToLimit task bound × IsOrderGivenUp task task.settings.now.limit bound Declared →
      HasLastAttempt input task.settings.now bound task.settings.now.order found
  given_up_last found auto last = last_of_auto found auto (λ _. inl (each_given_up last.0 last.1))

  -- the pairs may be judged one by one
  pub may_take : (before : TriedBefore) → task.settings.now.order ≡ Auto → AreTriedBefore task bound before → MayTakeCones input task.settings.now bound task.settings.now.order
  may_take Nothing auto is = subst (MayTakeCones input task.settings.now bound) (sym auto) (inr (inr is))
  may_take (First trials) auto is = auto_cause task input given bound auto is.1
  may_take (Second trials) auto is = auto_cause task input given bound auto (all_first task bound is.1)

  -- the verdicts of the pairs
  pub decided_by_pairs : (p : NamingModel) (found : Found) → IsNamingIn task orders.Declared p → MayTakeCones input task.settings.now bound task.settings.now.order → IsFoundByCones task bound p found →
      HasLastAttempt input task.settings.now bound task.settings.now.order found → IsDecision input task.settings.now bound found None
  decided_by_pairs p found is may t last = record { found_by = found_by_cones task input given bound p found is may t last; earlier_given_up = tt }

  -- the verdicts of an attempt at the whole netlists
  pub decided_by_whole : (declared : Option (Bor NamingModel)) (p : NamingModel) (d : DecidedValue) (v : VerdictsModel) (tried : Option Attempt) → task.settings.now.order ≡ Auto → IsPairingIn task orders.Declared p →
      reported_pairing declared d.trial.pairing ≡ p → IsDecidedWhole task declared bound d → v ≡ record { naming = p; verdicts = d.verdicts.items } → tried ≡ Some (attempt_of d) → IsDecision input task.settings.now bound (found_of v) tried
  decided_by_whole declared p d v tried auto is reported h said told = subst (IsDecision input task.settings.now bound (found_of v)) (sym told) (record {
    found_by = in_order orders.Declared (judged task input given orders.Declared p _ _ is (ap found_of said) (subst (λ (q : NamingModel). AreVerdicts (details_in task.settings.now) (circuit task.first.now) (circuit task.second.now)
        (condition task.given) q (record { variables = q.names; verdicts = d.verdicts.items })) reported h.decided.verdicts_of))
        (subst (λ choice. IsChosen input task.settings.now.matching choice task.settings.now.limit (Some (attempt_of d)) orders.Declared) (sym auto) (
          refl,
          h.budget,
          (
            h.decided.paired.0,
            order_in_input task input given d.trial.order h.decided.paired.0 h.decided.paired.1,
            within task input given h.decided.paired.0 d.trial.pairing d.budget h.decided.paired.2 h.decided.within,
          ),
        ));
    earlier_given_up = subst (λ choice. AreGivenUp input task.settings.now.matching (last_budget choice task.settings.now.limit) bound (attempt_of d)) (sym auto)
        (earlier_in_input task input given (whole_limit task.settings.now.limit) bound (attempt_of d) h.earlier_given_up);
  })

  -- the same from the result of the attempts within the first limit, and within the second
  pub decided_by_first : (declared : Option (Bor NamingModel)) (p : NamingModel) (d : DecidedValue) (v : VerdictsModel) (tried : Option Attempt) {end : WholeEnd} → task.settings.now.order ≡ Auto → IsPairingIn task orders.Declared p →
      reported_pairing declared d.trial.pairing ≡ p → end ≡ Decided d → IsSearched task declared (first_whole_limit task.settings.now.limit) bound end → v ≡ record { naming = p; verdicts = d.verdicts.items } → tried ≡ Some (attempt_of d) →
      IsDecision input task.settings.now bound (found_of v) tried
  decided_by_first declared p d v tried auto is reported ended h said told =
      let found : IsFoundWithin task declared (first_whole_limit task.settings.now.limit) bound d = subst (IsSearched task declared (first_whole_limit task.settings.now.limit) bound) ended h in
      decided_by_whole declared p d v tried auto is reported (decided_first task declared bound d found) said told

  pub decided_by_second : (declared : Option (Bor NamingModel)) (p : NamingModel) (d : DecidedValue) (v : VerdictsModel) (tried : Option Attempt) {end : WholeEnd} → task.settings.now.order ≡ Auto → IsPairingIn task orders.Declared p →
      reported_pairing declared d.trial.pairing ≡ p → end ≡ Decided d → IsTriedAgain task declared bound end → v ≡ record { naming = p; verdicts = d.verdicts.items } → tried ≡ Some (attempt_of d) →
      IsDecision input task.settings.now bound (found_of v) tried
  decided_by_second declared p d v tried auto is reported ended h said told =
      let found : IsDecidedWhole task declared bound d = subst (IsTriedAgain task declared bound) ended h in
      decided_by_whole declared p d v tried auto is reported found said told

  pub decided_by_rest : (declared : Option (Bor NamingModel)) (p : NamingModel) (d : DecidedValue) (v : VerdictsModel) (tried : Option Attempt) {end : Option DecidedValue} → task.settings.now.order ≡ Auto → IsPairingIn task orders.Declared p →
      reported_pairing declared d.trial.pairing ≡ p → end ≡ Some d → IsRestOfWhole task declared bound end → v ≡ record { naming = p; verdicts = d.verdicts.items } → tried ≡ Some (attempt_of d) →
      IsDecision input task.settings.now bound (found_of v) tried
  decided_by_rest declared p d v tried auto is reported ended h said told =
      let found : IsDecidedWhole task declared bound d = subst (IsRestOfWhole task declared bound) ended h in
      decided_by_whole declared p d v tried auto is reported found said told

  -- a fault of judging pairs is a cause for no verdicts
  pub none_of_pairs : (p : NamingModel) (fault : CheckFault) → MayGoByCones task.settings.now.order → IsNamingIn task orders.Declared p → EndsComparison task fault → IsNoDecision input ⊥ ⊥ ⊥ task.settings.now bound fault
  none_of_pairs p fault may is (inl (only, unknown)) =
      none_by_cones input task.settings.now bound fault may (cones_fault task input given p fault is may (inl only)) (inl only) (λ _. (circuit task.first.now, given.first, unknown)) (cones_whole fault (inl only))
  none_of_pairs p fault may is (inr ends) =
      none_by_cones input task.settings.now bound fault may (cones_fault task input given p fault is may (inr ends)) (inr ends.1) (λ only. absurd (subst EndsAtOnce only ends.1)) (cones_whole fault (inr ends))

  -- so with one of these faults there are no verdicts
  pub none_of_ends : {T : Type 0} (p : NamingModel) (r : Result T CheckFault) → MayGoByCones task.settings.now.order → IsNamingIn task orders.Declared p → IfErr r (EndsComparison task) → IfErr r (IsNoDecision input ⊥ ⊥ ⊥ task.settings.now bound)
  none_of_ends p (Ok v) may is ends = tt
  none_of_ends p (Err fault) may is ends = none_of_pairs p fault may is ends

-- attempts that were given up
module _ {H : Type 0} (task : Task H) (bound : WaveBound) where
  pub searched_first : (declared : Option (Bor NamingModel)) {trials : Vec Trial Global} {end : WholeEnd} → end ≡ WholeGivenUp trials → IsSearched task declared (first_whole_limit task.settings.now.limit) bound end →
      AreTrials task trials.items × AreAllGivenUp task (first_whole_limit task.settings.now.limit) bound
  searched_first declared {trials} ended h = subst (IsSearched task declared (first_whole_limit task.settings.now.limit) bound) ended h

  pub given_up_by_rest : (declared : Option (Bor NamingModel)) {end : Option DecidedValue} → end ≡ None → IsRestOfWhole task declared bound end → AreGivenUpToLimit task bound × IsOrderGivenUp task task.settings.now.limit bound Declared
  given_up_by_rest declared ended h = subst (IsRestOfWhole task declared bound) ended h

-- by a choice by which pairs may be picked, each pair may be judged by its cones
pub takes_cones : (input : DeviceTexts) (s : Settings) (bound : WaveBound) (choice : Strategy) → TakesPicks choice → MayTakeCones input s bound choice
takes_cones input s bound (One o) picks = absurd (let never : false ≡ true = picks in cc)
takes_cones input s bound (Computed c) picks = absurd (let never : false ≡ true = picks in cc)
takes_cones input s bound Best picks = absurd (let never : false ≡ true = picks in cc)
takes_cones input s bound Auto picks = absurd (let never : false ≡ true = picks in cc)
takes_cones input s bound Cones picks = tt
takes_cones input s bound (ConesByList names) picks = tt
takes_cones input s bound Merge picks = absurd (let never : false ≡ true = picks in cc)

pub goes_by_cones : (choice : Strategy) → TakesPicks choice → MayGoByCones choice
goes_by_cones (One o) picks = absurd (let never : false ≡ true = picks in cc)
goes_by_cones (Computed c) picks = absurd (let never : false ≡ true = picks in cc)
goes_by_cones Best picks = absurd (let never : false ≡ true = picks in cc)
goes_by_cones Auto picks = absurd (let never : false ≡ true = picks in cc)
goes_by_cones Cones picks = tt
goes_by_cones (ConesByList names) picks = tt
goes_by_cones Merge picks = absurd (let never : false ≡ true = picks in cc)

-- if cones or merging are asked for, there are no last attempts
last_of_choice : (input : DeviceTexts) (s : Settings) (bound : WaveBound) (found : Found) (choice : Strategy) → TakesPicks choice → HasLastAttempt input s bound choice found
last_of_choice input s bound found (One o) picks = absurd (let never : false ≡ true = picks in cc)
last_of_choice input s bound found (Computed c) picks = absurd (let never : false ≡ true = picks in cc)
last_of_choice input s bound found Best picks = absurd (let never : false ≡ true = picks in cc)
last_of_choice input s bound found Auto picks = absurd (let never : false ≡ true = picks in cc)
last_of_choice input s bound found Cones picks = tt
last_of_choice input s bound found (ConesByList names) picks = tt
last_of_choice input s bound found Merge picks = absurd (let never : false ≡ true = picks in cc)

pub last_of_cones : (input : DeviceTexts) (s : Settings) (bound : WaveBound) (found : Found) → TakesPicks s.order → HasLastAttempt input s bound s.order found
last_of_cones input s bound found picks = last_of_choice input s bound found s.order picks

pub last_of_merge : (input : DeviceTexts) (s : Settings) (bound : WaveBound) (found : Found) → s.order ≡ Merge → HasLastAttempt input s bound s.order found
last_of_merge input s bound found merge = subst (λ choice. HasLastAttempt input s bound choice found) (sym merge) tt
