-- What a comparison finds by its settings, and why it finds nothing.
use Rattle.std.proofs.Common.{◌≡◌, ◌≢◌, ◌⊎◌, ◌∙◌, sym, subst, refl, inl, inr, ◌<◌, length, Option, None, Result, Ok, Err, IfErr}
use Rattle.std.specs.Prelude.{IfOk, List, option_map}
use Rattle.expand_work.specs.Bounds.{WaveBound}
use Rattle.net_bench.specs.Circuit.{Circuit, Net, circuit}
use Rattle.net_names.specs.declared.order.Match.{Match}
use Rattle.net_names.specs.declared.order.Order.{Order}
use Rattle.net_names.specs.declared.order.Order.TheVariants as orders
use Rattle.net_names.specs.declared.order.OrderFault.{OrderFault}
use Rattle.net_names.specs.declared.order.OrderFault.TheVariants.{TooManyInputs}
use Rattle.net_order.specs.Order.{NamingModel, condition, max_variables}
use Rattle.net_order.proofs.InputLevels.{names_count}
use Rattle.report_text.specs.Lines.{Found}
use Rattle.report_text.specs.declared.cause.PairName.{PairName}
use Rattle.compare_built.specs.declared.strategy.Attempt.{Attempt}
use Rattle.compare_built.specs.declared.strategy.AttemptOrder.TheVariants as tried_orders
use Rattle.compare_built.specs.declared.strategy.Strategy.{Strategy}
use Rattle.compare_built.specs.declared.strategy.Strategy.TheVariants.{One, Computed, Best, Auto, Cones, ConesByList, Merge}
use Rattle.compare_built.specs.declared.fault.CheckFault.{CheckFault}
use Rattle.compare_built.specs.declared.fault.CheckFault.TheVariants.{First, Second, Given, GivenOutputs, Explain, Only, Order as OrderRefused, Wave, GivenUp, Write, OutOfMemory}
use Rattle.compare_built.specs.declared.settings.Settings.{Settings}
use Rattle.compare_built.specs.declared.task.Task.{Task}
use Rattle.compare_built.specs.Attempts.{IsAllowed, MayGoByCones, first_whole_limit}
use Rattle.compare_built.specs.Check.{AreAccepted, AreGiven, Gives, IsCheckFault, IsCondition, IsFaultOfReading}
use Rattle.compare_built.specs.Devices.{DeviceTexts}
use Rattle.cone_check.specs.ConeRounds.{EndsAuto, EndsPairs, IsFoundByCones}
use Rattle.explain_report.specs.Deciding.{HasLastAttempt, IsFoundBy, IsUnknown, MayTakeCones}
use Rattle.explain_report.specs.Deciding.IsFoundBy.{by_cones}
use Rattle.explain_report.specs.Explaining.{AreTargetsIn, AreTargetsKnown, IsAfterNames, IsReportedOrder}
use Rattle.explain_report.proofs.Trying.{none_failed}
use Rattle.order_search.specs.Trials.{EndsAtOnce, AreAllGivenUp, IsNamingIn}
use Rattle.order_search.proofs.Reporting.{any_for, late_fault, late_whole}
use Rattle.order_search.proofs.Rounds.{accepted, given_up_in_input, order_ends}
use Rattle.check_report.specs.Decisions.{IsNoDecision}
use Rattle.check_report.specs.Netlists.{IsTaskOf}
use Rattle.check_report.proofs.Refusing.{by_auto}

-- ---- what is found

module _ {H : Type 0} (task : Task H) (input : DeviceTexts) (given : AreGiven input (circuit task.first.now) (circuit task.second.now) (condition task.given)) where
  -- the verdicts that cones give
  pub found_by_cones : (bound : WaveBound) (p : NamingModel) (found : Found) → IsNamingIn task orders.Declared p → MayTakeCones input task.settings.now bound task.settings.now.order →
      IsFoundByCones task bound p found → HasLastAttempt input task.settings.now bound task.settings.now.order found → IsFoundBy input task.settings.now bound found None
  found_by_cones bound p found is cause t last = by_cones cause (record {
    a = circuit task.first.now;
    b = circuit task.second.now;
    c = condition task.given;
    p = p;
    named = record { netlists = given; naming = is };
    pairs = t.pairs;
    unmatched_lines = t.unmatched_lines;
    picked = t.picked;
    verdicts = t.verdicts;
  }) last

  -- pairs may be judged by their cones after attempts at the whole netlists were given up
  pub auto_cause : (bound : WaveBound) → task.settings.now.order ≡ Auto → AreAllGivenUp task (first_whole_limit task.settings.now.limit) bound → MayTakeCones input task.settings.now bound task.settings.now.order
  auto_cause bound auto earlier_given_up = subst (MayTakeCones input task.settings.now bound) (sym auto) (inl (λ budget is c. given_up_in_input task input given budget bound (tried_orders.Computed c) (earlier_given_up budget is c)))

  -- and if the whole netlists have too many variables
  pub many_cause : (bound : WaveBound) (p : NamingModel) → task.settings.now.order ≡ Auto → IsNamingIn task orders.Declared p → max_variables < length p.names → MayTakeCones input task.settings.now bound task.settings.now.order
  many_cause bound p auto is many =
      let count = names_count task.settings.now.matching (circuit task.first.now) (circuit task.second.now) (condition task.given) orders.Declared p is in
      subst (MayTakeCones input task.settings.now bound) (sym auto) (inr (inl (circuit task.first.now, circuit task.second.now, condition task.given, given, subst (λ n. max_variables < n) count many)))

  of_cones : (p : NamingModel) → IsNamingIn task orders.Declared p → MayGoByCones task.settings.now.order → AreAccepted input task.settings.now.order task.settings.now.matching orders.Declared
  of_cones p is may =
      accepted task input given task.settings.now.order orders.Declared p is (any_for task.settings.now.order task.settings.now.matching (circuit task.first.now) (circuit task.second.now) (condition task.given) may)

  -- a fault of judging by cones has its cause
  pub cones_fault : (p : NamingModel) (fault : CheckFault) → IsNamingIn task orders.Declared p → MayGoByCones task.settings.now.order → (fault ≡ Only) ⊎ EndsPairs fault →
      IsCheckFault input ⊥ ⊥ ⊥ task.settings.now.order task.settings.now.matching orders.Declared fault
  cones_fault p fault is may (inl only) = subst (IsCheckFault input ⊥ ⊥ ⊥ task.settings.now.order task.settings.now.matching orders.Declared) (sym only) (of_cones p is may)
  cones_fault p fault is may (inr ends) = late_fault input ⊥ ⊥ ⊥ task.settings.now.order task.settings.now.matching orders.Declared fault (of_cones p is may) ends.0

-- ---- declared order

-- if pairs may be judged by their cones, the report may be, and is, in declared order
pub declared_allowed : (choice : Strategy) → MayGoByCones choice → IsAllowed choice orders.Declared
declared_allowed (One o) may = absurd may
declared_allowed (Computed c) may = absurd may
declared_allowed Best may = absurd may
declared_allowed Auto may = refl
declared_allowed Cones may = refl
declared_allowed Merge may = refl
declared_allowed (ConesByList names) may = refl

declared_reported : (choice : Strategy) (tried : Option Attempt) (how : Match) (a b : Circuit) (c : Option Circuit) → MayGoByCones choice → IsReportedOrder choice tried how a b c orders.Declared
declared_reported (One o) tried how a b c may = absurd may
declared_reported (Computed k) tried how a b c may = absurd may
declared_reported Best tried how a b c may = absurd may
declared_reported Auto tried how a b c may = refl
declared_reported Cones tried how a b c may = refl
declared_reported Merge tried how a b c may = refl
declared_reported (ConesByList names) tried how a b c may = refl

pub declared_naming : {H : Type 0} (task : Task H) (tried : Option Attempt) (p : NamingModel) → MayGoByCones task.settings.now.order → IsNamingIn task orders.Declared p →
    (order : Order) × IsReportedOrder task.settings.now.order tried task.settings.now.matching (circuit task.first.now) (circuit task.second.now) (condition task.given) order × IsNamingIn task order p
declared_naming task tried p may is =
    (orders.Declared, declared_reported task.settings.now.order tried task.settings.now.matching (circuit task.first.now) (circuit task.second.now) (condition task.given) may, is)

-- ---- faults

-- judging by cones does not fail for too many variables
pub cones_whole : (fault : CheckFault) → (fault ≡ Only) ⊎ EndsPairs fault → fault ≢ OrderRefused TooManyInputs
cones_whole fault (inl only) e = let never : Only ≡ OrderRefused TooManyInputs = sym only ∙ e in cc
cones_whole fault (inr ends) e = late_whole fault ends.0 e

pub auto_unwritten : (fault : CheckFault) → EndsAuto fault → fault ≢ Write
auto_unwritten fault (inl only) e = let never : Only ≡ Write = sym only ∙ e in cc
auto_unwritten fault (inr ends) e = subst EndsAtOnce e ends

-- with a fault of a comparison by cones, or an earlier one, there are no verdicts
module _ (input : DeviceTexts) (s : Settings) (bound : WaveBound) where
  pub none_by_cones : (fault : CheckFault) → MayGoByCones s.order → IsCheckFault input ⊥ ⊥ ⊥ s.order s.matching orders.Declared fault → EndsAuto fault →
      (fault ≡ Only → IsUnknown input s.picked) → fault ≢ OrderRefused TooManyInputs → IsNoDecision input ⊥ ⊥ ⊥ s bound fault
  none_by_cones fault may cause ends unknown few = record {
    cause = (orders.Declared, declared_allowed s.order may, cause);
    answer = by_auto input s bound fault ends unknown few;
    unwritten = auto_unwritten fault ends;
  }

  -- the same if a naming is refused
  pub unnamed : (fault : CheckFault) (f : OrderFault) → fault ≡ OrderRefused f → MayGoByCones s.order → IsCheckFault input ⊥ ⊥ ⊥ s.order s.matching orders.Declared fault →
      fault ≢ OrderRefused TooManyInputs → IsNoDecision input ⊥ ⊥ ⊥ s bound fault
  unnamed fault f is may cause few = none_by_cones fault may cause (inr (order_ends fault f is)) (λ e. let never : OrderRefused f ≡ Only = sym is ∙ e in cc) few

  -- a fault that needs no failed device is a fault whatever devices have failed
  pub none_failed_decision : {T : Type 0} (first second third : Type 0) (r : Result T CheckFault) → IfErr r (IsNoDecision input ⊥ ⊥ ⊥ s bound) → IfErr r (IsNoDecision input first second third s bound)
  none_failed_decision first second third (Ok v) h = tt
  none_failed_decision first second third (Err fault) h = record {
    cause = (h.cause.0, h.cause.1, none_failed input first second third s.order s.matching h.cause.0 fault h.cause.2);
    answer = h.answer;
    unwritten = h.unwritten;
  }

-- ---- the names of what is to be explained

-- a fault of reading is found before the names are looked up
pub before_names : (fault : CheckFault) → IsFaultOfReading fault → IsAfterNames fault → ⊥
before_names (First fault) early after = after
before_names (Second fault) early after = after
before_names (Given fault) early after = after
before_names GivenOutputs early after = after
before_names Explain early after = after
before_names (OrderRefused fault) early after = early
before_names Only early after = early
before_names (Wave fault) early after = early
before_names GivenUp early after = early
before_names Write early after = early
before_names OutOfMemory early after = early

module _ (input : DeviceTexts) (targets : List PairName) where
  -- the names are known if there is a result
  pub known_if_ok : {T : Type 0} (r : Result T CheckFault) → (r ≢ Err Explain → AreTargetsKnown input targets) → IfOk r (λ _. AreTargetsKnown input targets)
  known_if_ok (Ok v) h = h (λ e. let never : Ok v ≡ Err Explain = e in cc)
  known_if_ok (Err fault) h = tt

  -- and if a fault is found after they were looked up
  pub known_if_err : {T : Type 0} (r : Result T CheckFault) → (r ≢ Err Explain → AreTargetsKnown input targets) → IfErr r (λ fault. IsAfterNames fault → AreTargetsKnown input targets)
  known_if_err (Ok v) h = tt
  known_if_err (Err fault) h = λ after. h (λ e. let is : fault ≡ Explain = cc in subst IsAfterNames is after)

-- what the first netlist of a task has, the netlist that was read has
pub targets_of : {H : Type 0} (input : DeviceTexts) (first second : Net) (given : Option Net) (s : Settings) (task : Task H) → IsTaskOf first second given s task →
    AreGiven input (circuit first) (circuit second) (option_map circuit given) → AreTargetsIn (circuit task.first.now) task.settings.now.explain.items → AreTargetsKnown input s.explain.items
targets_of input first second given s task is read known = (
  circuit first,
  read.first,
  subst (λ (t : Settings). AreTargetsIn (circuit first) t.explain.items) is.settings (subst (λ (n : Net). AreTargetsIn (circuit n) task.settings.now.explain.items) is.first_net known),
)

-- ---- the texts of a task

pub given_of : {H : Type 0} (input : DeviceTexts) (first second : Net) (given : Option Net) (s : Settings) (task : Task H) → IsTaskOf first second given s task →
    AreGiven input (circuit first) (circuit second) (option_map circuit given) → AreGiven input (circuit task.first.now) (circuit task.second.now) (condition task.given)
given_of input first second given s task is read = record {
  first = subst (λ (n : Net). Gives input.first (circuit n)) (sym is.first_net) read.first;
  second = subst (λ (n : Net). Gives input.second (circuit n)) (sym is.second_net) read.second;
  condition = subst (IsCondition input.given) (sym is.given_net) read.condition;
}
