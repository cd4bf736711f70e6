-- The task of comparing a pair's cones, and what its verdict implies for the pair.
use Rattle.std.proofs.Common.{◌≡◌, ◌∙◌, ap, refl, ℕ, ◌∷◌, [], List, Option, Some, None, length, map, false, Bool, subst}
use Rattle.std.specs.Prelude.{IfSome}
use Rattle.expand_work.specs.Bounds.{WaveBound}
use Rattle.net_bench.specs.Circuit.{IsNet, circuit}
use Rattle.net_cone.specs.Cones.{variable_name}
use Rattle.net_names.specs.declared.order.Match.TheVariants.{Name}
use Rattle.net_names.specs.declared.order.Order.{Order}
use Rattle.net_names.specs.declared.order.Order.TheVariants.{Declared}
use Rattle.net_order.specs.Order.{NamingModel, condition}
use Rattle.report_text.specs.declared.verdict.Verdict.{Verdict}
use Rattle.report_text.specs.Lines.{Found}
use Rattle.compare_built.specs.declared.verdict_order.Details.{Details}
use Rattle.compare_built.specs.Details.{details_in, wants_support, unsized}
use Rattle.compare_built.specs.declared.strategy.Candidate.{Candidate}
use Rattle.cone_check.specs.declared.pair_cones.Cones.{Cones}
use Rattle.cone_check.specs.declared.pair_cones.ConeContext.{ConeContext}
use Rattle.compare_built.specs.declared.subject.Subject.{Subject}
use Rattle.compare_built.specs.declared.task.Task.{Task}
use Rattle.cone_check.specs.ConeRounds.{AreConesOf, AreConesWithin, FitIn, IsConeTask, IsJudgedIn, IsListedLeft, IsUndecidedIn, IsConeContext, IsWidened, circuit_in, order_in}
use Rattle.compare_built.specs.Report.{AreVerdicts}
use Rattle.compare_built.specs.Scatter.{ArePlaces, IsConePairing}
use Rattle.order_search.specs.Trials.{HasTooManyVariables, IsPairingIn, IsCandidateGivenUp}
use Rattle.cone_check.proofs.ByCones.{known_by_cones, left_by_cones, many_by_cones, pairing_of_cones, verdicts_of_cones, within_by_cones}
use Rattle.cone_check.proofs.ConeVerdicts.{one_verdict}

abbrev asked : (sizes support : Bool) → Details
asked sizes support = record { sizes = sizes; support = support }

module _ {H : Type 0} (context : ConeContext H) (s : Subject) (cones : Cones) (task : Task H) (ready : IsConeContext context) (are : AreConesOf context s cones) (of : IsConeTask context cones task) where
  by_name : task.settings.now.matching ≡ Name
  by_name = of.settings.by_name

  pub no_sizes : task.settings.now.sizes ≡ false
  no_sizes = of.settings.no_sizes

  -- the comparison of a pair asks for the same details as the whole one, without sizes
  same_asked : details_in task.settings.now ≡ unsized context.task.now.settings.now.assignment
  same_asked =
      ap (λ b. asked b (wants_support task.settings.now.assignment)) no_sizes
      ∙ ap (λ z. asked false (wants_support z)) of.settings.assignment

  first_is : circuit task.first.now ≡ circuit cones.first.net
  first_is = ap circuit of.first

  second_is : circuit task.second.now ≡ circuit cones.second.net
  second_is = ap circuit of.second

  -- the pair is left if its cones have too many variables
  pub many_pair : (budget : ℕ) (bound : WaveBound) → HasTooManyVariables task → IsJudgedIn context budget bound s None
  many_pair budget bound many =
      many_by_cones task (circuit cones.first.net) (circuit cones.second.net) (circuit_in context.given.now) by_name first_is second_is of.given (circuit context.task.now.first.now) (circuit context.task.now.second.now)
      (condition context.task.now.given) context.naming.now s are (order_in context) budget bound many

  module _ (one : IsNet context.task.now.first.now) (two : IsNet context.task.now.second.now) (places : List ℕ) (q : NamingModel) (in_order : ArePlaces (length context.naming.now.names) places)
      (paired : (o : Order) × IsPairingIn task o q × (q.names ≡ map (variable_name context.naming.now.names) places)) where
    pub cone_pair : IsConePairing (circuit context.task.now.first.now) (circuit context.task.now.second.now) (condition context.task.now.given) context.naming.now s (circuit cones.first.net) (circuit cones.second.net) (circuit_in context.given.now) places q
    cone_pair = record {
      first = record { net = context.task.now.first.now; sound = one; is_circuit = refl };
      second = record { net = context.task.now.second.now; sound = two; is_circuit = refl };
      condition = ready.conditional_net;
      whole = (context.task.now.settings.now.matching, Declared, ready.naming);
      cones = are;
      in_order = in_order;
      order = paired.0;
      paired = pairing_of_cones task (circuit cones.first.net) (circuit cones.second.net) (circuit_in context.given.now) by_name first_is second_is of.given paired.0 q paired.1;
      names = paired.2;
    }

    of_cones : (found : Found) → AreVerdicts (details_in task.settings.now) (circuit task.first.now) (circuit task.second.now) (condition task.given) q found →
        AreVerdicts (unsized context.task.now.settings.now.assignment) (circuit cones.first.net) (circuit cones.second.net) (circuit_in context.given.now) q found
    of_cones found verdicts =
        subst (λ z. AreVerdicts z (circuit cones.first.net) (circuit cones.second.net) (circuit_in context.given.now) q found) same_asked
        (verdicts_of_cones task (circuit cones.first.net) (circuit cones.second.net) (circuit_in context.given.now) by_name first_is second_is of.given (details_in task.settings.now) q found verdicts)

    -- the comparison has one pair
    pub one_pair : (found : Found) → AreVerdicts (details_in task.settings.now) (circuit task.first.now) (circuit task.second.now) (condition task.given) q found → length found.verdicts ≡ 1
    one_pair found verdicts =
        one_verdict (circuit context.task.now.first.now) (circuit context.task.now.second.now) (condition context.task.now.given) context.naming.now s (circuit cones.first.net) (circuit cones.second.net) (circuit_in context.given.now) places q
        cone_pair context.task.now.settings.now.assignment found (of_cones found verdicts)

    as_decided : (found : Option Verdict) → IfSome found (λ v. AreVerdicts (details_in task.settings.now) (circuit task.first.now) (circuit task.second.now) (condition task.given) q (record { variables = q.names; verdicts = v ∷ [] })) →
        IfSome found (λ v. AreVerdicts (unsized context.task.now.settings.now.assignment) (circuit cones.first.net) (circuit cones.second.net) (circuit_in context.given.now) q (record { variables = q.names; verdicts = v ∷ [] }))
    as_decided None h = tt
    as_decided (Some v) h = of_cones (record { variables = q.names; verdicts = v ∷ [] }) h

    as_within : (budget : ℕ) (found : Option Verdict) → IfSome found (λ v. AreConesWithin task context.order.now budget) → IfSome found (λ v. FitIn context budget s)
    as_within budget None h = tt
    as_within budget (Some v) h =
        within_by_cones task (circuit cones.first.net) (circuit cones.second.net) (circuit_in context.given.now) by_name first_is second_is of.given (circuit context.task.now.first.now) (circuit context.task.now.second.now)
        (condition context.task.now.given) context.naming.now s are (order_in context) budget (subst (λ o. AreConesWithin task o budget) ready.ordered h)

    -- and its result is the result of the pair
    pub judged_pair : (budget : ℕ) (bound : WaveBound) (found reported : Option Verdict) →
        IfSome found (λ v. AreVerdicts (details_in task.settings.now) (circuit task.first.now) (circuit task.second.now) (condition task.given) q (record { variables = q.names; verdicts = v ∷ [] })) →
        IfSome found (λ v. AreConesWithin task context.order.now budget) → (found ≡ None → (c : Candidate) → IsCandidateGivenUp task budget bound c) →
        (found ≡ None → IsListedLeft task context.order.now budget bound) → IsWidened context s places found reported → IsJudgedIn context budget bound s reported
    judged_pair budget bound found reported decided few left listed widen_verdict =
        known_by_cones context.task.now.settings.now.assignment (circuit context.task.now.first.now) (circuit context.task.now.second.now) (condition context.task.now.given) context.naming.now s (circuit cones.first.net) (circuit cones.second.net) (circuit_in context.given.now) places q
        cone_pair context.task.now.settings.now.difference (FitIn context budget) (IsUndecidedIn context budget bound) found reported widen_verdict (as_decided found decided) (as_within budget found few)
        (λ e. left_by_cones task (circuit cones.first.net) (circuit cones.second.net) (circuit_in context.given.now) by_name first_is second_is of.given (circuit context.task.now.first.now) (circuit context.task.now.second.now)
        (condition context.task.now.given) context.naming.now s are (order_in context) budget bound (left e) (subst (λ o. IsListedLeft task o budget bound) ready.ordered (listed e)))
