-- What a comparison of a pair's cones implies for the whole comparison.
use Rattle.std.proofs.Common.{◌≡◌, sym, refl, subst, arith, ◌⊎◌, inl, inr, ℕ, ◌<◌, ◌≤◌, Bool, List, [], ◌∷◌, length, Option, Some, None}
use Rattle.std.specs.Prelude.{IfSome, option_map, slice_index}
use Rattle.expand_work.specs.Bounds.{MayStop, WaveBound}
use Rattle.gate_plan.proofs.Signals.{function, some_function}
use Rattle.net_bench.specs.Circuit.{Circuit, Net, IsNet, circuit}
use Rattle.net_names.specs.declared.order.Match.{Match}
use Rattle.net_names.specs.declared.order.Match.TheVariants.{Name}
use Rattle.net_names.specs.declared.order.Order.{Order}
use Rattle.net_order.specs.Order.{IsPairing, NamingModel, condition, max_variables, name_of, variables_in}
use Rattle.report_text.specs.declared.verdict.Verdict.{Verdict}
use Rattle.report_text.specs.declared.verdict.Verdict.TheVariants.{Equal, Undecided}
use Rattle.report_text.specs.Lines.{Found}
use Rattle.report_text.specs.declared.assignment.Assignment.{Assignment}
use Rattle.compare_built.specs.declared.verdict_order.Details.{Details}
use Rattle.compare_built.specs.Details.{unsized}
use Rattle.compare_built.specs.declared.strategy.Candidate.{Candidate}
use Rattle.compare_built.specs.declared.subject.Subject.{Subject}
use Rattle.compare_built.specs.declared.task.Task.{Task}
use Rattle.compare_built.specs.Attempts.{requests_within}
use Rattle.compare_built.specs.Candidates.{IsPairingBy}
use Rattle.compare_built.specs.declared.strategy.AttemptOrder.{AttemptOrder}
use Rattle.compare_built.specs.declared.strategy.AttemptOrder.TheVariants.{Computed}
use Rattle.report_text.specs.declared.difference.Difference.{Difference}
use Rattle.report_text.specs.declared.difference.Difference.TheVariants.{Least, AnyOne}
use Rattle.compare_built.specs.Facts.{IsEqualInside, IsShownVerdict}
use Rattle.compare_built.specs.Cones.{AreCones, FitByCones, IsConeAttempt, IsListedGivenUp, IsPairingInListed, IsUndecidedWithin, IsConeVerdict, IsVerdictOrUndecided, MayShow}
use Rattle.compare_built.specs.Cones.IsVerdictOrUndecided.{decided, merged, shown, undecided}
use Rattle.cone_check.specs.ConeRounds.{AreConesWithin, IsKnown, IsListedLeft, IsPairedInListed}
use Rattle.compare_built.specs.Limits.{Exceeds, FitsWithin}
use Rattle.compare_built.specs.PairSelection.ArePicked.{named}
use Rattle.compare_built.specs.Report.{AreVerdicts, Compared}
use Rattle.compare_built.specs.Scatter.{IsConePairing, IsOfNet, widened_verdict}
use Rattle.order_search.specs.Trials.{HasTooManyVariables, IsCandidateGivenUp, IsPairedBy}
use Rattle.compare_built.specs.Widths.{IsTooWide}
use Rattle.pair_facts.proofs.Conditional.{some_holds}
use Rattle.cone_check.proofs.ConeVerdicts.{reported_widened}

-- ---- the verdict of a pair

-- a difference that may not be the least may be reported of a pair that is left
pub shown_if_left : (difference : Difference) (left : Type 0) → left → MayShow difference left
shown_if_left Least left is = is
shown_if_left AnyOne left is = tt

shown_before : (difference : Difference) (left : Type 0) → MayShow difference ⊥ → MayShow difference left
shown_before Least left never = absurd never
shown_before AnyOne left may = tt

-- the verdict of a pair that is decided does not depend on what is left, and holds also if more nodes are allowed
pub reported_decided : (asked : Details) (difference : Difference) (within more other unshown : Subject → Type 0) (a b : Circuit) (given : Option Circuit) (p : NamingModel) (s : Subject) (v : Verdict) → (within s → more s) →
    IsConeVerdict asked difference within (λ t. ⊥) (λ t. ⊥) a b given p s v → IsConeVerdict asked difference more other unshown a b given p s v
reported_decided asked difference within more other unshown a b given p s v wider t = record {
  holds = t.holds;
  condition = t.condition;
  compared = t.compared;
  functions = t.functions;
  verdict = by (length p.names) t.holds t.compared v t.verdict;
}
  where
    by : (n : ℕ) (holds : List Bool → Bool) (c : Compared) (v : Verdict) → IsVerdictOrUndecided n asked difference (within s) ⊥ ⊥ holds c v → IsVerdictOrUndecided n asked difference (more s) (other s) (unshown s) holds c v
    by n holds c v (decided few is equal) = decided (wider few) is equal
    by n holds c v (merged agree) = merged agree
    by n holds c v (shown may is) = shown (shown_before difference (other s) may) is
    by n holds c v (undecided never none) = absurd never

-- if fewer nodes are enough, so are more
pub more_nodes : (order : Option Order) (budget limit : ℕ) (a b : Circuit) (given : Option Circuit) (p : NamingModel) (s : Subject) → budget ≤ limit → FitByCones order budget a b given p s → FitByCones order limit a b given p s
more_nodes order budget limit a b given p s le few = record {
  first = few.first;
  second = few.second;
  condition = few.condition;
  cones = few.cones;
  pairing = few.pairing;
  paired = few.paired;
  fit = record {
    store = few.fit.store;
    sound = few.fit.sound;
    levels = few.fit.levels;
    lean = few.fit.lean;
    complete = few.fit.complete;
    within = let low = few.fit.within in omega (arith, low, le);
  };
}

-- a pair that is left, and that no pattern shows to differ, is Undecided
pub reported_left : (asked : Details) (difference : Difference) (within left unshown : Subject → Type 0) (n m : Net) (given : Option Circuit) (p : NamingModel) (s : Subject) → IsNet n → IsNet m → IfSome given IsOfNet → left s → unshown s →
    IsConeVerdict asked difference within left unshown (circuit n) (circuit m) given p s (Undecided s.role (name_of (circuit n) s.named))
reported_left asked difference within left unshown n m given p s first second net is none =
    let c : Compared = record {
      role = s.role;
      name = name_of (circuit n) s.named;
      first = function n first (slice_index p.first) (length p.names) s.first;
      second = function m second (slice_index p.second) (length p.names) s.second;
    } in
    let holds = some_holds given p net in
    record {
      holds = holds.0;
      condition = holds.1;
      compared = c;
      functions = record {
        role = refl;
        name = refl;
        first = some_function n first (slice_index p.first) (length p.names) s.first;
        second = some_function m second (slice_index p.second) (length p.names) s.second;
      };
      verdict = undecided is none;
    }

-- a pair that is equal inside is Equal
pub reported_equal : (asked : Details) (difference : Difference) (within left unshown : Subject → Type 0) (a b : Circuit) (given : Option Circuit) (p : NamingModel) (s : Subject) → IfSome given IsOfNet → IsEqualInside a b p s →
    IsConeVerdict asked difference within left unshown a b given p s (Equal s.role (name_of a s.named) None)
reported_equal asked difference within left unshown a b given p s net is =
    let holds = some_holds given p net in
    let c = is.compared in
    let reported : IsVerdictOrUndecided (length p.names) asked difference (within s) (left s) (unshown s) holds.0 c (Equal c.role c.name None) = merged is.agree in
    record {
      holds = holds.0;
      condition = holds.1;
      compared = c;
      functions = is.functions;
      verdict = subst (λ name. IsVerdictOrUndecided (length p.names) asked difference (within s) (left s) (unshown s) holds.0 c (Equal s.role name None)) is.functions.name
          (subst (λ role. IsVerdictOrUndecided (length p.names) asked difference (within s) (left s) (unshown s) holds.0 c (Equal role c.name None)) is.functions.role reported);
    }

-- a difference that a pattern shows is a verdict of the pair
pub reported_shown : (asked : Details) (difference : Difference) (within left unshown : Subject → Type 0) (a b : Circuit) (given : Option Circuit) (p : NamingModel) (s : Subject) (v : Verdict) → MayShow difference (left s) → IsShownVerdict a b given p s v →
    IsConeVerdict asked difference within left unshown a b given p s v
reported_shown asked difference within left unshown a b given p s v may is = record {
  holds = is.holds;
  condition = is.condition;
  compared = is.compared;
  functions = is.functions;
  verdict = shown may is.difference;
}

-- ---- a comparison of cones

module _ {H : Type 0} (task : Task H) (k m : Circuit) (w : Option Circuit) (by_name : task.settings.now.matching ≡ Name) (first : circuit task.first.now ≡ k) (second : circuit task.second.now ≡ m) (given : condition task.given ≡ w) where
  as_cones : (P : Match → Circuit → Circuit → Option Circuit → Type 0) → P task.settings.now.matching (circuit task.first.now) (circuit task.second.now) (condition task.given) → P Name k m w
  as_cones P h = subst (λ g. P Name k m g) given (subst (λ c. P Name k c (condition task.given)) second
      (subst (λ c. P Name c (circuit task.second.now) (condition task.given)) first (subst (λ how. P how (circuit task.first.now) (circuit task.second.now) (condition task.given)) by_name h)))

  pub pairing_of_cones : (order : Order) (q : NamingModel) → IsPairing task.settings.now.matching (circuit task.first.now) (circuit task.second.now) (condition task.given) order q → IsPairing Name k m w order q
  pairing_of_cones order q h = as_cones (λ how a b g. IsPairing how a b g order q) h

  pub verdicts_of_cones : (asked : Details) (q : NamingModel) (found : Found) → AreVerdicts asked (circuit task.first.now) (circuit task.second.now) (condition task.given) q found → AreVerdicts asked k m w q found
  verdicts_of_cones asked q found h = as_cones (λ how a b g. AreVerdicts asked a b g q found) h

  -- an attempt in an order that is listed
  listed_pairing : (order : Option Order) (q : NamingModel) → IsPairedInListed task order q → IsPairingInListed order k m w q
  listed_pairing None q h = absurd h
  listed_pairing (Some o) q h = pairing_of_cones o q h

  attempt_pairing : (order : Option Order) (q : NamingModel) → ((t : AttemptOrder) × IsPairedBy task t q) ⊎ IsPairedInListed task order q → IsConeAttempt order k m w q
  attempt_pairing order q (inl h) = inl (h.0, as_cones (λ how a b g. IsPairingBy how a b g h.0 q) h.1)
  attempt_pairing order q (inr h) = inr (listed_pairing order q h)

  listed_left : (order : Option Order) (budget : ℕ) (bound : WaveBound) → IsListedLeft task order budget bound → IsListedGivenUp order budget bound k m w
  listed_left None budget bound h = tt
  listed_left (Some o) budget bound h = (
    h.0,
    pairing_of_cones o h.0 h.1,
    as_cones (λ how a b g. Exceeds budget a b g h.0 ⊎ IsTooWide (requests_within budget bound) a b g h.0 ⊎ MayStop bound) h.2,
  )

  pub left_by_cones : (a b : Circuit) (c : Option Circuit) (p : NamingModel) (s : Subject) → AreCones a b c p s k m w → (order : Option Order) (budget : ℕ) (bound : WaveBound) →
      ((x : Candidate) → IsCandidateGivenUp task budget bound x) → IsListedLeft task order budget bound → IsUndecidedWithin order budget bound a b c p s
  left_by_cones a b c p s cones order budget bound earlier_given_up listed = inl (record {
    first = k;
    second = m;
    condition = w;
    cones = cones;
    cause = inr (
      λ x. as_cones (λ how a b g. (q : NamingModel) × IsPairingBy how a b g (Computed x) q × (Exceeds budget a b g q ⊎ IsTooWide (requests_within budget bound) a b g q ⊎ MayStop bound))
          ((earlier_given_up x).pairing, (earlier_given_up x).paired, (earlier_given_up x).cause),
      listed_left order budget bound listed,
    );
  })

  pub many_by_cones : (a b : Circuit) (c : Option Circuit) (p : NamingModel) (s : Subject) → AreCones a b c p s k m w → (order : Option Order) (budget : ℕ) (bound : WaveBound) → HasTooManyVariables task → IsUndecidedWithin order budget bound a b c p s
  many_by_cones a b c p s cones order budget bound many = inl (record {
    first = k;
    second = m;
    condition = w;
    cones = cones;
    cause = inl (as_cones (λ how a b g. max_variables < length (variables_in how a b g)) many);
  })

  pub within_by_cones : (a b : Circuit) (c : Option Circuit) (p : NamingModel) (s : Subject) → AreCones a b c p s k m w → (order : Option Order) (budget : ℕ) → AreConesWithin task order budget → FitByCones order budget a b c p s
  within_by_cones a b c p s cones order budget few = record {
    first = k;
    second = m;
    condition = w;
    cones = cones;
    pairing = few.pairing;
    paired = attempt_pairing order few.pairing few.paired;
    fit = as_cones (λ how a b g. FitsWithin budget a b g few.pairing) few.fit;
  }

-- a verdict by cones, if there is one, is a verdict over all variables
pub known_by_cones : (which : Option Assignment) (a b : Circuit) (given : Option Circuit) (p : NamingModel) (s : Subject) (k m : Circuit) (w : Option Circuit) (places : List ℕ) (q : NamingModel) →
    IsConePairing a b given p s k m w places q → (difference : Difference) (within left : Subject → Type 0) (found reported : Option Verdict) →
    reported ≡ option_map (widened_verdict s.role (name_of a s.named) (length p.names) places) found →
    IfSome found (λ v. AreVerdicts (unsized which) k m w q (record { variables = q.names; verdicts = v ∷ [] })) → IfSome found (λ v. within s) → (found ≡ None → left s) →
    IsKnown (IsConeVerdict (unsized which) difference within (λ t. ⊥) (λ t. ⊥) a b given p) left s reported
known_by_cones which a b given p s k m w places q is difference within left None reported e are few none = subst (IsKnown (IsConeVerdict (unsized which) difference within (λ t. ⊥) (λ t. ⊥) a b given p) left s) (sym e) (none refl)
known_by_cones which a b given p s k m w places q is difference within left (Some v) reported e are few none =
    subst (IsKnown (IsConeVerdict (unsized which) difference within (λ t. ⊥) (λ t. ⊥) a b given p) left s) (sym e) (reported_widened a b given p s k m w places q is which difference within (λ t. ⊥) (λ t. ⊥) v few are)
