-- Verdicts that are known without an attempt.
use Rattle.std.proofs.Common.{◌≡◌, ◌∙◌, refl, subst, sym, inl, inr, ℕ, ◌+◌, ◌<◌, set, Bool, true, false, List, [], ◌∷◌, arith, length, get_or, Option, Some, None}
use Rattle.std.specs.Prelude.{⊤, IfSome, is_some}
use Rattle.std.specs.List.{AllZip}
use Rattle.std.proofs.lemmas.Bool.{cases_eq}
use Rattle.std.proofs.lemmas.List.{get_or-set_other, get_or-set_same, get_or_default}
use Rattle.expand_work.specs.Bounds.{WaveBound}
use Rattle.net_bench.specs.Circuit.{Circuit, circuit}
use Rattle.net_order.specs.Order.{NamingModel, condition}
use Rattle.net_patterns.specs.declared.counterexample.ShownPattern.{ShownPattern}
use Rattle.report_text.specs.declared.verdict.Verdict.{Verdict}
use Rattle.compare_built.specs.Cones.{MayShow, cone_limit}
use Rattle.compare_built.specs.Details.{unsized}
use Rattle.compare_built.specs.Facts.{IsShownVerdict}
use Rattle.compare_built.specs.Scatter.{IsOfNet}
use Rattle.report_text.specs.declared.difference.Difference.{Difference}
use Rattle.report_text.specs.declared.difference.Difference.TheVariants.{AnyOne}
use Rattle.compare_built.specs.declared.subject.Subject.{Subject}
use Rattle.pair_facts.specs.PairFacts.{IsFirstShown}
use Rattle.cone_check.specs.declared.pair_cones.ConeContext.{ConeContext}
use Rattle.cone_check.specs.ConeRounds.{AreKnownAtOnce, FitIn, IsDecidedIn, IsEqualIf, IsFinalVerdict, IsKnown, IsShownElse, IsUnshownIn, StaysUndecided, or_equal}
use Rattle.cone_check.specs.KnownPairs.{AreOrEqual, AreShownElse}
use Rattle.cone_check.proofs.ByCones.{reported_decided, reported_equal, reported_shown, shown_if_left}
use Rattle.cone_check.proofs.Filling.{each_known}

-- ---- one pair

module _ (a b : Circuit) (given : Option Circuit) (p : NamingModel) (s : Subject) where
  -- a verdict that was known is kept
  pub stays_known : (pattern : Option ShownPattern) (known : Option Verdict) → is_some known ≡ true → IsShownElse a b given p s pattern known known
  stays_known pattern (Some v) is = refl
  stays_known pattern None is = absurd (let never : false ≡ true = is in cc)

  -- without a pattern there is no verdict
  pub stays_unknown : (known : Option Verdict) → is_some known ≡ false → IsShownElse a b given p s None known known
  stays_unknown (Some v) is = absurd (let never : true ≡ false = is in cc)
  stays_unknown None is = refl

  -- with a pattern there is the difference that it shows
  pub becomes_known : (pattern : ShownPattern) (known : Option Verdict) (v : Verdict) → is_some known ≡ false → IsShownVerdict a b given p s v → IsShownElse a b given p s (Some pattern) known (Some v)
  becomes_known pattern (Some w) v is shown = absurd (let never : true ≡ false = is in cc)
  becomes_known pattern None v is shown = shown

-- the verdicts of one more place
pub shown_more : (a b : Circuit) (given : Option Circuit) (p : NamingModel) (ss : List Subject) (shown : List (Option ShownPattern)) (before known : List (Option Verdict)) (k : ℕ) (s : Subject) (old new : Option Verdict) →
    k < length ss → length shown ≡ length ss → k < length known → s ≡ get_or ss k s → old ≡ get_or before k None → IsShownElse a b given p s (get_or shown k None) old new →
    ((i : ℕ) (t : Subject) (pattern : Option ShownPattern) → i < k → IsShownElse a b given p (get_or ss i t) (get_or shown i pattern) (get_or before i None) (get_or known i None)) →
    (i : ℕ) (t : Subject) (pattern : Option ShownPattern) → i < k + 1 → IsShownElse a b given p (get_or ss i t) (get_or shown i pattern) (get_or before i None) (get_or (set known k new) i None)
shown_more a b given p ss shown before known k s old new low long lower at was step made i t pattern lt = elim (cases_eq i k) [
  | inl same ↦
      let here : k < length shown = omega (arith, low, long) in
      subst (λ j. IsShownElse a b given p (get_or ss j t) (get_or shown j pattern) (get_or before j None) (get_or (set known k new) j None)) (sym same)
      (subst (IsShownElse a b given p (get_or ss k t) (get_or shown k pattern) (get_or before k None)) (sym (get_or-set_same known k new None lower))
      (subst (λ o. IsShownElse a b given p (get_or ss k t) (get_or shown k pattern) o new) was
      (subst (λ n. IsShownElse a b given p (get_or ss k t) n old new) (get_or_default shown k None pattern here)
      (subst (λ u. IsShownElse a b given p u (get_or shown k None) old new) (at ∙ get_or_default ss k s t low) step))))
  | inr other ↦
      subst (IsShownElse a b given p (get_or ss i t) (get_or shown i pattern) (get_or before i None)) (sym (get_or-set_other known k i new None other))
      (made i t pattern (omega (arith, lt, other)))
]

-- ---- all pairs

module _ {H : Type 0} (context : ConeContext H) where
  abbrev pub known_limit : ℕ
  known_limit = cone_limit context.task.now.settings.now.limit

  abbrev pub ShownFact : Subject → Option ShownPattern → Type 0
  ShownFact = IsFirstShown (circuit context.task.now.first.now) (circuit context.task.now.second.now) (condition context.task.now.given) context.naming.now

  abbrev pub ShownStep : Subject → Option ShownPattern → (known new : Option Verdict) → Type 0
  ShownStep = IsShownElse (circuit context.task.now.first.now) (circuit context.task.now.second.now) (condition context.task.now.given) context.naming.now

  -- pairs that are equal inside are Equal, and the others have no verdict
  equal_known : (net : IfSome (condition context.task.now.given) IsOfNet) (s : Subject) (e : Bool) → IsEqualIf (circuit context.task.now.first.now) (circuit context.task.now.second.now) context.naming.now s e →
      IsKnown (IsDecidedIn context known_limit) (λ t. ⊤) s (or_equal (circuit context.task.now.first.now) s e None)
  equal_known net s true is =
      reported_equal (unsized context.task.now.settings.now.assignment) context.task.now.settings.now.difference (FitIn context known_limit) (λ t. ⊥) (λ t. ⊥) (circuit context.task.now.first.now) (circuit context.task.now.second.now)
      (condition context.task.now.given) context.naming.now s net (is refl)
  equal_known net s false is = tt

  pub equal_at_once : IfSome (condition context.task.now.given) IsOfNet → (ss : List Subject) (equal : List Bool) (known : List (Option Verdict)) →
      AllZip (IsEqualIf (circuit context.task.now.first.now) (circuit context.task.now.second.now) context.naming.now) ss equal → AreOrEqual (circuit context.task.now.first.now) ss equal known → AreKnownAtOnce context ss known
  equal_at_once net ss equal known facts are =
      each_known {F = Bool} (IsEqualIf (circuit context.task.now.first.now) (circuit context.task.now.second.now) context.naming.now)
      (λ (s : Subject) (e : Bool) (o n : Option Verdict). n ≡ or_equal (circuit context.task.now.first.now) s e None)
      (λ (s : Subject) (o : Option Verdict). ⊤) (IsKnown (IsDecidedIn context known_limit) (λ t. ⊤)) (λ s e o n is before made. subst (IsKnown (IsDecidedIn context known_limit) (λ t. ⊤) s) (sym made) (equal_known net s e is)) ss equal known known facts
      (any ss known are.each) refl (λ i s e lt. are.places i s e lt)
    where
      any : (ts : List Subject) (os : List (Option Verdict)) → length os ≡ length ts → AllZip (λ (s : Subject) (o : Option Verdict). ⊤) ts os
      any [] [] long = tt
      any [] (o ∷ os) long = absurd (omega (arith, long))
      any (t ∷ ts) [] long = absurd (omega (arith, long))
      any (t ∷ ts) (o ∷ os) long = (tt, any ts os (omega (arith, long)))

  -- the differences that patterns show, if any difference is asked for
  any_step : context.task.now.settings.now.difference ≡ AnyOne → (s : Subject) (pattern : Option ShownPattern) (o n : Option Verdict) → ShownFact s pattern → IsKnown (IsDecidedIn context known_limit) (λ t. ⊤) s o → ShownStep s pattern o n →
      IsKnown (IsDecidedIn context known_limit) (λ t. ⊤) s n
  any_step is s pattern (Some v) n fact known made = subst (IsKnown (IsDecidedIn context known_limit) (λ t. ⊤) s) (sym made) known
  any_step is s None None n fact known made = subst (IsKnown (IsDecidedIn context known_limit) (λ t. ⊤) s) (sym made) tt
  any_step is s (Some pattern) None None fact known made = absurd made
  any_step is s (Some pattern) None (Some v) fact known made =
      reported_shown (unsized context.task.now.settings.now.assignment) context.task.now.settings.now.difference (FitIn context known_limit) (λ t. ⊥) (λ t. ⊥) (circuit context.task.now.first.now) (circuit context.task.now.second.now)
      (condition context.task.now.given) context.naming.now s v (subst (λ (d : Difference). MayShow d ⊥) (sym is) tt) made

  pub any_at_once : context.task.now.settings.now.difference ≡ AnyOne → (ss : List Subject) (shown : List (Option ShownPattern)) (known new : List (Option Verdict)) → AllZip ShownFact ss shown → AreKnownAtOnce context ss known →
      AreShownElse (circuit context.task.now.first.now) (circuit context.task.now.second.now) (condition context.task.now.given) context.naming.now ss shown known new → AreKnownAtOnce context ss new
  any_at_once is ss shown known new facts before are =
      each_known {F = Option ShownPattern} ShownFact ShownStep (IsKnown (IsDecidedIn context known_limit) (λ t. ⊤)) (IsKnown (IsDecidedIn context known_limit) (λ t. ⊤)) (any_step is) ss shown known new facts before are.each are.places

  -- the differences that patterns show of pairs that are left
  last_step : (bound : WaveBound) (s : Subject) (pattern : Option ShownPattern) (o n : Option Verdict) → ShownFact s pattern → IsKnown (IsDecidedIn context known_limit) (StaysUndecided context bound) s o → ShownStep s pattern o n →
      IsKnown (IsFinalVerdict context bound) (λ t. StaysUndecided context bound t × IsUnshownIn context t) s n
  last_step bound s pattern (Some v) n fact known made =
      subst (IsKnown (IsFinalVerdict context bound) (λ t. StaysUndecided context bound t × IsUnshownIn context t) s) (sym made)
      (reported_decided (unsized context.task.now.settings.now.assignment) context.task.now.settings.now.difference (FitIn context known_limit) (FitIn context known_limit) (StaysUndecided context bound) (IsUnshownIn context) (circuit context.task.now.first.now)
      (circuit context.task.now.second.now) (condition context.task.now.given) context.naming.now s v (λ few. few) known)
  last_step bound s None None n fact known made = subst (IsKnown (IsFinalVerdict context bound) (λ t. StaysUndecided context bound t × IsUnshownIn context t) s) (sym made) (known, fact)
  last_step bound s (Some pattern) None None fact known made = absurd made
  last_step bound s (Some pattern) None (Some v) fact known made =
      reported_shown (unsized context.task.now.settings.now.assignment) context.task.now.settings.now.difference (FitIn context known_limit) (StaysUndecided context bound) (IsUnshownIn context) (circuit context.task.now.first.now)
      (circuit context.task.now.second.now) (condition context.task.now.given) context.naming.now s v (shown_if_left context.task.now.settings.now.difference (StaysUndecided context bound s) known) made

  pub shown_last : (bound : WaveBound) (ss : List Subject) (shown : List (Option ShownPattern)) (known new : List (Option Verdict)) → AllZip ShownFact ss shown →
      AllZip (IsKnown (IsDecidedIn context known_limit) (StaysUndecided context bound)) ss known →
      AreShownElse (circuit context.task.now.first.now) (circuit context.task.now.second.now) (condition context.task.now.given) context.naming.now ss shown known new →
      AllZip (IsKnown (IsFinalVerdict context bound) (λ t. StaysUndecided context bound t × IsUnshownIn context t)) ss new
  shown_last bound ss shown known new facts before are =
      each_known {F = Option ShownPattern} ShownFact ShownStep (IsKnown (IsDecidedIn context known_limit) (StaysUndecided context bound)) (IsKnown (IsFinalVerdict context bound) (λ t. StaysUndecided context bound t × IsUnshownIn context t)) (last_step bound) ss shown
      known new facts before are.each are.places
