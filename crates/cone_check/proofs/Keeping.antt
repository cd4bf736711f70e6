-- Verdicts that are known before an attempt is made stay what they are.
use Rattle.std.proofs.Common.{◌≡◌, ◌∙◌, ap, refl, subst, arith, ℕ, zero, suc, ◌<◌, Bool, false, List, [], ◌∷◌, length, get_or, Option, Some, None}
use Rattle.expand_work.specs.Bounds.{WaveBound}
use Rattle.net_bench.specs.Circuit.{Circuit}
use Rattle.net_order.specs.Order.{NamingModel, name_of}
use Rattle.net_patterns.specs.declared.counterexample.ShownPattern.{ShownPattern}
use Rattle.report_text.specs.declared.outcome.PairKind.{PairKind}
use Rattle.report_text.specs.declared.verdict.Verdict.{Verdict}
use Rattle.report_text.specs.declared.verdict.Verdict.TheVariants.{Equal, Differs, Unmatched, Undecided}
use Rattle.compare_built.specs.declared.subject.Subject.{Subject}
use Rattle.cone_check.specs.declared.pair_cones.ConeContext.{ConeContext}
use Rattle.cone_check.specs.ConeRounds.{IsPlaceOfRound, IsRoundOf, IsShownElse, all_or_undecided, or_equal, or_undecided}
use Rattle.cone_check.specs.EqualCones.{AreKnownVerdictsFor, AreVerdictsFor, renamed_to, verdict_for}
use Rattle.cone_check.specs.KnownPairs.{AreEqualKnown, AreEqualReported, AreKept, AreOrEqual, AreShownElse, equal_verdict}

-- a place with a verdict is one of the list
pub known_low : (known : List (Option Verdict)) (i : ℕ) (v : Verdict) → get_or known i None ≡ Some v → i < length known
known_low [] i v is = absurd (let never : None ≡ Some v = is in cc)
known_low (o ∷ known) zero v is = omega arith
known_low (o ∷ known) (suc i) v is = let low = known_low known i v is in omega (arith, low)

pub kept_itself : (known : List (Option Verdict)) → AreKept known known
kept_itself known i v is = is

pub kept_both : (old known new : List (Option Verdict)) → AreKept old known → AreKept known new → AreKept old new
kept_both old known new before after i v is = after i v (before i v is)

-- ---- rounds

module _ {H : Type 0} (context : ConeContext H) (budget : ℕ) (bound : WaveBound) where
  stays : (s : Subject) (known new : Option Verdict) (v : Verdict) → known ≡ Some v → IsPlaceOfRound context budget bound s known new → new ≡ Some v
  stays s known new v is h = subst (λ o. IsPlaceOfRound context budget bound s o new) is h

  pub kept_by_round : (ss : List Subject) (known new : List (Option Verdict)) → length known ≡ length ss → IsRoundOf context budget bound ss known new → AreKept known new
  kept_by_round [] known new long r i v is = absurd (let low = known_low known i v is in omega (arith, low, long))
  kept_by_round (s ∷ ss) known new long r i v is =
      let low = known_low known i v is in
      stays (get_or (s ∷ ss) i s) (get_or known i None) (get_or new i None) v is (r.places i s (omega (arith, low, long)))

-- ---- patterns

module _ (a b : Circuit) (given : Option Circuit) (p : NamingModel) where
  stays_shown : (s : Subject) (shown : Option ShownPattern) (known new : Option Verdict) (v : Verdict) → known ≡ Some v → IsShownElse a b given p s shown known new → new ≡ Some v
  stays_shown s shown known new v is h = subst (λ o. IsShownElse a b given p s shown o new) is h

  pub kept_by_shown : (ss : List Subject) (shown : List (Option ShownPattern)) (known new : List (Option Verdict)) → length known ≡ length ss → AreShownElse a b given p ss shown known new → AreKept known new
  kept_by_shown [] shown known new long are i v is = absurd (let low = known_low known i v is in omega (arith, low, long))
  kept_by_shown (s ∷ ss) shown known new long are i v is =
      let low = known_low known i v is in
      stays_shown (get_or (s ∷ ss) i s) (get_or shown i None) (get_or known i None) (get_or new i None) v is (are.places i s None (omega (arith, low, long)))

-- ---- pairs that are equal inside

pub equal_known_first : (a : Circuit) (ss : List Subject) (equal : List Bool) (known : List (Option Verdict)) → AreOrEqual a ss equal known → AreEqualKnown a ss equal known
equal_known_first a ss equal known are i s lt flag = are.places i s false lt ∙ ap (λ e. or_equal a (get_or ss i s) e None) flag

pub equal_known_kept : (a : Circuit) (ss : List Subject) (equal : List Bool) (known new : List (Option Verdict)) → AreEqualKnown a ss equal known → AreKept known new → AreEqualKnown a ss equal new
equal_known_kept a ss equal known new are kept i s lt flag = kept i (equal_verdict a (get_or ss i s)) (are i s lt flag)

pub equal_known_renamed : (a : Circuit) (ss : List Subject) (equal : List Bool) (known new : List (Option Verdict)) → AreEqualKnown a ss equal known → AreKnownVerdictsFor a ss known new → AreEqualKnown a ss equal new
equal_known_renamed a ss equal known new are renamed i s lt flag = renamed i s (equal_verdict a (get_or ss i s)) lt (are i s lt flag)

reported_at : (a : Circuit) (ss : List Subject) (known : List (Option Verdict)) (i : ℕ) (s : Subject) (v : Verdict) → length known ≡ length ss → i < length ss →
    get_or (all_or_undecided a ss known) i v ≡ or_undecided a (get_or ss i s) (get_or known i None)
reported_at a [] known i s v long lt = absurd (omega (arith, lt))
reported_at a (t ∷ ss) [] i s v long lt = absurd (omega (arith, long))
reported_at a (t ∷ ss) (o ∷ known) zero s v long lt = refl
reported_at a (t ∷ ss) (o ∷ known) (suc i) s v long lt = reported_at a ss known i s v (omega (arith, long)) (omega (arith, lt))

pub equal_reported : (a : Circuit) (ss : List Subject) (equal : List Bool) (known : List (Option Verdict)) → length known ≡ length ss → AreEqualKnown a ss equal known → AreEqualReported a ss equal (all_or_undecided a ss known)
equal_reported a ss equal known long are i s v lt flag = reported_at a ss known i s v long lt ∙ ap (or_undecided a (get_or ss i s)) (are i s lt flag)

-- ---- verdicts of other pairs

renamed_to_twice : (role : PairKind) (name : List ℕ) (v : Verdict) → renamed_to role name (renamed_to role name v) ≡ renamed_to role name v
renamed_to_twice role name (Equal own_role own_name size) = refl
renamed_to_twice role name (Differs own_role own_name x first second extras) = refl
renamed_to_twice role name (Unmatched side own_role own_name) = refl
renamed_to_twice role name (Undecided own_role own_name) = refl

-- if a pair has the number of a judged pair that has its own verdict, it is reported to have this verdict
pub known_renamed : (a : Circuit) (ss : List Subject) (known judged_known found : List (Option Verdict)) (ns : List ℕ) (all : List (Option Verdict)) →
    ((i : ℕ) (s : Subject) → i < length ss → get_or judged_known (get_or ns i 0) None ≡ verdict_for a (get_or ss i s) (get_or known i None)) →
    AreKept judged_known found → AreVerdictsFor a found ss ns all → AreKnownVerdictsFor a ss known all
known_renamed a ss known judged_known found ns all kept stay renamed i s v lt is =
    let t : Subject = get_or ss i s in
    let at : get_or judged_known (get_or ns i 0) None ≡ Some (renamed_to t.role (name_of a t.named) v) = kept i s lt ∙ ap (verdict_for a t) is in
    let after : get_or found (get_or ns i 0) None ≡ Some (renamed_to t.role (name_of a t.named) v) = stay (get_or ns i 0) (renamed_to t.role (name_of a t.named) v) at in
    renamed.places i s lt ∙ ap (verdict_for a t) after ∙ ap Some (renamed_to_twice t.role (name_of a t.named) v)
