-- Verdicts of pairs that are known, place by place.
use Rattle.std.proofs.Common.{◌≡◌, refl, subst, sym, arith, ℕ, zero, suc, ◌<◌, List, [], ◌∷◌, length, get_or, Option, Some, None}
use Rattle.std.specs.List.{AllZip}
use Rattle.report_text.specs.declared.verdict.Verdict.{Verdict}
use Rattle.compare_built.specs.declared.subject.Subject.{Subject}
use Rattle.cone_check.specs.ConeRounds.{IsKnown, all_or_undecided, or_undecided}
use Rattle.net_bench.specs.Circuit.{Circuit}

-- after a round a pair has its verdict from before, and if it had none, the one that was found
abbrev pub IsKept : (reported : Subject → Verdict → Type 0) (now : Subject → Type 0) → Subject → (known new : Option Verdict) → Type 0
IsKept reported now s (Some v) new = new ≡ Some v
IsKept reported now s None new = IsKnown reported now s new

kept_one : (reported : Subject → Verdict → Type 0) (before now after : Subject → Type 0) → ((s : Subject) → before s → now s → after s) → (s : Subject) (known new : Option Verdict) →
    IsKnown reported before s known → IsKept reported now s known new → IsKnown reported after s new
kept_one reported before now after both s (Some v) new h k = subst (IsKnown reported after s) (sym k) h
kept_one reported before now after both s None None h k = both s h k
kept_one reported before now after both s None (Some v) h k = k

-- the verdicts of all pairs after a round
pub kept_known : (reported : Subject → Verdict → Type 0) (before now after : Subject → Type 0) → ((s : Subject) → before s → now s → after s) →
    (ss : List Subject) (known new : List (Option Verdict)) → AllZip (IsKnown reported before) ss known → length new ≡ length known →
    ((i : ℕ) (s : Subject) → i < length ss → IsKept reported now (get_or ss i s) (get_or known i None) (get_or new i None)) → AllZip (IsKnown reported after) ss new
kept_known reported before now after both [] [] [] h long each = tt
kept_known reported before now after both [] [] (n ∷ new) h long each = absurd (omega (arith, long))
kept_known reported before now after both [] (o ∷ known) new h long each = absurd h
kept_known reported before now after both (s ∷ ss) [] new h long each = absurd h
kept_known reported before now after both (s ∷ ss) (o ∷ known) [] h long each = absurd (omega (arith, long))
kept_known reported before now after both (s ∷ ss) (o ∷ known) (n ∷ new) h long each = (
  kept_one reported before now after both s o n h.0 (each 0 s (omega arith)),
  kept_known reported before now after both ss known new h.1 (omega (arith, long)) (λ i t lt. each (suc i) t (omega (arith, lt))),
)

-- a weaker property of the pairs that are left
pub known_weaker : (reported : Subject → Verdict → Type 0) (before after : Subject → Type 0) → ((s : Subject) → before s → after s) → (ss : List Subject) (known : List (Option Verdict)) →
    AllZip (IsKnown reported before) ss known → AllZip (IsKnown reported after) ss known
known_weaker reported before after f [] [] h = tt
known_weaker reported before after f [] (o ∷ known) h = absurd h
known_weaker reported before after f (s ∷ ss) [] h = absurd h
known_weaker reported before after f (s ∷ ss) (None ∷ known) h = (f s h.0, known_weaker reported before after f ss known h.1)
known_weaker reported before after f (s ∷ ss) (Some v ∷ known) h = (h.0, known_weaker reported before after f ss known h.1)

-- the verdicts of all pairs after a step that uses a fact of each
pub each_known : {F : Type 0} (Fact : Subject → F → Type 0) (Step : Subject → F → (known new : Option Verdict) → Type 0) (Before After : Subject → Option Verdict → Type 0) →
    ((s : Subject) (f : F) (o n : Option Verdict) → Fact s f → Before s o → Step s f o n → After s n) → (ss : List Subject) (fs : List F) (known new : List (Option Verdict)) →
    AllZip Fact ss fs → AllZip Before ss known → length new ≡ length known →
    ((i : ℕ) (s : Subject) (f : F) → i < length ss → Step (get_or ss i s) (get_or fs i f) (get_or known i None) (get_or new i None)) → AllZip After ss new
each_known Fact Step Before After step [] [] [] [] facts before long each = tt
each_known Fact Step Before After step [] [] [] (n ∷ new) facts before long each = absurd (omega (arith, long))
each_known Fact Step Before After step [] [] (o ∷ known) new facts before long each = absurd before
each_known Fact Step Before After step [] (f ∷ fs) known new facts before long each = absurd facts
each_known Fact Step Before After step (s ∷ ss) [] known new facts before long each = absurd facts
each_known Fact Step Before After step (s ∷ ss) (f ∷ fs) [] new facts before long each = absurd before
each_known Fact Step Before After step (s ∷ ss) (f ∷ fs) (o ∷ known) [] facts before long each = absurd (omega (arith, long))
each_known Fact Step Before After step (s ∷ ss) (f ∷ fs) (o ∷ known) (n ∷ new) facts before long each = (
  step s f o n facts.0 before.0 (each 0 s f (omega arith)),
  each_known Fact Step Before After step ss fs known new facts.1 before.1 (omega (arith, long)) (λ i t g lt. each (suc i) t g (omega (arith, lt))),
)

-- the verdicts that are reported
pub reported_known : (a : Circuit) (reported : Subject → Verdict → Type 0) (left : Subject → Type 0) (out : Subject → Verdict → Type 0) → ((s : Subject) (v : Verdict) → reported s v → out s v) →
    ((s : Subject) → left s → out s (or_undecided a s None)) → (ss : List Subject) (known : List (Option Verdict)) → AllZip (IsKnown reported left) ss known → AllZip out ss (all_or_undecided a ss known)
reported_known a reported left out at_reported at_left [] [] h = tt
reported_known a reported left out at_reported at_left [] (o ∷ known) h = absurd h
reported_known a reported left out at_reported at_left (s ∷ ss) [] h = absurd h
reported_known a reported left out at_reported at_left (s ∷ ss) (Some v ∷ known) h = (at_reported s v h.0, reported_known a reported left out at_reported at_left ss known h.1)
reported_known a reported left out at_reported at_left (s ∷ ss) (None ∷ known) h = (at_left s h.0, reported_known a reported left out at_reported at_left ss known h.1)

-- there is one verdict for each pair
pub length_known : (reported : Subject → Verdict → Type 0) (left : Subject → Type 0) (ss : List Subject) (known : List (Option Verdict)) → AllZip (IsKnown reported left) ss known → length known ≡ length ss
length_known reported left [] [] h = refl
length_known reported left [] (o ∷ known) h = absurd h
length_known reported left (s ∷ ss) [] h = absurd h
length_known reported left (s ∷ ss) (o ∷ known) h = let e = length_known reported left ss known h.1 in omega (arith, e)

-- the elements at each place of two lists are related
pub zip_at : {A B : Type 0} (R : A → B → Type 0) (xs : List A) (ys : List B) (i : ℕ) (d : A) (e : B) → AllZip R xs ys → i < length xs → R (get_or xs i d) (get_or ys i e)
zip_at R [] ys i d e h lt = absurd (omega arith)
zip_at R (x ∷ xs) [] i d e h lt = absurd h
zip_at R (x ∷ xs) (y ∷ ys) zero d e h lt = h.0
zip_at R (x ∷ xs) (y ∷ ys) (suc i) d e h lt = zip_at R xs ys i d e h.1 (omega (arith, lt))

pub zip_size : {A B : Type 0} (R : A → B → Type 0) (xs : List A) (ys : List B) → AllZip R xs ys → length ys ≡ length xs
zip_size R [] [] h = refl
zip_size R [] (y ∷ ys) h = absurd h
zip_size R (x ∷ xs) [] h = absurd h
zip_size R (x ∷ xs) (y ∷ ys) h = let e = zip_size R xs ys h.1 in omega (arith, e)
