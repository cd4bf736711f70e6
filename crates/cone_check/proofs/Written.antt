-- The results of jobs, written at the places of their pairs, and the round that they make.
use Rattle.std.proofs.Common.{◌≡◌, ◌≢◌, ◌∙◌, ap, sym, refl, subst, arith, inl, inr, ◌⊎◌, ℕ, zero, suc, ◌<◌, Bool, true, false, List, [], ◌∷◌, map, length, get_or, set, All, Option, Some, None, Result, Ok, Err}
use Rattle.std.specs.Prelude.{Contains, IsPermutation, cond, filter, is_some, not}
use Rattle.std.proofs.lemmas.Bool.{cases_eq}
use Rattle.std.proofs.lemmas.List.{get_or-set_other, get_or-set_same, get_or_default, length-set}
use Rattle.std.proofs.lemmas.List.Elements.{All-tail, filter_passes, All-filter}
use Rattle.std.proofs.lemmas.List.Sorted.{All-permutation, Contains-permutation}
use Rattle.expand_work.specs.Bounds.{MayStop, WaveBound}
use Rattle.report_text.specs.declared.verdict.Verdict.{Verdict}
use Rattle.compare_built.specs.declared.fault.CheckFault.{CheckFault}
use Rattle.compare_built.specs.declared.subject.Subject.{Subject}
use Rattle.net_order.specs.Force.{numbers_below}
use Rattle.cone_check.specs.declared.pair_cones.ConeContext.{ConeContext}
use Rattle.cone_check.specs.declared.batches.PairJob.{PairJob}
use Rattle.cone_check.specs.ConeRounds.{EndsPairs, IsJobResult, IsJudgedIn, IsPlaceOfRound, IsRoundOf}
use Rattle.cone_check.specs.Batches.{AreJobsDone, after, is_left, written}
use Rattle.cone_check.proofs.Batching.{all_unmap}
use Rattle.pair_facts.proofs.SerpentineOrder.{number_at, numbers_inside, numbers_long}

-- ---- lists

nothing_in : (i : ℕ) → Contains [] i → ⊥
nothing_in i (k, low, at) = omega (arith, low)

nothing_among : (i : ℕ) (ps : List ℕ) → length ps ≡ 0 → Contains ps i → ⊥
nothing_among i ps none (k, low, at) = omega (arith, none, low)

in_tail : (x i : ℕ) (ps : List ℕ) → Contains (x ∷ ps) i → i ≢ x → Contains ps i
in_tail x i ps (zero, low, at) other = absurd (other (sym at))
in_tail x i ps (suc k, low, at) other = (k, omega (arith, low), at)

in_filter : (p : ℕ → Bool) (xs : List ℕ) (x : ℕ) → p x ≡ true → Contains xs x → Contains (filter p xs) x
in_filter p [] x passes (k, low, at) = absurd (omega (arith, low))
in_filter p (y ∷ xs) x passes (zero, low, at) =
    subst (λ b. Contains (cond b (y ∷ filter p xs) (filter p xs)) x) (sym (ap p at ∙ passes)) (0, omega arith, at)
in_filter p (y ∷ xs) x passes (suc k, low, at) = elim (p y) as (λ b. Contains (cond b (y ∷ filter p xs) (filter p xs)) x) [
  | true ↦ let (j, less, is) = in_filter p xs x passes (k, omega (arith, low), at) in (suc j, omega (arith, less), is)
  | false ↦ in_filter p xs x passes (k, omega (arith, low), at)
]

-- ---- results that are written

after_ok : (r : Result (Option Verdict) CheckFault) (next : Option Verdict → Result (List (Option Verdict)) CheckFault) (all : List (Option Verdict)) → after r next ≡ Ok all →
    (o : Option Verdict) × (r ≡ Ok o) × (next o ≡ Ok all)
after_ok (Ok o) next all e = (o, refl, e)
after_ok (Err fault) next all e = cc

after_err : (r : Result (Option Verdict) CheckFault) (next : Option Verdict → Result (List (Option Verdict)) CheckFault) (fault : CheckFault) → after r next ≡ Err fault →
    (r ≡ Err fault) ⊎ ((o : Option Verdict) × (next o ≡ Err fault))
after_err (Ok o) next fault e = inr (o, e)
after_err (Err other) next fault e = inl (let same : other ≡ fault = cc in ap Err same)

pub written_long : (jobs : List PairJob) (known all : List (Option Verdict)) → written known jobs ≡ Ok all → length all ≡ length known
written_long [] known all e = let same : known ≡ all = cc in sym (ap length same)
written_long (t ∷ jobs) known all e =
    let (o, is, rest) = after_ok t.ended (λ o. written (set known t.place o) jobs) all e in
    written_long jobs (set known t.place o) all rest ∙ length-set known t.place o

-- the result of one more job is written
pub written_step : (known new : List (Option Verdict)) (rest more : List PairJob) (t : PairJob) (o : Option Verdict) (whole : Result (List (Option Verdict)) CheckFault) → rest ≡ t ∷ more → t.ended ≡ Ok o →
    new ≡ set known t.place o → written known rest ≡ whole → written new more ≡ whole
written_step known new rest more t o whole next is grown same =
    ap (λ ks. written ks more) grown ∙ sym (ap (λ r. after r (λ v. written (set known t.place v) more)) is) ∙ ap (written known) (sym next) ∙ same

pub low_step : (known new : List (Option Verdict)) (rest more : List PairJob) (t : PairJob) (p : ℕ) (o : Option Verdict) → rest ≡ t ∷ more → new ≡ set known p o → All (λ (u : PairJob). u.place < length known) rest →
    All (λ (u : PairJob). u.place < length new) more
low_step known new rest more t p o next grown low =
    subst (λ n. All (λ (u : PairJob). u.place < n) more) (sym (ap length grown ∙ length-set known p o))
    (All-tail (λ (u : PairJob). u.place < length known) t more (subst (All (λ (u : PairJob). u.place < length known)) next low))

-- a fault is that of one of the jobs
pub written_fault : (R : CheckFault → Type 0) (jobs : List PairJob) (known : List (Option Verdict)) (fault : CheckFault) → All (λ (t : PairJob). t.ended ≡ Err fault → R fault) jobs → written known jobs ≡ Err fault → R fault
written_fault R [] known fault ends e = cc
written_fault R (t ∷ jobs) known fault ends e = elim (after_err t.ended (λ o. written (set known t.place o) jobs) fault e) [
  | inl here ↦ ends 0 t (omega arith) here
  | inr (o, later) ↦ written_fault R jobs (set known t.place o) fault (All-tail (λ (u : PairJob). u.ended ≡ Err fault → R fault) t jobs ends) later
]

module _ (P : ℕ → Option Verdict → Type 0) where
  abbrev Ends : PairJob → Type 0
  Ends t = (o : Option Verdict) → t.ended ≡ Ok o → P t.place o

  -- a property of each result is one of its place; at other places the property from before holds
  pub written_all : (jobs : List PairJob) (known all : List (Option Verdict)) → All Ends jobs → All (λ (t : PairJob). t.place < length known) jobs → written known jobs ≡ Ok all →
      (i : ℕ) → i < length known → (Contains (map (λ (t : PairJob). t.place) jobs) i) ⊎ (P i (get_or known i None)) → P i (get_or all i None)
  written_all [] known all ends low e i lt (inl among) = absurd (nothing_in i among)
  written_all [] known all ends low e i lt (inr before) = let same : known ≡ all = cc in subst (λ os. P i (get_or os i None)) same before
  written_all (t ∷ jobs) known all ends low e i lt which =
      let (o, is, rest) = after_ok t.ended (λ o. written (set known t.place o) jobs) all e in
      let long : length (set known t.place o) ≡ length known = length-set known t.place o in
      let here : t.place < length known = low 0 t (omega arith) in
      written_all jobs (set known t.place o) all (All-tail Ends t jobs ends)
      (subst (λ n. All (λ (u : PairJob). u.place < n) jobs) (sym long) (All-tail (λ (u : PairJob). u.place < length known) t jobs low)) rest i (omega (arith, lt, long))
      (elim (cases_eq i t.place) [
        | inl same ↦ inr (subst (λ k. P k (get_or (set known t.place o) k None)) (sym same) (subst (P t.place) (sym (get_or-set_same known t.place o None here)) (ends 0 t (omega arith) o is)))
        | inr other ↦ elim which [
          | inl among ↦ inl (in_tail t.place i (map (λ (u : PairJob). u.place) jobs) among other)
          | inr before ↦ inr (subst (P i) (sym (get_or-set_other known t.place i o None other)) before)
        ]
      ])

-- ---- a round

none_at : (o : Option Verdict) → not (is_some o) ≡ true → o ≡ None
none_at None e = refl
none_at (Some v) e = cc

-- the pairs that are left have no verdict, and their places are in range
pub left_none : (known : List (Option Verdict)) (order : List ℕ) → All (λ p. get_or known p None ≡ None) (filter (is_left known) order)
left_none known order i d low = none_at (get_or known (get_or (filter (is_left known) order) i d) None) (filter_passes (is_left known) order i d low)

pub left_low : (known : List (Option Verdict)) (order : List ℕ) (n : ℕ) → IsPermutation (numbers_below n) order → All (λ p. p < n) (filter (is_left known) order)
left_low known order n shuffled = All-filter (is_left known) (λ p. p < n) order (All-permutation (λ p. p < n) (numbers_below n) order shuffled (numbers_inside n))

module _ {H : Type 0} (whole : ConeContext H) (budget : ℕ) (bound : WaveBound) (ss : List Subject) (known : List (Option Verdict)) (order : List ℕ) (jobs : List PairJob)
    (long : length known ≡ length ss) (shuffled : IsPermutation (numbers_below (length ss)) order) (done : AreJobsDone whole budget bound ss (filter (is_left known) order) jobs) where
  abbrev At : ℕ → Option Verdict → Type 0
  At i o = (s : Subject) → IsPlaceOfRound whole budget bound (get_or ss i s) (get_or known i None) o

  of_places : (P : ℕ → Type 0) → All P (filter (is_left known) order) → All (λ (t : PairJob). P t.place) jobs
  of_places P all = all_unmap P (λ (t : PairJob). t.place) jobs (All-permutation P (filter (is_left known) order) (map (λ (t : PairJob). t.place) jobs) done.each.one_for_each all)

  pub low_places : All (λ (t : PairJob). t.place < length known) jobs
  low_places = subst (λ n. All (λ (t : PairJob). t.place < n) jobs) (sym long) (of_places (λ p. p < length ss) (left_low known order (length ss) shuffled))

  ends : All (Ends At) jobs
  ends i d low = λ o is s.
      let t = get_or jobs i d in
      let none : get_or known t.place None ≡ None = of_places (λ p. get_or known p None ≡ None) (left_none known order) i d low in
      let below : t.place < length ss = of_places (λ p. p < length ss) (left_low known order (length ss) shuffled) i d low in
      let pair : t.subject ≡ get_or ss t.place s = done.each.pairs i d low ∙ get_or_default ss t.place t.subject s below in
      subst (λ k. IsPlaceOfRound whole budget bound (get_or ss t.place s) k o) (sym none)
      (subst (λ u. IsJudgedIn whole budget bound u o) pair (subst (IsJobResult whole budget bound t.subject) is (done.ended i d low)))

  left_at : (i : ℕ) → i < length ss → get_or known i None ≡ None → Contains (map (λ (t : PairJob). t.place) jobs) i
  left_at i lt none =
      Contains-permutation (filter (is_left known) order) (map (λ (t : PairJob). t.place) jobs) i done.each.one_for_each
      (in_filter (is_left known) order i (ap (λ (o : Option Verdict). not (is_some o)) none)
      (Contains-permutation (numbers_below (length ss)) order i shuffled (i, let n = numbers_long (length ss) in omega (arith, lt, n), number_at (length ss) i i lt)))

  before : (i : ℕ) → i < length ss → (Contains (map (λ (t : PairJob). t.place) jobs) i) ⊎ (At i (get_or known i None))
  before i lt = by (get_or known i None) refl
    where
      by : (o : Option Verdict) → get_or known i None ≡ o → (Contains (map (λ (t : PairJob). t.place) jobs) i) ⊎ (At i (get_or known i None))
      by None e = inl (left_at i lt e)
      by (Some v) e = inr (λ s. subst (λ o. IsPlaceOfRound whole budget bound (get_or ss i s) o o) (sym e) refl)

  pub round_of : (all : List (Option Verdict)) → written known jobs ≡ Ok all → IsRoundOf whole budget bound ss known all
  round_of all e = record {
    each = written_long jobs known all e;
    places = λ i s lt. written_all At jobs known all ends low_places e i (let n = long in omega (arith, lt, n)) (before i lt) s;
  }

  pub fault_of : (fault : CheckFault) → written known jobs ≡ Err fault → EndsPairs fault
  fault_of fault e = written_fault EndsPairs jobs known fault (λ i d low is. subst (IsJobResult whole budget bound (get_or jobs i d).subject) is (done.ended i d low)) e

-- a round that has no pair to judge
pub round_none : {H : Type 0} (whole : ConeContext H) (budget : ℕ) (bound : WaveBound) (ss : List Subject) (known : List (Option Verdict)) (order : List ℕ) → length known ≡ length ss → IsPermutation (numbers_below (length ss)) order →
    length (filter (is_left known) order) ≡ 0 → IsRoundOf whole budget bound ss known known
round_none whole budget bound ss known order long shuffled none = record { each = refl; places = λ i s lt. at i lt (get_or known i None) refl (get_or ss i s) }
  where
    at : (i : ℕ) → i < length ss → (o : Option Verdict) → get_or known i None ≡ o → (s : Subject) → IsPlaceOfRound whole budget bound s (get_or known i None) (get_or known i None)
    at i lt (Some v) e s = subst (λ o. IsPlaceOfRound whole budget bound s o o) (sym e) refl
    at i lt None e s =
        absurd (nothing_among i (filter (is_left known) order) none (in_filter (is_left known) order i (ap (λ (o : Option Verdict). not (is_some o)) e)
        (Contains-permutation (numbers_below (length ss)) order i shuffled (i, let n = numbers_long (length ss) in omega (arith, lt, n), number_at (length ss) i i lt))))

-- a round that does not begin since the run has stopped
pub round_stopped : {H : Type 0} (whole : ConeContext H) (budget : ℕ) (bound : WaveBound) (ss : List Subject) (known : List (Option Verdict)) → MayStop bound → IsRoundOf whole budget bound ss known known
round_stopped whole budget bound ss known stops = record { each = refl; places = λ i s lt. at (get_or known i None) (get_or ss i s) }
  where
    at : (o : Option Verdict) (s : Subject) → IsPlaceOfRound whole budget bound s o o
    at (Some v) s = refl
    at None s = inr stops
