-- Jobs that are dealt to batches, judged and sorted by place.
use Rattle.std.proofs.Common.{◌≡◌, ◌∙◌, ap, sym, refl, subst, arith, inl, inr, ℕ, zero, suc, ◌+◌, ◌<◌, List, [], ◌∷◌, ◌++◌, map, length, get_or, set, take, All, append_assoc, length-append}
use Rattle.std.proofs.lemmas.Bool.{cases_eq}
use Rattle.std.proofs.lemmas.List.{get_or-set_other, get_or-set_same, get_or_append_left, get_or_default, length-map, map-append, take_more}
use Rattle.std.specs.Prelude.{IsPermutation, flat_map}
use Rattle.std.specs.List.{AllZip}
use Rattle.std.proofs.lemmas.List.Elements.{All-append, All-cons, All-nil, All-tail}
use Rattle.std.proofs.lemmas.List.Sorted.{All-permutation, IsPermutation-append_left, IsPermutation-append_right, IsPermutation-map, IsPermutation-refl, IsPermutation-to_front, IsPermutation-trans}
use Rattle.expand_work.specs.Bounds.{WaveBound}
use Rattle.rayon.proofs.ListFacts.{AllZip-append}
use Rattle.expand_work.specs.declared.crew.Workers.{Workers}
use Rattle.compare_built.specs.declared.subject.Subject.{Subject}
use Rattle.cone_check.specs.declared.pair_cones.ConeContext.{ConeContext}
use Rattle.cone_check.specs.declared.batches.Batch.{Batch}
use Rattle.cone_check.specs.declared.batches.PairJob.{PairJob}
use Rattle.cone_check.specs.ConeRounds.{IsJobResult}
use Rattle.cone_check.specs.Batches.{AreJobsDone, AreJobsFor, IsJobDone, IsJobFor, jobs_in, jobs_of, put_at, workers_of}

-- ---- one more job

moved : {X : Type 0} (xs ys : List X) (x : X) → IsPermutation ((xs ++ ys) ++ x ∷ []) ((xs ++ x ∷ []) ++ ys)
moved xs ys x =
    subst (λ zs. IsPermutation zs ((xs ++ x ∷ []) ++ ys)) (sym (append_assoc xs ys (x ∷ [])))
    (subst (IsPermutation (xs ++ (ys ++ x ∷ []))) (sym (append_assoc xs (x ∷ []) ys))
    (IsPermutation-append_right xs (ys ++ x ∷ []) (x ∷ ys) (IsPermutation-to_front ys x)))

-- a batch with one more job
pub put_is : (batches : List Batch) (n : ℕ) (job : PairJob) (old new : Batch) → n < length batches → old ≡ get_or batches n old → new.jobs.items ≡ old.jobs.items ++ job ∷ [] →
    jobs_in (set batches n new) ≡ put_at n job (jobs_in batches)
put_is [] n job old new low is grown = absurd (omega (arith, low))
put_is (b ∷ batches) zero job old new low is grown = ap (λ h. h ∷ jobs_in batches) (grown ∙ ap (λ (x : Batch). x.jobs.items ++ job ∷ []) is)
put_is (b ∷ batches) (suc n) job old new low is grown = ap (λ hs. b.jobs.items ∷ hs) (put_is batches n job old new (omega (arith, low)) is grown)

abbrev flat : List (List PairJob) → List PairJob
flat hs = flat_map (λ (jobs : List PairJob). jobs) hs

flat_put : (n : ℕ) (job : PairJob) (hs : List (List PairJob)) → n < length hs → IsPermutation (flat hs ++ job ∷ []) (flat (put_at n job hs))
flat_put n job [] low = absurd (omega (arith, low))
flat_put zero job (h ∷ hs) low = moved h (flat hs) job
flat_put (suc n) job (h ∷ hs) low =
    subst (λ xs. IsPermutation xs (h ++ flat (put_at n job hs))) (sym (append_assoc h (flat hs) (job ∷ [])))
    (IsPermutation-append_right h (flat hs ++ job ∷ []) (flat (put_at n job hs)) (flat_put n job hs (omega (arith, low))))

length_put : {X : Type 0} (n : ℕ) (x : X) (batches : List (List X)) → length (put_at n x batches) ≡ length batches
length_put n x [] = refl
length_put zero x (batch ∷ batches) = refl
length_put (suc n) x (batch ∷ batches) = ap suc (length_put n x batches)

-- the number of batches is the same
pub long_put : (old new : List Batch) (n : ℕ) (job : PairJob) → jobs_in new ≡ put_at n job (jobs_in old) → length new ≡ length old
long_put old new n job is = sym (length-map new (λ (b : Batch). b.jobs.items)) ∙ ap length is ∙ length_put n job (jobs_in old) ∙ length-map old (λ (b : Batch). b.jobs.items)

-- its workers are the same
pub workers_kept : (batches : List Batch) (n : ℕ) (old new : Batch) → n < length batches → old ≡ get_or batches n old → new.workers ≡ old.workers → workers_of (set batches n new) ≡ workers_of batches
workers_kept [] n old new low is same = absurd (omega (arith, low))
workers_kept (b ∷ batches) zero old new low is same = ap (λ (w : Workers). w.count ∷ workers_of batches) (same ∙ ap (λ (x : Batch). x.workers) is)
workers_kept (b ∷ batches) (suc n) old new low is same = ap (λ ns. b.workers.count ∷ ns) (workers_kept batches n old new (omega (arith, low)) is same)

added : (ss : List Subject) (ps : List ℕ) (k : ℕ) (job : PairJob) (old new : List PairJob) → k < length ps → job.place ≡ get_or ps k 0 → IsJobFor ss job → IsPermutation (old ++ job ∷ []) new →
    AreJobsFor ss (take k ps) old → AreJobsFor ss (take (k + 1) ps) new
added ss ps k job old new low at of shuffled are =
    let place : PairJob → ℕ = λ (t : PairJob). t.place in
    let more : take (k + 1) ps ≡ take k ps ++ job.place ∷ [] = take_more ps k 0 low ∙ ap (λ p. take k ps ++ p ∷ []) (sym at) in
    record {
      one_for_each = subst (λ xs. IsPermutation xs (map place new)) (sym more)
          (IsPermutation-trans (take k ps ++ job.place ∷ []) (map place old ++ job.place ∷ []) (map place new)
          (IsPermutation-append_left (job.place ∷ []) (take k ps) (map place old) are.one_for_each)
          (subst (λ xs. IsPermutation xs (map place new)) (map-append place old (job ∷ [])) (IsPermutation-map place (old ++ job ∷ []) new shuffled)));
      pairs = All-permutation (IsJobFor ss) (old ++ job ∷ []) new shuffled (All-append (IsJobFor ss) old (job ∷ []) are.pairs (All-cons (IsJobFor ss) job [] of (All-nil (IsJobFor ss))));
    }

-- the pair at one more place is dealt
pub dealt_more : (ss : List Subject) (ps : List ℕ) (k n : ℕ) (job : PairJob) (old new : List Batch) → k < length ps → n < length old → job.place ≡ get_or ps k 0 → IsJobFor ss job → jobs_in new ≡ put_at n job (jobs_in old) →
    AreJobsFor ss (take k ps) (jobs_of old) → AreJobsFor ss (take (k + 1) ps) (jobs_of new)
dealt_more ss ps k n job old new low inside at of put are =
    added ss ps k job (jobs_of old) (jobs_of new) low at of
    (subst (λ hs. IsPermutation (jobs_of old ++ job ∷ []) (flat hs)) (sym put) (flat_put n job (jobs_in old) (let e = length-map old (λ (b : Batch). b.jobs.items) in omega (arith, inside, e)))) are

-- before the first place there are no jobs
pub dealt_none : (ss : List Subject) (ps : List ℕ) (batches : List Batch) → jobs_of batches ≡ [] → AreJobsFor ss (take 0 ps) (jobs_of batches)
dealt_none ss ps batches none = subst (AreJobsFor ss []) (sym none) (record { one_for_each = IsPermutation-refl []; pairs = All-nil (IsJobFor ss) })

-- ---- jobs of places

-- a property of the values of a function is one of its arguments
pub all_unmap : {X : Type 0} {Y : Type 0} (P : Y → Type 0) (f : X → Y) (xs : List X) → All P (map f xs) → All (λ x. P (f x)) xs
all_unmap P f [] all i d low = absurd (omega (arith, low))
all_unmap P f (x ∷ xs) all zero d low = all 0 (f x) (omega arith)
all_unmap P f (x ∷ xs) all (suc i) d low = all_unmap P f xs (All-tail P (f x) (map f xs) all) i d (omega (arith, low))

-- a property of all pairs is one of the pairs of the jobs
pub jobs_inside : (P : Subject → Type 0) (ss : List Subject) (ps : List ℕ) (jobs : List PairJob) → All P ss → All (λ p. p < length ss) ps → AreJobsFor ss ps jobs → All (λ (t : PairJob). P t.subject) jobs
jobs_inside P ss ps jobs all low are i d lt =
    let t = get_or jobs i d in
    let below : t.place < length ss = all_unmap (λ p. p < length ss) (λ (u : PairJob). u.place) jobs (All-permutation (λ p. p < length ss) ps (map (λ (u : PairJob). u.place) jobs) are.one_for_each low) i d lt in
    subst P (sym (are.pairs i d lt)) (all t.place t.subject below)

-- ---- batches by place

-- a relation of the jobs of each batch is one of all jobs
pub zip_in : (R : PairJob → PairJob → Type 0) (old new : List Batch) → length new ≡ length old →
    ((i : ℕ) (b : Batch) → i < length old → AllZip R (get_or old i b).jobs.items (get_or new i b).jobs.items) → AllZip R (jobs_of old) (jobs_of new)
zip_in R [] [] long each = tt
zip_in R [] (y ∷ new) long each = absurd (omega (arith, long))
zip_in R (x ∷ old) [] long each = absurd (omega (arith, long))
zip_in R (x ∷ old) (y ∷ new) long each =
    AllZip-append R x.jobs.items (jobs_of old) y.jobs.items (jobs_of new) (each 0 x (omega arith)) (zip_in R old new (omega (arith, long)) (λ i z lt. each (suc i) z (omega (arith, lt))))

all_front : {X : Type 0} (P : X → Type 0) (xs ys : List X) → All P (xs ++ ys) → All P xs
all_front P xs ys all i d low = subst P (get_or_append_left xs ys d i low) (all i d (omega (arith, low, length-append xs ys)))

all_back : {X : Type 0} (P : X → Type 0) (xs ys : List X) → All P (xs ++ ys) → All P ys
all_back P [] ys all = all
all_back P (x ∷ xs) ys all = all_back P xs ys (All-tail P x (xs ++ ys) all)

-- a property of all jobs is one of the jobs of each batch
pub batch_in : (P : PairJob → Type 0) (batches : List Batch) (i : ℕ) (batch : Batch) → i < length batches → batch ≡ get_or batches i batch → All P (jobs_of batches) → All P batch.jobs.items
batch_in P [] i batch low is all = absurd (omega (arith, low))
batch_in P (b ∷ batches) zero batch low is all = subst (λ (x : Batch). All P x.jobs.items) (sym is) (all_front P b.jobs.items (jobs_of batches) all)
batch_in P (b ∷ batches) (suc i) batch low is all = batch_in P batches i batch (omega (arith, low)) is (all_back P b.jobs.items (jobs_of batches) all)

-- the same relation of the batches that a call was given and has left
pub left_there : (R : PairJob → PairJob → Type 0) (x y a b : Batch) → a ≡ x → b ≡ y → AllZip R a.jobs.items b.jobs.items → AllZip R x.jobs.items y.jobs.items
left_there R x y a b ax by h = subst (λ (v : Batch). AllZip R x.jobs.items v.jobs.items) by (subst (λ (v : Batch). AllZip R v.jobs.items b.jobs.items) ax h)

-- a relation at each place is one of the lists
pub zip_of : {X : Type 0} (R : X → X → Type 0) (old new : List X) → length new ≡ length old → ((i : ℕ) (x : X) → i < length old → R (get_or old i x) (get_or new i x)) → AllZip R old new
zip_of R [] [] long each = tt
zip_of R [] (y ∷ new) long each = absurd (omega (arith, long))
zip_of R (x ∷ old) [] long each = absurd (omega (arith, long))
zip_of R (x ∷ old) (y ∷ new) long each = (each 0 x (omega arith), zip_of R old new (omega (arith, long)) (λ i z lt. each (suc i) z (omega (arith, lt))))

-- one more element: the new one at its place
pub one_more_done : {X : Type 0} (R : X → X → Type 0) (olds items : List X) (k : ℕ) (old new : X) →
    k < length olds → k < length items → old ≡ get_or olds k old → R old new →
    ((i : ℕ) (x : X) → i < k → R (get_or olds i x) (get_or items i x)) →
    (i : ℕ) (x : X) → i < k + 1 → R (get_or olds i x) (get_or (set items k new) i x)
one_more_done R olds items k old new low lower at step made i x lt = elim (cases_eq i k) [
  | inl same ↦
      subst (λ j. R (get_or olds j x) (get_or (set items k new) j x)) (sym same)
      (subst (R (get_or olds k x)) (sym (get_or-set_same items k new x lower))
      (subst (λ o. R o new) (at ∙ get_or_default olds k old x low) step))
  | inr other ↦ subst (R (get_or olds i x)) (sym (get_or-set_other items k i new x other)) (made i x (omega (arith, lt, other)))
]

-- ---- jobs that are judged

module _ {H : Type 0} (whole : ConeContext H) (budget : ℕ) (bound : WaveBound) where
  same_places : (old new : List PairJob) → AllZip (IsJobDone whole budget bound) old new → map (λ (t : PairJob). t.place) new ≡ map (λ (t : PairJob). t.place) old
  same_places [] [] each = refl
  same_places [] (y ∷ new) each = absurd each
  same_places (x ∷ old) [] each = absurd each
  same_places (x ∷ old) (y ∷ new) each =
      ap (λ p. p ∷ map (λ (t : PairJob). t.place) new) each.0.0 ∙ ap (λ ps. x.place ∷ ps) (same_places old new each.1)

  same_pair : (ss : List Subject) (x y : PairJob) → IsJobDone whole budget bound x y → IsJobFor ss x → IsJobFor ss y
  same_pair ss x y done of = subst (λ s. s ≡ get_or ss y.place s) (sym done.1) (subst (λ p. x.subject ≡ get_or ss p x.subject) (sym done.0) of)

  same_pairs : (ss : List Subject) (old new : List PairJob) → AllZip (IsJobDone whole budget bound) old new → All (IsJobFor ss) old → All (IsJobFor ss) new
  same_pairs ss [] [] each all = all
  same_pairs ss [] (y ∷ new) each all = absurd each
  same_pairs ss (x ∷ old) [] each all = absurd each
  same_pairs ss (x ∷ old) (y ∷ new) each all =
      All-cons (IsJobFor ss) y new (same_pair ss x y each.0 (all 0 x (omega arith))) (same_pairs ss old new each.1 (All-tail (IsJobFor ss) x old all))

  all_ended : (old new : List PairJob) → AllZip (IsJobDone whole budget bound) old new → All (λ (t : PairJob). IsJobResult whole budget bound t.subject t.ended) new
  all_ended [] [] each = All-nil (λ (t : PairJob). IsJobResult whole budget bound t.subject t.ended)
  all_ended [] (y ∷ new) each = absurd each
  all_ended (x ∷ old) [] each = absurd each
  all_ended (x ∷ old) (y ∷ new) each =
      All-cons (λ (t : PairJob). IsJobResult whole budget bound t.subject t.ended) y new
      (subst (λ s. IsJobResult whole budget bound s y.ended) (sym each.0.1) each.0.2) (all_ended old new each.1)

  pub jobs_done : (ss : List Subject) (ps : List ℕ) (old mid new : List PairJob) → AreJobsFor ss ps old → AllZip (IsJobDone whole budget bound) old mid → IsPermutation mid new →
      AreJobsDone whole budget bound ss ps new
  jobs_done ss ps old mid new are each shuffled =
      let place : PairJob → ℕ = λ (t : PairJob). t.place in
      record {
        each = record {
          one_for_each = IsPermutation-trans ps (map place mid) (map place new) (subst (IsPermutation ps) (sym (same_places old mid each)) are.one_for_each) (IsPermutation-map place mid new shuffled);
          pairs = All-permutation (IsJobFor ss) mid new shuffled (same_pairs ss old mid each are.pairs);
        };
        ended = All-permutation (λ (t : PairJob). IsJobResult whole budget bound t.subject t.ended) mid new shuffled (all_ended old mid each);
      }
