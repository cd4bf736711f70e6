-- The batches of a round, each of which is judged by one thread, and the results of their jobs, which are written at
-- the places of their pairs.
use Rattle.std.specs.Prelude.{◌≡◌, ◌+◌, ◌*◌, ◌/◌, ◌%◌, ◌≤◌, ℕ, zero, suc, ◌++◌, min, Bool, cond, nat_lt, not, is_some, List, [], ◌∷◌, map, flat_map, sum, set, length, slice_index_or}
use Rattle.std.specs.Prelude.{All, IsPermutation, Option, None, Result, Ok, Err}
use Rattle.expand_work.specs.Bounds.{WaveBound}
use Rattle.report_text.specs.declared.verdict.Verdict.{Verdict}
use Rattle.compare_built.specs.declared.fault.CheckFault.{CheckFault}
use Rattle.compare_built.specs.declared.subject.Subject.{Subject}
use Rattle.cone_check.specs.declared.batches.Batch.{Batch}
use Rattle.cone_check.specs.declared.batches.PairJob.{PairJob}
use Rattle.cone_check.specs.declared.pair_cones.ConeContext.{ConeContext}
use Rattle.cone_check.specs.ConeRounds.{IsInContext, IsJobResult}

-- ---- batches at once

-- how many pairs are judged at the same time: at most one for each worker, at most as many as are left, and no more
-- than can each have the budget while all of them are within the limit
abbrev pub pairs_at_once : (limit budget workers left : ℕ) → ℕ
pairs_at_once limit budget workers left = min (min (limit / budget) workers) left

-- the workers of the batch at this place, if so many batches share so many workers: the first batches have one more
-- than the others if the workers cannot be shared evenly
abbrev pub batch_workers : (workers batches place : ℕ) → ℕ
batch_workers workers batches place = workers / batches + cond (nat_lt place (workers % batches)) 1 0

-- The batches share all workers: each has at least one, and none has more than one more than an even share.
pub record ShareWorkers (workers : ℕ) (parts : List ℕ) : Type 0 where
  pub some : All (λ n. 1 ≤ n) parts
  pub even : All (λ n. n ≤ suc (workers / length parts)) parts
  pub all : sum parts ≡ workers

-- the workers of each batch
abbrev pub workers_of : List Batch → List ℕ
workers_of batches = map (λ (b : Batch). b.workers.count) batches

-- Batches may be judged at the same time: they share the workers, and the budgets of all batches together are within
-- the limit.
pub record AreAtOnce (workers limit budget : ℕ) (batches : List Batch) : Type 0 where
  pub shared : ShareWorkers workers (workers_of batches)
  pub nodes : length batches * budget ≤ limit

-- ---- jobs

-- the jobs of each batch
abbrev pub jobs_in : List Batch → List (List PairJob)
jobs_in batches = map (λ (b : Batch). b.jobs.items) batches

-- the jobs of all batches, those of one batch after those of the batch before
abbrev pub jobs_of : List Batch → List PairJob
jobs_of batches = flat_map (λ (jobs : List PairJob). jobs) (jobs_in batches)

-- lists of which the one at this place has one more element at its end
abbrev pub put_at : {X : Type 0} → ℕ → X → List (List X) → List (List X)
put_at n x [] = []
put_at zero x (batch ∷ batches) = (batch ++ x ∷ []) ∷ batches
put_at (suc n) x (batch ∷ batches) = batch ∷ put_at n x batches

-- the pair of a job is the one at its place among all pairs
abbrev pub IsJobFor : List Subject → PairJob → Type 0
IsJobFor subjects t = t.subject ≡ slice_index_or subjects t.place t.subject

-- There is exactly one job for each of these places.
pub record AreJobsFor (subjects : List Subject) (places : List ℕ) (jobs : List PairJob) : Type 0 where
  pub one_for_each : IsPermutation places (map (λ (t : PairJob). t.place) jobs)
  pub pairs : All (IsJobFor subjects) jobs

-- the signals of each job's pair are signals of the netlists
abbrev pub AreJobsInContext : {H : Type 0} → ConeContext H → List PairJob → Type 0
AreJobsInContext context jobs = All (λ (t : PairJob). IsInContext context t.subject) jobs

-- after judging, a job has the same pair and place, and a result
abbrev pub IsJobDone : {H : Type 0} → ConeContext H → (budget : ℕ) → (bound : WaveBound) → (old new : PairJob) → Type 0
IsJobDone context budget bound old new = (new.place ≡ old.place) × (new.subject ≡ old.subject) × IsJobResult context budget bound old.subject new.ended

-- There is exactly one job for each of these places, and each has a result.
pub record AreJobsDone {H : Type 0} (context : ConeContext H) (budget : ℕ) (bound : WaveBound) (subjects : List Subject) (places : List ℕ)
    (jobs : List PairJob) : Type 0 where
  pub each : AreJobsFor subjects places jobs
  pub ended : All (λ (t : PairJob). IsJobResult context budget bound t.subject t.ended) jobs

-- ---- verdicts that are known, by place

-- the pair at this place has no verdict yet
abbrev pub is_left : List (Option Verdict) → ℕ → Bool
is_left known place = not (is_some (slice_index_or known place None))

-- a result's fault, or what the rest makes of its value
abbrev pub after : Result (Option Verdict) CheckFault → (Option Verdict → Result (List (Option Verdict)) CheckFault) → Result (List (Option Verdict)) CheckFault
after (Ok o) next = next o
after (Err fault) next = Err fault

-- the verdicts with the results of these jobs, each at the place of its pair, or the first fault among the results
abbrev pub written : List (Option Verdict) → List PairJob → Result (List (Option Verdict)) CheckFault
written known [] = Ok known
written known (t ∷ jobs) = after t.ended (λ o. written (set known t.place o) jobs)
