use Rattle.std.proofs.Common.{◌≡◌, List, All, rules, subst, sym}
use Rattle.std.specs.Prelude.{IsPermutation}
use Rattle.std.specs.List.{AllZip}
use Rattle.std.specs.Vec.{with_items}
use Rattle.std.proofs.lemmas.List.{with_items_is}
use Rattle.rayon.proofs.ListFacts.{IfOk-then}
use Rattle.cone_check.specs.declared.batches.Batch.{Batch}
use Rattle.cone_check.specs.declared.batches.PairJob.{PairJob}
use Rattle.cone_check.specs.Batches.{IsJobDone, jobs_of}
use Rattle.cone_check.specs.ConeRounds.{IsInContext}
use Rattle.cone_check.proofs.Batching.{jobs_done, jobs_inside}
use Rattle.cone_check.proofs.rounds.judge_at.Goals as goal

pub run_batches-requires-clause-in_range : goal.run_batches-requires-clause-in_range
run_batches-requires-clause-in_range g c κs within =
    let w = c.args.context.now in
    subst (λ (bs : List Batch). All (λ (t : PairJob). IsInContext w t.subject) (jobs_of bs)) (sym c.as_mut_slice.ensures.value)
    (jobs_inside (IsInContext w) c.args.subjects.now c.args.places.now (jobs_of c.in_ok-batches.batches.items) c.requires.in_range c.requires.places c.in_ok-batches.ensures.jobs)

pub returns : goal.returns
returns g c =
    let w = c.args.context.now in
    let bound = g.G.Monitor.bound c.args.monitor.now in
    let R : PairJob → PairJob → Type 0 = IsJobDone w c.args.budget bound in
    let old = c.in_ok-batches.batches.items in
    let new = c.run_batches.new.batches in
    let stored : (with_items c.in_ok-batches.batches new).items ≡ new = with_items_is c.in_ok-batches.batches new (search rules) in
    let judged : AllZip R (jobs_of old) (jobs_of new) = subst (λ (bs : List Batch). AllZip R (jobs_of bs) (jobs_of new)) c.as_mut_slice.ensures.value c.run_batches.ensures in
    IfOk-then c.gathered.result _ _ c.gathered.ensures.same
    (λ v shuffled. jobs_done w c.args.budget bound c.args.subjects.now c.args.places.now (jobs_of old) (jobs_of new) v.items c.in_ok-batches.ensures.jobs judged
    (subst (λ (bs : List Batch). IsPermutation (jobs_of bs) v.items) stored shuffled))
