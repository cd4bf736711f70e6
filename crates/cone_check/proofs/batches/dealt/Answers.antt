use Rattle.std.proofs.Common.{◌≡◌, ◌∙◌, ◌<◌, arith, get_or, length, subst, sym}
use Rattle.cone_check.specs.Batches.{IsJobFor, ShareWorkers}
use Rattle.cone_check.proofs.Batching.{dealt_more, dealt_none, long_put}
use Rattle.cone_check.proofs.batches.dealt.Goals as goal

pub loop-position-init : goal.loop-position-init
loop-position-init c = record {
  each = c.in_ok-batches.ensures.one_for_each;
  workers = c.in_ok-batches.ensures.workers;
  jobs = dealt_none c.args.subjects.now c.args.places.now c.in_ok-batches.batches.items c.in_ok-batches.ensures.none;
}

pub loop-position-preserved : goal.loop-position-preserved
loop-position-preserved c =
    let ss = c.args.subjects.now in
    let ps = c.args.places.now in
    let k = c.loop-position.position in
    let job = c.of-job.result in
    let n = c.batch_number-number.result in
    let old = c.loop-position.batches.items in
    let new = c.add_job.new.batches.items in
    let one = c.index-subjects-place.result in
    let before = c.loop-position.invariant in
    let each = before.each in
    let below = c.batch_number-number.ensures.low in
    let inside : n < length old = omega (arith, each, below) in
    let of : IsJobFor ss job = subst (λ s. s ≡ get_or ss job.place s) (sym c.of-job.ensures.subject) (subst (λ p. one ≡ get_or ss p one) (sym c.of-job.ensures.place) c.index-subjects-place.is) in
    record {
      each = long_put old new n job c.in_ok-add_job.ensures.jobs ∙ each;
      workers = subst (ShareWorkers c.args.workers) (sym c.in_ok-add_job.ensures.workers) before.workers;
      jobs = dealt_more ss ps k n job old new c.loop-position-test.true inside c.of-job.ensures.place of c.in_ok-add_job.ensures.jobs before.jobs;
    }
