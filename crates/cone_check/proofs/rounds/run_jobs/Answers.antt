use Rattle.std.proofs.Common.{◌≡◌, ◌∙◌, ◌<◌, length, rules, arith, vec_len}
use Rattle.std.proofs.lemmas.List.{get_or-set_other, length-set}
use Rattle.cone_check.specs.Batches.{IsJobDone}
use Rattle.cone_check.proofs.Batching.{one_more_done, zip_of}
use Rattle.cone_check.proofs.rounds.run_jobs.Goals as goal

pub loop-place-preserved : goal.loop-place-preserved
loop-place-preserved g c =
    let inv = c.loop-place.invariant in
    let place = c.loop-place.place in
    let items = c.loop-place.jobs.items in
    let olds = c.args.jobs.now.items in
    let old = c.index_mut.result.now in
    let new = c.run_job.new.job in
    let long : vec_len c.args.jobs.now ≡ length olds = search rules in
    let end : c.len-place-end.result ≡ length olds = search rules in
    let test = c.loop-place-test.true in
    let each : length items ≡ length olds = inv.each in
    let low : place < length olds = omega (arith, test, end) in
    let lower : place < length items = omega (arith, low, each) in
    record {
      each = length-set items place new ∙ each;
      made = one_more_done (IsJobDone c.args.context.now c.args.budget (g.G.Monitor.bound c.args.monitor.now)) olds items place old new low lower
          (c.index_mut.ensures.value ∙ inv.rest place old (omega arith)) (c.run_job.ensures.place, c.run_job.ensures.subject, c.run_job.ensures.ended) inv.made;
      rest = λ i t le. get_or-set_other items place i new t (λ e. omega (arith, le, e)) ∙ inv.rest i t (omega (arith, le));
    }

pub returns : goal.returns
returns g c =
    let long : vec_len c.args.jobs.now ≡ length c.args.jobs.now.items = search rules in
    let end : c.len-place-end.result ≡ length c.args.jobs.now.items = search rules in
    let last = c.loop-place-test.false in
    zip_of (IsJobDone c.args.context.now c.args.budget (g.G.Monitor.bound c.args.monitor.now)) c.args.jobs.now.items c.loop-place.jobs.items c.loop-place.invariant.each
    (λ i t lt. c.loop-place.invariant.made i t (omega (arith, lt, end, last)))
