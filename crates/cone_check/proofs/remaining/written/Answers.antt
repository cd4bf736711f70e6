use Rattle.cone_check.proofs.Written.{low_step, written_step}
use Rattle.cone_check.proofs.remaining.written.Goals as goal

pub loop-job-preserved : goal.loop-job-preserved
loop-job-preserved c =
    let known = c.loop-job.all.items in
    let new = c.put.new.all.items in
    let rest = c.loop-job.job-iterator.rest.items in
    let more = c.next.new.self.rest.items in
    let job = c.in-Some.job in
    record {
      low = low_step known new rest more job job.place c.in_ok-one.one c.in-Some.ensures.steps.0 c.put.ensures c.loop-job.invariant.low;
      same = written_step known new rest more job c.in_ok-one.one _ c.in-Some.ensures.steps.0 c.in_ok-one.was c.put.ensures c.loop-job.invariant.same;
    }
