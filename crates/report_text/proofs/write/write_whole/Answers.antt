use Rattle.std.proofs.Common.{◌∙◌}
use Rattle.report_text.proofs.Written.{appends_more, still, goes_on}
use Rattle.report_text.proofs.write.write_whole.Goals as goal

pub loop-rest-preserved : goal.loop-rest-preserved
loop-rest-preserved g c =
    let i = c.loop-rest.invariant in
    let m = appends_more _ _ _ _ c.split_at.result.0.now _ _ c.split_at.result.1.now i.1 c.split_at.ensures.by_index.0 i.2
    (rw c.split_at.ensures.front c.in_ok-count.ensures.bytes) in
    (m.0, m.1, m.2, still _ _ c.in_ok-count.ensures.failed ∙ i.3, goes_on _ _ c.in_ok-count.count c.loop-rest.rest.now c.if-count-eq0.false c.in_ok-count.ensures.stopped ∙ i.4)
