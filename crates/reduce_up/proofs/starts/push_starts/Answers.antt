use Rattle.std.proofs.Common.{◌<◌, ◌∙◌, arith, length}
use Rattle.expand_work.specs.WavePorts.{row_of}
use Rattle.reduce_up.proofs.Numbering.{starts_more, start_more, by_owner_at}
use Rattle.reduce_up.proofs.starts.push_starts.Goals as goal

pub loop-worker-preserved : goal.loop-worker-preserved
loop-worker-preserved c =
    let k = c.loop-worker.worker in
    let lt : k < length c.args.rows.now = (let t = c.loop-worker-test.true in omega (arith, t)) in
    record {
      starts = λ p by_owner. starts_more (row_of p) c.args.level k c.args.starts.now.items c.loop-worker.starts.items c.push.new.self.items c.loop-worker.start (c.loop-worker.invariant.starts p by_owner) (c.loop-worker.invariant.start p by_owner) c.in_ok-push.ensures.items;
      start = λ p by_owner. start_more (row_of p) c.args.level k c.loop-worker.start c.len-count.result (length p) c.row.result.now (c.loop-worker.invariant.start p by_owner)
          (c.row.ensures ∙ by_owner_at p c.args.rows.now by_owner k c.args.level c.index-rows-worker.result lt c.index-rows-worker.is) c.len-count.ensures;
    }
