use Rattle.std.proofs.Common.{take, ℕ}
use Rattle.dd_store.specs.Levels.{list_at}
use Rattle.reduce_up.proofs.Dividing.{listed_more}
use Rattle.wave_doors.proofs.Dividing.{none_divided}
use Rattle.reduce_up.proofs.Rooted.{item_next}
use Rattle.wave_doors.proofs.parallel.divide.Goals as goal

pub loop-pair-init : goal.loop-pair-init
loop-pair-init c = record { sixteen = c.in_ok-lists.ensures.sixteen; divided = none_divided (list_at c.in_ok-lists.lists.items) c.in_ok-lists.ensures.empty }

pub loop-pair-preserved : goal.loop-pair-preserved
loop-pair-preserved c =
    let i : ℕ = c.loop-pair.pair-index in
    record {
      sixteen = c.list_pair.ensures.sixteen;
      divided = rw (item_next c.args.pairs.now i c.pair-item.result c.loop-pair-test.true c.pair-item.is)
          (listed_more (list_at c.loop-pair.lists.items) (list_at c.list_pair.new.lists.items) c.pair-item.result c.in_ok-list_pair.ensures.listed (take i c.args.pairs.now) c.loop-pair.invariant.divided);
    }
