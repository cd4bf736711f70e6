use Rattle.std.proofs.Common.{arith, sym, ◌≡◌, ◌+◌, map, take, max}
use Rattle.net_bench.specs.Circuit.{greatest}
use Rattle.gate_plan.specs.Building.{ranks_of}
use Rattle.net_bench.proofs.Greatest.{greatest_next}
use Rattle.gate_plan.proofs.sides.last_rank.Goals as goal

pub loop-i-preserved : goal.loop-i-preserved
loop-i-preserved c =
    let sides = c.args.sides.now in
    let next : greatest (map ranks_of (take (c.loop-i.i + 1) sides)) ≡ max (greatest (map ranks_of (take c.loop-i.i sides))) (ranks_of c.index-sides-i.result) =
    greatest_next ranks_of sides c.loop-i.i c.index-sides-i.result (omega arith) (sym c.index-sides-i.is) in
    let so_far = c.loop-i.invariant in let of_one = c.ranks.ensures in let most = c.max-last.ensures in omega arith
