use Rattle.std.proofs.Common.{arith, sym, ◌≡◌, ◌+◌, map, take, max}
use Rattle.net_bench.specs.Circuit.{greatest}
use Rattle.gate_plan.specs.Building.{folds_at}
use Rattle.net_bench.proofs.Greatest.{greatest_next}
use Rattle.gate_plan.proofs.sides.most_folds.Goals as goal

pub folds-requires-clause-plan : goal.folds-requires-clause-plan
folds-requires-clause-plan c = c.requires.plans c.index-sides-i.result (c.loop-i.i, omega arith, sym c.index-sides-i.is)

pub loop-i-preserved : goal.loop-i-preserved
loop-i-preserved c =
    let sides = c.args.sides.now in
    let f = folds_at c.args.rank in
    let next : greatest (map f (take (c.loop-i.i + 1) sides)) ≡ max (greatest (map f (take c.loop-i.i sides))) (f c.index-sides-i.result) =
    greatest_next f sides c.loop-i.i c.index-sides-i.result (omega arith) (sym c.index-sides-i.is) in
    let so_far = c.loop-i.invariant in let of_one = c.folds.ensures in let most = c.max-most.ensures in omega arith
