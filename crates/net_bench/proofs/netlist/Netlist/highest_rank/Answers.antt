use Rattle.std.proofs.Common.{arith, ◌≡◌, ◌+◌, map, take, max, sym, ◌∙◌}
use Rattle.net_bench.specs.Circuit.{greatest, rank_of}
use Rattle.net_bench.proofs.Greatest.{greatest_next}
use Rattle.net_bench.proofs.netlist.Netlist.highest_rank.Goals as goal
use Rattle.net_bench.proofs.netlist.Netlist.highest_rank.Goals.{then-rank-highest, else-rank-highest}

pub loop-gate-preserved : goal.loop-gate-preserved
loop-gate-preserved c =
    let f = rank_of c.args.self.now in
    let gates = c.gates-gate-items.result.now in
    let i = c.loop-gate.gate-index in
    let next : greatest (map f (take (i + 1) gates)) ≡ max (greatest (map f (take i gates))) (f c.gate-item.result) =
    greatest_next f gates i c.gate-item.result c.loop-gate-test.true (sym c.gate-item.is) in
    let inv : c.loop-gate.highest ≡ greatest (map f (take i gates)) = c.loop-gate.invariant in
    let rank : c.rank-rank.result ≡ f c.gate-item.result = c.rank-rank.ensures.value in
    let most : c.if-rank-highest.highest ≡ max (greatest (map f (take i gates))) (f c.gate-item.result) =
    elim c.if-rank-highest.branch [ then-rank-highest w ↦ omega arith | else-rank-highest w ↦ omega arith ] in
    most ∙ sym next
