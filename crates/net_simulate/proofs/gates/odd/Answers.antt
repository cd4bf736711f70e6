use Rattle.std.proofs.Common.{◌≡◌, ◌∙◌, cond, not, ap, map}
use Rattle.net_bench.specs.Labels.{bit_of, odd}
use Rattle.net_simulate.specs.Columns.{column}
use Rattle.net_simulate.proofs.Operands.{odd_step, read}
use Rattle.net_simulate.proofs.gates.odd.Goals as goal

pub loop-place-init : goal.loop-place-init
loop-place-init g c = λ i low. ap (λ b. let whole = odd (map (bit_of (column g.V.Packed.bit i c.args.values.now)) c.args.operands.now) in cond b (not whole) whole) (c.zeros-odd.ensures i low)

pub loop-place-preserved : goal.loop-place-preserved
loop-place-preserved g c = λ i low.
    let bit = g.V.Packed.bit in
    let vs = c.args.values.now in
    let xs = c.args.operands.now in
    let x = c.index-operands-place.result in
    let v = c.index-values-number.result in
    let here : bit i v ≡ bit_of (column bit i vs) x =
    read bit i vs xs c.loop-place.place x c.number.result v c.requires c.loop-place-test.true c.index-operands-place.is c.number.ensures c.index-values-number.is in
    odd_step bit vs xs c.loop-place.place x i c.loop-place.odd c.xor_with.new.self v c.loop-place-test.true c.index-operands-place.is here (c.xor_with.ensures i low) ∙
    c.loop-place.invariant i low
