use Rattle.std.proofs.Common.{◌≡◌, ◌<◌, ◌∙◌, subst, length, true}
use Rattle.net_bench.specs.Circuit.{circuit}
use Rattle.net_order.specs.Order.{is_member, interleaved_numbers}
use Rattle.net_order.proofs.AllNames.{known_at}
use Rattle.net_order.proofs.Members.{all_of}
use Rattle.net_order.proofs.InterleavedNumbers.{all_interleaved, levels_low, next_side, side_interleaved, interleaved_low}
use Rattle.net_order.proofs.interleave.interleaved_numbers.Goals as goal

pub interleave_netlist-requires-clause-low : goal.interleave_netlist-requires-clause-low
interleave_netlist-requires-clause-low c =
    levels_low c.args.variables.now c.index-sides-i.result c.in_ok-numbers.numbers (circuit c.net.result.now) (length c.loop-i.seen.items) c.net.ensures c.in_ok-numbers.ensures
    (known_at c.args.variables.now c.args.sides.now c.loop-i.i c.index-sides-i.result c.requires c.loop-i-test.true c.index-sides-i.is) c.loop-i.invariant.len

pub loop-i-preserved : goal.loop-i-preserved
loop-i-preserved c = record {
  visited = c.in_ok-interleave_netlist.ensures.visited;
  len = c.in_ok-interleave_netlist.ensures.len ∙ c.loop-i.invariant.len;
  rest = next_side c.args.variables.now c.args.sides.now c.loop-i.order.items c.interleave_netlist.new.order.items (interleaved_numbers c.args.variables.now c.args.sides.now) c.loop-i.i c.index-sides-i.result c.loop-i-test.true c.index-sides-i.is
      (side_interleaved c.args.variables.now c.index-sides-i.result c.in_ok-numbers.numbers (circuit c.net.result.now) c.loop-i.order.items c.interleave_netlist.new.order.items c.net.ensures c.in_ok-numbers.ensures c.in_ok-interleave_netlist.ensures.interleaved_numbers)
      c.loop-i.invariant.rest;
}

pub returns-clause-low : goal.returns-clause-low
returns-clause-low c =
    let is = all_interleaved c.args.variables.now c.args.sides.now c.loop-i.order.items (interleaved_numbers c.args.variables.now c.args.sides.now) c.loop-i.i c.loop-i-test.false c.loop-i.invariant.rest in
    all_of (λ k. k < length c.args.variables.now) c.loop-i.order.items
    (λ x e. interleaved_low c.args.variables.now c.args.sides.now c.requires x (subst (λ xs. is_member x xs ≡ true) is e))
