use Rattle.std.proofs.Common.{◌≡◌, length, drop}
use Rattle.std.specs.Prelude.{fold, slice_index}
use Rattle.net_bench.specs.Circuit.{circuit}
use Rattle.net_order.specs.declared.walk.OperandOrder.TheVariants.{ByRank}
use Rattle.net_order.specs.Order.{interleave_below, interleave_netlist}
use Rattle.net_order.specs.Tables.{AreMembershipFlags}
use Rattle.net_order.specs.Walk.{IsBetweenWalks}
use Rattle.net_order.proofs.InterleavedNumbers.{AreIn}
use Rattle.net_order.proofs.interleave.interleave_netlist.Given as goal

abbrev pub invariant-loop-root : goal.invariant-loop-root
invariant-loop-root l = record {
  between_walks : IsBetweenWalks ByRank (circuit l.net) l.found.items l.walked.items;
  visited : AreMembershipFlags l.seen.items l.order.items;
  len : length l.seen.items ≡ length l.fn.seen.items;
  held : AreIn (slice_index l.variables) l.found.items l.order.items;
  rest : fold (interleave_below (circuit l.net) (slice_index l.variables)) l.order.items (drop l.root-index l.ranked) ≡ interleave_netlist (circuit l.net) (slice_index l.variables) l.fn.order.items;
}
