use Rattle.std.proofs.Common.{◌≡◌, drop}
use Rattle.std.specs.Prelude.{fold, flat_map}
use Rattle.net_bench.specs.Circuit.{circuit}
use Rattle.net_order.specs.declared.walk.OperandOrder.TheVariants.{Written}
use Rattle.net_order.specs.Order.{below, met, with_number}
use Rattle.net_order.specs.Walk.{IsBetweenWalks}
use Rattle.net_order.proofs.walk.met.Given as goal

abbrev pub invariant-loop-root : goal.invariant-loop-root
invariant-loop-root l = record {
  between_walks : IsBetweenWalks Written (circuit l.net) l.found.items l.seen.items;
  rest : fold with_number l.found.items (flat_map (below Written (circuit l.net)) (drop l.root-index l.roots)) ≡ met (circuit l.net);
}
