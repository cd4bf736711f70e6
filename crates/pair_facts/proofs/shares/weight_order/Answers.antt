use Rattle.std.proofs.Common.{sym, subst}
use Rattle.std.specs.List.{AllZip}
use Rattle.net_bench.specs.Circuit.{circuit}
use Rattle.compare_built.specs.PairSelection.{HasWeight}
use Rattle.pair_facts.proofs.shares.weight_order.Goals as goal

pub returns : goal.returns
returns c = record {
  weights = c.as_slice.result.now;
  weighed = subst (AllZip (HasWeight (circuit c.args.first.now) (circuit c.args.second.now)) c.args.subjects.now) (sym c.as_slice.ensures.value) c.in_ok-weights.ensures;
  places = c.in_ok-order.ensures.places;
  falls = c.in_ok-order.ensures.falls;
}
