use Rattle.std.proofs.Common.{Bool, List, sym, subst}
use Rattle.net_bench.specs.Labels.{Computes}
use Rattle.net_order.specs.Order.{first_level}
use Rattle.net_simulate.specs.Columns.{bit_in_block, column}
use Rattle.net_patterns.specs.Differences.{IsDifferenceWith}
use Rattle.net_patterns.proofs.Differing.{pair_of}
use Rattle.net_patterns.proofs.small.first_candidate.Goals as goal

pub returns-in_ok-bits-in-Some-clause-found : goal.returns-in_ok-bits-in-Some-clause-found
returns-in_ok-bits-in-Some-clause-found c = λ a b given p of each.
    let pair = c.args.pair.now in
    let bit = c.in-Some.bit in
    let first = c.in-Some.ensures in
    subst (λ (x : List Bool). IsDifferenceWith a b given p pair x c.first_value-first.result) (sym c.in_ok-bits-in-Some.ensures) (
      (c.evaluate-holds.ensures.shown a b given p of pair (pair_of a b given p c.args.sides.now pair of c.requires.pair) each bit first.0).1 first.1,
      subst (Computes a (first_level p) pair.0 (column bit_in_block bit c.args.at.now)) (sym c.first_value-first.ensures) (c.evaluate-holds.ensures.first a b given p of pair bit first.0),
    )
