use Rattle.std.proofs.Common.{inr}
use Rattle.std.specs.Prelude.{IsTrue}
use Rattle.net_bench.specs.Circuit.{circuit}
use Rattle.net_rename.specs.Renaming.{is_free, is_port}
use Rattle.net_rename.proofs.Checking.{bad_pair, each_pair, pair_more}
use Rattle.net_rename.proofs.renaming.checked_tables.Goals as goal

pub returns-in-Some-clause-refused : goal.returns-in-Some-clause-refused
returns-in-Some-clause-refused c =
    let a = circuit c.args.first.now in
    let b = circuit c.args.second.now in
    inr (bad_pair a b c.args.pairs.now c.loop-pair.pair-index c.pair-item.result c.in_ok-tables.ensures.once c.loop-pair-test.true c.pair-item.is
    (λ k d low. (c.loop-pair.invariant.first k d low, c.loop-pair.invariant.second k d low, c.loop-pair.invariant.free k d low)) c.in-Some.fault
    (c.in-Some.ensures a c.args.pairs.now c.in_ok-ports_of.ensures c.in_ok-tables.ensures.firsts c.in_ok-tables.ensures.seconds))

pub loop-pair-preserved : goal.loop-pair-preserved
loop-pair-preserved c =
    let a = circuit c.args.first.now in
    let b = circuit c.args.second.now in
    let right = c.in_default.ensures a c.args.pairs.now c.in_ok-ports_of.ensures c.in_ok-tables.ensures.firsts c.in_ok-tables.ensures.seconds in
    record {
      first = pair_more (λ p. IsTrue (is_port a p.first.items)) c.args.pairs.now c.loop-pair.pair-index c.pair-item.result c.loop-pair-test.true c.pair-item.is c.loop-pair.invariant.first right.0;
      second = pair_more (λ p. IsTrue (is_port b p.second.items)) c.args.pairs.now c.loop-pair.pair-index c.pair-item.result c.loop-pair-test.true c.pair-item.is c.loop-pair.invariant.second right.1;
      free = pair_more (λ p. IsTrue (is_free b c.args.pairs.now p)) c.args.pairs.now c.loop-pair.pair-index c.pair-item.result c.loop-pair-test.true c.pair-item.is c.loop-pair.invariant.free right.2;
    }

pub returns-clause-checked : goal.returns-clause-checked
returns-clause-checked c =
    let a = circuit c.args.first.now in
    let b = circuit c.args.second.now in
    record {
      first = each_pair (λ p. IsTrue (is_port a p.first.items)) c.args.pairs.now c.loop-pair.pair-index c.loop-pair-test.false c.loop-pair.invariant.first;
      second = each_pair (λ p. IsTrue (is_port b p.second.items)) c.args.pairs.now c.loop-pair.pair-index c.loop-pair-test.false c.loop-pair.invariant.second;
      firsts_once = c.in_ok-tables.ensures.once.0;
      seconds_once = c.in_ok-tables.ensures.once.1;
      free = each_pair (λ p. IsTrue (is_free b c.args.pairs.now p)) c.args.pairs.now c.loop-pair.pair-index c.loop-pair-test.false c.loop-pair.invariant.free;
    }
