use Rattle.std.proofs.Common.{◌≡◌, ◌*◌, vec_len}
use Rattle.net_bench.specs.Circuit.{circuit}
use Rattle.net_order.specs.Order.{condition}
use Rattle.net_patterns.specs.Differences.{AreFirst}
use Rattle.net_patterns.specs.Simulated.{AreOf}
use Rattle.net_patterns.proofs.differences.first_differences.Given as goal

abbrev pub invariant-loop-block : goal.invariant-loop-block
invariant-loop-block l = record {
  of : AreOf (circuit l.netlists.first.now) (circuit l.netlists.second.now) (condition l.netlists.given) l.netlists.naming.now l.sides;
  each : vec_len l.at ≡ l.patterns.variables;
  found : AreFirst (circuit l.netlists.first.now) (circuit l.netlists.second.now) (condition l.netlists.given) l.netlists.naming.now l.patterns (512 * l.block) l.pairs l.found.items;
}
