use Rattle.std.proofs.Common.{◌≡◌, Option, vec_len}
use Rattle.net_bench.specs.Circuit.{Circuit}
use Rattle.net_order.specs.Order.{NamingModel}
use Rattle.net_patterns.specs.Differences.{IsCounterexample, MakesSmaller}
use Rattle.net_patterns.specs.Simulated.{AreKept, AreOf}
use Rattle.net_patterns.proofs.small.by_windows.Given as goal

abbrev pub invariant-loop-from : goal.invariant-loop-from
invariant-loop-from l = record {
  each : vec_len l.small.at ≡ vec_len l.candidates;
  kept : AreKept l.initial.sides l.sides;
  smaller : (a b : Circuit) (given : Option Circuit) (p : NamingModel) → AreOf a b given p l.initial.sides → IsCounterexample a b given p l.pair l.initial.small →
      MakesSmaller a b given p l.pair l.initial.small l.small;
}
