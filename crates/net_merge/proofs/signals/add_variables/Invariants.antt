use Rattle.std.specs.Prelude.{slice_index}
use Rattle.net_bench.specs.Circuit.{circuit}
use Rattle.pair_graph.specs.Graphs.{IsGraph, KeepsNodes}
use Rattle.net_merge.specs.SignalLiterals.{AreVariablesDone}
use Rattle.net_merge.proofs.signals.add_variables.Given as goal

abbrev pub invariant-loop-place : goal.invariant-loop-place
invariant-loop-place g l = record {
  done : AreVariablesDone (circuit l.netlist.net.now) (slice_index l.netlist.levels.now) l.graph l.place l.literals;
  keeps : KeepsNodes l.fn.graph l.graph;
  sound : IsGraph l.graph;
}
