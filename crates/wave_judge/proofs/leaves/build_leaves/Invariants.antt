use Rattle.std.proofs.Common.{◌≡◌, List, length}
use Rattle.dd_store.specs.Nodes.{IsSound}
use Rattle.pair_graph.specs.declared.node.Node.{Node}
use Rattle.wave_judge.specs.OverLeaves.{AreDiagramsOver}
use Rattle.wave_judge.proofs.leaves.build_leaves.Given as goal

abbrev pub invariant-loop-level : goal.invariant-loop-level
invariant-loop-level l = record {
  sound : IsSound l.store;
  levels : l.store.levels ≡ l.window.cut;
  each : length l.refs.items ≡ l.level;
  built : (g : List Node) → AreDiagramsOver g l.window l.store l.refs.items;
}
