use Rattle.std.proofs.Common.{map, take}
use Rattle.net_bench.specs.Labels.{all_ones}
use Rattle.pair_graph.specs.Graphs.{inverted_if, value}
use Rattle.net_merge.proofs.Folding.{IsFolding}
use Rattle.net_merge.proofs.gate.and_all.Given as goal

abbrev pub invariant-loop-operand : goal.invariant-loop-operand
invariant-loop-operand g l = IsFolding l.fn.graph l.graph l.answer (λ x. all_ones (map (λ o. inverted_if l.complemented (value l.fn.graph x o)) (take l.operand-index l.operands)))
