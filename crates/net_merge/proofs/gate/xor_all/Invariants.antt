use Rattle.std.proofs.Common.{map, take}
use Rattle.net_bench.specs.Labels.{odd}
use Rattle.pair_graph.specs.Graphs.{value}
use Rattle.net_merge.proofs.Folding.{IsFolding}
use Rattle.net_merge.proofs.gate.xor_all.Given as goal

abbrev pub invariant-loop-operand : goal.invariant-loop-operand
invariant-loop-operand g l = IsFolding l.fn.graph l.graph l.answer (λ x. odd (map (value l.fn.graph x) (take l.operand-index l.operands)))
