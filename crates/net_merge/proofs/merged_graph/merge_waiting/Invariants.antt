use Rattle.net_merge.specs.Merging.{AreRepresentatives}
use Rattle.net_merge.proofs.merged_graph.merge_waiting.Given as goal

abbrev pub invariant-loop : goal.invariant-loop
invariant-loop g l = AreRepresentatives l.graph l.representatives
