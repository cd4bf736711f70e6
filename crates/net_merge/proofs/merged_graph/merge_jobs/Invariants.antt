use Rattle.net_merge.specs.Merging.{AreRepresentatives}
use Rattle.net_merge.proofs.merged_graph.merge_jobs.Given as goal

abbrev pub invariant-loop-place : goal.invariant-loop-place
invariant-loop-place l = AreRepresentatives l.graph l.representatives
