use Rattle.std.specs.Prelude.{All}
use Rattle.net_merge.specs.Merging.{IsShown}
use Rattle.net_merge.proofs.merger.Merger.keep_jobs.Given as goal

abbrev pub invariant-loop-place : goal.invariant-loop-place
invariant-loop-place g l = All (IsShown l.graph) l.shown.items
