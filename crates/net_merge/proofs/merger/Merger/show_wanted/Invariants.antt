use Rattle.std.specs.Prelude.{All}
use Rattle.net_merge.specs.Merging.{IsShown}
use Rattle.net_merge.proofs.merger.Merger.show_wanted.Given as goal

abbrev pub invariant-loop : goal.invariant-loop
invariant-loop g l = All (IsShown l.graph) l.shown.items
