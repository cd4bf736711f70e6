use Rattle.std.proofs.Common.{◌≡◌, length}
use Rattle.net_merge.specs.Merging.{AreRepresentatives}
use Rattle.net_merge.proofs.representatives.fill.Given as goal

abbrev pub invariant-loop-node : goal.invariant-loop-node
invariant-loop-node l = AreRepresentatives l.graph l.literals.items × (length l.literals.items ≡ l.node)
