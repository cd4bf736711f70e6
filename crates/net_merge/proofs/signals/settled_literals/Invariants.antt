use Rattle.std.proofs.Common.{◌≡◌, ℕ, ◌<◌, length}
use Rattle.net_merge.specs.Merging.{IsSettled}
use Rattle.net_merge.specs.SignalLiterals.{literal_at}
use Rattle.net_merge.proofs.signals.settled_literals.Given as goal

abbrev pub invariant-loop-place : goal.invariant-loop-place
invariant-loop-place g l = record {
  each : length l.settled.items ≡ l.place;
  same : l.graph ≡ l.fn.graph;
  settled : (s : ℕ) → s < l.place → IsSettled l.fn.graph (literal_at l.literals s) (literal_at l.settled.items s);
}
