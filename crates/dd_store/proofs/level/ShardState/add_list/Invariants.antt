use Rattle.std.proofs.Common.{◌≡◌, ◌≤◌, None, length}
use Rattle.dd_store.specs.Growing.{Grows}
use Rattle.dd_store.specs.Levels.{regular_list}
use Rattle.dd_store.proofs.Growing.{HasBelow}
use Rattle.dd_store.proofs.level.ShardState.add_list.Given as goal

abbrev pub invariant-loop-pair : goal.invariant-loop-pair
invariant-loop-pair l = record {
  grows : Grows (regular_list l.list) l.fn.self.nodes l.self.nodes;
  below : HasBelow (regular_list l.list) l.pair-index l.self.nodes;
  fault : l.self.fault ≡ None;
  within : length l.fn.self.nodes ≤ l.fn.limit → length l.self.nodes ≤ l.fn.limit;
}
