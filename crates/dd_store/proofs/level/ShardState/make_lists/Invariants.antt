use Rattle.std.proofs.Common.{◌≤◌, length, take}
use Rattle.std.specs.List.{AllZip}
use Rattle.dd_store.specs.Growing.{Grows}
use Rattle.dd_store.specs.Levels.{IsReferenceAt, all_at, regular_list}
use Rattle.dd_store.proofs.level.ShardState.make_lists.Given as goal

abbrev pub invariant-loop-part : goal.invariant-loop-part
invariant-loop-part l = record {
  grows : Grows (regular_list (all_at l.parts l.fn.shard)) l.fn.self.nodes l.self.nodes;
  within : length l.fn.self.nodes ≤ l.fn.limit → length l.self.nodes ≤ l.fn.limit;
  noted : AllZip (IsReferenceAt l.fn.level l.fn.shard l.self.nodes) (all_at (take l.part-index l.parts) l.fn.shard) l.self.found.items;
}
