use Rattle.std.proofs.Common.{◌≡◌, ◌≤◌, ◌+◌, ◌-◌, ◌++◌, List, length, take}
use Rattle.std.specs.Prelude.{vec_capacity}
use Rattle.std.specs.Vec.{vec_len}
use Rattle.std.specs.List.{AllZip}
use Rattle.dd_store.specs.declared.reference.Ref.{Ref}
use Rattle.dd_store.specs.Growing.{Grows}
use Rattle.dd_store.specs.Levels.{IsReferenceAt, regular_list}
use Rattle.dd_store.proofs.Growing.{HasBelow}
use Rattle.dd_store.proofs.level.ShardState.make_list.Given as goal

abbrev pub invariant-loop-pair : goal.invariant-loop-pair
invariant-loop-pair l = record {
  grows : Grows (regular_list l.list) l.fn.self.nodes l.self.nodes;
  below : HasBelow (regular_list l.list) l.pair-index l.self.nodes;
  within : length l.fn.self.nodes ≤ l.fn.limit → length l.self.nodes ≤ l.fn.limit;
  noted : (refs : List Ref) × (l.self.found.items ≡ l.fn.self.found.items ++ refs) × AllZip (IsReferenceAt l.fn.level l.fn.shard l.self.nodes) (take l.pair-index l.list) refs;
  room : vec_len l.self.found + (length l.list - l.pair-index) ≤ vec_capacity l.self.found;
}
