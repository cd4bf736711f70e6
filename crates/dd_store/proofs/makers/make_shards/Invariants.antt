use Rattle.std.proofs.Common.{◌≡◌, ℕ, ◌+◌, ◌<◌, ◌≤◌, get_or}
use Rattle.dd_store.specs.declared.level.ShardState.{ShardState}
use Rattle.dd_store.specs.Levels.{IsNoted, all_at}
use Rattle.dd_store.proofs.makers.make_shards.Given as goal

abbrev pub invariant-loop-place : goal.invariant-loop-place
invariant-loop-place g l = record {
  made : (i : ℕ) (d : ShardState) → i < l.place → IsNoted l.fn.lists.limit l.fn.lists.level (l.fn.first + i) (all_at l.fn.lists.parts.now (l.fn.first + i)) (get_or l.fn.shards i d) (get_or l.shards i d);
  rest : (i : ℕ) (d : ShardState) → l.place ≤ i → get_or l.shards i d ≡ get_or l.fn.shards i d;
}
