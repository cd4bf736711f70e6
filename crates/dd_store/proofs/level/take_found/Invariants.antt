use Rattle.std.proofs.Common.{◌≡◌, ◌≤◌, ℕ, map, take, get_or}
use Rattle.std.specs.Prelude.{vec_capacity}
use Rattle.std.specs.Vec.{vec_len}
use Rattle.dd_store.specs.declared.level.ShardState.{ShardState}
use Rattle.dd_store.specs.Levels.{pairs_of}
use Rattle.dd_store.proofs.level.take_found.Given as goal

abbrev pub invariant-loop-place : goal.invariant-loop-place
invariant-loop-place l = record {
  found : l.refs.items ≡ map (λ (c : ShardState). c.found) (take l.place l.fn.shards);
  count : vec_len l.refs ≡ l.place;
  room : vec_capacity l.refs ≡ vec_capacity l.fn.refs;
  shards : pairs_of l.shards ≡ pairs_of l.fn.shards;
  rest : (i : ℕ) (d : ShardState) → l.place ≤ i → get_or l.shards i d ≡ get_or l.fn.shards i d;
}
