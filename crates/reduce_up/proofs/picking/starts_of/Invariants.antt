use Rattle.std.proofs.Common.{◌≡◌, ℕ, ◌<◌, length, get_or}
use Rattle.reduce_up.specs.Division.{begin_of}
use Rattle.reduce_up.proofs.picking.starts_of.Given as goal

abbrev pub invariant-loop-shard : goal.invariant-loop-shard
invariant-loop-shard l = record {
  long : length l.starts.items ≡ l.shard;
  each : (k : ℕ) → k < l.shard → get_or l.starts.items k 0 ≡ begin_of l.parts l.part k;
}
