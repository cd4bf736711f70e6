use Rattle.std.proofs.Common.{◌≡◌, ℕ, Bool, length}
use Rattle.dd_store.specs.Graph.{Pair}
use Rattle.dd_store.specs.Complements.{complement_both}
use Rattle.dd_store.specs.Growing.{IsIn}
use Rattle.dd_store.specs.Levels.{list_at}
use Rattle.wave_tests.proofs.stores.twice_in_one.Given as goal

-- only the list of the shard is not empty, and it has only the pair and its complements
abbrev pub invariant-loop-s : goal.invariant-loop-s
invariant-loop-s l = record {
  count : length l.lists.items ≡ l.s;
  only : (i : ℕ) (p : Pair) → IsIn (list_at l.lists.items i) p → (i ≡ l.fn.shard) × (b : Bool) × (p ≡ complement_both b l.fn.pair);
}
