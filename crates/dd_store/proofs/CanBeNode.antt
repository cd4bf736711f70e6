-- Pairs that may be added at a level, in a shard, and their complements, which may too.
use Rattle.std.proofs.Common.{◌≡◌, ℕ, ◌<◌, Bool, List, sym, ◌∙◌}
use Rattle.dd_store.specs.Graph.{Pair, IsRef, top}
use Rattle.dd_store.specs.Hashes.{shard_of_pair}
use Rattle.dd_store.specs.Complements.{complement_both}
use Rattle.slot_table.specs.Lists.{IsIn}
use Rattle.dd_store.specs.Nodes.{Nodes, node}
use Rattle.dd_store.specs.Adding.{AreReady}
use Rattle.dd_store.proofs.Complements.{complement_by-one, top-complement_by, IsRef-complement_by, shard_of_complemented}

pub record CanBeNode (S : Nodes) (v shard : ℕ) (p : Pair) : Type 0 where
  pub differ : p.0 ≡ p.1 → ⊥
  pub lo_in_store : IsRef (node S) p.0
  pub hi_in_store : IsRef (node S) p.1
  pub above_lo : v < top S.levels p.0
  pub above_hi : v < top S.levels p.1
  pub sharded : shard_of_pair p.0 p.1 ≡ shard

pub CanBeNode-complemented : (S : Nodes) (v shard : ℕ) (b : Bool) (p : Pair) → CanBeNode S v shard p → CanBeNode S v shard (complement_both b p)
CanBeNode-complemented S v shard b p c = record {
  differ = λ e. c.differ (complement_by-one b p.0 p.1 e);
  lo_in_store = IsRef-complement_by (node S) b p.0 c.lo_in_store;
  hi_in_store = IsRef-complement_by (node S) b p.1 c.hi_in_store;
  above_lo = rw (top-complement_by S.levels b p.0) c.above_lo;
  above_hi = rw (top-complement_by S.levels b p.1) c.above_hi;
  sharded = shard_of_complemented b p ∙ c.sharded;
}

-- lists of such pairs
pub ready : (S : Nodes) (v shard : ℕ) (lists : ℕ → List Pair) → v < S.levels
    → ((s : ℕ) (p : Pair) → IsIn (lists s) p → (s < 16 → s ≡ shard) × CanBeNode S v shard p) → AreReady S v lists
ready S v shard lists level can = record {
  level = level;
  differ = λ s p h. (can s p h).1.differ;
  lo_in_store = λ s p h. (can s p h).1.lo_in_store;
  hi_in_store = λ s p h. (can s p h).1.hi_in_store;
  above = λ s p h. ((can s p h).1.above_lo, (can s p h).1.above_hi);
  sharded = λ s p lt h. (can s p h).1.sharded ∙ sym ((can s p h).0 lt);
}
