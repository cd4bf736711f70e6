-- The hash of a reference, and the shard of a pair of children. They decide which worker a request belongs to and which
-- shard a node is in; no answer depends on them.
use Rattle.std.specs.Prelude.{ℕ, ◌+◌, ◌*◌, ◌/◌, ◌%◌, if◌then◌else◌}
use Rattle.dd_store.specs.declared.reference.Ref.{Ref}
use Rattle.dd_store.specs.declared.reference.Reference.TheVariants.{False, True, Node}
use Rattle.dd_store.specs.Complements.{regular_pair}

-- the hash of a reference
abbrev pub ref_hash_of : Ref → ℕ
ref_hash_of False = 0
ref_hash_of True = 1
ref_hash_of (Node m b) = 2 + m.shard + 17 * m.level + 65537 * m.index + (if b then 7 else 0)

-- The block number of a reference: neighbours in a shard share it, 4,096 places each, so that their parents are
-- neighbours too. The numbers of neighbouring blocks are five apart, so that threads that share a level by neighbouring
-- shards have some of them each.
abbrev pub block_of : Ref → ℕ
block_of False = 1
block_of True = 2
block_of (Node m b) = 1 + 5 * (m.index / 4096)

-- the shard of the node with these children, or with their complements if the second has a complement bit
abbrev pub shard_of_pair : Ref → Ref → ℕ
shard_of_pair lo hi = let p = regular_pair lo hi in (block_of p.0 + block_of p.1) % 16
