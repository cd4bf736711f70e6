use Rattle.std.proofs.Common.{◌<◌, false, ap, refl}
use Rattle.dd_store.specs.declared.reference.NodeId.{NodeId}
use Rattle.dd_store.specs.declared.reference.Reference.TheVariants.{Node}
use Rattle.dd_store.specs.Nodes.{Nodes, IsNodeOf}
use Rattle.dd_store.specs.Levels.{pairs_of}
use Rattle.dd_store.proofs.Shards.{pairs_of-read}
use Rattle.dd_store.proofs.Storing.{found_in_shard, absent_in_shard, children-of}
use Rattle.dd_store.proofs.store.Store.find_regular.Goals as goal

pub returns-in-Some : goal.returns-in-Some
returns-in-Some c =
    let S : Nodes = record { levels = c.self.inside.levels; limit = c.self.inside.limit; shards = pairs_of c.self.inside.shards.items } in
    let lt : c.args.level < S.levels = rw (ap (λ (z : Nodes). z.levels) c.self.view_is) c.requires.level in
    let m : NodeId = record { level = c.args.level; shard = c.shard_of_regular-shard.result; index = c.in-Some.index } in
    let there =
    found_in_shard S c.args.level c.args.lo c.args.hi c.index-shard_state.result.now.nodes c.shard_of_regular-shard.result c.in-Some.index
    c.self.invariant.sound lt c.shard_of_regular-shard.ensures (pairs_of-read c.self.inside.shards.items _ c.index-shard_state.result.now c.index-shard_state.ensures) c.in-Some.ensures in
    let found : IsNodeOf S c.args.level c.args.lo c.args.hi (Node m false) = (refl, children-of S m false (c.args.lo, c.args.hi) there) in
    rw (c.node.ensures, ← c.self.view_is) found

pub returns-in-None : goal.returns-in-None
returns-in-None c =
    let S : Nodes = record { levels = c.self.inside.levels; limit = c.self.inside.limit; shards = pairs_of c.self.inside.shards.items } in
    let lt : c.args.level < S.levels = rw (ap (λ (z : Nodes). z.levels) c.self.view_is) c.requires.level in
    rw (← c.self.view_is)
    (absent_in_shard S c.args.level c.args.lo c.args.hi c.index-shard_state.result.now.nodes c.shard_of_regular-shard.result c.self.invariant.sound lt c.requires.regular
    c.shard_of_regular-shard.ensures (pairs_of-read c.self.inside.shards.items _ c.index-shard_state.result.now c.index-shard_state.ensures) (λ i e. c.in-None.ensures (i, e)))
