use Rattle.std.proofs.Common.{◌≡◌, false, ◌<◌, ◌+◌, ◌*◌, Ok, Err, set, sym, subst, ap}
use Rattle.std.proofs.lemmas.Result.{err_from_is_err_and}
use Rattle.dd_store.specs.declared.reference.NodeId.{NodeId}
use Rattle.dd_store.specs.declared.reference.Reference.TheVariants.{Node}
use Rattle.dd_store.specs.declared.level.ShardState.{ShardState}
use Rattle.slot_table.specs.Placing.{IsPlaced}
use Rattle.dd_store.specs.Fault.{fault_of}
use Rattle.dd_store.specs.Nodes.{Nodes, Makes}
use Rattle.dd_store.specs.Levels.{pairs_of}
use Rattle.dd_store.proofs.Shards.{pairs_of-read, pairs_of-set}
use Rattle.dd_store.proofs.Storing.{CanMake}
use Rattle.dd_store.proofs.Placing.{Placing, placing_room, Makes-found, Makes-added, Makes-refused, IsStore-added}
use Rattle.dd_store.proofs.store.Store.find_or_add.Goals as goal
use Rattle.dd_store.proofs.store.Store.find_or_add.Goals.{After-find_or_add, in-Found, in-Added}

-- the store before the call, and after it
abbrev old : After-find_or_add → Nodes
old c = record { levels = c.self.inside.levels; limit = c.self.inside.limit; shards = pairs_of c.self.inside.shards.items }

abbrev shard_state : After-find_or_add → ShardState
shard_state c = record { nodes = c.find_or_add.new.self; fault = c.index_mut-shard_state.result.now.fault; found = c.index_mut-shard_state.result.now.found }

abbrev new : After-find_or_add → Nodes
new c = record {
  levels = c.self.inside.levels;
  limit = c.self.inside.limit;
  shards = pairs_of (set c.self.inside.shards.items (16 * c.args.level + c.shard_of_regular-shard.result) (shard_state c));
}

placing : (c : After-find_or_add) → Placing (old c) (new c) c.self.inside.count c.args.level c.args.lo c.args.hi c.shard_of_regular-shard.result
    c.index_mut-shard_state.result.now.nodes c.find_or_add.new.self c.saturating_sub-room.result
placing c = record {
  kept = c.self.invariant;
  can = subst (λ (z : Nodes). CanMake z c.args.level c.args.lo c.args.hi) (sym c.self.view_is) (record {
    level = c.requires.level;
    lo_in_store = c.requires.lo_in_store;
    hi_in_store = c.requires.hi_in_store;
    above_lo = c.requires.above_lo;
    above_hi = c.requires.above_hi;
  });
  differ = c.requires.differ;
  regular = c.requires.regular;
  shard = c.shard_of_regular-shard.ensures;
  read = pairs_of-read c.self.inside.shards.items _ c.index_mut-shard_state.result.now c.index_mut-shard_state.ensures.value;
  room_is = c.saturating_sub-room.ensures;
  written =
      let e : pairs_of (set c.self.inside.shards.items (16 * c.args.level + c.shard_of_regular-shard.result) (shard_state c))
      ≡ set (pairs_of c.self.inside.shards.items) (16 * c.args.level + c.shard_of_regular-shard.result) c.find_or_add.new.self =
      pairs_of-set c.self.inside.shards.items (16 * c.args.level + c.shard_of_regular-shard.result) (shard_state c) in
      λ i. record { levels = c.self.inside.levels; limit = c.self.inside.limit; shards = e i };
}

pub find_or_add-requires : goal.find_or_add-requires
find_or_add-requires c =
    let S : Nodes = record { levels = c.self.inside.levels; limit = c.self.inside.limit; shards = pairs_of c.self.inside.shards.items } in
    let lt : c.args.level < S.levels = rw (ap (λ (z : Nodes). z.levels) c.self.view_is) c.requires.level in
    placing_room S c.self.inside.count c.args.level c.args.lo c.args.hi c.shard_of_regular-shard.result c.index_mut-shard_state.result.now.nodes
    c.saturating_sub-room.result c.self.invariant lt c.shard_of_regular-shard.ensures
    (pairs_of-read c.self.inside.shards.items _ c.index_mut-shard_state.result.now c.index_mut-shard_state.ensures.value) c.saturating_sub-room.ensures

pub returns-in_err-placed : goal.returns-in_err-placed
returns-in_err-placed c =
    let w = (goal.at.returns-in_err-placed c).After-find_or_add in
    let p = err_from_is_err_and c.from_residual.result c.from_residual.ensures.1 in
    let h : Makes (old w) c.args.level c.args.lo c.args.hi (Err (fault_of c.in_err-placed.field-0.0)) (new w) =
    Makes-refused (old w) (new w) _ _ _ _ _ _ _ _ (placing w) c.in_err-placed.field-0.0 c.in_err-placed.ensures in
    rw (p.1, p.2) (subst (λ (z : Nodes). Makes z c.args.level c.args.lo c.args.hi (Err (fault_of c.in_err-placed.field-0.0)) (new w)) c.self.view_is h)

pub invariant_of-self-in-Added : goal.invariant_of-self-in-Added
invariant_of-self-in-Added c =
    let w = (goal.at.invariant_of-self-in-Added c).After-find_or_add in
    let placed : IsPlaced c.saturating_sub-room.result (c.args.lo, c.args.hi) c.index_mut-shard_state.result.now.nodes (Ok c.in_ok-placed.placed) c.find_or_add.new.self = c.in_ok-placed.ensures in
    IsStore-added (old w) (new w) _ _ _ _ _ _ _ _ (placing w) c.in-Added.index (rw c.in-Added.is at placed)

pub returns : goal.returns
returns c =
    let w = (goal.at.returns c).After-find_or_add in
    let id : NodeId = record { level = c.args.level; shard = c.shard_of_regular-shard.result; index = c.match-placed.index } in
    let placed : IsPlaced c.saturating_sub-room.result (c.args.lo, c.args.hi) c.index_mut-shard_state.result.now.nodes (Ok c.in_ok-placed.placed) c.find_or_add.new.self = c.in_ok-placed.ensures in
    let made : Makes (old w) c.args.level c.args.lo c.args.hi (Ok (Node id false)) c.match-placed.self = elim c.match-placed.branch [
      | in-Found v ↦
          rw (v.index-is, v.self-is) (Makes-found (old w) (new w) _ _ _ _ _ _ _ _ (placing w) v.in-Found.index (rw v.in-Found.is at placed))
      | in-Added v ↦
          rw (v.index-is, v.self-is) (Makes-added (old w) (new w) _ _ _ _ _ _ _ _ (placing w) v.in-Added.index (rw v.in-Added.is at placed))
    ] in
    rw (c.node.ensures, ← c.self.view_is) made
