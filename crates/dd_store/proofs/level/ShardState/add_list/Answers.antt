use Rattle.std.proofs.Common.{◌≡◌, ◌∙◌, ◌-◌, length, get_or, Ok, Err, refl, ap, subst, arith}
use Rattle.dd_store.specs.Graph.{Pair}
use Rattle.dd_store.specs.Complements.{complement_both, regular_pair}
use Rattle.dd_store.specs.Levels.{regular_list}
use Rattle.slot_table.specs.Placing.{IsPlaced}
use Rattle.dd_store.proofs.Growing.{HasBelow-all, placed_more, placed_stopped}
use Rattle.dd_store.proofs.Regular.{length-regular, regular_read}
use Rattle.dd_store.proofs.level.ShardState.add_list.Goals as goal
use Rattle.dd_store.proofs.level.ShardState.add_list.Goals.{After-complement_pair-children}

-- the pair as nodes have it, which is looked for
module _ (c : After-complement_pair-children) where
  abbrev regular : Pair
  regular = regular_pair c.pair-item.result.0 c.pair-item.result.1

  read : c.complement_pair-children.result ≡ get_or (regular_list c.args.list.now) c.loop-pair.pair-index regular
  read =
      c.complement_pair-children.ensures
      ∙ ap (λ b. complement_both b c.pair-item.result) c.is_complement.ensures
      ∙ regular_read c.args.list.now c.loop-pair.pair-index c.pair-item.result c.loop-pair-test.true c.pair-item.is

pub returns-in-Err-clause-stopped : goal.returns-in-Err-clause-stopped
returns-in-Err-clause-stopped c =
    let w = (goal.at.returns-in-Err-clause-stopped c).After-complement_pair-children in
    let list = regular_list c.args.list.now in
    let old = c.loop-pair.self.nodes in
    let room = c.args.limit - length old in
    let placed = subst (λ (z : Pair). IsPlaced room z old (Err c.in-Err.refusal) c.place.new.shard) (read w) c.in-Err.ensures in
    let lt = c.loop-pair-test.true in
    let len = length-regular c.args.list.now in
    rw c.from.ensures
    (placed_stopped c.args.limit room c.loop-pair.pair-index list old c.place.new.shard (regular w) c.in-Err.refusal (omega arith) refl placed)

pub loop-pair-preserved : goal.loop-pair-preserved
loop-pair-preserved c =
    let w = (goal.at.loop-pair-preserved c).After-complement_pair-children in
    let v = c.loop-pair.invariant in
    let list = regular_list c.args.list.now in
    let old = c.loop-pair.self.nodes in
    let room = c.args.limit - length old in
    let placed = subst (λ (z : Pair). IsPlaced room z old (Ok c.in_default.field-0) c.place.new.shard) (read w) c.in_default.ensures in
    let lt = c.loop-pair-test.true in
    let len = length-regular c.args.list.now in
    let step = placed_more c.args.limit room c.loop-pair.pair-index list c.args.self.now.nodes old c.place.new.shard (regular w) c.in_default.field-0
    (omega arith) refl v.grows v.below placed in
    record { grows = step.0; below = step.1; fault = v.fault; within = λ h. step.2 (v.within h) }

pub returns-clause-stopped : goal.returns-clause-stopped
returns-clause-stopped c =
    let len = length-regular c.args.list.now in
    rw c.loop-pair.invariant.fault
    (HasBelow-all (regular_list c.args.list.now) c.loop-pair.pair-index c.loop-pair.self.nodes (omega arith) c.loop-pair.invariant.below)
