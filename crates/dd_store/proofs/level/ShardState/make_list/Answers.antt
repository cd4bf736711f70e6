use Rattle.std.proofs.Common.{◌≡◌, false, ◌∙◌, ◌-◌, ◌++◌, ◌<◌, [], ◌∷◌, length, get_or, List, Ok, Err, refl, ap, subst, arith, append_assoc}
use Rattle.std.proofs.lemmas.Result.{err_from_is_err_and}
use Rattle.dd_store.specs.declared.reference.Ref.{Ref}
use Rattle.dd_store.specs.declared.reference.Reference.TheVariants.{Node}
use Rattle.dd_store.specs.Graph.{Pair}
use Rattle.dd_store.specs.Complements.{is_complement, complement_by, complement_both, regular_pair}
use Rattle.dd_store.specs.Levels.{regular_list}
use Rattle.dd_store.specs.Growing.{Grows}
use Rattle.slot_table.specs.Placing.{IsPlaced}
use Rattle.dd_store.proofs.Growing.{Grows-refl, placed_more, placed_stopped}
use Rattle.dd_store.proofs.Noting.{index_of, placed_at, noted_more, halted}
use Rattle.dd_store.proofs.Complements.{complement_by-node}
use Rattle.dd_store.proofs.Regular.{length-regular, regular_read}
use Rattle.dd_store.proofs.level.ShardState.make_list.Goals as goal
use Rattle.dd_store.proofs.level.ShardState.make_list.Goals.{After-complement_pair, in-Found, in-Added}

-- the pair as nodes have it, which is looked for
module _ (c : After-complement_pair) where
  abbrev list : List Pair
  list = regular_list c.args.list.now

  abbrev regular : Pair
  regular = regular_pair c.pair-item.result.0 c.pair-item.result.1

  sought : c.complement_pair.result ≡ regular
  sought = c.complement_pair.ensures ∙ ap (λ b. complement_both b c.pair-item.result) c.is_complement-complement.ensures

  read : regular ≡ get_or list c.loop-pair.pair-index regular
  read = regular_read c.args.list.now c.loop-pair.pair-index c.pair-item.result c.loop-pair-test.true c.pair-item.is

  within : c.loop-pair.pair-index < length list
  within = let lt = c.loop-pair-test.true in let len = length-regular c.args.list.now in omega arith

pub returns-in_err-placed-clause-noted : goal.returns-in_err-placed-clause-noted
returns-in_err-placed-clause-noted c =
    let w = (goal.at.returns-in_err-placed-clause-noted c).After-complement_pair in
    let old = c.loop-pair.self.nodes in
    let room = c.args.limit - length old in
    let p = err_from_is_err_and c.from_residual.result c.from_residual.ensures.1 in
    let placed = subst (λ (z : Pair). IsPlaced room z old (Err c.in_err-placed.field-0.0) c.place.new.shard) (sought w ∙ read w) c.in_err-placed.ensures in
    rw (p.1, p.2) (halted c.args.limit (list w) c.place.new.shard _
    (placed_stopped c.args.limit room c.loop-pair.pair-index (list w) old c.place.new.shard (regular w) c.in_err-placed.field-0.0 (within w) refl placed))

pub loop-pair-preserved : goal.loop-pair-preserved
loop-pair-preserved c =
    let w = (goal.at.loop-pair-preserved c).After-complement_pair in
    let v = c.loop-pair.invariant in
    let n = c.loop-pair.pair-index in
    let old = c.loop-pair.self.nodes in
    let new = c.place.new.shard in
    let room = c.args.limit - length old in
    let placed : IsPlaced room (regular w) old (Ok c.in_ok-placed.placed) new =
    subst (λ (z : Pair). IsPlaced room z old (Ok c.in_ok-placed.placed) new) (sought w) c.in_ok-placed.ensures in
    let at_n : IsPlaced room (get_or (list w) n (regular w)) old (Ok c.in_ok-placed.placed) new =
    subst (λ (z : Pair). IsPlaced room z old (Ok c.in_ok-placed.placed) new) (read w) placed in
    let step = placed_more c.args.limit room n (list w) c.args.self.now.nodes old new (regular w) c.in_ok-placed.placed (within w) refl v.grows v.below at_n in
    let one : Grows (list w) old new =
    (placed_more c.args.limit room n (list w) old old new (regular w) c.in_ok-placed.placed (within w) refl (Grows-refl (list w) old) v.below at_n).0 in
    let at = placed_at room (regular w) old new c.in_ok-placed.placed placed in
    let index : c.match-placed.index ≡ index_of c.in_ok-placed.placed = elim c.match-placed.branch [
      | in-Found u ↦ rw (u.index-is, u.in-Found.is) refl
      | in-Added u ↦ rw (u.index-is, u.in-Added.is) refl
    ] in
    let complement = is_complement c.pair-item.result.1 in
    let id : Ref = Node (record { level = c.args.level; shard = c.args.shard; index = index_of c.in_ok-placed.placed }) complement in
    let named : c.complement_if.result ≡ id =
    c.complement_if.ensures
    ∙ ap (λ b. complement_by b c.node-node.result) c.is_complement-complement.ensures
    ∙ ap (complement_by complement) (c.node-node.ensures ∙ ap (λ i. Node (record { level = c.args.level; shard = c.args.shard; index = i }) false) index)
    ∙ complement_by-node complement (record { level = c.args.level; shard = c.args.shard; index = index_of c.in_ok-placed.placed }) in
    let before : List Ref = c.args.self.now.found.items in
    let items : c.push_reserved.new.self.items ≡ before ++ (v.noted.0 ++ id ∷ []) =
    c.push_reserved.ensures.items
    ∙ ap (λ z. z ++ c.complement_if.result ∷ []) v.noted.1
    ∙ append_assoc before v.noted.0 (c.complement_if.result ∷ [])
    ∙ ap (λ z. before ++ (v.noted.0 ++ z ∷ [])) named in
    record {
      grows = step.0;
      below = step.1;
      within = λ h. step.2 (v.within h);
      noted = (
        v.noted.0 ++ id ∷ [],
        items,
        noted_more c.args.level c.args.shard n c.args.list.now old new v.noted.0 c.pair-item.result c.pair-item.result c.in_ok-placed.placed one c.loop-pair-test.true c.pair-item.is at v.noted.2,
      );
      room = let a = v.room in let l = c.push_reserved.ensures.len in let k = c.push_reserved.ensures.capacity in let t = c.loop-pair-test.true in omega arith;
    }
