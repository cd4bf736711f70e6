use Rattle.std.proofs.Common.{◌≡◌, ◌<◌, ◌∙◌, List, length, subst, arith}
use Rattle.std.specs.List.{AllZip}
use Rattle.std.specs.declared.vec.Vec.{Vec}
use Rattle.std.specs.declared.alloc.Global.{Global}
use Rattle.std.proofs.lemmas.Result.{err_from_is_err_and}
use Rattle.std.proofs.lemmas.List.Elements.{All-get_or}
use Rattle.dd_store.specs.declared.reference.Ref.{Ref}
use Rattle.dd_store.specs.Graph.{Pair}
use Rattle.slot_table.specs.Lists.{IsIn}
use Rattle.dd_store.specs.Growing.{Grows}
use Rattle.dd_store.specs.Levels.{list_at, all_at, regular_list, IsReferenceAt}
use Rattle.dd_store.proofs.Growing.{Grows-trans, Grows-wider}
use Rattle.dd_store.proofs.LevelFacts.{list_read}
use Rattle.dd_store.proofs.Noting.{part_in, all_at-more, noted_part, IsMakeListFault-wider}
use Rattle.dd_store.proofs.Regular.{regular_inside}
use Rattle.dd_store.proofs.level.ShardState.make_lists.Goals as goal
use Rattle.dd_store.proofs.level.ShardState.make_lists.Goals.{After-make_list}

-- once the list of a part was made
module _ (c : After-make_list) where
  abbrev list : List Pair
  list = list_at c.part-item.result.items c.args.shard

  -- the list is that of the part for the shard
  read : c.as_slice-list.result.now ≡ list
  read =
      let sixteen = All-get_or (λ (z : Vec (Vec Pair Global) Global). length z.items ≡ 16) c.args.parts.now c.loop-part.part-index c.part-item.result c.loop-part-test.true c.requires.lists in
      let room : c.args.shard < length c.part-item.result.items = rw c.part-item.is (let lt = c.requires.shard in omega (arith, sixteen)) in
      c.as_slice-list.ensures.value ∙ list_read c.part-item.result.items c.args.shard c.index.result.now room c.index.ensures

  inside : (p : Pair) → IsIn list p → IsIn (all_at c.args.parts.now c.args.shard) p
  inside = part_in c.args.parts.now c.loop-part.part-index c.args.shard c.part-item.result c.loop-part-test.true c.part-item.is

  regular : (p : Pair) → IsIn (regular_list list) p → IsIn (regular_list (all_at c.args.parts.now c.args.shard)) p
  regular = regular_inside list (all_at c.args.parts.now c.args.shard) inside

  step : Grows (regular_list list) c.loop-part.self.nodes c.make_list.new.self.nodes
  step = subst (λ (z : List Pair). Grows (regular_list z) c.loop-part.self.nodes c.make_list.new.self.nodes) read c.make_list.ensures.grows

  grows : Grows (regular_list (all_at c.args.parts.now c.args.shard)) c.args.self.now.nodes c.make_list.new.self.nodes
  grows =
      Grows-trans (regular_list (all_at c.args.parts.now c.args.shard)) c.args.self.now.nodes c.loop-part.self.nodes c.make_list.new.self.nodes c.loop-part.invariant.grows
      (Grows-wider (regular_list list) (regular_list (all_at c.args.parts.now c.args.shard)) c.loop-part.self.nodes c.make_list.new.self.nodes regular step)

pub returns-in_err-make_list-clause-grows : goal.returns-in_err-make_list-clause-grows
returns-in_err-make_list-clause-grows c = grows (goal.at.returns-in_err-make_list-clause-grows c).After-make_list

pub returns-in_err-make_list-clause-noted : goal.returns-in_err-make_list-clause-noted
returns-in_err-make_list-clause-noted c =
    let w = (goal.at.returns-in_err-make_list-clause-noted c).After-make_list in
    let p = err_from_is_err_and c.from_residual.result c.from_residual.ensures.1 in
    rw (p.1, p.2) (IsMakeListFault-wider c.args.limit (regular_list c.as_slice-list.result.now) (regular_list (all_at c.args.parts.now c.args.shard)) c.make_list.new.self.nodes c.in_err-make_list.field-0.0
    (λ q h. regular w q (subst (λ (z : List Pair). IsIn (regular_list z) q) (read w) h)) c.in_err-make_list.ensures.noted)

pub loop-part-preserved : goal.loop-part-preserved
loop-part-preserved c =
    let w = (goal.at.loop-part-preserved c).After-make_list in
    let v = c.loop-part.invariant in
    let k = c.loop-part.part-index in
    let new = c.make_list.new.self.nodes in
    let more = c.in_ok-make_list.ensures.noted in
    let refs : List Ref = more.0 in
    let zip = subst (λ (z : List Pair). AllZip (IsReferenceAt c.args.level c.args.shard new) z refs) (read w) more.2 in
    let e = all_at-more c.args.parts.now k c.args.shard c.part-item.result c.loop-part-test.true c.part-item.is in
    record {
      grows = grows w;
      within = λ h. c.make_list.ensures.within (v.within h);
      noted = rw (e, more.1) (noted_part c.args.level c.args.shard _ (list w) c.loop-part.self.nodes new c.loop-part.self.found.items refs (step w) v.noted zip);
    }
