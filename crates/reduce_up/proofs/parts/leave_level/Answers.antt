use Rattle.std.proofs.Common.{◌≡◌, ◌<◌, ◌∙◌, ap, sym, arith, List, [], length, get_or}
use Rattle.std.proofs.Math.Seq.{map-set_same}
use Rattle.std.proofs.lemmas.List.{length-set, get_or_default, take_all}
use Rattle.req_table.specs.declared.packed_child.PackedChild.{PackedChild}
use Rattle.req_table.specs.Places.{row}
use Rattle.req_table.proofs.AtPlace.{row_own, row_other}
use Rattle.reduce_up.specs.OverParts.{level_over}
use Rattle.reduce_up.proofs.OverParts.{all_long, left_first, left_more}
use Rattle.reduce_up.proofs.parts.leave_level.Goals as goal

pub clear_level-requires : goal.clear_level-requires
clear_level-requires c =
    all_long (λ n. c.args.level < n) c.loop-place.parts c.args.parts.now c.loop-place.invariant.levels c.requires c.loop-place.place c.index-parts-place.result (let a = c.loop-place.auto.place-end in let t = c.loop-place-test.true in omega (arith, t))

pub loop-place-preserved : goal.loop-place-preserved
loop-place-preserved c =
    let ps = c.loop-place.parts in
    let i = c.loop-place.place in
    let own : List (List (PackedChild × PackedChild)) = get_or ps i c.index-parts-place.result in
    let new : List (List (PackedChild × PackedChild)) = c.clear_level.new.self in
    let lt : i < length ps = (let t = c.loop-place-test.true in omega (arith, t)) in
    let read : own ≡ get_or ps i [] = get_or_default ps i c.index-parts-place.result [] lt in
    record {
      levels = map-set_same (λ (rows : List (List (PackedChild × PackedChild))). length rows) ps i new [] (ap length c.clear_level.ensures ∙ length-set own c.args.level [] ∙ ap length read) ∙ c.loop-place.invariant.levels;
      left = left_first ps i new c.args.level lt c.loop-place.invariant.left (ap (λ (z : List (List (PackedChild × PackedChild))). row z c.args.level) c.clear_level.ensures ∙ row_own own c.args.level [] (all_long (λ n. c.args.level < n) ps c.args.parts.now c.loop-place.invariant.levels c.requires i c.index-parts-place.result lt));
      others = λ w ne. left_more ps i new w lt (ap (λ (z : List (List (PackedChild × PackedChild))). row z w) c.clear_level.ensures ∙ row_other own c.args.level [] w ne ∙ ap (λ (z : List (List (PackedChild × PackedChild))). row z w) read) ∙ c.loop-place.invariant.others w ne;
    }

pub returns : goal.returns
returns c =
    let ps = c.loop-place.parts in
    record {
      levels = c.loop-place.invariant.levels;
      left = ap (λ (z : List (List (List (PackedChild × PackedChild)))). level_over z c.args.level) (sym (take_all c.loop-place.place ps (let t = c.loop-place-test.false in omega (arith, t)))) ∙ c.loop-place.invariant.left;
      others = c.loop-place.invariant.others;
    }
