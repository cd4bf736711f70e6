use Rattle.std.proofs.Common.{◌+◌, ◌<◌, take, length, ap, ◌≡◌, ℕ, ◌∙◌, refl, List, [], ◌∷◌, ◌++◌, slice_get, Some, sym, subst, arith}
use Rattle.dd_store.specs.declared.reference.Ref.{Ref}
use Rattle.req_table.specs.declared.packed_child.PackedChild.{PackedChild}
use Rattle.req_table.specs.Places.{row}
use Rattle.reduce_up.specs.OverParts.{level_over}
use Rattle.reduce_up.specs.ReductionPhase.{AskedAt, IsLevelReduced, AreMore}
use Rattle.reduce_up.proofs.Noting.{on_ok}
use Rattle.reduce_up.proofs.OverParts.{stands_over, over_more}
use Rattle.reduce_up.proofs.Raising.{low_comes, high_comes, is_record, refused_one, adds_one, one_more, level_start, level_given_up, level_whole}
use Rattle.reduce_up.proofs.Reduction.{adds_none}
use Rattle.std.proofs.lemmas.List.{length-append, take_all}
use Rattle.reduce_up.proofs.up.reduce_level.Goals as goal
use Rattle.reduce_up.proofs.up.reduce_level.Goals.{After-at-pair}

-- the next request's children, among those of the whole level
abbrev children : After-at-pair → List (PackedChild × PackedChild)
children c = level_over c.args.level.now.parts.now c.args.level.now.number

abbrev next : After-at-pair → ℕ
next c = length (level_over (take c.loop-part.part-index c.args.level.now.parts.now) c.args.level.now.number) + c.loop-place.place

stands : (c : After-at-pair) → slice_get (children c) (next c) ≡ Some c.at-pair.result
stands c = stands_over c.args.level.now.parts.now c.args.level.now.number c.loop-part.part-index c.part-item.result (let t = c.loop-part-test.true in omega (arith, t)) c.part-item.is c.loop-place.place c.at-pair.result
    (subst (λ (z : List (PackedChild × PackedChild)). slice_get z c.loop-place.place ≡ Some c.at-pair.result) c.row-children.ensures c.at-pair.ensures)

pub returns-then-is_err-clause-level : goal.returns-then-is_err-clause-level
returns-then-is_err-clause-level c = λ T R. level_given_up _ _ _ _ _ (adds_none _ _ (AskedAt c.args.store.now T c.args.level.now.number) refl)

pub resolve-low-requires : goal.resolve-low-requires
resolve-low-requires c =
    let w = (goal.at.resolve-low-requires c).After-at-pair in
    low_comes _ c.requires.held _ _ _ _ c.requires.ready _ _ _ (c.loop-place.invariant.reduced _ c.requires.ready) _ (stands w)

pub resolve-high-requires : goal.resolve-high-requires
resolve-high-requires c =
    let w = (goal.at.resolve-high-requires c).After-at-pair in
    high_comes _ c.requires.held _ _ _ _ c.requires.ready _ _ _ (c.loop-place.invariant.reduced _ c.requires.ready) _ (stands w)

pub make-requires : goal.make-requires
make-requires c =
    let w = (goal.at.make-requires c).After-at-pair in
    let r = is_record _ c.requires.held _ _ _ _ c.requires.ready _ _ _ (c.loop-place.invariant.reduced _ c.requires.ready) _ (stands w) c.resolve-low.result c.resolve-high.result c.resolve-low.ensures c.resolve-high.ensures in
    record { level = r.key.bounded; lo_in_store = r.low.has; hi_in_store = r.high.has; above_lo = r.low.below; above_hi = r.high.below }

pub returns-in-Err-clause-level : goal.returns-in-Err-clause-level
returns-in-Err-clause-level c = λ T R.
    let w = (goal.at.returns-in-Err-clause-level c).After-at-pair in
    rw c.from.ensures
    (refused_one _ c.requires.held _ _ _ _ R _ _ _ (c.loop-place.invariant.reduced T R) _ (stands w) c.resolve-low.result c.resolve-high.result c.resolve-low.ensures c.resolve-high.ensures
    c.make.new.store c.in-Err.ensures.refused c.in-Err.fault c.in-Err.ensures.full)

pub returns-then-is_err-2-clause-level : goal.returns-then-is_err-2-clause-level
returns-then-is_err-2-clause-level c = λ T R.
    let w = (goal.at.returns-then-is_err-2-clause-level c).After-at-pair in
    level_given_up _ _ _ _ _
    (adds_one _ c.requires.held _ _ _ _ R _ _ _ (c.loop-place.invariant.reduced T R) _ (stands w) c.resolve-low.result c.resolve-high.result c.resolve-low.ensures c.resolve-high.ensures
    c.make.new.store c.make.ensures.sound c.in-Ok.answer c.in-Ok.ensures.made)

pub loop-place-preserved : goal.loop-place-preserved
loop-place-preserved c =
    let w = (goal.at.loop-place-preserved c).After-at-pair in
    let base : ℕ = length (level_over (take c.loop-part.part-index c.args.level.now.parts.now) c.args.level.now.number) in
    let e : next w + 1 ≡ base + (c.loop-place.place + 1) = omega arith in
    let grown : c.push.new.self ≡ c.loop-place.own ++ c.in-Ok.answer ∷ [] = on_ok c.push.result (sym c.is_err-in-loop-place.ensures.value ∙ c.if-is_err-2.false) c.push.ensures.done in
    record {
      held = c.make.ensures.sound;
      reduced = λ T R. subst (λ n. IsLevelReduced c.args.store.now T c.args.level.now.number n c.make.new.store c.push.new.self) e
          (one_more _ c.requires.held _ _ _ _ R _ _ _ (c.loop-place.invariant.reduced T R) _ (stands w) c.resolve-low.result c.resolve-high.result c.resolve-low.ensures c.resolve-high.ensures
          c.make.new.store c.make.ensures.sound c.in-Ok.answer c.in-Ok.ensures.made c.push.new.self grown);
      counted = let e = c.make.ensures.count in let h = c.loop-place.invariant.counted in omega (arith, e, h);
    }

pub loop-part-init : goal.loop-part-init
loop-part-init c = record {
  held = c.requires.held;
  reduced = λ T R. subst (λ (z : List Ref). IsLevelReduced c.args.store.now T c.args.level.now.number 0 c.args.store.now z) (sym c.restart.ensures)
      (level_start _ _ _ _ _ c.requires.held R);
  counted = omega arith;
}

pub loop-place-init : goal.loop-place-init
loop-place-init c =
    let base : ℕ = length (level_over (take c.loop-part.part-index c.args.level.now.parts.now) c.args.level.now.number) in
    let e : base ≡ base + 0 = omega arith in
    record {
      held = c.loop-part.invariant.held;
      reduced = λ T R. subst (λ n. IsLevelReduced c.args.store.now T c.args.level.now.number n c.loop-part.store c.loop-part.own) e (c.loop-part.invariant.reduced T R);
      counted = let h = c.loop-part.invariant.counted in omega (arith, h);
    }

pub loop-part-preserved : goal.loop-part-preserved
loop-part-preserved c =
    let ps = c.args.level.now.parts.now in
    let v = c.args.level.now.number in
    let i = c.loop-part.part-index in
    let p = c.part-item.result in
    let pb : i < length ps = (let t = c.loop-part-test.true in omega (arith, t)) in
    let own : length c.row-children.result.now ≡ length (row p v) = ap length c.row-children.ensures in
    let whole : length (level_over (take i ps) v) + c.loop-place.place ≡ length (level_over (take (i + 1) ps) v) =
    (let more : length (level_over (take (i + 1) ps) v) ≡ length (level_over (take i ps) v) + length (row p v) = ap length (over_more ps i p v pb c.part-item.is) ∙ length-append (level_over (take i ps) v) (row p v) in let t = c.loop-place-test.false in let e = c.len-place-end.ensures in let a = c.loop-place.auto.place-end in omega (arith, more, own, t, e, a)) in
    record {
      held = c.loop-place.invariant.held;
      reduced = λ T R. subst (λ n. IsLevelReduced c.args.store.now T v n c.loop-place.store c.loop-place.own) whole (c.loop-place.invariant.reduced T R);
      counted = subst (λ n. AreMore n c.args.reductions.now c.loop-place.reductions) whole c.loop-place.invariant.counted;
    }

pub returns-clause-level : goal.returns-clause-level
returns-clause-level c = λ T R.
    let ps = c.args.level.now.parts.now in
    let all : length (level_over (take c.loop-part.part-index ps) c.args.level.now.number) ≡ length (row T c.args.level.now.number) =
    ap (λ z. length (level_over z c.args.level.now.number)) (take_all c.loop-part.part-index ps (let t = c.loop-part-test.false in omega (arith, t))) ∙ R.counts in
    level_whole _ _ _ _ _ (subst (λ n. IsLevelReduced c.args.store.now T c.args.level.now.number n c.loop-part.store c.loop-part.own) all (c.loop-part.invariant.reduced T R))
