use Rattle.std.proofs.Common.{◌≡◌, ◌∙◌, ◌<◌, ℕ, List, ap, arith, get_or, length, map, subst, take}
use Rattle.std.specs.Prelude.{min, slice_index}
use Rattle.std.proofs.lemmas.List.{get_or_default, take_min}
use Rattle.cone_check.specs.ConeLevels.{AreSetAt}
use Rattle.cone_check.specs.ConeRounds.{levels_in}
use Rattle.cone_check.proofs.ConeLevels.{none_set, set_more}
use Rattle.cone_check.proofs.pair_cones.add_levels.Goals as goal

pub loop-place-init : goal.loop-place-init
loop-place-init c = none_set c.args.has_level.now.items

pub loop-place-preserved : goal.loop-place-preserved
loop-place-preserved c =
    let f : ℕ → ℕ = slice_index (levels_in c.args.part c.args.naming.now) in
    let from = c.args.cone.now.from.items in
    let place = c.loop-place.place in
    let same : c.sources-from.result.now ≡ from = c.sources-from.ensures in
    let low : place < length from = (let e = ap (λ (xs : List ℕ). length xs) same in omega (arith, e)) in
    let inside : place < length c.sources-from.result.now = omega arith in
    let source : c.index-from-place.result ≡ get_or c.sources-from.result.now place 0 =
    c.index-from-place.is ∙ get_or_default c.sources-from.result.now place c.index-from-place.result 0 inside in
    set_more f from place 0 c.level_in-level.result c.args.has_level.now.items c.loop-place.has_level.items c.set_level.new.has_level.items low
    (c.level_in-level.ensures ∙ ap f source ∙ ap (λ (xs : List ℕ). f (get_or xs place 0)) same) c.set_level.ensures c.loop-place.invariant

pub returns : goal.returns
returns c =
    let f : ℕ → ℕ = slice_index (levels_in c.args.part c.args.naming.now) in
    let from = c.args.cone.now.from.items in
    let inputs = c.args.cone.now.net.inputs in
    let same = ap (λ (xs : List ℕ). length xs) c.sources-from.ensures in
    let each = ap (λ (xs : List ℕ). length xs) c.inputs.ensures.value in
    let end : c.loop-place.place ≡ min (length inputs) (length from) = omega (arith, same, each) in
    subst (λ (xs : List ℕ). AreSetAt (map f xs) c.args.has_level.now.items c.loop-place.has_level.items) (take_min (length inputs) from)
    (subst (λ n. AreSetAt (map f (take n from)) c.args.has_level.now.items c.loop-place.has_level.items) end c.loop-place.invariant)
