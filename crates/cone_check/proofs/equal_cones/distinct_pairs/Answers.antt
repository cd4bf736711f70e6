use Rattle.std.proofs.Common.{◌≡◌, ◌∙◌, ◌<◌, None, arith, get_or, length, subst, sym}
use Rattle.std.proofs.lemmas.List.{get_or_default, take_all}
use Rattle.cone_check.specs.ConeRounds.{IsInContext}
use Rattle.cone_check.specs.EqualCones.{AreDistinct}
use Rattle.cone_check.proofs.EqualCones.{Known, dealt_more, dealt_none}
use Rattle.cone_check.proofs.Filling.{zip_at}
use Rattle.cone_check.proofs.equal_cones.distinct_pairs.Goals as goal

pub loop-place-init : goal.loop-place-init
loop-place-init g c =
    dealt_none c.args.context.now c.args.subjects.now c.args.known.now c.none-distinct.result c.none-distinct.ensures.subjects c.none-distinct.ensures.known c.none-distinct.ensures.numbers

pub deal-requires-clause-judged_in_range : goal.deal-requires-clause-judged_in_range
deal-requires-clause-judged_in_range g c = c.loop-place.invariant.in_range

pub loop-place-preserved : goal.loop-place-preserved
loop-place-preserved g c =
    let w = c.args.context.now in
    let ss = c.args.subjects.now in
    let place = c.loop-place.place in
    let s = c.index-subjects-place.result in
    let o = c.index-known-place.result in
    let low : place < length ss = c.loop-place-test.true in
    let here : place < length c.args.known.now = (let each = c.requires.one_for_each in omega (arith, low, each)) in
    let was : o ≡ get_or c.args.known.now place None = c.index-known-place.is ∙ get_or_default c.args.known.now place o None here in
    let known : Known w s o =
    subst (λ u. Known w u o) (sym c.index-subjects-place.is)
    (subst (λ v. Known w (get_or ss place s) v) (sym c.index-known-place.is) (zip_at (Known w) ss c.args.known.now place s o c.requires.at_once low)) in
    dealt_more w ss c.args.known.now place s o c.loop-place.distinct c.deal.new.distinct low c.index-subjects-place.is was (subst (IsInContext w) (sym c.index-subjects-place.is) (c.requires.in_range place s low)) known
    c.in_ok-deal.ensures c.loop-place.invariant

pub returns : goal.returns
returns g c =
    subst (λ xs. AreDistinct c.args.context.now xs c.args.known.now c.loop-place.distinct) (take_all c.loop-place.place c.args.subjects.now c.loop-place-test.false) c.loop-place.invariant
