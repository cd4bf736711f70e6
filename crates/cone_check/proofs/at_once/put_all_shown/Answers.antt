use Rattle.std.proofs.Common.{◌≡◌, ◌∙◌, ◌<◌, None, arith, length, get_or, subst, sym}
use Rattle.std.proofs.lemmas.List.{get_or-set_other, get_or_default, length-set}
use Rattle.net_bench.specs.Circuit.{circuit}
use Rattle.net_order.specs.Order.{condition}
use Rattle.pair_facts.specs.PairFacts.{IsFirstShown}
use Rattle.cone_check.proofs.AtOnce.{shown_more}
use Rattle.cone_check.proofs.Filling.{zip_at, zip_size}
use Rattle.cone_check.proofs.at_once.put_all_shown.Goals as goal

pub bounds-shown-place : goal.bounds-shown-place
bounds-shown-place g c =
    let task = c.args.task.now in
    let size = zip_size (IsFirstShown (circuit task.first.now) (circuit task.second.now) (condition task.given) c.args.naming.now) c.args.subjects.now c.args.shown.now c.requires.shown in
    let lt = c.loop-place-test.true in
    omega (arith, size, lt)

pub put_shown-requires-clause-shown : goal.put_shown-requires-clause-shown
put_shown-requires-clause-shown g c =
    let task = c.args.task.now in
    let P = IsFirstShown (circuit task.first.now) (circuit task.second.now) (condition task.given) c.args.naming.now in
    let lt : c.loop-place.place < length c.args.subjects.now = (let test = c.loop-place-test.true in omega (arith, test)) in
    subst (λ s. P s (get_or c.args.shown.now c.loop-place.place None)) (sym c.index-subjects-place.is)
    (zip_at P c.args.subjects.now c.args.shown.now c.loop-place.place c.index-subjects-place.result None c.requires.shown lt)

pub loop-place-preserved : goal.loop-place-preserved
loop-place-preserved g c =
    let task = c.args.task.now in
    let inv = c.loop-place.invariant in
    let place = c.loop-place.place in
    let known = c.loop-place.known.items in
    let old = c.index_mut.result.now in
    let new = c.put_shown.new.known in
    let size : length c.args.shown.now ≡ length c.args.subjects.now =
    zip_size (IsFirstShown (circuit task.first.now) (circuit task.second.now) (condition task.given) c.args.naming.now) c.args.subjects.now c.args.shown.now c.requires.shown in
    let low : place < length c.args.subjects.now = (let test = c.loop-place-test.true in omega (arith, test)) in
    let lower : place < length known = (let each = inv.each in let one = c.requires.one_for_each in omega (arith, each, one, low)) in
    record {
      each = length-set known place new ∙ inv.each;
      made = shown_more (circuit task.first.now) (circuit task.second.now) (condition task.given) c.args.naming.now c.args.subjects.now c.args.shown.now c.args.known.now.items known place c.index-subjects-place.result old new
          low size lower c.index-subjects-place.is (c.index_mut.ensures.value ∙ get_or_default known place old None lower ∙ inv.rest place (omega arith)) c.in_ok-put_shown.ensures inv.made;
      rest = λ i le. get_or-set_other known place i new None (λ e. omega (arith, le, e)) ∙ inv.rest i (omega (arith, le));
    }

pub returns : goal.returns
returns g c =
    let last = c.loop-place-test.false in
    record {
      each = c.loop-place.invariant.each;
      places = λ i s number lt. c.loop-place.invariant.made i s number (omega (arith, lt, last));
    }
