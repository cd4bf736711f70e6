use Rattle.std.proofs.Common.{length, arith, refl, ◌∙◌, Vec, Global}
use Rattle.dd_store.specs.Graph.{Pair}
use Rattle.expand_work.proofs.Growing.{emptied_more}
use Rattle.reduce_up.proofs.Dividing.{all_emptied}
use Rattle.reduce_up.proofs.lists.clear_lists.Goals as goal

pub loop-place-preserved : goal.loop-place-preserved
loop-place-preserved c =
    let t = c.loop-place-test.true in
    let e = c.len-place-end.ensures in
    let i = c.loop-place.invariant.0 in
    emptied_more (λ (v : Vec Pair Global). v.items) c.loop-place.lists.items _ c.loop-place.place c.reserve_exact.new.self (length c.args.lists.now.items) (omega (arith, t, e, i)) c.loop-place.invariant refl (c.reserve_exact.ensures.items ∙ c.clear.ensures.items)

pub returns-clause-empty : goal.returns-clause-empty
returns-clause-empty c =
    let t = c.loop-place-test.false in
    let e = c.len-place-end.ensures in
    all_emptied c.loop-place.lists.items c.loop-place.place (length c.args.lists.now.items) c.loop-place.invariant (omega (arith, t, e))
