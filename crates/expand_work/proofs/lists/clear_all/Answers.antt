use Rattle.std.proofs.Common.{length, refl, arith, Vec, Global}
use Rattle.expand_work.proofs.Growing.{emptied_more, emptied_all}
use Rattle.expand_work.proofs.lists.clear_all.Goals as goal

pub loop-place-preserved : goal.loop-place-preserved
loop-place-preserved g c =
    let t = c.loop-place-test.true in
    let e = c.len-place-end.ensures in
    let i = c.loop-place.invariant.0 in
    emptied_more (λ (v : Vec g.row.T.Denot Global). v.items) c.loop-place.lists.items _ c.loop-place.place c.clear.new.self (length c.args.lists.now.items) (omega (arith, t, e, i)) c.loop-place.invariant refl c.clear.ensures.items

pub returns : goal.returns
returns g c =
    let t = c.loop-place-test.false in
    let e = c.len-place-end.ensures in
    emptied_all (λ (v : Vec g.row.T.Denot Global). v.items) c.loop-place.lists.items c.loop-place.place (length c.args.lists.now.items) c.loop-place.invariant (omega (arith, t, e))
