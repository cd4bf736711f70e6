use Rattle.std.proofs.Common.{◌<◌, subst, sym, le_refl}
use Rattle.expand_work.specs.Work.{at, MaySend}
use Rattle.expand_work.proofs.Sending.{may_still}
use Rattle.expand_work.proofs.send.send_due.Goals as goal

pub send_asks-requires-clause-may : goal.send_asks-requires-clause-may
send_asks-requires-clause-may g c =
    let to = c.loop-to.to in
    let i = c.loop-to.invariant.0 in
    subst (MaySend c.args.lanes.now c.loop-to.port to) (sym (c.loop-to.invariant.1.rest to (le_refl to)))
    (may_still c.args.lanes.now c.args.port.now c.loop-to.port to (at c.args.due.now to) i.port.0 i.taken (i.rest to (le_refl to)) (c.requires.may to (subst (λ n. to < n) c.count-to-end.ensures.count c.loop-to-test.true)))
