use Rattle.net_explain.proofs.Lists.{moved}
use Rattle.net_explain.proofs.Wording.{changes_next}
use Rattle.net_explain.proofs.vcd.add_changes.Goals as goal

pub loop-place-preserved : goal.loop-place-preserved
loop-place-preserved c =
    moved _ _ _ _ _ _ c.loop-place.invariant (changes_next c.args.number c.args.bits.now c.loop-place.place c.loop-place-test.true) c.in_ok-add_change.ensures
