use Rattle.std.proofs.Common.{◌≡◌, ◌∙◌, ◌+◌, subst, sym}
use Rattle.std.specs.Prelude.{Contains}
use Rattle.std.proofs.lemmas.List.{take_all}
use Rattle.net_simulate.specs.RankRows.{rank_row}
use Rattle.net_simulate.specs.Schedules.{IsScheduledTo}
use Rattle.net_simulate.proofs.Adding.{row_done, row_step}
use Rattle.net_simulate.proofs.Rows.{row_is, signal_low}
use Rattle.net_simulate.proofs.scheduling.add_row.Goals as goal

pub add_gate-requires : goal.add_gate-requires
add_gate-requires c =
    let row : c.as_slice-row.result.now ≡ rank_row c.args.net.now (c.args.place + 1) =
    row_is (λ w. w.items) c.args.net.now c.args.rows.now c.args.place c.index-rows-place.result c.as_slice-row.result.now c.requires.rows c.requires.place c.index-rows-place.is c.as_slice-row.ensures.value in
    signal_low c.args.net.now c.requires.sound (c.args.place + 1) c.index-row-i.result
    (subst (λ xs. Contains xs c.index-row-i.result) row (c.loop-i.i, c.loop-i-test.true, sym c.index-row-i.is))

pub loop-i-preserved : goal.loop-i-preserved
loop-i-preserved c =
    let row : c.as_slice-row.result.now ≡ rank_row c.args.net.now (c.args.place + 1) =
    row_is (λ w. w.items) c.args.net.now c.args.rows.now c.args.place c.index-rows-place.result c.as_slice-row.result.now c.requires.rows c.requires.place c.index-rows-place.is c.as_slice-row.ensures.value in
    row_step c.args.net.now c.requires.sound c.loop-i.schedule c.add_gate.new.schedule c.args.place c.loop-i.i c.index-row-i.result c.as_slice-row.result.now row
    c.loop-i-test.true c.index-row-i.is c.in_ok-add_gate.ensures c.loop-i.invariant

pub returns : goal.returns
returns c =
    let row : c.as_slice-row.result.now ≡ rank_row c.args.net.now (c.args.place + 1) =
    row_is (λ w. w.items) c.args.net.now c.args.rows.now c.args.place c.index-rows-place.result c.as_slice-row.result.now c.requires.rows c.requires.place c.index-rows-place.is c.as_slice-row.ensures.value in
    row_done c.args.net.now c.requires.sound c.loop-i.schedule c.args.place
    (subst (IsScheduledTo c.args.net.now c.loop-i.schedule c.args.place (c.args.place + 1)) (take_all c.loop-i.i c.as_slice-row.result.now c.loop-i-test.false ∙ row) c.loop-i.invariant)
