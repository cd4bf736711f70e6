use Rattle.std.proofs.Common.{◌≡◌, ◌∙◌, ap, length, sym, arith}
use Rattle.std.proofs.lemmas.List.{length-map}
use Rattle.net_bench.specs.Circuit.{highest_rank}
use Rattle.net_simulate.proofs.Adding.{all_scheduled}
use Rattle.net_simulate.proofs.scheduling.schedule_of.Goals as goal

pub returns-clause-schedule : goal.returns-clause-schedule
returns-clause-schedule c =
    let end : c.loop-place.place ≡ length c.as_slice-rows.result.now = omega arith in
    let top : c.loop-place.place ≡ highest_rank c.args.net.now =
    end ∙ ap length c.as_slice-rows.ensures.value ∙ sym (length-map c.in_ok-table.table.items (λ w. w.items)) ∙ c.in_ok-table.ensures.rows.count in
    all_scheduled c.args.net.now c.gates_by_rank.ensures.sound c.loop-place.schedule c.loop-place.place top c.loop-place.invariant
