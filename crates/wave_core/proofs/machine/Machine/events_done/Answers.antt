use Rattle.std.proofs.Common.{◌≡◌, ◌+◌, ◌-◌, length, sum, ap, subst, ◌∙◌, arith}
use Rattle.std.specs.List.{sum_by}
use Rattle.wave_core.specs.MachineView.{MachineView, done_of}
use Rattle.wave_core.proofs.Machines.{view_in}
use Rattle.wave_core.proofs.Counted.{counted, sum_grid}
use Rattle.wave_core.proofs.machine.Machine.events_done.Goals as goal

pub overflow_sub-result : goal.overflow_sub-result
overflow_sub-result c =
    let v = view_in c.self.inside in
    let all = sum_grid v.workers v.workers v.sent c.self.invariant.shape.sent in
    let kept = c.self.invariant.kept in
    let sent : c.count_items.result ≡ sum_by length v.sent = c.count_items.ensures.value ∙ ap (λ xs. sum_by length xs) c.deref.ensures.value in
    omega (arith, all, kept, sent)

pub returns : goal.returns
returns c =
    let v = view_in c.self.inside in
    let all_recorded = counted v c.self.invariant.shape in
    let sent : c.count_items.result ≡ sum_by length v.sent = c.count_items.ensures.value ∙ ap (λ xs. sum_by length xs) c.deref.ensures.value in
    let taken : c.count_items-2.result ≡ sum_by length v.taken = c.count_items-2.ensures.value ∙ ap (λ xs. sum_by length xs) c.deref-2.ensures.value in
    let rows : c.count_records.result ≡ sum_by length v.rows = c.count_records.ensures.value ∙ ap (λ xs. sum_by length xs) c.deref-3.ensures.value in
    let at : c.count_levels.result ≡ sum v.at = c.count_levels.ensures.value ∙ ap (λ xs. sum xs) c.deref-4.ensures.value in
    subst (λ (u : MachineView). c.count_items.result + c.count_items-2.result + c.count_records.result + c.count_levels.result - c.self.inside.kept ≡ done_of u) c.self.view_is (omega (arith, all_recorded, sent, taken, rows, at))
