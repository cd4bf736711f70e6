use Rattle.std.proofs.Common.{◌<◌, MatchBool, not, sym, subst, arith}
use Rattle.wave_core.specs.declared.Event.TheVariants.{Keep}
use Rattle.wave_core.specs.Step.{IsAllowed}
use Rattle.wave_core.specs.MachineView.{MachineView, IsOwnInOrder, state_of, wave_of_view}
use Rattle.wave_core.proofs.Machines.{view_in}
use Rattle.wave_core.proofs.Keeping.{may_keep}
use Rattle.wave_core.proofs.machine.Machine.can_keep.Goals as goal

pub returns-then-not-is_empty : goal.returns-then-not-is_empty
returns-then-not-is_empty c =
    let v = view_in c.self.inside in
    let view = c.self.view_is in
    let bb : c.args.by < v.workers = omega arith in
    let own : IsOwnInOrder v c.args.by = subst (λ (u : MachineView). IsOwnInOrder u c.args.by) (sym view) (c.requires (subst (λ (u : MachineView). c.args.by < u.workers) view bb)) in
    subst (λ (u : MachineView). MatchBool (not c.has_from.result) (IsAllowed (wave_of_view c.args.store.now u) (state_of u) (Keep c.args.by)) (¬ IsAllowed (wave_of_view c.args.store.now u) (state_of u) (Keep c.args.by))) view
    (may_keep c.args.store.now v c.self.invariant c.args.by c.index.result.now c.index-then-not-is_empty.result.now c.has_from.result bb own c.index.ensures c.if-not-is_empty.ensures c.index-then-not-is_empty.ensures c.has_from.ensures)
