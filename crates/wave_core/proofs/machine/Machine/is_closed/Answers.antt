use Rattle.std.proofs.Common.{subst}
use Rattle.wave_core.specs.MachineView.{MachineView, IsConsistent}
use Rattle.wave_core.proofs.DueLists.{closed_of_ended, open_of_ended}
use Rattle.wave_core.proofs.machine.Machine.is_closed.Goals as goal

pub returns-then-not-is_ended : goal.returns-then-not-is_ended
returns-then-not-is_ended c =
    let h = subst (λ (u : MachineView). IsConsistent u) c.self.view_is c.self.invariant in
    let e = c.if-not-is_ended.ensures in
    open_of_ended c.args.store.now c.args.self.now h c.args.by c.args.level c.requires.by c.requires.fair e.0 e.1 e.2

pub returns : goal.returns
returns c =
    let h = subst (λ (u : MachineView). IsConsistent u) c.self.view_is c.self.invariant in
    closed_of_ended c.args.store.now c.args.self.now h c.args.by c.args.level c.requires.by c.requires.fair c.if-not-is_ended.ensures
