use Rattle.std.proofs.Common.{◌≡◌, ◌<◌, List, map, ◌++◌, ◌∷◌, sym, subst}
use Rattle.req_table.specs.declared.Key.{Key}
use Rattle.req_table.specs.Settled.{key_of}
use Rattle.wave_core.specs.MachineView.{MachineView, by_place}
use Rattle.wave_core.proofs.Machines.{view_in}
use Rattle.wave_core.proofs.DueLists.{noted}
use Rattle.wave_core.proofs.Grid.{set_same}
use Rattle.wave_core.specs.MachineView.{IsConsistent}
use Rattle.req_table.specs.declared.Record.{Record}
use Rattle.std.proofs.Common.{◌+◌, ◌*◌}
use Rattle.wave_core.proofs.machine.Machine.note.Goals as goal

pub invariant_of-self-2 : goal.invariant_of-self-2
invariant_of-self-2 c =
    let v = view_in c.self.inside in
    let view = c.self.view_is in
    let bb = subst (λ (u : MachineView). c.args.by < u.workers) (sym view) c.requires.by in
    let lb = subst (λ (u : MachineView). c.args.level < u.levels) (sym view) c.requires.level in
    let (more, front) = subst (λ (u : MachineView). (more : List Key) × (by_place u.levels u.tables c.args.by c.args.level ≡ map key_of (by_place u.levels u.rows c.args.by c.args.level) ++ c.args.added.now.key ∷ more)) (sym view) c.requires.next in
    noted v c.self.invariant c.args.by c.args.level c.args.added.now more c.index_mut.result.now c.put.new.self bb lb front c.index_mut.ensures.value c.in_ok-put.ensures.ok

pub invariant_of-self : goal.invariant_of-self
invariant_of-self c = subst (λ (l : List (List Record)). IsConsistent (record (view_in c.self.inside) { rows = l })) (sym (set_same c.self.inside.rows.items (c.args.by * c.self.inside.levels + c.args.level) c.index_mut.result.now c.put.new.self c.index_mut.ensures.value c.in_err-put.ensures.err)) c.self.invariant
