use Rattle.std.proofs.Common.{◌≡◌, ◌<◌, ◌∷◌, ◌++◌, List, All, Contains, map, sym, subst, arith}
use Rattle.std.proofs.lemmas.Option.{get_or_from_slice_get}
use Rattle.req_table.specs.declared.Key.{Key}
use Rattle.req_table.specs.Lanes.{asks_at}
use Rattle.req_table.specs.Settled.{key_of}
use Rattle.wave_core.specs.MachineView.{MachineView, IsConsistent, by_place, list_of}
use Rattle.wave_core.proofs.Machines.{view_in}
use Rattle.wave_core.proofs.DueLists.{all_known, next_found, none_found, left_over}
use Rattle.wave_core.proofs.machine.Machine.next_key.Goals as goal

pub returns-then-done-len-clause-left : goal.returns-then-done-len-clause-left
returns-then-done-len-clause-left c =
    let v = c.args.self.now in
    let view = c.self.view_is in
    let h = subst (λ (u : MachineView). IsConsistent u) view c.self.invariant in
    let bi = subst (λ (u : MachineView). c.args.by < u.workers) (sym view) c.requires.by in
    let li = subst (λ (u : MachineView). c.args.level < u.levels) (sym view) c.requires.level in
    let none = none_found (view_in c.self.inside) c.self.invariant c.args.by c.args.level bi li c.index.result.now c.index-2.result.now c.len-done.result c.len.result
    c.index.ensures c.len-done.ensures c.index-2.ensures c.len.ensures.value (omega arith) in
    let all_recorded = subst (λ (u : MachineView). by_place u.levels u.tables c.args.by c.args.level ≡ map key_of (by_place u.levels u.rows c.args.by c.args.level)) view none in
    subst (λ n. All (Contains (map key_of (by_place v.levels v.rows c.args.by n))) (asks_at n (list_of v.taken c.args.by))) c.requires.here
    (all_known v h c.args.by c.args.level c.requires.by c.requires.level all_recorded)

pub returns-clause-front : goal.returns-clause-front
returns-clause-front c =
    let v = view_in c.self.inside in
    let view = c.self.view_is in
    let bb = subst (λ (u : MachineView). c.args.by < u.workers) (sym view) c.requires.by in
    let lb = subst (λ (u : MachineView). c.args.level < u.levels) (sym view) c.requires.level in
    subst (λ (u : MachineView). (more : List Key) × (by_place u.levels u.tables c.args.by c.args.level ≡ map key_of (by_place u.levels u.rows c.args.by c.args.level) ++ c.key_at.result ∷ more)) view
    (next_found v c.self.invariant c.args.by c.args.level bb lb c.index.result.now c.index-2.result.now c.index-3.result.now c.key_at.result c.len-done.result c.len.result
    c.index.ensures c.len-done.ensures c.index-2.ensures c.len.ensures.value c.index-3.ensures (omega arith) (λ e. get_or_from_slice_get c.index-3.result.now c.len-done.result c.key_at.result e c.key_at.ensures))

pub returns-clause-left : goal.returns-clause-left
returns-clause-left c =
    let v = c.args.self.now in
    let view = c.self.view_is in
    let h = subst (λ (u : MachineView). IsConsistent u) view c.self.invariant in
    let bb = subst (λ (u : MachineView). c.args.by < u.workers) (sym view) c.requires.by in
    let lb = subst (λ (u : MachineView). c.args.level < u.levels) (sym view) c.requires.level in
    let front = next_found (view_in c.self.inside) c.self.invariant c.args.by c.args.level bb lb c.index.result.now c.index-2.result.now c.index-3.result.now c.key_at.result c.len-done.result c.len.result
    c.index.ensures c.len-done.ensures c.index-2.ensures c.len.ensures.value c.index-3.ensures (omega arith) (λ e. get_or_from_slice_get c.index-3.result.now c.len-done.result c.key_at.result e c.key_at.ensures) in
    let here = subst (λ n. by_place v.levels v.tables c.args.by n ≡ map key_of (by_place v.levels v.rows c.args.by n) ++ c.key_at.result ∷ front.0) c.requires.here
    (subst (λ (u : MachineView). by_place u.levels u.tables c.args.by c.args.level ≡ map key_of (by_place u.levels u.rows c.args.by c.args.level) ++ c.key_at.result ∷ front.0) view front.1) in
    left_over v h c.args.by c.requires.by (subst (λ n. n < v.levels) c.requires.here c.requires.level) c.key_at.result front.0 here
