use Rattle.std.proofs.Common.{◌≡◌, ◌∷◌, ◌++◌, map, get_or, sym, subst}
use Rattle.std.proofs.lemmas.List.Elements.{All-contains}
use Rattle.req_table.specs.Settled.{key_of}
use Rattle.req_table.specs.Keys.{IsKey, record_of}
use Rattle.wave_core.specs.declared.Event.TheVariants.{Expand}
use Rattle.wave_core.specs.MachineView.{MachineView, by_place, state_of, wave_of_view}
use Rattle.wave_core.specs.Step.{IsStep, asks_here}
use Rattle.wave_core.proofs.DueLists.{next_here, expand_step, expanded}
use Rattle.wave_core.proofs.machine.Machine.expand.Goals as goal

pub split-record-requires : goal.split-record-requires
split-record-requires c =
    let v = c.args.self.now in
    let S = c.args.store.now in
    let work = c.in-Some.ensures.at_closed_level in
    let (more, found) = c.in-Some-next_key.ensures.front in
    let key = c.in-Some-next_key.key in
    let front = subst (λ n. by_place v.levels v.tables c.args.by n ≡ map key_of (by_place v.levels v.rows c.args.by n) ++ key ∷ more) work.0 found in
    All-contains (IsKey S) (asks_here (state_of v) c.args.by) key (c.requires.held work.1.0) (next_here S v c.closed_level.ensures.kept c.args.by work.1.0 work.1.1 key more front)

pub returns-in-Ok-clause-ok : goal.returns-in-Ok-clause-ok
returns-in-Ok-clause-ok c =
    let v = c.args.self.now in
    let S = c.args.store.now in
    let work = c.in-Some.ensures.at_closed_level in
    let (more, found) = c.in-Some-next_key.ensures.front in
    let key = c.in-Some-next_key.key in
    let front = subst (λ n. by_place v.levels v.tables c.args.by n ≡ map key_of (by_place v.levels v.rows c.args.by n) ++ key ∷ more) work.0 found in
    let after = expanded v c.add_due_children.new.self c.note.new.self c.args.by c.in-Some.level (get_or v.at c.args.by 0) c.split-record.result (record_of S key) c.in_ok-add_due_children.ensures.ok c.in-Ok.ensures.ok c.split-record.ensures.value work.0 in
    subst (λ (u : MachineView). IsStep (wave_of_view S v) (state_of v) (Expand c.args.by) (state_of u)) (sym after) (expand_step S v c.closed_level.ensures.kept c.args.by work.1.0 work.1.1 key more front work.1.2)
