use Rattle.std.proofs.Common.{◌≡◌, rules, ℕ, ◌+◌, ◌*◌, ◌<◌, ◌≤◌, ◌^◌, ◌∷◌, All, set, length, sym, ap, ◌∙◌, subst, arith}
use Rattle.std.specs.List.{sum_by}
use Rattle.std.specs.Vec.{vec_len}
use Rattle.std.proofs.lemmas.List.{get_or_default}
use Rattle.dd_store.specs.Nodes.{Nodes}
use Rattle.req_table.specs.declared.Item.TheVariants.{Ask}
use Rattle.req_table.specs.Keys.{level_of}
use Rattle.wave_core.specs.declared.Event.TheVariants.{Keep}
use Rattle.wave_core.specs.Step.{IsStep, IsAllowed}
use Rattle.wave_core.specs.MachineView.{MachineView, IsConsistent, by_place, state_of, wave_of_view}
use Rattle.wave_core.proofs.Grid.{place}
use Rattle.wave_core.proofs.Machines.{view_in, in_due}
use Rattle.wave_core.proofs.Keeping.{keep_step, keep_kept, kept_back, kept_fits, first_below}
use Rattle.wave_core.proofs.machine.Machine.keep.Goals as goal

-- what the contract says of the machine's view, by its lists
below : (v u : MachineView) (S : Nodes) (by : ℕ) → v ≡ u → by < v.workers → (by < u.workers → All (λ x. level_of S x < u.levels) (by_place u.workers u.due by by)) → All (λ x. level_of S x < v.levels) (by_place v.workers v.due by by)
below v u S by e bb h = subst (λ (x : MachineView). All (λ y. level_of S y < x.levels) (by_place x.workers x.due by by)) (sym e) (h (subst (λ (x : MachineView). by < x.workers) e bb))

pub overflow_add-self : goal.overflow_add-self
overflow_add-self c =
    let v = view_in c.self.inside in
    let sent : c.count_items.result ≡ sum_by length v.sent = c.count_items.ensures.value ∙ ap (λ xs. sum_by length xs) c.deref.ensures.value in
    let few : c.count_items.result ≤ length v.sent * 2 ^ 64 = subst (λ xs. c.count_items.result ≤ length xs * 2 ^ 64) c.deref.ensures.value c.count_items.ensures.bound in
    let less = kept_fits v c.self.invariant c.count_items.result sent few in
    omega (arith, less)

pub index_mut-requires-3 : goal.index_mut-requires-3
index_mut-requires-3 c =
    let v = view_in c.self.inside in
    let view = c.self.view_is in
    let bb = subst (λ (u : MachineView). c.args.by < u.workers) (sym c.self.view_is) c.if-not-can_keep.ensures.0 in
    let key = c.in-Some.key in
    let (rest, seen) = c.in-Some.ensures in
    let n = c.level_of-level.result in
    let nb = first_below c.args.store.now v c.self.invariant c.args.by n key rest c.index.result.now bb (below v c.args.self.now c.args.store.now c.args.by view bb c.requires.below) c.index.ensures seen c.level_of-level.ensures in
    let long : length v.tables ≡ vec_len c.self.inside.tables = search rules in
    place v.workers v.levels c.args.by n (vec_len c.self.inside.tables) bb nb (sym long ∙ c.self.invariant.shape.tables)

pub invariant_of-self-in-Ok : goal.invariant_of-self-in-Ok
invariant_of-self-in-Ok c =
    let v = view_in c.self.inside in
    let view = c.self.view_is in
    let bb = subst (λ (u : MachineView). c.args.by < u.workers) (sym c.self.view_is) c.if-not-can_keep.ensures.0 in
    let key = c.in-Some.key in
    let (rest, seen) = c.in-Some.ensures in
    let n = c.level_of-level.result in
    let nb = first_below c.args.store.now v c.self.invariant c.args.by n key rest c.index.result.now bb (below v c.args.self.now c.args.store.now c.args.by view bb c.requires.below) c.index.ensures seen c.level_of-level.ensures in
    let first : c.index_mut-in-Ok.result.now ≡ key ∷ rest =
    c.index_mut-in-Ok.ensures.value ∙ get_or_default v.due (c.args.by * v.workers + c.args.by) c.index_mut-in-Ok.result.now c.index.result.now (in_due v c.self.invariant c.args.by c.args.by bb bb) ∙ sym c.index.ensures ∙ seen in
    let popped : c.index_mut-in-Ok.result.now ≡ key ∷ c.pop.new.self = first ∙ ap (λ l. key ∷ l) (sym (c.pop.ensures rest key first)) in
    keep_kept c.args.store.now v c.self.invariant c.args.by bb key n c.index_mut.result.now c.put_both.new.first c.index_mut-2.result.now c.put_both.new.second c.index_mut-in-Ok.result.now c.pop.new.self c.index_mut-3.result.now c.admit.new.self c.in-Ok.field-0.1
    c.index_mut.ensures.value c.index_mut-2.ensures.value c.index_mut-in-Ok.ensures.value c.index_mut-3.ensures.value c.in_ok-put_both.ensures.first c.in_ok-put_both.ensures.second popped c.in-Ok.ensures.admits_key nb c.level_of-level.ensures

pub returns-in-Ok-clause-ok : goal.returns-in-Ok-clause-ok
returns-in-Ok-clause-ok c =
    let v = view_in c.self.inside in
    let view = c.self.view_is in
    let bb = subst (λ (u : MachineView). c.args.by < u.workers) (sym c.self.view_is) c.if-not-can_keep.ensures.0 in
    let key = c.in-Some.key in
    let (rest, seen) = c.in-Some.ensures in
    let n = c.level_of-level.result in
    let nb = first_below c.args.store.now v c.self.invariant c.args.by n key rest c.index.result.now bb (below v c.args.self.now c.args.store.now c.args.by view bb c.requires.below) c.index.ensures seen c.level_of-level.ensures in
    let first : c.index_mut-in-Ok.result.now ≡ key ∷ rest =
    c.index_mut-in-Ok.ensures.value ∙ get_or_default v.due (c.args.by * v.workers + c.args.by) c.index_mut-in-Ok.result.now c.index.result.now (in_due v c.self.invariant c.args.by c.args.by bb bb) ∙ sym c.index.ensures ∙ seen in
    let popped : c.index_mut-in-Ok.result.now ≡ key ∷ c.pop.new.self = first ∙ ap (λ l. key ∷ l) (sym (c.pop.ensures rest key first)) in
    let after : MachineView = record v { sent = set v.sent (c.args.by * v.workers + c.args.by) c.put_both.new.first; taken = set v.taken c.args.by c.put_both.new.second; tables = set v.tables (c.args.by * v.levels + n) c.admit.new.self; due = set v.due (c.args.by * v.workers + c.args.by) c.pop.new.self; kept = v.kept + 1 } in
    let all = (subst (λ (u : MachineView). IsAllowed (wave_of_view c.args.store.now u) (state_of u) (Keep c.args.by)) (sym view) c.if-not-can_keep.ensures).2 in
    subst (λ (u : MachineView). IsStep (wave_of_view c.args.store.now u) (state_of u) (Keep c.args.by) (state_of after)) view
    (keep_step c.args.store.now v c.self.invariant c.args.by bb key n c.index_mut.result.now c.put_both.new.first c.index_mut-2.result.now c.put_both.new.second c.index_mut-in-Ok.result.now c.pop.new.self c.index_mut-3.result.now c.admit.new.self c.in-Ok.field-0.1
    c.index_mut.ensures.value c.index_mut-2.ensures.value c.index_mut-in-Ok.ensures.value c.index_mut-3.ensures.value c.in_ok-put_both.ensures.first c.in_ok-put_both.ensures.second popped c.in-Ok.ensures.admits_key nb c.level_of-level.ensures all)

pub invariant_of-self-in-Err : goal.invariant_of-self-in-Err
invariant_of-self-in-Err c =
    let v = view_in c.self.inside in
    let bb = subst (λ (u : MachineView). c.args.by < u.workers) (sym c.self.view_is) c.if-not-can_keep.ensures.0 in
    subst (λ (u : MachineView). IsConsistent u) (sym (kept_back v c.self.invariant c.args.by bb (Ask c.args.by c.level_of-level.result c.in-Some.key) (c.args.by * v.levels + c.level_of-level.result) c.index_mut.result.now c.put_both.new.first c.index_mut-in-Err.result.now c.undo.new.self
    c.index_mut-2.result.now c.put_both.new.second c.index_mut-in-Err-2.result.now c.undo-in-Err.new.self c.index_mut-3.result.now c.admit.new.self
    c.index_mut.ensures.value c.in_ok-put_both.ensures.first c.index_mut-in-Err.ensures.value c.undo.ensures c.index_mut-2.ensures.value c.in_ok-put_both.ensures.second c.index_mut-in-Err-2.ensures.value c.undo-in-Err.ensures c.index_mut-3.ensures.value c.in-Err.ensures.refused)) c.self.invariant

pub returns-in-Err-clause-err : goal.returns-in-Err-clause-err
returns-in-Err-clause-err c =
    let v = view_in c.self.inside in
    let bb = subst (λ (u : MachineView). c.args.by < u.workers) (sym c.self.view_is) c.if-not-can_keep.ensures.0 in
    kept_back v c.self.invariant c.args.by bb (Ask c.args.by c.level_of-level.result c.in-Some.key) (c.args.by * v.levels + c.level_of-level.result) c.index_mut.result.now c.put_both.new.first c.index_mut-in-Err.result.now c.undo.new.self
    c.index_mut-2.result.now c.put_both.new.second c.index_mut-in-Err-2.result.now c.undo-in-Err.new.self c.index_mut-3.result.now c.admit.new.self
    c.index_mut.ensures.value c.in_ok-put_both.ensures.first c.index_mut-in-Err.ensures.value c.undo.ensures c.index_mut-2.ensures.value c.in_ok-put_both.ensures.second c.index_mut-in-Err-2.ensures.value c.undo-in-Err.ensures c.index_mut-3.ensures.value c.in-Err.ensures.refused
    ∙ c.self.view_is
