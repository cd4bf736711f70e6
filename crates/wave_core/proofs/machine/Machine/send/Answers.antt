use Rattle.std.proofs.Common.{◌≡◌, ◌+◌, ◌*◌, ◌<◌, [], ◌∷◌, ◌++◌, set, ap, sym, ◌∙◌, subst, arith}
use Rattle.std.proofs.lemmas.List.{get_or_default}
use Rattle.req_table.specs.declared.Item.TheVariants.{Ask}
use Rattle.wave_core.specs.declared.Event.TheVariants.{Send}
use Rattle.wave_core.specs.MachineView.{MachineView, IsConsistent, state_of, wave_of_view}
use Rattle.wave_core.specs.Step.{IsStep}
use Rattle.wave_core.proofs.Machines.{view_in, in_due, send_step, send_kept, undone}
use Rattle.wave_core.proofs.machine.Machine.send.Goals as goal

pub invariant_of-self-in-Ok : goal.invariant_of-self-in-Ok
invariant_of-self-in-Ok c =
    let w = c.self.inside.workers in
    let bb : c.args.by < w = omega arith in
    let tb : c.args.to < w = omega arith in
    let key = c.in-Some.key in
    let pd = in_due (view_in c.self.inside) c.self.invariant c.args.by c.args.to bb tb in
    let first : c.index_mut-in-Ok.result.now ≡ key ∷ c.in-Some.ensures.0 =
    c.index_mut-in-Ok.ensures.value ∙ get_or_default c.self.inside.due.items (c.args.by * w + c.args.to) c.index_mut-in-Ok.result.now c.index.result.now pd ∙ sym c.index.ensures ∙ c.in-Some.ensures.1 in
    send_kept c.args.store.now (view_in c.self.inside) c.self.invariant c.args.by c.args.to bb tb key c.index_mut.result.now c.put.new.self c.index_mut-in-Ok.result.now c.pop.new.self c.index_mut-2.result.now c.put-2.new.self
    c.index_mut.ensures.value c.index_mut-in-Ok.ensures.value c.index_mut-2.ensures.value
    (c.in_ok-put.ensures.ok ∙ ap (λ n. c.index_mut.result.now ++ Ask c.args.by n key ∷ []) c.level_of.ensures)
    (first ∙ ap (λ l. key ∷ l) (sym (c.pop.ensures c.in-Some.ensures.0 key first)))
    (c.in-Ok.ensures.ok ∙ ap (λ n. c.index_mut-2.result.now ++ Ask c.args.by n key ∷ []) c.level_of.ensures)

pub returns-in-Ok-clause-ok : goal.returns-in-Ok-clause-ok
returns-in-Ok-clause-ok c =
    let w = c.self.inside.workers in
    let bb : c.args.by < w = omega arith in
    let tb : c.args.to < w = omega arith in
    let key = c.in-Some.key in
    let pd = in_due (view_in c.self.inside) c.self.invariant c.args.by c.args.to bb tb in
    let first : c.index_mut-in-Ok.result.now ≡ key ∷ c.in-Some.ensures.0 =
    c.index_mut-in-Ok.ensures.value ∙ get_or_default c.self.inside.due.items (c.args.by * w + c.args.to) c.index_mut-in-Ok.result.now c.index.result.now pd ∙ sym c.index.ensures ∙ c.in-Some.ensures.1 in
    subst (λ (u : MachineView). IsStep (wave_of_view c.args.store.now u) (state_of u) (Send c.args.by c.args.to) (state_of (record (view_in c.self.inside) { sent = set c.self.inside.sent.items (c.args.by * w + c.args.to) c.put.new.self; due = set c.self.inside.due.items (c.args.by * w + c.args.to) c.pop.new.self; waiting = set c.self.inside.waiting.items c.args.to c.put-2.new.self }))) c.self.view_is
    (send_step c.args.store.now (view_in c.self.inside) c.self.invariant c.args.by c.args.to bb tb key c.index_mut.result.now c.put.new.self c.index_mut-in-Ok.result.now c.pop.new.self c.index_mut-2.result.now c.put-2.new.self
    c.index_mut.ensures.value c.index_mut-in-Ok.ensures.value c.index_mut-2.ensures.value
    (c.in_ok-put.ensures.ok ∙ ap (λ n. c.index_mut.result.now ++ Ask c.args.by n key ∷ []) c.level_of.ensures)
    (first ∙ ap (λ l. key ∷ l) (sym (c.pop.ensures c.in-Some.ensures.0 key first)))
    (c.in-Ok.ensures.ok ∙ ap (λ n. c.index_mut-2.result.now ++ Ask c.args.by n key ∷ []) c.level_of.ensures))

pub invariant_of-self-in-Err : goal.invariant_of-self-in-Err
invariant_of-self-in-Err c =
    let bb : c.args.by < c.self.inside.workers = omega arith in
    let tb : c.args.to < c.self.inside.workers = omega arith in
    subst (λ (u : MachineView). IsConsistent u) (sym (undone (view_in c.self.inside) c.self.invariant c.args.by c.args.to bb tb (Ask c.args.by c.level_of.result c.in-Some.key) c.index_mut.result.now c.put.new.self c.index_mut-in-Err.result.now c.undo.new.self c.index_mut-2.result.now c.put-2.new.self
    c.index_mut.ensures.value c.in_ok-put.ensures.ok c.index_mut-in-Err.ensures.value c.undo.ensures c.index_mut-2.ensures.value c.in-Err.ensures.err)) c.self.invariant

pub returns-in-Err-clause-err : goal.returns-in-Err-clause-err
returns-in-Err-clause-err c =
    let bb : c.args.by < c.self.inside.workers = omega arith in
    let tb : c.args.to < c.self.inside.workers = omega arith in
    undone (view_in c.self.inside) c.self.invariant c.args.by c.args.to bb tb (Ask c.args.by c.level_of.result c.in-Some.key) c.index_mut.result.now c.put.new.self c.index_mut-in-Err.result.now c.undo.new.self c.index_mut-2.result.now c.put-2.new.self
    c.index_mut.ensures.value c.in_ok-put.ensures.ok c.index_mut-in-Err.ensures.value c.undo.ensures c.index_mut-2.ensures.value c.in-Err.ensures.err
    ∙ c.self.view_is
