use Rattle.std.proofs.Common.{◌≡◌, ◌+◌, ◌*◌, ◌<◌, [], ◌∷◌, ◌++◌, get_or, set, length, ap, sym, ◌∙◌, subst, mod-lt, arith}
use Rattle.req_table.specs.TerminalCase.{owner_of}
use Rattle.wave_core.specs.MachineView.{MachineView, due_with_child}
use Rattle.wave_core.proofs.Machines.{view_in}
use Rattle.wave_core.proofs.DueLists.{due_removed_again, due_with_child_length}
use Rattle.wave_core.proofs.machine.Machine.remove_due.Goals as goal

pub returns-in-Ask-clause-back : goal.returns-in-Ask-clause-back
returns-in-Ask-clause-back c = λ d e.
    let v = view_in c.self.inside in
    let x = c.in-Ask.key in
    let w = v.workers in
    let view = c.self.view_is in
    let w-is : c.args.self.now.workers ≡ w = ap (λ (u : MachineView). u.workers) (sym view) in
    let o = c.owner.result in
    let bb : c.args.by < w = subst (λ n. c.args.by < n) w-is c.requires in
    let some : 0 < w = omega arith in
    let o-is : o ≡ owner_of x.op x.f x.g w = c.owner.ensures in
    let ob : o < w = subst (λ n. n < w) (sym o-is) (mod-lt _ some) in
    let D-is : v.due ≡ set d (c.args.by * w + o) (get_or d (c.args.by * w + o) [] ++ x ∷ []) =
    ap (λ (u : MachineView). u.due) view ∙ e ∙ ap (λ n. due_with_child n c.args.by c.args.child.now d) w-is ∙ ap (λ t. due_with_child w c.args.by t d) c.in-Ask.is ∙ ap (λ n. set d (c.args.by * w + n) (get_or d (c.args.by * w + n) [] ++ x ∷ [])) (sym o-is) in
    let size : length d ≡ w * w = sym (due_with_child_length c.args.self.now.workers c.args.by c.args.child.now d) ∙ ap (λ l. length l) (sym e) ∙ ap (λ (u : MachineView). length u.due) (sym view) ∙ c.self.invariant.shape.due in
    let done = due_removed_again w c.args.by o x d v.due c.index_mut.result.now c.undo.new.self bb ob size D-is c.index_mut.ensures.value c.undo.ensures in
    ap (λ l. let r : MachineView = record v { due = l } in r) done ∙ ap (λ (u : MachineView). let r : MachineView = record u { due = d } in r) view
