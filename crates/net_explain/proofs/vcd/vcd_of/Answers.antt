use Rattle.std.proofs.Common.{◌≡◌, ◌++◌, ◌∙◌, ◌≤◌, ap, append_assoc, length, subst, sym}
use Rattle.std.specs.Prelude.{codes}
use Rattle.net_explain.specs.Vcd.{changes_text, scope_text}
use Rattle.net_explain.proofs.vcd.vcd_of.Goals as goal

pub add_changes-requires-clause-few : goal.add_changes-requires-clause-few
add_changes-requires-clause-few c = subst (λ k. k ≤ 1000000) (sym c.requires.values) c.count-start.ensures.sound.few

pub add_changes-requires-2-clause-few : goal.add_changes-requires-2-clause-few
add_changes-requires-2-clause-few c = subst (λ k. k ≤ 1000000) (sym c.requires.others) c.count.ensures.sound.few

pub returns : goal.returns
returns c =
    let a = c.args.first.now.names in
    let b = c.args.second.now.names in
    let scope : c.add_scope-2.new.text.items ≡ c.add_scope.new.text.items ++ scope_text (codes "second") (length a) b =
    c.in_ok-add_scope-2.ensures ∙ ap (λ k. c.add_scope.new.text.items ++ scope_text (codes "second") k b) c.count-start.ensures.value in
    let changes : c.add_changes-2.new.text.items ≡ c.add_changes.new.text.items ++ changes_text (length a) c.args.others.now =
    c.in_ok-add_changes-2.ensures ∙ ap (λ k. c.add_changes.new.text.items ++ changes_text k c.args.others.now) c.count-start.ensures.value in
    rw (c.in_ok-extend_from_slice-3.ensures.items, changes, c.in_ok-add_changes.ensures, c.in_ok-extend_from_slice-2.ensures.items, scope, c.in_ok-add_scope.ensures, c.in_ok-extend_from_slice.ensures.items, c.new-text.ensures.items)
    (simp append_assoc)
