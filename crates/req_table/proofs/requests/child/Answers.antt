use Rattle.std.proofs.Common.{◌≡◌, ◌∙◌, None, ap, sym, subst}
use Rattle.req_table.specs.TerminalCase.{terminal_of}
use Rattle.req_table.specs.Keys.{child, child_value, IsChildIn}
use Rattle.req_table.specs.declared.Child.TheVariants.{Done}
use Rattle.req_table.proofs.TerminalCases.{no_form}
use Rattle.req_table.proofs.Waved.{form_request, made_asked, made_done, made_meaning, child_in_store, child_has_value}
use Rattle.req_table.proofs.requests.child.Goals as goal

pub request-key-requires : goal.request-key-requires
request-key-requires c = form_request c.args.op c.args.f c.args.g c.form-op.ensures (no_form c.args.op c.args.f c.args.g c.form-op.ensures (sym c.in-None.is ∙ c.terminal_at.ensures))

pub returns-in-Some-clause-in_store : goal.returns-in-Some-clause-in_store
returns-in-Some-clause-in_store c =
    let done : Done c.complement_if.result ≡ child c.args.store.now c.args.op c.args.f c.args.g =
    ap (λ z. Done z) c.complement_if.ensures ∙ made_done c.args.store.now c.args.op c.args.f c.args.g c.form-op.ensures (sym c.in-Some.is ∙ c.terminal_at.ensures) in
    subst (IsChildIn c.args.store.now) (sym done) (child_in_store c.args.store.now c.args.op c.args.f c.args.g c.requires.first c.requires.second)

pub returns-in-Some-clause-means : goal.returns-in-Some-clause-means
returns-in-Some-clause-means c x =
    let done : Done c.complement_if.result ≡ child c.args.store.now c.args.op c.args.f c.args.g =
    ap (λ z. Done z) c.complement_if.ensures ∙ made_done c.args.store.now c.args.op c.args.f c.args.g c.form-op.ensures (sym c.in-Some.is ∙ c.terminal_at.ensures) in
    ap (λ z. child_value c.args.store.now z x) done ∙ child_has_value c.args.store.now c.args.op c.args.f c.args.g x

pub returns-in-None-clause-in_store : goal.returns-in-None-clause-in_store
returns-in-None-clause-in_store c =
    let long : terminal_of c.args.op c.args.f c.args.g ≡ None = no_form c.args.op c.args.f c.args.g c.form-op.ensures (sym c.in-None.is ∙ c.terminal_at.ensures) in
    subst (IsChildIn c.args.store.now) (sym (made_asked c.args.store.now c.args.op c.args.f c.args.g c.form-op.ensures c.request-key.ensures c.level_of.ensures long))
    (child_in_store c.args.store.now c.args.op c.args.f c.args.g c.requires.first c.requires.second)

pub returns-in-None-clause-means : goal.returns-in-None-clause-means
returns-in-None-clause-means c = made_meaning c.args.store.now c.args.op c.args.f c.args.g c.form-op.ensures c.request-key.ensures
