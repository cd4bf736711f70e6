use Rattle.std.proofs.Common.{◌≡◌, ◌∙◌, None, IfSome, refl, sym, subst}
use Rattle.req_table.specs.TerminalCase.{terminal_of}
use Rattle.req_table.specs.ComputedTables.{IsValueOf}
use Rattle.req_table.proofs.TerminalCases.{no_form}
use Rattle.req_table.proofs.Waved.{form_request}
use Rattle.req_table.proofs.ComputedTables.{known_value, made_terminal, made_computed}
use Rattle.req_table.proofs.requests.terminal_or_computed.Goals as goal

pub request-requires : goal.request-requires
request-requires c = form_request c.args.op c.args.f c.args.g c.form-op.ensures (no_form c.args.op c.args.f c.args.g c.form-op.ensures (sym c.in-None.is ∙ c.terminal_at.ensures))

pub returns-in-Some-clause-means : goal.returns-in-Some-clause-means
returns-in-Some-clause-means c S right hf hg =
    subst (λ o. IfSome o (IsValueOf S c.args.op c.args.f c.args.g))
    (sym (made_terminal c.args.computed.now c.args.op c.args.f c.args.g c.form-op.ensures (sym c.in-Some.is ∙ c.terminal_at.ensures) c.complement_if.ensures))
    (known_value S c.args.computed.now right c.args.op c.args.f c.args.g hf hg (terminal_of c.args.op c.args.f c.args.g) refl)

pub returns-in-None-clause-means : goal.returns-in-None-clause-means
returns-in-None-clause-means c S right hf hg =
    let long : terminal_of c.args.op c.args.f c.args.g ≡ None = no_form c.args.op c.args.f c.args.g c.form-op.ensures (sym c.in-None.is ∙ c.terminal_at.ensures) in
    subst (λ o. IfSome o (IsValueOf S c.args.op c.args.f c.args.g))
    (sym (made_computed c.args.computed.now c.args.op c.args.f c.args.g c.form-op.ensures c.request.ensures c.peek.ensures.value c.complement_if-in-None.ensures long))
    (known_value S c.args.computed.now right c.args.op c.args.f c.args.g hf hg (terminal_of c.args.op c.args.f c.args.g) refl)
