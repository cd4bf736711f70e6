use Rattle.std.proofs.Common.{◌≡◌, None, sym, ap, ◌∙◌}
use Rattle.req_table.specs.TerminalCase.{terminal_of}
use Rattle.req_table.specs.Keys.{normal_of, answer_of}
use Rattle.req_table.specs.ComputedTables.{terminal_or_computed_of}
use Rattle.req_table.proofs.ComputedTables.{not_known}
use Rattle.wave_doors.proofs.with_computed.child_with_computed.Goals as goal

pub returns-in-None-clause-value : goal.returns-in-None-clause-value
returns-in-None-clause-value c =
    let e : terminal_or_computed_of c.args.computed.now c.args.op c.args.f c.args.g ≡ None = sym c.terminal_or_computed.ensures.value ∙ c.in-None.is in
    c.child.ensures.value ∙ ap (answer_of c.args.store.now c.args.op c.args.f c.args.g) (not_known c.args.computed.now (normal_of c.args.op c.args.f c.args.g) (terminal_of c.args.op c.args.f c.args.g) e ∙ sym e)
