use Rattle.std.proofs.Common.{◌∙◌}
use Rattle.req_table.proofs.TerminalCases.{of_form}
use Rattle.req_table.proofs.Waved.{terminal_denotes}
use Rattle.req_table.proofs.requests.terminal_case.Goals as goal

pub returns-clause-means : goal.returns-clause-means
returns-clause-means c = terminal_denotes c.args.op c.args.f c.args.g c.complement_if.result (c.complement_if.ensures ∙ of_form c.args.op c.args.f c.args.g c.form-op.ensures c.terminal_at.ensures)
