use Rattle.std.specs.declared.num.ParseIntError.{ParseIntError}
use Rattle.command_line.proofs.Sizing.{read, unread}
use Rattle.command_line.proofs.size.size_of.Goals as goal

pub returns-in_default : goal.returns-in_default
returns-in_default c = unread c.args.text.now c.in_units-bytes.result.0.now c.in_units-bytes.result.1 c.in_default.field-0 c.in_units-bytes.ensures c.in_default.ensures.value.0

pub returns : goal.returns
returns c = read ParseIntError c.args.text.now c.in_units-bytes.result.0.now c.in_units-bytes.result.1 c.in-Ok.number c.checked_mul.result c.in_units-bytes.ensures c.in-Ok.ensures.value.0 c.checked_mul.ensures
