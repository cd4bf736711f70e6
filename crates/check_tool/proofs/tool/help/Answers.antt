use Rattle.std.proofs.Common.{inl, inr, refl}
use Rattle.check_tool.specs.Helping.{help_text}
use Rattle.check_tool.proofs.Composing.{keeps_own}
use Rattle.check_tool.proofs.tool.help.Goals as goal

pub returns-in_default-clause-said : goal.returns-in_default-clause-said
returns-in_default-clause-said g c = (help_text c.args.options.now c.args.fault, inl refl, inr (keeps_own (g.E.Sink.contents c.args.errors.now)))
