use Rattle.std.proofs.Common.{refl}
use Rattle.check_tool.proofs.process.refuse_without_arguments.Goals as goal

pub returns-in-NotUtf8-clause-reported : goal.returns-in-NotUtf8-clause-reported
returns-in-NotUtf8-clause-reported g c = rw c.in-NotUtf8.is (c.say.ensures, refl)
