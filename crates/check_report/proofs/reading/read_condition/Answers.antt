use Rattle.std.proofs.Common.{◌∙◌, ap, length}
use Rattle.net_bench.specs.Circuit.{circuit}
use Rattle.check_report.proofs.reading.read_condition.Goals as goal

pub returns-then-outputs-ne1-clause-fault : goal.returns-then-outputs-ne1-clause-fault
returns-then-outputs-ne1-clause-fault g c = (circuit c.in-Ok.net, rw c.in-Some.is c.in-Ok.ensures.accepted, λ one. c.if-outputs-ne1.true (ap length c.outputs.ensures.value ∙ one))
