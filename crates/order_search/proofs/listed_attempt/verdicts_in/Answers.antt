use Rattle.std.specs.Global.{Vec}
use Rattle.report_text.specs.declared.verdict.Verdict.{Verdict}
use Rattle.order_search.proofs.Rounds.{pairing_decides, trial_fault}
use Rattle.order_search.proofs.listed_attempt.verdicts_in.Goals as goal

pub returns-clause-decided : goal.returns-clause-decided
returns-clause-decided g c =
    let said = c.compare_as_declared.ensures in
    pairing_decides c.args.task.now (λ (v : Vec Verdict). v.items) c.args.declared.now c.args.pairing.now c.args.budget c.compare_as_declared.result said.within said.ok

pub returns-clause-fault : goal.returns-clause-fault
returns-clause-fault g c =
    let said = c.compare_as_declared.ensures in
    trial_fault c.args.task.now c.args.budget (g.G.Monitor.bound c.args.monitor.now) c.args.pairing.now c.compare_as_declared.result said.err said.full said.past said.needs_no_thread said.stopped
