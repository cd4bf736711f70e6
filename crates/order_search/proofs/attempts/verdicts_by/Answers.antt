use Rattle.std.proofs.Common.{subst, sym, None, Some}
use Rattle.std.specs.Prelude.{IfOk}
use Rattle.std.specs.Global.{Vec}
use Rattle.report_text.specs.declared.verdict.Verdict.{Verdict}
use Rattle.order_search.specs.Trials.{IsDecided}
use Rattle.order_search.proofs.Rounds.{trial_decides, trial_fault}
use Rattle.order_search.proofs.attempts.verdicts_by.Goals as goal

-- ---- over the variables of another pairing

pub returns-in-Some-clause-decided : goal.returns-in-Some-clause-decided
returns-in-Some-clause-decided g c =
    let task = c.args.task.now in
    let t = c.args.trial.now in
    let r = c.compare_as_declared.result in
    let said = c.compare_as_declared.ensures in
    subst (λ d. IfOk r (λ v. IsDecided task d c.args.budget t v.items)) (sym c.in-Some.is)
    (trial_decides task (λ (v : Vec Verdict). v.items) (Some c.in-Some.declared) c.args.budget t r c.requires.trial said.within said.ok)

pub returns-in-Some-clause-fault : goal.returns-in-Some-clause-fault
returns-in-Some-clause-fault g c =
    let said = c.compare_as_declared.ensures in
    trial_fault c.args.task.now c.args.budget (g.G.Monitor.bound c.args.monitor.now) c.args.trial.now.pairing c.compare_as_declared.result said.err said.full said.past said.needs_no_thread said.stopped

-- ---- over its own

pub returns-in-None-clause-decided : goal.returns-in-None-clause-decided
returns-in-None-clause-decided g c =
    let task = c.args.task.now in
    let t = c.args.trial.now in
    let r = c.compare.result in
    let said = c.compare.ensures in
    subst (λ d. IfOk r (λ v. IsDecided task d c.args.budget t v.items)) (sym c.in-None.is)
    (trial_decides task (λ (v : Vec Verdict). v.items) None c.args.budget t r c.requires.trial said.within said.ok)

pub returns-in-None-clause-fault : goal.returns-in-None-clause-fault
returns-in-None-clause-fault g c =
    let said = c.compare.ensures in
    trial_fault c.args.task.now c.args.budget (g.G.Monitor.bound c.args.monitor.now) c.args.trial.now.pairing c.compare.result said.err said.full said.past said.needs_no_thread said.stopped
