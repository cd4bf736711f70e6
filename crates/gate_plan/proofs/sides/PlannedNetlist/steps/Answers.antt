use Rattle.std.proofs.Common.{sym, ap, ◌∙◌, ◌≤◌, ◌<◌, ℕ, List, length, subst}
use Rattle.gate_plan.specs.Plans.{IsPlan, RankSteps, plan_folds}
use Rattle.gate_plan.proofs.Picking.{no_late_steps, planned_rank}
use Rattle.gate_plan.proofs.sides.PlannedNetlist.steps.Goals as goal

pub steps-requires-clause-last : goal.steps-requires-clause-last
steps-requires-clause-last c =
    let P : List RankSteps = c.self.inside.plan in
    let plan : IsPlan c.args.self.now.net P = subst (IsPlan c.args.self.now.net) (sym (ap (λ s. s.plan) c.self.view_is)) c.requires.plan in
    planned_rank c.args.self.now.net P c.args.rank c.args.fold plan (subst (λ (n : ℕ). c.args.fold < n) c.folds.ensures c.if-fold-folds.true)

pub steps-requires-clause-fold : goal.steps-requires-clause-fold
steps-requires-clause-fold c =
    let P : List RankSteps = c.self.inside.plan in
    let plan : IsPlan c.args.self.now.net P = subst (IsPlan c.args.self.now.net) (sym (ap (λ s. s.plan) c.self.view_is)) c.requires.plan in
    let fold : c.args.fold < plan_folds c.args.self.now.net c.args.self.now.net.gates c.args.rank = subst (λ (n : ℕ). c.args.fold < n) c.folds.ensures c.if-fold-folds.true in
    let last : c.args.rank ≤ length P = planned_rank c.args.self.now.net P c.args.rank c.args.fold plan fold in
    subst (λ (n : ℕ). c.args.fold < n) (sym (plan.gates.folds c.args.rank c.requires.first last)) fold

pub returns-then-fold-folds : goal.returns-then-fold-folds
returns-then-fold-folds c =
    let P : List RankSteps = c.self.inside.plan in
    let plan : IsPlan c.args.self.now.net P = subst (IsPlan c.args.self.now.net) (sym (ap (λ s. s.plan) c.self.view_is)) c.requires.plan in
    let last : c.args.rank ≤ length P = planned_rank c.args.self.now.net P c.args.rank c.args.fold plan (subst (λ (n : ℕ). c.args.fold < n) c.folds.ensures c.if-fold-folds.true) in
    c.steps.ensures ∙ plan.gates.steps c.args.rank c.args.fold c.requires.first last

pub returns-else-fold-folds : goal.returns-else-fold-folds
returns-else-fold-folds c =
    sym (no_late_steps c.args.self.now.net c.args.rank c.args.fold c.args.self.now.net.gates (subst (λ (n : ℕ). n ≤ c.args.fold) c.folds.ensures c.if-fold-folds.false))
