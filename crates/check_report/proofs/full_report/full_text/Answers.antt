use Rattle.std.proofs.Common.{◌∙◌, ◌++◌, ℕ, List, ap₂, sym}
use Rattle.std.specs.Prelude.{is_some}
use Rattle.net_order.specs.Order.{condition}
use Rattle.compare_built.specs.Findings.{found_of}
use Rattle.compare_built.specs.Attempts.{reported_kind}
use Rattle.report_text.specs.Picking.{share_of}
use Rattle.explain_report.specs.Causing.{causes_in}
use Rattle.explain_report.proofs.Explaining.{condition_some, condition_in_input}
use Rattle.explain_report.proofs.Trying.{form_as}
use Rattle.check_report.proofs.full_report.full_text.Goals as goal

pub causes-requires : goal.causes-requires
causes-requires g c = (c.args.tried, c.requires.named)

pub explanations_after-requires-clause-named : goal.explanations_after-requires-clause-named
explanations_after-requires-clause-named g c = (c.args.tried, c.requires.named)

pub returns : goal.returns
returns g c = record {
  text = λ input ga.
      let s = c.args.task.now.settings.now in
      let given = c.is_some-given.ensures ∙ sym (condition_in_input input.given (condition c.args.task.now.given) ga.condition ∙ condition_some c.args.task.now.given) in
      let report = form_as s.json s.assignment s.matching (reported_kind s.order c.args.tried) (share_of s.picked) c.args.stopped (found_of c.args.verdicts.now) c.in_ok-text.text.items c.is_some-given.result (is_some input.given) _ (causes_in c.in_ok-causes.causes) c.in_ok-text.ensures given c.listed-list.ensures in (
        causes_in c.in_ok-causes.causes,
        c.in_ok-causes.ensures.causes input ga c.args.tried c.requires.named,
        c.in_ok-explanations.explanations.items,
        c.in_ok-explanations.ensures.explanations_after input ga c.args.tried c.requires.named,
        c.in_ok-extend_from_slice.ensures.items ∙ ap₂ (λ (x : List ℕ) (y : List ℕ). x ++ y) report c.as_slice.ensures.value,
      );
}
