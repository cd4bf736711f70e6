use Rattle.std.proofs.Common.{◌∙◌, refl, sym}
use Rattle.explain_report.specs.Causing.{cause_of}
use Rattle.explain_report.proofs.FirstDifferences.{comes_again, comes_first}
use Rattle.explain_report.proofs.causes.add_cause.Goals as goal

pub returns-then-any_has_first_signal : goal.returns-then-any_has_first_signal
returns-then-any_has_first_signal c = comes_again (cause_of c.args.net.now.names c.args.differences.now) c.args.before.now c.args.inner c.args.causes.now.items _ (sym c.any_has_first_signal.ensures ∙ c.if-any_has_first_signal.true) refl

pub returns : goal.returns
returns c =
    comes_first (cause_of c.args.net.now.names c.args.differences.now) c.args.before.now c.args.inner c.args.causes.now.items _ c.in_ok-cause.cause (sym c.any_has_first_signal.ensures ∙ c.if-any_has_first_signal.false) c.in_ok-cause.ensures c.in_ok-push.ensures.items
