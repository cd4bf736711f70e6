use Rattle.std.proofs.Common.{◌∙◌, refl, sym}
use Rattle.explain_report.proofs.FirstDifferences.{stands_elsewhere, is_caused_by}
use Rattle.explain_report.proofs.causes.add_if_caused_by.Goals as goal

pub returns-then-not-has_first_signal : goal.returns-then-not-has_first_signal
returns-then-not-has_first_signal c = stands_elsewhere c.args.signal c.args.difference.now c.args.pairs.now.items _ (sym c.has_first_signal.ensures ∙ c.if-not-has_first_signal.true) refl

pub returns : goal.returns
returns c = is_caused_by c.args.signal c.args.difference.now c.args.pairs.now.items _ c.in_ok-name.name (sym c.has_first_signal.ensures ∙ c.if-not-has_first_signal.false) c.in_ok-name.ensures c.in_ok-push.ensures.items
