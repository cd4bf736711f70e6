use Rattle.std.proofs.Common.{rules, ◌∙◌, sym}
use Rattle.check_tool.proofs.Quoting.{following_end, following_byte}
use Rattle.check_tool.proofs.quote.following.Goals as goal
use Rattle.check_tool.proofs.quote.following.Goals.{then-text-at-eq-LINE_FEED, else-text-at-eq-LINE_FEED}

pub loop-at-preserved : goal.loop-at-preserved
loop-at-preserved c =
    let byte = following_byte c.args.text.now c.args.feeds c.loop-at.left c.loop-at.at c.loop-at.invariant c.if-left-eq0.false c.loop-at-test.true in
    elim c.if-text-at-eq-LINE_FEED.branch [
      | then-text-at-eq-LINE_FEED w ↦ search rules
      | else-text-at-eq-LINE_FEED w ↦ search rules
    ]

pub returns : goal.returns
returns c = sym (c.loop-at.invariant ∙ following_end c.args.text.now c.loop-at.left c.loop-at.at c.loop-at-test.false)
