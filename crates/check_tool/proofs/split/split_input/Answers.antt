use Rattle.std.proofs.Common.{rules, sym, subst}
use Rattle.check_tool.specs.Splitting.{IsDivider}
use Rattle.check_tool.proofs.Dividing.{one_more, no_line, none_in_all, rest_whole}
use Rattle.check_tool.proofs.split.split_input.Goals as goal
use Rattle.check_tool.proofs.split.split_input.Goals.{then-at-eq0+in_default, else-at-eq0+else-text-at-eq-LINE_FEED}

pub loop-at-preserved : goal.loop-at-preserved
loop-at-preserved c =
    elim c.if-at-eq0.branch [
      | then-at-eq0+in_default w ↦ one_more c.args.text.now c.loop-at.at c.loop-at.invariant (λ m d. w.in_default.ensures m (subst (λ z. IsDivider z m) (sym (rest_whole c.args.text.now c.loop-at.at)) d.1))
      | else-at-eq0+else-text-at-eq-LINE_FEED w ↦ one_more c.args.text.now c.loop-at.at c.loop-at.invariant (no_line c.args.text.now c.loop-at.at w.if-at-eq0.false (search rules))
    ]

pub returns : goal.returns
returns c = none_in_all c.args.text.now c.loop-at.at c.loop-at-test.false c.loop-at.invariant
