use Rattle.std.proofs.Common.{drop, ◌<◌, ◌≤◌, ◌∙◌, ◌++◌, ap, sym, append-nil, length, min, arith}
use Rattle.report_text.proofs.Wording.{moved}
use Rattle.report_text.proofs.Tokens.{assignment_next, assignment_over}
use Rattle.report_text.proofs.json_verdicts.add_assignment.Goals as goal

pub loop-i-preserved : goal.loop-i-preserved
loop-i-preserved c =
    let lb : c.loop-i.i < length c.args.bits.now = omega arith in
    let lv : c.loop-i.i < length c.args.names.now = omega arith in
    let added = c.in_ok-add_variable.ensures in
    (added.0 ∙ c.loop-i.invariant.0, moved _ _ _ _ _ _ c.loop-i.invariant.1 (assignment_next c.args.which c.args.names.now c.args.bits.now c.args.support_bits.now c.loop-i.i c.at.result.now c.is_supported_at.result lv lb c.at.ensures c.is_supported_at.ensures) added.1)

pub returns : goal.returns
returns c =
    let over : min (length c.args.bits.now) (length c.args.names.now) ≤ c.loop-i.i = omega arith in
    (c.loop-i.invariant.0, sym (append-nil c.loop-i.out.tokens) ∙ ap (λ z. c.loop-i.out.tokens ++ z) (sym (assignment_over c.args.which c.args.names.now c.args.bits.now (drop c.loop-i.i c.args.support_bits.now) c.loop-i.i over)) ∙ c.loop-i.invariant.1)
