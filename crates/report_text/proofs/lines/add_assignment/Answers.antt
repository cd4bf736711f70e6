use Rattle.std.proofs.Common.{drop, ◌<◌, ◌≤◌, ◌∙◌, ◌++◌, ap, sym, append-nil, length, min, arith}
use Rattle.report_text.proofs.Wording.{assignment_next, assignment_over, moved}
use Rattle.report_text.proofs.lines.add_assignment.Goals as goal

pub loop-i-preserved : goal.loop-i-preserved
loop-i-preserved c =
    let lb : c.loop-i.i < length c.args.bits.now = omega arith in
    let lv : c.loop-i.i < length c.args.names.now = omega arith in
    moved _ _ _ _ _ _ c.loop-i.invariant
    (assignment_next c.args.which c.args.names.now c.args.bits.now c.args.support_bits.now c.loop-i.i c.at.result.now c.is_supported_at.result lv lb c.at.ensures c.is_supported_at.ensures)
    c.in_ok-add_if_reported.ensures

pub returns : goal.returns
returns c =
    let over : min (length c.args.bits.now) (length c.args.names.now) ≤ c.loop-i.i = omega arith in
    sym (append-nil c.loop-i.text.items) ∙ ap (λ z. c.loop-i.text.items ++ z) (sym (assignment_over c.args.which c.args.names.now c.args.bits.now (drop c.loop-i.i c.args.support_bits.now) c.loop-i.i over)) ∙ c.loop-i.invariant
