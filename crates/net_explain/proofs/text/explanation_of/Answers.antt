use Rattle.std.proofs.Common.{◌≡◌, ◌++◌, ◌∙◌, ap, length, subst}
use Rattle.net_explain.specs.Text.{head_text, inners_text, last_line_text}
use Rattle.net_explain.proofs.Lists.{three_parts}
use Rattle.net_explain.proofs.text.explanation_of.Goals as goal

pub returns : goal.returns
returns c =
    let names = c.args.first.now.names in
    let subject = c.args.subject.now in
    let read = c.inner-inner.result.now in
    let gate_counts = c.args.explanation.now.gate_counts in
    subst (λ is. c.add_last_line.new.text.items ≡ head_text subject (length is) ++ (inners_text names is ++ last_line_text names is gate_counts)) c.inner-inner.ensures
    (three_parts c.new-text.result.items c.add_head.new.text.items c.add_inners.new.text.items c.add_last_line.new.text.items (head_text subject (length read)) (inners_text names read) (last_line_text names read gate_counts)
    c.new-text.ensures.items c.in_ok-add_head.ensures c.in_ok-add_inners.ensures
    (c.in_ok-add_last_line.ensures ∙ ap (λ ps. c.add_inners.new.text.items ++ last_line_text names read ps) c.gate_counts.ensures))
