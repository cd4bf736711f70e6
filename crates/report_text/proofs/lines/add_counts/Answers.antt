use Rattle.std.proofs.Common.{◌++◌, ◌∷◌, [], ◌∙◌, ap, append_assoc}
use Rattle.report_text.specs.Lines.{share_text, undecided_text}
use Rattle.report_text.proofs.lines.add_counts.Goals as goal

pub returns : goal.returns
returns c =
    let counts = c.in_ok-extend_from_slice.ensures.items ∙ ap (λ z. c.args.text.now.items ++ z) (c.as_bytes.ensures.value ∙ c.in_ok-line.ensures.ok) in
    let undecided = c.in_ok-add_undecided_count.ensures ∙ ap (λ z. z ++ undecided_text c.args.outcome.undecided) counts in
    let share = c.in_ok-add_share.ensures ∙ ap (λ z. z ++ share_text c.args.share) undecided in
    c.in_ok-extend_from_slice-2.ensures.items ∙ ap (λ z. z ++ 10 ∷ []) share ∙ simp append_assoc
