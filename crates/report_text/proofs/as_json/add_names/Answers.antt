use Rattle.std.proofs.Common.{◌<◌, ◌≤◌, ◌∙◌, ◌++◌, ap, sym, append-nil, length, arith}
use Rattle.report_text.proofs.Wording.{moved}
use Rattle.report_text.proofs.Tokens.{names_next, names_over}
use Rattle.report_text.proofs.as_json.add_names.Goals as goal

pub loop-i-preserved : goal.loop-i-preserved
loop-i-preserved c =
    let lt : c.loop-i.i < length c.args.names.now = omega arith in
    let added = c.in_ok-string.ensures in
    (added.room.0 ∙ c.loop-i.invariant.0, moved _ _ _ _ _ _ c.loop-i.invariant.1 (names_next c.args.names.now c.loop-i.i c.at.result.now c.text_of.result.now lt c.at.ensures c.text_of.ensures) added.ok)

pub returns : goal.returns
returns c =
    let over : length c.args.names.now ≤ c.loop-i.i = omega arith in
    (c.loop-i.invariant.0, sym (append-nil c.loop-i.out.tokens) ∙ ap (λ z. c.loop-i.out.tokens ++ z) (sym (names_over c.args.names.now c.loop-i.i over)) ∙ c.loop-i.invariant.1)
