use Rattle.std.proofs.Common.{refl}
use Rattle.report_text.specs.Json.{counts_tokens}
use Rattle.report_text.proofs.Tokens.{adds_more, both}
use Rattle.report_text.proofs.as_json.add_counts.Goals as goal

pub returns : goal.returns
returns c =
    let two = both c.args.out.now c.add_number.new.out c.add_number-2.new.out _ _ c.in_ok-add_number.ensures c.in_ok-add_number-2.ensures in
    let three = both c.args.out.now c.add_number-2.new.out c.add_number-3.new.out _ _ two c.in_ok-add_number-3.ensures in
    adds_more c.add_undecided.result c.args.out.now c.add_number-3.new.out c.add_undecided.new.out _ _ (counts_tokens c.args.outcome) refl three c.add_undecided.ensures
