use Rattle.std.proofs.Common.{refl}
use Rattle.std.specs.Prelude.{codes}
use Rattle.report_text.specs.Json.{array_tokens, names_tokens}
use Rattle.report_text.proofs.Tokens.{adds_more, both, written}
use Rattle.report_text.proofs.as_json.add_variables.Goals as goal

pub returns : goal.returns
returns c =
    let opened = both c.args.out.now c.key.new.self c.begin_array.new.self _ _ (c.in_ok-key.ensures.room.0, c.in_ok-key.ensures.ok) (c.in_ok-begin_array.ensures.room.0, c.in_ok-begin_array.ensures.ok) in
    adds_more c.end_array.result c.args.out.now c.add_names.new.out c.end_array.new.self _ _ (array_tokens (codes "variables") (names_tokens c.args.names.now)) refl
    (both c.args.out.now c.begin_array.new.self c.add_names.new.out _ _ opened c.in_ok-add_names.ensures) (written c.end_array.result c.add_names.new.out c.end_array.new.self _ c.end_array.ensures)
