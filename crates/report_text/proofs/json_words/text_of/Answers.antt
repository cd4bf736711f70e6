use Rattle.std.proofs.Common.{◌∙◌, sym}
use Rattle.report_text.proofs.Tokens.{shown_whole, shown_none}
use Rattle.report_text.proofs.json_words.text_of.Goals as goal

pub returns-in-Ok : goal.returns-in-Ok
returns-in-Ok c = c.in-Ok.ensures.cases.0 ∙ sym (shown_whole c.args.name.now c.in-Ok.ensures.cases.1)

pub returns-in-Err : goal.returns-in-Err
returns-in-Err c = sym (shown_none c.args.name.now c.in-Err.ensures.cases.0)
