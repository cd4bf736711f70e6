use Rattle.report_text.proofs.Tokens.{some_undecided}
use Rattle.report_text.proofs.as_json.add_undecided.Goals as goal

pub returns : goal.returns
returns c = rw (some_undecided c.args.undecided c.if-undecided-eq0.false) c.add_number.ensures
