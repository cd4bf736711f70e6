use Rattle.command_line.proofs.Defaulting.{defaults}
use Rattle.command_line.proofs.laws.no_words.Goals as goal

pub returns : goal.returns
returns c = defaults
