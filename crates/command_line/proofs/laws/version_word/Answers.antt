use Rattle.command_line.proofs.Versioning.{no_options, refused}
use Rattle.command_line.proofs.laws.version_word.Goals as goal

pub returns-clause-refused : goal.returns-clause-refused
returns-clause-refused c = refused

pub returns-clause-no_options : goal.returns-clause-no_options
returns-clause-no_options c = no_options
