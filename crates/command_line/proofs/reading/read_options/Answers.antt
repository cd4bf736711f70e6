use Rattle.clap.specs.Words.{found_of, rows_of}
use Rattle.command_line.proofs.FromMatches.{asked, refused_for}
use Rattle.command_line.proofs.reading.read_options.Goals as goal

pub returns-clause-options : goal.returns-clause-options
returns-clause-options c = asked _ (rows_of (found_of c.in_ok-matches.matches)) c.in_ok-matches.ensures.found c.options_in.result c.options_in.ensures.options

pub returns-clause-refused : goal.returns-clause-refused
returns-clause-refused c = refused_for _ (rows_of (found_of c.in_ok-matches.matches)) c.in_ok-matches.ensures.found c.options_in.result c.options_in.ensures.refused
