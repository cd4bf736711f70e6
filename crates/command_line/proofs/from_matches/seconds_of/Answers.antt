use Rattle.std.proofs.Common.{◌∙◌, codes, List, ℕ, Result}
use Rattle.std.specs.Str.Parse.{ParsesUnsigned, ExplainsUnsignedError, HasUnsignedDigitsIfOk}
use Rattle.std.specs.declared.num.ParseIntError.{ParseIntError}
use Rattle.clap.specs.Words.{found_of, one_of, rows_of}
use Rattle.clap.proofs.WalkLemmas.{one_text-rows}
use Rattle.command_line.proofs.Found.{seconds_read}
use Rattle.command_line.proofs.from_matches.seconds_of.Goals as goal

pub returns : goal.returns
returns c =
    let f = found_of c.args.matches.now in
    let G : List ℕ → Result ℕ ParseIntError → Type 0 = λ u x. ParsesUnsigned 64 10 u x × ExplainsUnsignedError 10 u x × HasUnsignedDigitsIfOk u x in
    seconds_read G (one_of (codes "seconds") (rows_of f)) c.get_one.result
    (λ e. c.get_one.ensures.none (one_text-rows f (codes "seconds") ∙ e)) (λ t e. c.get_one.ensures.value t (one_text-rows f (codes "seconds") ∙ e)) (λ u x g. g.0)
