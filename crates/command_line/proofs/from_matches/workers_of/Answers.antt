use Rattle.std.proofs.Common.{rules, ◌∙◌, arith, codes, List, ℕ, Result}
use Rattle.std.specs.Str.Parse.{ParsesUnsigned, ExplainsUnsignedError, HasUnsignedDigitsIfOk}
use Rattle.std.specs.declared.num.ParseIntError.{ParseIntError}
use Rattle.clap.specs.Words.{found_of, one_of, rows_of}
use Rattle.clap.proofs.WalkLemmas.{one_text-rows}
use Rattle.command_line.proofs.Found.{number_read}
use Rattle.command_line.proofs.from_matches.workers_of.Goals as goal

pub returns-clause-number : goal.returns-clause-number
returns-clause-number c =
    let f = found_of c.args.matches.now in
    let G : List ℕ → Result ℕ ParseIntError → Type 0 = λ u x. ParsesUnsigned 32 10 u x × ExplainsUnsignedError 10 u x × HasUnsignedDigitsIfOk u x in
    number_read G 32 1 16 (one_of (codes "workers") (rows_of f)) c.get_one.result 0 _
    (λ t e. c.get_one.ensures.value t (one_text-rows f (codes "workers") ∙ e)) (λ u x g. g.0) (omega arith) (search rules)
