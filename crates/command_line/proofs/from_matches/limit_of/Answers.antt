use Rattle.std.proofs.Common.{rules, ◌∙◌, codes, List, ℕ, Result}
use Rattle.std.specs.Str.Parse.{ParsesUnsigned, ExplainsUnsignedError, HasUnsignedDigitsIfOk}
use Rattle.std.specs.declared.num.ParseIntError.{ParseIntError}
use Rattle.clap.specs.Words.{found_of, one_of, rows_of}
use Rattle.clap.proofs.WalkLemmas.{one_text-rows}
use Rattle.command_line.proofs.Found.{limit_read}
use Rattle.command_line.proofs.from_matches.limit_of.Goals as goal

pub returns-clause-number : goal.returns-clause-number
returns-clause-number c =
    let f = found_of c.args.matches.now in
    let G : List ℕ → Result ℕ ParseIntError → Type 0 = λ u x. ParsesUnsigned 64 10 u x × ExplainsUnsignedError 10 u x × HasUnsignedDigitsIfOk u x in
    limit_read G c.args.order (one_of (codes "limit") (rows_of f)) c.get_one.result c.default_limit.result _
    (λ e. c.get_one.ensures.none (one_text-rows f (codes "limit") ∙ e)) (λ t e. c.get_one.ensures.value t (one_text-rows f (codes "limit") ∙ e)) (λ u x g. g.0) c.default_limit.ensures.limit c.default_limit.ensures.some c.default_limit.ensures.few (search rules)
