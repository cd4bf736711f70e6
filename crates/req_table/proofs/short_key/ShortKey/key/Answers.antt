use Rattle.std.proofs.Common.{◌∙◌, sym, subst}
use Rattle.req_table.specs.Operation.{IsRequest}
use Rattle.req_table.specs.ShortLaws.{first_made}
use Rattle.req_table.proofs.short_key.ShortKey.key.Goals as goal

pub of_words-requires-clause-word : goal.of_words-requires-clause-word
of_words-requires-clause-word c =
    (first_made c.self.inside.word c.of_word-second.result c.self.invariant.0 (sym c.of_word-second.ensures)).0

pub of_words-requires-clause-request : goal.of_words-requires-clause-request
of_words-requires-clause-request c =
    let made = first_made c.self.inside.word c.of_word-second.result c.self.invariant.0 (sym c.of_word-second.ensures) in
    subst IsRequest (sym made.1) c.self.invariant.1

pub returns : goal.returns
returns c =
    c.of_words.ensures
    ∙ (first_made c.self.inside.word c.of_word-second.result c.self.invariant.0 (sym c.of_word-second.ensures)).1
    ∙ c.self.view_is
