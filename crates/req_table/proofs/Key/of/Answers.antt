use Rattle.std.proofs.Common.{◌∙◌, sym, subst}
use Rattle.req_table.specs.Operation.{IsRequest}
use Rattle.req_table.specs.TerminalCase.{key}
use Rattle.req_table.specs.WordLaws.{word_made}
use Rattle.req_table.proofs.Key.of.Goals as goal

pub of_words-requires-clause-request : goal.of_words-requires-clause-request
of_words-requires-clause-request c =
    let n = c.word in
    let made = word_made (key c.args.op c.args.f c.args.g) n.result c.requires n.ensures.within n.ensures.back in
    rw c.xor_bit.ensures (subst IsRequest (sym made.1) c.requires)

pub returns : goal.returns
returns c =
    let n = c.word in
    let made = word_made (key c.args.op c.args.f c.args.g) n.result c.requires n.ensures.within n.ensures.back in
    c.of_words.ensures ∙ rw c.xor_bit.ensures made.1
