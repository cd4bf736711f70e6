use Rattle.std.proofs.Common.{◌<◌, ◌%◌, ◌^◌, ◌∙◌, ap, sym, subst}
use Rattle.dd_store.specs.Words.{word_of}
use Rattle.dd_store.specs.WordLaws.{word_is}
use Rattle.req_table.specs.Operation.{IsRequest}
use Rattle.req_table.specs.ShortLaws.{short_made}
use Rattle.req_table.proofs.short_key.ShortKey.of.Goals as goal

pub invariant_of-result : goal.invariant_of-result
invariant_of-result c =
    let n = c.first_word-first in
    let m = c.word-second in
    let made = short_made n.result m.result c.args.key.g n.ensures.within c.if-first-ge-SECOND_BIT.false c.if-second-ge-SECOND_BIT.false
    m.ensures.within (m.ensures.back ∙ c.g.ensures.value) in
    (made.0, subst IsRequest (sym (made.1 ∙ n.ensures.back)) c.g.ensures.request)

pub returns : goal.returns
returns c =
    let n = c.first_word-first in
    let m = c.word-second in
    let made = short_made n.result m.result c.args.key.g n.ensures.within c.if-first-ge-SECOND_BIT.false c.if-second-ge-SECOND_BIT.false
    m.ensures.within (m.ensures.back ∙ c.g.ensures.value) in
    let first = word_is (n.result % 2 ^ 63) c.args.key.f n.ensures.within.1 (ap (λ k. k.f) n.ensures.back) in
    let second = m.ensures.word ∙ ap word_of c.g.ensures.value in (
      (
        subst (λ z. z < 2 ^ 31) first c.if-first-ge-SECOND_BIT.false,
        subst (λ z. z < 2 ^ 31) second c.if-second-ge-SECOND_BIT.false,
      ),
      made.1 ∙ n.ensures.back,
    )
