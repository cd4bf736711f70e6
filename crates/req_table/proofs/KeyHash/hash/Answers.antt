use Rattle.std.proofs.Common.{◌≡◌, ◌+◌, ◌*◌, ◌^◌, sym, ap, ◌∙◌}
use Rattle.std.specs.Hash as fed
use Rattle.dd_store.specs.Words.{word_of}
use Rattle.req_table.specs.Words.{key_word}
use Rattle.req_table.specs.WordLaws.{first_word-back}
use Rattle.req_table.proofs.KeyHash.hash.Goals as goal

pub returns : goal.returns
returns g c =
    let k = c.self.inside in
    let number : c.word.result * 2 ^ 64 + k.first ≡ key_word c.args.self.now =
    ap (λ w. w * 2 ^ 64 + k.first) c.word.ensures.word ∙ ap (λ w. word_of k.second * 2 ^ 64 + w) (sym (first_word-back k.first c.self.invariant.0)) ∙ ap key_word c.self.view_is in
    c.write_u128.ensures ∙ ap (λ n. g.H.Hasher.write c.args.state.now (fed.le_bytes 16 n)) number
