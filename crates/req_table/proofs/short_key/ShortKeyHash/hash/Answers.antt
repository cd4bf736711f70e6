use Rattle.std.proofs.Common.{◌≡◌, sym, ap, ◌∙◌}
use Rattle.std.specs.Hash as fed
use Rattle.req_table.specs.Short.{short_word}
use Rattle.req_table.specs.ShortLaws.{short_word-short_of}
use Rattle.req_table.proofs.short_key.ShortKeyHash.hash.Goals as goal

pub returns : goal.returns
returns g c =
    let k = c.self.inside in
    let number : k.word ≡ short_word c.args.self.now =
    sym (short_word-short_of k.word c.self.invariant.0) ∙ ap short_word c.self.view_is in
    c.write_u64.ensures ∙ ap (λ n. g.H.Hasher.write c.args.state.now (fed.le_bytes 8 n)) number
