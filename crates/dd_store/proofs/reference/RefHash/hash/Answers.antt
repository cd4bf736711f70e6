use Rattle.std.proofs.Common.{◌∙◌, ap}
use Rattle.std.specs.Hash as fed
use Rattle.dd_store.specs.WordLaws.{word_is}
use Rattle.dd_store.proofs.reference.RefHash.hash.Goals as goal

pub returns : goal.returns
returns g c =
    c.hash.ensures
    ∙ ap (λ w. g.H.Hasher.write c.args.state.now (fed.le_bytes 8 w))
    (word_is c.self.inside.word c.args.self.now c.self.invariant c.self.view_is)
