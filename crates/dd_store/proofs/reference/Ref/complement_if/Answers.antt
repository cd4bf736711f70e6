use Rattle.std.proofs.Common.{◌∙◌, ap}
use Rattle.dd_store.specs.Complements.{complement_by}
use Rattle.dd_store.proofs.WordFacts.{complement_word}
use Rattle.dd_store.proofs.reference.Ref.complement_if.Goals as goal

pub invariant_of-result : goal.invariant_of-result
invariant_of-result c = (complement_word c.self.inside.word c.args.complement c.self.invariant).0

pub returns : goal.returns
returns c = (complement_word c.self.inside.word c.args.complement c.self.invariant).1 ∙ ap (complement_by c.args.complement) c.self.view_is
