use Rattle.std.proofs.Common.{◌∙◌, ap}
use Rattle.dd_store.specs.contracts.reference.ReferencePartialEq.TheImpl.{eq-value as ref_eq}
use Rattle.dd_store.specs.Words.{reference_of}
use Rattle.dd_store.proofs.WordFacts.{same_words}
use Rattle.dd_store.proofs.reference.RefPartialEq.eq.Goals as goal

pub returns : goal.returns
returns c =
    same_words c.self.inside.word c.other.inside.word c.self.invariant c.other.invariant
    ∙ ap (λ z. ref_eq.it z (reference_of c.other.inside.word)) c.self.view_is
    ∙ ap (ref_eq.it c.args.self.now) c.other.view_is
