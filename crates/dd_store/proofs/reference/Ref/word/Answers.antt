use Rattle.dd_store.specs.WordLaws.{word_is, small_word}
use Rattle.dd_store.proofs.reference.Ref.word.Goals as goal

pub returns-clause-word : goal.returns-clause-word
returns-clause-word c = word_is c.self.inside.word c.args.self c.self.invariant c.self.view_is

pub returns-clause-small : goal.returns-clause-small
returns-clause-small c = small_word c.self.inside.word c.self.invariant
