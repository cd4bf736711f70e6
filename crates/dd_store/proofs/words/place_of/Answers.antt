use Rattle.std.proofs.Common.{rules, ap}
use Rattle.dd_store.specs.declared.reference.NodeId.{NodeId}
use Rattle.dd_store.proofs.WordFacts.{named_as_near, named_as_far, named_as_long}
use Rattle.dd_store.proofs.words.place_of.Goals as goal

pub returns-then-word-lt-FAR-clause-node : goal.returns-then-word-lt-FAR-clause-node
returns-then-word-lt-FAR-clause-node c = λ h. ap (λ (m : NodeId). m.index) (named_as_near c.args.word (search rules))

pub returns-then-word-lt-LONG-clause-node : goal.returns-then-word-lt-LONG-clause-node
returns-then-word-lt-LONG-clause-node c = λ h. ap (λ (m : NodeId). m.index) (named_as_far c.args.word (search rules) (search rules))

pub returns-else-word-lt-LONG-clause-node : goal.returns-else-word-lt-LONG-clause-node
returns-else-word-lt-LONG-clause-node c = λ h. ap (λ (m : NodeId). m.index) (named_as_long c.args.word (search rules))
