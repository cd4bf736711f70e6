use Rattle.std.proofs.Common.{rules}
use Rattle.dd_store.proofs.WordFacts.{near_some, far_some, long_some, named_as_near, named_as_far, named_as_long}
use Rattle.dd_store.proofs.words.node_of.Goals as goal

pub overflow_sub-result : goal.overflow_sub-result
overflow_sub-result c = near_some c.args.word c.requires (search rules)

pub returns-then-word-lt-FAR : goal.returns-then-word-lt-FAR
returns-then-word-lt-FAR c = named_as_near c.args.word (search rules)

pub overflow_sub-result-then-word-lt-LONG-2 : goal.overflow_sub-result-then-word-lt-LONG-2
overflow_sub-result-then-word-lt-LONG-2 c = far_some c.args.word c.requires (search rules) (search rules)

pub returns-then-word-lt-LONG : goal.returns-then-word-lt-LONG
returns-then-word-lt-LONG c = named_as_far c.args.word (search rules) (search rules)

pub overflow_sub-result-2 : goal.overflow_sub-result-2
overflow_sub-result-2 c = (long_some c.args.word c.requires (search rules)).0

pub overflow_cast-result-2 : goal.overflow_cast-result-2
overflow_cast-result-2 c = let k = (long_some c.args.word c.requires (search rules)).1 in search rules

pub returns : goal.returns
returns c = named_as_long c.args.word (search rules)
