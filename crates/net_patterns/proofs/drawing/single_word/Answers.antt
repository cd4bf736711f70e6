use Rattle.net_patterns.proofs.Singles.{in_other, in_single}
use Rattle.net_patterns.proofs.drawing.single_word.Goals as goal

pub returns-then-own-word : goal.returns-then-own-word
returns-then-own-word c = λ i low. in_single c.args.word c.args.level i low c.if-own-word.true

pub returns-else-own-word : goal.returns-else-own-word
returns-else-own-word c = λ i low. in_other c.args.word c.args.level i low c.if-own-word.false
