use Rattle.req_table.proofs.LevelSets.{highest_none, highest_some}
use Rattle.req_table.proofs.level_set.highest_before.Goals as goal

pub returns-then-rest-eq0 : goal.returns-then-rest-eq0
returns-then-rest-eq0 c = highest_none c.args.word c.args.end c.requires.last c.if-rest-eq0.true

pub returns-else-rest-eq0 : goal.returns-else-rest-eq0
returns-else-rest-eq0 c = highest_some c.args.word c.args.end c.requires.last c.if-rest-eq0.false
