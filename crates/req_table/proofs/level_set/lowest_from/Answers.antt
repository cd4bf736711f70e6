use Rattle.std.proofs.Common.{arith}
use Rattle.req_table.proofs.LevelSets.{lowest_none, lowest_some}
use Rattle.req_table.proofs.level_set.lowest_from.Goals as goal

pub returns-then-rest-eq0 : goal.returns-then-rest-eq0
returns-then-rest-eq0 c = lowest_none c.args.word c.args.from c.if-rest-eq0.true

pub returns-else-rest-eq0 : goal.returns-else-rest-eq0
returns-else-rest-eq0 c = lowest_some c.args.word c.args.from (omega arith) c.requires c.if-rest-eq0.false
