use Rattle.req_table.proofs.AtPlace.{taken_all}
use Rattle.req_table.proofs.waiting.Waiting.restart.Goals as goal

pub returns : goal.returns
returns c = taken_all c.loop-level.self c.args.levels c.loop-level.from c.loop-level.invariant.levels c.loop-level.invariant.before c.in_default.ensures
