use Rattle.req_table.proofs.Keyed.{once}
use Rattle.req_table.proofs.table.Table.len.Goals as goal

pub returns-in-Short-clause-once : goal.returns-in-Short-clause-once
returns-in-Short-clause-once c = rw (← c.self.view_is, c.in-Short.is) (once c.in-Short.short.keys c.len.ensures.unique)

pub returns-in-Long-clause-once : goal.returns-in-Long-clause-once
returns-in-Long-clause-once c = rw (← c.self.view_is, c.in-Long.is) (once c.in-Long.long.keys c.len-in-Long.ensures.unique)
