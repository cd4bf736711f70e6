use Rattle.req_table.proofs.ComputedTables.{put_keeps}
use Rattle.req_table.proofs.computed_table.ComputedTable.keep.Goals as goal

pub returns : goal.returns
returns c =
    put_keeps c.args.self.now c.self.inside.cache c.put.new.self c.args.key c.args.answer c.put.result c.self.view_is c.put.ensures.entries c.put.ensures.err c.put.ensures.succeeds
