use Rattle.std.proofs.Common.{rules}
use Rattle.req_table.proofs.AtPlace.{made_empty}
use Rattle.req_table.proofs.children.empty_rows.Goals as goal

pub returns : goal.returns
returns c = made_empty c.args.levels _ (search rules)
