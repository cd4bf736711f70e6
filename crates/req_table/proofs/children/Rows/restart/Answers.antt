use Rattle.std.proofs.Common.{sym, subst}
use Rattle.req_table.specs.Places.{AreEmpty}
use Rattle.req_table.proofs.AtPlace.{taken_all, all_empty}
use Rattle.req_table.proofs.children.Rows.restart.Goals as goal

pub returns : goal.returns
returns c = all_empty c.loop-level.self c.args.levels (taken_all c.loop-level.self c.args.levels c.loop-level.from c.loop-level.invariant.levels c.loop-level.invariant.before c.in_default.ensures)

pub returns-then-len-levels : goal.returns-then-len-levels
returns-then-len-levels c = all_empty c.drop.inside.rows.items c.args.levels (subst (λ z. AreEmpty z c.args.levels) (sym c.drop.view_is) c.in_ok-self-inside.ensures)
