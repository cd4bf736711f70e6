use Rattle.std.proofs.Common.{◌+◌, sym, subst, take, List, ℕ}
use Rattle.std.specs.List.{AllZip}
use Rattle.std.proofs.lemmas.List.{take_all}
use Rattle.net_order.specs.Order.{HasLevels, NamedNetlistModel}
use Rattle.net_order.proofs.Tabling.{zip_more}
use Rattle.net_order.proofs.levels.all_levels.Goals as goal

pub loop-i-preserved : goal.loop-i-preserved
loop-i-preserved c =
    subst (λ (levels : List (List ℕ)). AllZip (HasLevels c.args.table.now) (take (c.loop-i.i + 1) c.args.sides.now) levels) (sym c.in_ok-push.ensures.items)
    (zip_more (HasLevels c.args.table.now) c.args.sides.now c.loop-i.all.items c.loop-i.i c.index-sides-i.result c.in_ok-levels_on.field-0 c.loop-i-test.true c.index-sides-i.is c.loop-i.invariant c.in_ok-levels_on.ensures)

pub returns : goal.returns
returns c =
    subst (λ (sides : List NamedNetlistModel). AllZip (HasLevels c.args.table.now) sides c.loop-i.all.items) (take_all c.loop-i.i c.args.sides.now c.loop-i-test.false) c.loop-i.invariant
