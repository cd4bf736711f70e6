use Rattle.std.proofs.Common.{◌≡◌, ◌<◌, ◌∙◌, sym, ap, subst, arith, length, get_or, All}
use Rattle.std.specs.Prelude.{unwrap_or}
use Rattle.std.proofs.lemmas.Grind.{get_or_default_zero}
use Rattle.std.proofs.lemmas.List.{length-set}
use Rattle.std.proofs.lemmas.List.Elements.{All-from_get_or}
use Rattle.net_bench.specs.Circuit.{Circuit, variables_of}
use Rattle.net_order.specs.Order.{level_of, named}
use Rattle.net_order.proofs.Members.{item_member}
use Rattle.net_order.proofs.Tabling.{level_kept}
use Rattle.net_order.proofs.levels.levels_on.Goals as goal

pub name-requires : goal.name-requires
name-requires c =
    item_member (variables_of c.args.side.now.net) c.variables-variable-items.result.now c.loop-variable.variable-index c.variable-item.result
    (c.variables-variable-items.ensures.value ∙ ap variables_of c.net-net.ensures) c.loop-variable-test.true c.variable-item.is

pub loop-variable-preserved : goal.loop-variable-preserved
loop-variable-preserved c =
    let items = c.variables-variable-items.result.now in
    let i = c.loop-variable.variable-index in
    let is_s = c.number.ensures ∙ c.variable-item.is ∙ get_or_default_zero items i c.variable-item.result c.loop-variable-test.true in
    let names : length c.net-net.result.now.names ≡ length c.args.side.now.net.names = ap (λ (n : Circuit). length n.names) c.net-net.ensures in
    let known : All (λ s. s < length c.net-net.result.now.names) c.variables-variable-items.result.now =
    subst (All (λ s. s < length c.net-net.result.now.names)) (sym c.variables-variable-items.ensures.value) c.variables-variable-items.ensures.sound.variables in
    let low : c.number.result < length c.net-net.result.now.names = subst (λ k. k < length c.net-net.result.now.names) (sym is_s) (known i 0 c.loop-variable-test.true) in
    let len : length c.loop-variable.list.items ≡ length c.args.side.now.net.names = c.loop-variable.invariant.len in
    record {
      len = length-set c.loop-variable.list.items c.number.result c.unwrap_or-level.result ∙ len;
      each = level_kept (λ s. level_of c.args.table.now (named c.args.side.now s)) items c.loop-variable.list.items i c.number.result c.unwrap_or-level.result is_s
          (c.unwrap_or-level.ensures ∙ ap (λ o. unwrap_or o 0) c.find.ensures ∙ ap (level_of c.args.table.now) c.name.ensures ∙ ap (λ s. level_of c.args.table.now (named c.args.side.now s)) (sym c.number.ensures))
          (omega (arith, low, names, len)) c.loop-variable.invariant.each;
    }

pub returns : goal.returns
returns c =
    let items = c.variables-variable-items.result.now in
    subst (All (λ s. get_or c.loop-variable.list.items s 0 ≡ level_of c.args.table.now (named c.args.side.now s))) (c.variables-variable-items.ensures.value ∙ ap variables_of c.net-net.ensures)
    (All-from_get_or (λ s. get_or c.loop-variable.list.items s 0 ≡ level_of c.args.table.now (named c.args.side.now s)) items 0
    (λ k below. c.loop-variable.invariant.each k (omega (arith, below, c.loop-variable-test.false))))
