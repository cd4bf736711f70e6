use Rattle.std.proofs.Common.{◌≡◌, ◌∙◌, ap, subst, arith, length, Some}
use Rattle.std.specs.Prelude.{slice_get, unwrap_or}
use Rattle.std.proofs.lemmas.List.{take_all}
use Rattle.net_order.specs.Order.{level_of}
use Rattle.compare_built.specs.Arrangement.{places_among}
use Rattle.compare_built.proofs.Rearranging.{places_more}
use Rattle.compare_built.proofs.arrangement.arrangement.Goals as goal

pub loop-level-preserved : goal.loop-level-preserved
loop-level-preserved c =
    let names = c.args.built.now.names in
    let many : length c.names-names.result.now ≡ length names = ap length c.names-names.ensures.value in
    let place : c.unwrap_or-place.result ≡ level_of c.args.reported.now.names c.at.result.now =
    c.unwrap_or-place.ensures ∙ ap (λ o. unwrap_or o 0) c.find.ensures ∙
    ap (λ ns. level_of ns c.at.result.now) (c.in_ok-table.ensures ∙ c.names.ensures.value) in
    places_more c.args.reported.now.names names c.loop-level.level c.unwrap_or-place.result c.at.result.now c.loop-level.order.items
    c.push.new.self.items (omega (arith, many)) (subst (λ ns. slice_get ns c.loop-level.level ≡ Some c.at.result.now) c.names-names.ensures.value c.at.ensures)
    c.loop-level.invariant place c.in_ok-push.ensures.items

pub returns : goal.returns
returns c =
    let names = c.args.built.now.names in
    let many : length c.names-names.result.now ≡ length names = ap length c.names-names.ensures.value in
    c.loop-level.invariant ∙ ap (places_among c.args.reported.now.names) (take_all c.loop-level.level names (omega (arith, many)))
