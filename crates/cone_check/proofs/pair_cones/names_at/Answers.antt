use Rattle.std.proofs.Common.{◌≡◌, ◌∙◌, ◌∷◌, [], ap, sym, get_or}
use Rattle.std.proofs.lemmas.Option.{get_or_from_slice_get}
use Rattle.net_cone.specs.Cones.{variable_name}
use Rattle.cone_check.proofs.Called.{texts_more}
use Rattle.cone_check.proofs.pair_cones.names_at.Goals as goal

pub loop-place-preserved : goal.loop-place-preserved
loop-place-preserved c =
    let names = c.args.names.now in
    let places = c.args.places.now in
    let here = c.loop-place.place in
    let name : get_or names (get_or places here 0) [] ≡ c.at-name.result.now = get_or_from_slice_get names (get_or places here 0) c.at-name.result.now [] c.at-name.ensures in
    texts_more (variable_name names) c.loop-place.list.items c.push.new.self.items c.in_ok-cone_name.field-0 places here c.loop-place-test.true c.in_ok-push.ensures.items
    (c.in_ok-cone_name.ensures ∙ ap (λ n. 118 ∷ n) (sym name)) c.loop-place.invariant
