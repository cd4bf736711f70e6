use Rattle.std.proofs.Common.{◌≡◌, ◌∙◌, ◌<◌, ◌≤◌, ◌∷◌, ℕ, List, [], ap, arith, sym, get_or, length, map}
use Rattle.std.proofs.lemmas.List.{take_all}
use Rattle.std.proofs.lemmas.Option.{get_or_from_slice_get}
use Rattle.cone_check.proofs.Called.{names_more}
use Rattle.cone_check.proofs.pair_cones.cone_names.Goals as goal

pub loop-place-preserved : goal.loop-place-preserved
loop-place-preserved c =
    let names = c.args.names.now in
    let here = c.loop-place.place in
    let lt : here < length names = omega arith in
    let name : get_or names here [] ≡ c.at.result.now = get_or_from_slice_get names here c.at.result.now [] c.at.ensures in
    names_more (λ (n : List ℕ). 118 ∷ n) c.loop-place.list.items c.push.new.self.items c.in_ok-cone_name.field-0 names here lt c.in_ok-push.ensures.items
    (c.in_ok-cone_name.ensures ∙ ap (λ n. 118 ∷ n) (sym name)) c.loop-place.invariant

pub returns : goal.returns
returns c =
    let names = c.args.names.now in
    let past : length names ≤ c.loop-place.place = omega (arith, c.len-place-end.ensures.value, c.loop-place-test.false) in
    c.of.ensures ∙ c.loop-place.invariant ∙ ap (map (λ (n : List ℕ). 118 ∷ n)) (take_all c.loop-place.place names past)
