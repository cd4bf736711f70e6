use Rattle.std.proofs.Common.{rules, ◌≡◌, ℕ, ◌+◌, ◌<◌, ◌≤◌, ◌++◌, ◌∷◌, [], List, length, get_or, set, slice_get, Some, sym, ap, ◌∙◌, subst, arith}
use Rattle.std.proofs.lemmas.List.{get_or_default}
use Rattle.dd_store.specs.declared.reference.Ref.{Ref}
use Rattle.reduce_up.specs.Division.{source}
use Rattle.reduce_up.proofs.Picked.{ArePicking, picking_none, picking_more, place_room, small}
use Rattle.reduce_up.proofs.picking.pick.Goals as goal
use Rattle.reduce_up.proofs.picking.pick.Goals.{After-index-place}

-- the next origin, and the place of its next diagram
module _ (c : After-index-place) where
  abbrev numbers : List ℕ
  numbers = c.args.origins.now.numbers.items

  abbrev sources : ℕ → List Ref
  sources = source c.args.refs.now c.args.origins.now

  abbrev h : ℕ
  h = get_or c.deref-origin-items.result.now c.loop-origin.origin-index 0

  same : c.deref-origin-items.result.now ≡ numbers
  same = search rules

  ib : c.loop-origin.origin-index < length numbers
  ib = subst (λ (z : List ℕ). c.loop-origin.origin-index < length z) same c.loop-origin-test.true

  h-is : h ≡ get_or numbers c.loop-origin.origin-index h
  h-is = ap (λ (z : List ℕ). get_or z c.loop-origin.origin-index 0) same ∙ get_or_default numbers c.loop-origin.origin-index 0 h ib

  at : c.index-place.result.now ≡ get_or c.loop-origin.places.items h 0
  at =
      let hb : h ≤ 16 = small numbers _ h ib h-is _ sources _ _ c.loop-origin.invariant c.requires.origins c.requires.room in
      c.index-place.ensures ∙ get_or_default c.loop-origin.places.items h c.index-place.result.now 0 (let z = c.loop-origin.invariant.seventeen in omega (arith, z, hb))

pub loop-origin-init : goal.loop-origin-init
loop-origin-init c =
    let starts = c.args.starts.now in let sources = source c.args.refs.now c.args.origins.now in
    let p : c.extend_from_slice.new.self.items ≡ starts = c.in_ok-extend_from_slice.ensures.items ∙ ap (λ z. z ++ starts) c.in_ok-places.ensures.items in
    subst (λ z. ArePicking [] (λ s. get_or starts s 0) sources z c.restart.new.self) (sym p) (picking_none starts sources c.restart.new.self c.requires.starts c.in_ok-restart.ensures)

pub diagram_at-requires-clause-place : goal.diagram_at-requires-clause-place
diagram_at-requires-clause-place c =
    let w = (goal.at.diagram_at-requires-clause-place c).After-index-place in
    subst (λ z. z < length (sources w (h w))) (sym (at w)) (place_room (numbers w) _ (h w) (ib w) (h-is w) _ (sources w) _ _ c.loop-origin.invariant c.requires.origins c.requires.room)

pub loop-origin-preserved : goal.loop-origin-preserved
loop-origin-preserved c =
    let w = (goal.at.loop-origin-preserved c).After-index-place in
    let next : c.in-Some.next ≡ c.index-place.result.now + 1 = search rules in
    let got = subst (λ z. slice_get (sources w (h w)) z ≡ Some c.diagram_at.result) (at w) c.diagram_at.ensures in
    let answers : c.push.new.self ≡ c.loop-origin.answers ++ c.diagram_at.result ∷ [] = search rules in
    picking_more (numbers w) _ (h w) (ib w) (h-is w) _ (sources w) _ _ c.loop-origin.invariant c.requires.origins c.requires.room c.diagram_at.result got
    (set c.loop-origin.places.items (h w) c.in-Some.next) (ap (set c.loop-origin.places.items (h w)) (next ∙ ap (λ z. z + 1) (at w))) c.push.new.self answers
