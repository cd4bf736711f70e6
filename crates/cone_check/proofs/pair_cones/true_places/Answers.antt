use Rattle.std.proofs.Common.{◌≡◌, ◌∙◌, ◌+◌, ◌++◌, ◌∷◌, [], ℕ, Bool, false, ap, arith, get_or, length, length-append, subst, sym}
use Rattle.std.specs.List.{filter}
use Rattle.net_order.specs.Force.{numbers_below}
use Rattle.compare_built.specs.Scatter.{ArePlaces}
use Rattle.compare_built.proofs.Places.{places_kept, places_more}
use Rattle.cone_check.proofs.ConeLevels.{filter_none, filter_with, filter_without, none_placed}
use Rattle.cone_check.proofs.pair_cones.true_places.Goals.{then-has_level-place+in_ok-push, else-has_level-place}
use Rattle.cone_check.proofs.pair_cones.true_places.Goals as goal

pub loop-place-init : goal.loop-place-init
loop-place-init c =
    let none = c.new-places.ensures.items in
    record {
      set = none ∙ sym (filter_none (λ i. get_or c.args.has_level.now i false));
      places = subst (ArePlaces 0) (sym none) none_placed;
      few = omega (arith, ap length none);
    }

pub loop-place-preserved : goal.loop-place-preserved
loop-place-preserved c =
    let p : ℕ → Bool = λ i. get_or c.args.has_level.now i false in
    let place = c.loop-place.place in
    let old = c.loop-place.places.items in
    let inv = c.loop-place.invariant in
    let new = c.if-has_level-place.places.items in
    elim c.if-has_level-place.branch [
      | then-has_level-place+in_ok-push w ↦
          let grown : new ≡ old ++ place ∷ [] = ap (λ z. z.items) w.places-is ∙ w.in_ok-push.ensures.items in
          record {
            set = grown ∙ ap (λ xs. xs ++ place ∷ []) inv.set ∙ sym (filter_with p place w.if-has_level-place.true);
            places = subst (ArePlaces (place + 1)) (sym grown) (places_more place old inv.places);
            few = omega (arith, ap length grown, length-append old (place ∷ []), inv.few);
          }
      | else-has_level-place w ↦
          let same : new ≡ old = ap (λ z. z.items) w.places-is in
          record {
            set = same ∙ inv.set ∙ sym (filter_without p place w.if-has_level-place.false);
            places = subst (ArePlaces (place + 1)) (sym same) (places_kept place old inv.places);
            few = omega (arith, ap length same, inv.few);
          }
    ]

pub returns-clause-set : goal.returns-clause-set
returns-clause-set c =
    let end : c.loop-place.place ≡ length c.args.has_level.now = omega arith in
    c.loop-place.invariant.set ∙ ap (λ n. filter (λ i. get_or c.args.has_level.now i false) (numbers_below n)) end
