use Rattle.std.proofs.Common.{◌≡◌, ◌≤◌, false, length}
use Rattle.std.specs.List.{filter}
use Rattle.std.specs.Prelude.{slice_index_or}
use Rattle.net_order.specs.Force.{numbers_below}
use Rattle.compare_built.specs.Scatter.{ArePlaces}
use Rattle.cone_check.proofs.pair_cones.true_places.Given as goal

abbrev pub invariant-loop-place : goal.invariant-loop-place
invariant-loop-place l = record {
  set : l.places.items ≡ filter (λ i. slice_index_or l.has_level i false) (numbers_below l.place);
  places : ArePlaces l.place l.places.items;
  few : length l.places.items ≤ l.place;
}
