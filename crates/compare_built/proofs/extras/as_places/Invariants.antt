use Rattle.std.proofs.Common.{◌≡◌, take}
use Rattle.compare_built.proofs.extras.as_places.Given as goal

-- the places so far
abbrev pub invariant-loop-place : goal.invariant-loop-place
invariant-loop-place l = l.places.items ≡ take l.place-index l.order
