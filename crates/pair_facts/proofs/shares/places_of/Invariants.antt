use Rattle.std.proofs.Common.{◌≡◌}
use Rattle.net_order.specs.Force.{numbers_below}
use Rattle.pair_facts.proofs.shares.places_of.Given as goal

abbrev pub invariant-loop-place : goal.invariant-loop-place
invariant-loop-place l = l.places.items ≡ numbers_below l.place
