use Rattle.std.proofs.Common.{◌-◌, min}
use Rattle.dd_store.specs.View.{top}
use Rattle.counter_walk.proofs.least.+place_of.Given as goal

-- along each edge the level of the upper reference grows
abbrev pub decreases-place_of : goal.decreases-place_of
decreases-place_of l = l.store.now.levels - min (top l.store.now l.f) (top l.store.now l.g)
