use Rattle.std.proofs.Common.{◌-◌}
use Rattle.dd_store.specs.View.{top}
use Rattle.counter_walk.proofs.support.+visit.Given as goal

-- along each edge the level grows
abbrev pub decreases-visit : goal.decreases-visit
decreases-visit l = l.store.now.levels - top l.store.now l.r
