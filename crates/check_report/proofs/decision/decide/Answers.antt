use Rattle.std.proofs.Common.{refl, subst, sym}
use Rattle.compare_built.specs.Picking.{TakesPicks}
use Rattle.check_report.proofs.decision.decide.Goals as goal

pub compare_by_cones-requires-clause-picks : goal.compare_by_cones-requires-clause-picks
compare_by_cones-requires-clause-picks g c κs within = subst TakesPicks (sym c.in-Cones.is) refl

pub compare_by_cones-requires-in-ConesByList-clause-picks : goal.compare_by_cones-requires-in-ConesByList-clause-picks
compare_by_cones-requires-in-ConesByList-clause-picks g c κs within = subst TakesPicks (sym c.in-ConesByList.is) refl
