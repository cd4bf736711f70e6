use Rattle.std.proofs.Common.{refl}
use Rattle.decision_tests.proofs.picks.reported.Goals as goal

pub invariant_of-settings-clause-picks_by_cones : goal.invariant_of-settings-clause-picks_by_cones
invariant_of-settings-clause-picks_by_cones c picked may = refl
