use Rattle.std.proofs.Common.{refl}
use Rattle.decision_tests.proofs.picks.reported_by_list.Goals as goal

pub invariant_of-settings-clause-picks_by_cones : goal.invariant_of-settings-clause-picks_by_cones
invariant_of-settings-clause-picks_by_cones c picked may = refl
