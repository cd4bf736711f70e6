use Rattle.std.proofs.Common.{◌+◌, take}
use Rattle.net_simulate.specs.Schedules.{IsScheduledTo}
use Rattle.net_simulate.proofs.scheduling.add_row.Given as goal

abbrev pub invariant-loop-i : goal.invariant-loop-i
invariant-loop-i l = IsScheduledTo l.net l.schedule l.place (l.place + 1) (take l.i l.row)
