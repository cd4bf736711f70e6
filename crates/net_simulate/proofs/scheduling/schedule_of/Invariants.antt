use Rattle.std.proofs.Common.{[]}
use Rattle.net_simulate.specs.Schedules.{IsScheduledTo}
use Rattle.net_simulate.proofs.scheduling.schedule_of.Given as goal

abbrev pub invariant-loop-place : goal.invariant-loop-place
invariant-loop-place l = IsScheduledTo l.net l.schedule l.place l.place []
