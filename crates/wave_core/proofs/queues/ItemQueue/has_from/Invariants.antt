use Rattle.std.proofs.Common.{◌≡◌, [], take}
use Rattle.req_table.specs.Lanes.{sent_by}
use Rattle.wave_core.proofs.queues.ItemQueue.has_from.Given as goal

abbrev pub invariant-loop-place : goal.invariant-loop-place
invariant-loop-place l = sent_by l.sender (take l.place l.self) ≡ []
