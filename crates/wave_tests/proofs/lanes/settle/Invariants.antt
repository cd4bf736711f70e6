use Rattle.std.proofs.Common.{◌≡◌, ◌<◌, ℕ}
use Rattle.std.specs.Prelude.{slice_index_or}
use Rattle.lane_queue.specs.PortView.{PortView}
use Rattle.wave_tests.proofs.lanes.settle.Given as goal

abbrev pub invariant-loop-place : goal.invariant-loop-place
invariant-loop-place g l = (i : ℕ) (d : PortView) → i < l.place → (slice_index_or l.ports.items i d).number ≡ i
