use Rattle.std.proofs.Common.{◌≡◌, ◌<◌, length}
use Rattle.slot_table.specs.Probes.{slot_of, IsTaken}
use Rattle.slot_table.proofs.slots.free_slot.Given as goal

abbrev pub invariant-loop-distance : goal.invariant-loop-distance
invariant-loop-distance l = record {
  at : l.slot ≡ slot_of (length l.slots) l.fn.home l._distance;
  within : l.slot < length l.slots;
  taken : IsTaken (length l.slots) l.fn.home l.slots l._distance;
}
