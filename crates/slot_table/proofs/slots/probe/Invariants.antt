use Rattle.std.proofs.Common.{◌≡◌, ◌<◌, length}
use Rattle.slot_table.specs.Probes.{slot_of, home_of}
use Rattle.slot_table.specs.Stamps.{places_in}
use Rattle.slot_table.proofs.Probing.{Passed}
use Rattle.slot_table.proofs.slots.probe.Given as goal

abbrev pub invariant-loop-distance : goal.invariant-loop-distance
invariant-loop-distance g l = record {
  at : l.slot ≡ slot_of (length l.slots) (home_of g.T.SlotHash.slot_hash_of (length l.slots) l.fn.item) l._distance;
  within : l.slot < length l.slots;
  passed : Passed g.T.SlotHash.slot_hash_of (length l.slots) l.items (places_in (length l.slots) l.slots) l.fn.item l._distance;
}
