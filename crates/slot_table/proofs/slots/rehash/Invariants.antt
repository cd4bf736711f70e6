use Rattle.std.proofs.Common.{take}
use Rattle.slot_table.specs.Stamps.{Finds}
use Rattle.slot_table.proofs.slots.rehash.Given as goal

abbrev pub invariant-loop-place : goal.invariant-loop-place
invariant-loop-place g l = Finds g.T.SlotHash.slot_hash_of l.count (take l.place l.items) l.slots.items
