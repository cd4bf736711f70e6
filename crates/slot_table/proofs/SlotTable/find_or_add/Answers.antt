use Rattle.std.proofs.Common.{List, ℕ, subst}
use Rattle.slot_table.specs.Probes.{IsFreeFor}
use Rattle.slot_table.proofs.SlotTable.find_or_add.Goals as goal

pub add_at-requires-clause-free : goal.add_at-requires-clause-free
add_at-requires-clause-free g c =
    subst (λ (z : List ℕ). IsFreeFor g.T.SlotHash.slot_hash_of z c.args.item c.in-Slot.slot) c.as_slice-2.ensures.value (c.in-Slot.ensures).1
