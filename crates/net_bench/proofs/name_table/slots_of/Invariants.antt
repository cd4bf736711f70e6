use Rattle.std.proofs.Common.{take}
use Rattle.slot_table.specs.Probes.{Probes}
use Rattle.net_bench.specs.NameTable.{names_in, folded_hash_of}
use Rattle.net_bench.proofs.name_table.slots_of.Given as goal

abbrev pub invariant-loop-number : goal.invariant-loop-number
invariant-loop-number l = Probes folded_hash_of l.count (names_in l.bytes (take l.number l.spans)) l.slots.items
