use Rattle.std.proofs.Common.{◌≡◌, ◌<◌, length}
use Rattle.slot_table.specs.Probes.{slot_of, home_of}
use Rattle.net_bench.specs.NameTable.{names_in, folded_hash_of}
use Rattle.slot_table.proofs.Probing.{Passed}
use Rattle.net_bench.proofs.name_table.seek.Given as goal

abbrev pub invariant-loop-distance : goal.invariant-loop-distance
invariant-loop-distance l = record {
  at : l.slot ≡ slot_of (length l.slots) (home_of folded_hash_of (length l.slots) l.name) l._distance;
  within : l.slot < length l.slots;
  passed : Passed folded_hash_of (length l.slots) (names_in l.bytes l.spans) l.slots l.name l._distance;
}
