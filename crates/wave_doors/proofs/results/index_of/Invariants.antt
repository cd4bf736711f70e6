use Rattle.std.proofs.Common.{◌≡◌, ◌≤◌, map, take, length}
use Rattle.req_table.specs.Settled.{key_of}
use Rattle.wave_doors.proofs.results.index_of.Given as goal

abbrev pub invariant-loop-entry : goal.invariant-loop-entry
invariant-loop-entry l = record { few : length l.keys ≤ l.entry-index; whole : length l.keys ≡ l.entry-index → l.keys ≡ map key_of (take l.entry-index l.row) }
