use Rattle.std.proofs.Common.{◌≡◌, take}
use Rattle.expand_work.specs.OwnerRows.{records_of}
use Rattle.wave_doors.proofs.merge.split_all.Given as goal

abbrev pub invariant-loop-place : goal.invariant-loop-place
invariant-loop-place l = l.records.items ≡ records_of l.store (take l.place l.keys)
