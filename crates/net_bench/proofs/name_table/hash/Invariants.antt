use Rattle.std.proofs.Common.{◌≡◌, take}
use Rattle.std.specs.Prelude.{fold}
use Rattle.net_bench.specs.NameTable.{mix}
use Rattle.net_bench.proofs.name_table.hash.Given as goal

abbrev pub invariant-loop-byte : goal.invariant-loop-byte
invariant-loop-byte l = l.hash ≡ fold mix 14695981039346656037 (take l.byte-index l.name)
