use Rattle.std.proofs.Common.{◌≡◌, map, take}
use Rattle.net_bench.proofs.name_table.NameTable.to_names.Given as goal

abbrev pub invariant-loop-place : goal.invariant-loop-place
invariant-loop-place l = map (λ w. w.items) l.names.items ≡ take l.place l.self
