use Rattle.std.proofs.Common.{◌≡◌, take}
use Rattle.compare_built.proofs.arrangement.table_of.Given as goal

-- the names so far
abbrev pub invariant-loop-place : goal.invariant-loop-place
invariant-loop-place l = l.table ≡ take l.place l.names
