use Rattle.std.proofs.Common.{◌≡◌, take}
use Rattle.compare_built.specs.Arrangement.{places_among}
use Rattle.compare_built.proofs.arrangement.arrangement.Given as goal

-- the places so far
abbrev pub invariant-loop-level : goal.invariant-loop-level
invariant-loop-level l = l.order.items ≡ places_among l.reported.names (take l.level l.built.names)
