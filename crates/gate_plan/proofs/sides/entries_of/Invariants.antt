use Rattle.std.proofs.Common.{◌≡◌, ◌++◌, drop}
use Rattle.gate_plan.specs.Building.{asked}
use Rattle.gate_plan.proofs.sides.entries_of.Given as goal

-- what is still to be added completes the entries
abbrev pub invariant-loop-i : goal.invariant-loop-i
invariant-loop-i l = l.entries.items ++ asked (drop l.i l.sides) (drop l.i l.built) l.rank l.fold ≡ asked l.sides l.built l.rank l.fold
