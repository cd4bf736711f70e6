use Rattle.std.proofs.Common.{◌≡◌, ◌++◌, map, take}
use Rattle.gate_plan.specs.Building.{entry_of}
use Rattle.gate_plan.proofs.folds.add_entries.Given as goal

abbrev pub invariant-loop-step : goal.invariant-loop-step
invariant-loop-step l = l.entries.items ≡ l.fn.entries.items ++ map (entry_of l.references) (take l.step-index l.steps)
