use Rattle.std.proofs.Common.{◌≡◌, false, take}
use Rattle.std.specs.List.{list_any}
use Rattle.compare_built.specs.PairSelection.{is_picked_by}
use Rattle.pair_facts.proofs.pair_selection.is_picked.Given as goal

abbrev pub invariant-loop-pattern : goal.invariant-loop-pattern
invariant-loop-pattern l = list_any (is_picked_by l.kind l.name) (take l.pattern-index l.patterns) ≡ false
