use Rattle.std.proofs.Common.{take}
use Rattle.std.specs.List.{AllZip}
use Rattle.reduce_up.specs.Numbers.{AreTasks, IsRootPlaced}
use Rattle.reduce_up.proofs.numbers.number_roots.Given as goal

abbrev pub invariant-loop-root : goal.invariant-loop-root
invariant-loop-root l = record {
  tasks : AreTasks l.input l.roots l.root l.tasks;
  placed : AllZip (IsRootPlaced l.input) (take l.root l.roots) l.placed.items;
}
