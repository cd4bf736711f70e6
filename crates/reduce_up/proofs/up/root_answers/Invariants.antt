use Rattle.std.proofs.Common.{take}
use Rattle.std.specs.List.{AllZip}
use Rattle.reduce_up.specs.ReductionPhase.{ResolvesTo}
use Rattle.reduce_up.proofs.up.root_answers.Given as goal

abbrev pub invariant-loop-root : goal.invariant-loop-root
invariant-loop-root l = AllZip (ResolvesTo l.answers) (take l.root-index l.roots) l.refs.items
