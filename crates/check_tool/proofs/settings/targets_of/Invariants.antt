use Rattle.std.proofs.Common.{take}
use Rattle.check_tool.specs.Running.{AreTargetsOf}
use Rattle.check_tool.proofs.settings.targets_of.Given as goal

-- the pair names up to here
abbrev pub invariant-loop-word : goal.invariant-loop-word
invariant-loop-word l = AreTargetsOf (take l.word-index l.words) l.targets.items
