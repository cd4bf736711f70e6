use Rattle.std.proofs.Common.{◌≡◌, ◌++◌, drop, take}
use Rattle.check_tool.specs.Helping.{front_word}
use Rattle.check_tool.proofs.remedy.front_word.Given as goal

abbrev pub invariant-loop-at : goal.invariant-loop-at
invariant-loop-at l = front_word l.bytes ≡ take l.at l.bytes ++ front_word (drop l.at l.bytes)
