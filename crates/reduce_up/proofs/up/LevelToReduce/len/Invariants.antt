use Rattle.std.proofs.Common.{◌≡◌, ◌%◌, ◌^◌, length, take}
use Rattle.reduce_up.specs.OverParts.{level_over}
use Rattle.reduce_up.proofs.up.LevelToReduce.len.Given as goal

abbrev pub invariant-loop-part : goal.invariant-loop-part
invariant-loop-part l = l.total ≡ length (level_over (take l.part-index l.part-items) l.self.number) % 2 ^ 64
