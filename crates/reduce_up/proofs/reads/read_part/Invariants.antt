use Rattle.std.proofs.Common.{◌≡◌, length, take}
use Rattle.reduce_up.specs.Steps.{IsPartRead}
use Rattle.reduce_up.proofs.reads.read_part.Given as goal

abbrev pub invariant-loop-place : goal.invariant-loop-place
invariant-loop-place l = record {
  sixteen : length l.divided.lists.items ≡ 16;
  read : IsPartRead l.answers (take l.place l.children) l.divided.lists l.divided.origins;
}
