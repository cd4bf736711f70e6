use Rattle.std.proofs.Common.{◌≡◌, length, take}
use Rattle.dd_store.specs.Levels.{list_at}
use Rattle.reduce_up.specs.Sharing.{AreDivided}
use Rattle.wave_doors.proofs.parallel.divide.Given as goal

abbrev pub invariant-loop-pair : goal.invariant-loop-pair
invariant-loop-pair l = record {
  sixteen : length l.lists.items ≡ 16;
  divided : AreDivided (take l.pair-index l.pairs) (list_at l.lists.items);
}
