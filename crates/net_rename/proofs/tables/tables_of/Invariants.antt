use Rattle.std.proofs.Common.{◌≡◌, take}
use Rattle.std.specs.Prelude.{bytes_eq}
use Rattle.std.specs.List.{IsDistinct}
use Rattle.net_rename.specs.Renaming.{firsts, seconds}
use Rattle.net_rename.proofs.tables.tables_of.Given as goal

-- the columns of the pairs so far
abbrev pub invariant-loop-pair : goal.invariant-loop-pair
invariant-loop-pair l = record {
  firsts : l.firsts ≡ firsts (take l.pair-index l.pairs);
  seconds : l.seconds ≡ seconds (take l.pair-index l.pairs);
  firsts_once : IsDistinct bytes_eq l.firsts;
  seconds_once : IsDistinct bytes_eq l.seconds;
}
