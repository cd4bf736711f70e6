use Rattle.std.proofs.Common.{◌≡◌, List, length}
use Rattle.req_table.specs.declared.Record.{Record}
use Rattle.expand_work.specs.WavePorts.{row_of}
use Rattle.expand_work.specs.OwnerRows.{AreRowsByOwner}
use Rattle.reduce_up.specs.Numbers.{starts_below, AreFew}
use Rattle.reduce_up.proofs.starts.all_starts.Given as goal

abbrev pub invariant-loop-level : goal.invariant-loop-level
invariant-loop-level l = record {
  starts : (p : List (List (List Record))) → AreRowsByOwner p l.rows → l.starts.items ≡ starts_below l.level (length p) (row_of p);
  few : (p : List (List (List Record))) → AreRowsByOwner p l.rows → AreFew l.level (length p) (row_of p);
}
