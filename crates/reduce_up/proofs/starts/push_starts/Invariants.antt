use Rattle.std.proofs.Common.{◌≡◌, ◌++◌, List, length}
use Rattle.req_table.specs.declared.Record.{Record}
use Rattle.req_table.specs.Settled.{level_of_rows}
use Rattle.expand_work.specs.WavePorts.{row_of}
use Rattle.expand_work.specs.OwnerRows.{AreRowsByOwner}
use Rattle.reduce_up.specs.Numbers.{starts_at}
use Rattle.reduce_up.proofs.starts.push_starts.Given as goal

abbrev pub invariant-loop-worker : goal.invariant-loop-worker
invariant-loop-worker l = record {
  starts : (p : List (List (List Record))) → AreRowsByOwner p l.rows → l.starts.items ≡ l.fn.starts.items ++ starts_at l.worker (row_of p) l.level;
  start : (p : List (List (List Record))) → AreRowsByOwner p l.rows → l.start ≡ length (level_of_rows l.worker (row_of p) l.level);
}
