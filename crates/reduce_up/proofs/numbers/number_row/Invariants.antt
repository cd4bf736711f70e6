use Rattle.std.proofs.Common.{◌+◌, ◌++◌, take, drop}
use Rattle.std.specs.List.{AllZip}
use Rattle.req_table.specs.Settled.{asked_by}
use Rattle.expand_work.specs.WavePorts.{row_of}
use Rattle.reduce_up.specs.Numbers.{keys_in, IsNumbered, AreNext, asked_from}
use Rattle.reduce_up.proofs.numbers.number_row.Given as goal

abbrev pub invariant-loop-place : goal.invariant-loop-place
invariant-loop-place l = record {
  pairs : AllZip (IsNumbered (keys_in l.input)) (take l.place (row_of l.input.notes.now.rows l.sender l.level)) l.spare_row;
  places : AreNext l.input (asked_by (drop l.place (row_of l.input.notes.now.rows l.sender l.level)) ++ asked_from l.input l.sender (l.level + 1)) l.left.items;
}
