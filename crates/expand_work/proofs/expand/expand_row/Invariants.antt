use Rattle.std.proofs.Common.{◌≡◌, ◌+◌, ◌%◌, ◌^◌, take}
use Rattle.expand_work.specs.TakenChildren.{AreTaken}
use Rattle.expand_work.proofs.expand.expand_row.Given as goal

abbrev pub invariant-loop-place : goal.invariant-loop-place
invariant-loop-place g l = record {
  accepts : g.A.ChildSink.accepts l.asks l.store;
  taken : AreTaken g.A.ChildSink.takes l.store l.fn.asks (take l.place l.keys) l.row l.asks;
  split : l.splits % 2 ^ 64 ≡ (l.fn.splits + l.place) % 2 ^ 64;
}
