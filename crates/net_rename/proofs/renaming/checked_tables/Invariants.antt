use Rattle.std.proofs.Common.{take, IsTrue, All}
use Rattle.net_bench.specs.Circuit.{circuit}
use Rattle.net_rename.specs.Renaming.{is_free, is_port}
use Rattle.net_rename.proofs.renaming.checked_tables.Given as goal

-- nothing is wrong with the pairs so far
abbrev pub invariant-loop-pair : goal.invariant-loop-pair
invariant-loop-pair l = record {
  first : All (λ p. IsTrue (is_port (circuit l.first) p.first.items)) (take l.pair-index l.pairs);
  second : All (λ p. IsTrue (is_port (circuit l.second) p.second.items)) (take l.pair-index l.pairs);
  free : All (λ p. IsTrue (is_free (circuit l.second) l.pairs p)) (take l.pair-index l.pairs);
}
