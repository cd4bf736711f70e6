use Rattle.std.proofs.Common.{◌≡◌, ◌<◌, ◌≤◌, ℕ, get_or, bit_and}
use Rattle.net_simulate.proofs.blocks.and_each.Given as goal

abbrev pub invariant-loop-j : goal.invariant-loop-j
invariant-loop-j l = record {
  done : (k : ℕ) → k < l.j → get_or l.block k 0 ≡ bit_and (get_or l.initial.block k 0) (get_or l.other k 0);
  rest : (k : ℕ) → l.j ≤ k → get_or l.block k 0 ≡ get_or l.initial.block k 0;
}
