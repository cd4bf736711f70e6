use Rattle.std.proofs.Common.{◌≡◌, ℕ, [], ◌<◌, true, false, get_or}
use Rattle.net_bench.specs.Heights.{IsRanking}
use Rattle.net_bench.proofs.walk.set_heights.Given as goal

abbrev pub invariant-loop-place : goal.invariant-loop-place
invariant-loop-place l = record {
  ranking : IsRanking l.gates l.heights l.begun.items [];
  kept : (s : ℕ) → 0 < get_or l.fn.heights s 0 → get_or l.heights s 0 ≡ get_or l.fn.heights s 0;
  all : (p : ℕ) → p < l.place → get_or l.begun.items p false ≡ true;
}
