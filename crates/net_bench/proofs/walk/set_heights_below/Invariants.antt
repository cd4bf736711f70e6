use Rattle.std.proofs.Common.{◌≡◌, ℕ, ◌<◌, true, false, get_or}
use Rattle.std.specs.Prelude.{reverse}
use Rattle.net_bench.specs.Heights.{IsRanking, steps_left}
use Rattle.net_bench.proofs.walk.set_heights_below.Given as goal

abbrev pub invariant-steps : goal.invariant-steps
invariant-steps l = record {
  ranking : IsRanking l.gates l.heights l.begun (reverse l.waiting.items);
  kept : (s : ℕ) → 0 < get_or l.fn.heights s 0 → get_or l.heights s 0 ≡ get_or l.fn.heights s 0;
  still : (p : ℕ) → get_or l.fn.begun p false ≡ true → get_or l.begun p false ≡ true;
  here : get_or l.begun l.start false ≡ true;
}

abbrev pub decreases-steps : goal.decreases-steps
decreases-steps l = steps_left l.gates l.begun (reverse l.waiting.items)
