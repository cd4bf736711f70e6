use Rattle.std.proofs.Common.{◌≡◌, ◌<◌, ◌≤◌, ℕ, None, get_or}
use Rattle.net_patterns.specs.Choices.{IsNext}
use Rattle.net_patterns.specs.Simulated.{AreApart, first_bit}
use Rattle.net_patterns.proofs.differences.add_block.Given as goal

abbrev pub invariant-loop-place : goal.invariant-loop-place
invariant-loop-place l = record {
  done : (k : ℕ) (d : ℕ × ℕ) → k < l.place → IsNext (AreApart l.sides l.holds (get_or l.pairs k d)) (first_bit l.sides (get_or l.pairs k d)) l.block (get_or l.initial.found k None) (get_or l.found k None);
  rest : (k : ℕ) → l.place ≤ k → get_or l.found k None ≡ get_or l.initial.found k None;
}
