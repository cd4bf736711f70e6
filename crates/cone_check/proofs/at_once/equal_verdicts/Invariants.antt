use Rattle.std.proofs.Common.{◌≡◌, ℕ, ◌<◌, ◌≤◌, Bool, None, get_or, length}
use Rattle.net_bench.specs.Circuit.{circuit}
use Rattle.compare_built.specs.declared.subject.Subject.{Subject}
use Rattle.cone_check.specs.ConeRounds.{or_equal}
use Rattle.cone_check.proofs.at_once.equal_verdicts.Given as goal

abbrev pub invariant-loop-place : goal.invariant-loop-place
invariant-loop-place l = record {
  each : length l.known.items ≡ length l.subjects;
  made : (i : ℕ) (s : Subject) (e : Bool) → i < l.place → get_or l.known.items i None ≡ or_equal (circuit l.first) (get_or l.subjects i s) (get_or l.equal i e) None;
  rest : (i : ℕ) → l.place ≤ i → get_or l.known.items i None ≡ None;
}
