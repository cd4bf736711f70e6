use Rattle.std.proofs.Common.{◌≡◌, ℕ, ◌<◌, None, get_or, length, take}
use Rattle.net_bench.specs.Circuit.{circuit}
use Rattle.compare_built.specs.declared.subject.Subject.{Subject}
use Rattle.cone_check.specs.EqualCones.{verdict_for}
use Rattle.cone_check.proofs.equal_cones.verdicts_for.Given as goal

abbrev pub invariant-loop-place : goal.invariant-loop-place
invariant-loop-place l = record {
  each : length l.all.items ≡ length (take l.place l.subjects);
  made : (i : ℕ) (s : Subject) → i < l.place → get_or l.all.items i None ≡ verdict_for (circuit l.first) (get_or l.subjects i s) (get_or l.found (get_or l.numbers i 0) None);
}
