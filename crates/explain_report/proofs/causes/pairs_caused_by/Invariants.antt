use Rattle.std.proofs.Common.{◌≡◌, map, take}
use Rattle.std.specs.Prelude.{filter}
use Rattle.explain_report.specs.Causing.{has_first_signal}
use Rattle.explain_report.proofs.causes.pairs_caused_by.Given as goal

-- those so far
abbrev pub invariant-loop-place : goal.invariant-loop-place
invariant-loop-place l = l.pairs.items ≡ map (λ one. one.pair) (filter (has_first_signal l.signal) (take l.place l.differences))
