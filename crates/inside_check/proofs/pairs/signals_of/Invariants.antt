use Rattle.std.proofs.Common.{◌≡◌, map, take}
use Rattle.inside_check.proofs.pairs.signals_of.Given as goal

abbrev pub invariant-loop-subject : goal.invariant-loop-subject
invariant-loop-subject l = l.signals.items ≡ map (λ s. (s.first, s.second)) (take l.subject-index l.subjects)
