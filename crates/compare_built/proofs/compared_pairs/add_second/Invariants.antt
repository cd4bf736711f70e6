use Rattle.std.proofs.Common.{◌≡◌, ◌++◌, map, drop}
use Rattle.gate_plan.specs.Building.{reference_of}
use Rattle.compare_built.specs.declared.subject.Subject.{Subject}
use Rattle.compare_built.proofs.compared_pairs.add_second.Given as goal

-- what is still to be added completes the list
abbrev pub invariant-loop-i : goal.invariant-loop-i
invariant-loop-i l =
    l.references.items ++ map (λ (s : Subject). reference_of l.built.second s.second) (drop l.i l.subjects)
    ≡ l.fn.references.items ++ map (λ (s : Subject). reference_of l.built.second s.second) l.subjects
