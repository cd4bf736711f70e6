use Rattle.std.proofs.Common.{◌≡◌, ◌++◌, drop}
use Rattle.gate_plan.specs.Conjoining.{conjunctions}
use Rattle.gate_plan.proofs.conjoining.conjunctions.Given as goal

abbrev pub invariant-loop-reference : goal.invariant-loop-reference
invariant-loop-reference l = l.entries.items ++ conjunctions (drop l.reference-index l.references) l.given ≡ conjunctions l.references l.given
