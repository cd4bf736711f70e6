use Rattle.std.proofs.Common.{◌≡◌, ◌<◌, ◌≤◌, ℕ, List, [], length, get_or}
use Rattle.dd_store.specs.declared.reference.Ref.{Ref}
use Rattle.gate_plan.specs.Building.{PlannedNet, copied_all}
use Rattle.gate_plan.specs.Plans.{plan_copies}
use Rattle.gate_plan.proofs.sides.copy_rank.Given as goal

abbrev pub invariant-loop-i : goal.invariant-loop-i
invariant-loop-i l = record {
  len : length l.built ≡ length l.fn.built;
  left : (k : ℕ) (refs : List Ref) → l.i ≤ k → get_or l.built k refs ≡ get_or l.fn.built k refs;
  done : (k : ℕ) (one : PlannedNet) (refs : List Ref) → k < l.i → get_or l.sides k one ≡ one → get_or l.fn.built k refs ≡ refs → get_or l.built k [] ≡ copied_all refs (plan_copies one.net one.net.gates l.rank);
}
