use Rattle.std.proofs.Common.{◌≡◌, ◌+◌, ◌<◌, ◌≤◌, ℕ, List, length, get_or, drop}
use Rattle.dd_store.specs.declared.reference.Ref.{Ref}
use Rattle.reduce_up.specs.Waves.{AnswersEach}
use Rattle.gate_plan.specs.Building.{PlannedNet, input_level, AreFolded, asked}
use Rattle.gate_plan.proofs.building.build_fold.Given as goal

abbrev pub invariant-loop-i : goal.invariant-loop-i
invariant-loop-i g l = record {
  len : length l.built ≡ length l.fn.built;
  left : (k : ℕ) (refs : List Ref) → l.i ≤ k → get_or l.built k refs ≡ get_or l.fn.built k refs;
  done : (k : ℕ) (one : PlannedNet) (refs : List Ref) → k < l.i → get_or l.sides k one ≡ one → get_or l.built k refs ≡ refs → AreFolded one.net (input_level one) l.store refs l.rank (l.fold + 1);
  answers : AnswersEach l.fn.store (asked (drop l.i l.sides) (drop l.i l.fn.built) l.rank l.fold) l.store l.rest;
}
