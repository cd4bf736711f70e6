use Rattle.std.proofs.Common.{◌≡◌, ℕ, Vec, drop, map}
use Rattle.std.specs.Prelude.{fold}
use Rattle.std.specs.declared.alloc.Global.{Global}
use Rattle.group_order.specs.Weights.{with_visit}
use Rattle.group_order.proofs.weight_step.visits_after.Given as goal

abbrev pub invariant-loop-gate : goal.invariant-loop-gate
invariant-loop-gate l =
    fold (with_visit (map (λ (w : Vec ℕ Global). w.items) l.operands)) l.visits (drop l.gate-index l.gates) ≡
    fold (with_visit (map (λ (w : Vec ℕ Global). w.items) l.operands)) l.initial.visits l.gates
