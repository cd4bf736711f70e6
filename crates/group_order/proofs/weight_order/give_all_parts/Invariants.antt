use Rattle.std.proofs.Common.{◌≡◌, ℕ, Vec, drop, map}
use Rattle.std.specs.Prelude.{fold}
use Rattle.std.specs.declared.alloc.Global.{Global}
use Rattle.group_order.specs.Weights.{with_parts}
use Rattle.group_order.proofs.weight_order.give_all_parts.Given as goal

abbrev pub invariant-loop-gate : goal.invariant-loop-gate
invariant-loop-gate l =
    fold (with_parts (map (λ (w : Vec ℕ Global). w.items) l.operands) l.dead) l.weights.items (drop l.gate-index l.gates) ≡
    fold (with_parts (map (λ (w : Vec ℕ Global). w.items) l.operands) l.dead) l.initial.weights.items l.gates
