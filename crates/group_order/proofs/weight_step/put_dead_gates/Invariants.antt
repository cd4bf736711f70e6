use Rattle.std.proofs.Common.{◌≡◌, ◌≤◌, ℕ, Vec, length, map, take}
use Rattle.std.specs.Prelude.{fold, reverse}
use Rattle.std.specs.declared.alloc.Global.{Global}
use Rattle.group_order.specs.Weights.{with_dead_gate}
use Rattle.group_order.proofs.weight_step.put_dead_gates.Given as goal

abbrev pub invariant-loop-place : goal.invariant-loop-place
invariant-loop-place l = record {
  within : l.place ≤ length l.gates;
  rest : fold (with_dead_gate (map (λ (w : Vec ℕ Global). w.items) l.operands)) l.dead.items (reverse (take l.place l.gates)) ≡
      fold (with_dead_gate (map (λ (w : Vec ℕ Global). w.items) l.operands)) l.fn.dead.items (reverse l.gates);
}

abbrev pub decreases-loop-place : goal.decreases-loop-place
decreases-loop-place l = l.place
