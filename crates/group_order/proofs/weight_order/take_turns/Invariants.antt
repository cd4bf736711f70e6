use Rattle.std.proofs.Common.{◌≡◌, ◌-◌, ℕ, Vec, [], length, map}
use Rattle.std.specs.declared.alloc.Global.{Global}
use Rattle.group_order.specs.Weights.{begun, turns}
use Rattle.group_order.proofs.weight_order.take_turns.Given as goal

abbrev pub invariant-loop-turn : goal.invariant-loop-turn
invariant-loop-turn l = record {
  live : length l.state.live ≡ l.variables - l._turn;
  rest : turns (map (λ (w : Vec ℕ Global). w.items) l.operands) (l.variables - l._turn) l.state (record { order = l.order.items; visits = l.visits }) ≡
      turns (map (λ (w : Vec ℕ Global). w.items) l.operands) l.variables (begun (length l.operands) l.variables) (record { order = []; visits = l.fn.visits });
}
