use Rattle.std.proofs.Common.{◌≡◌, ◌+◌, ◌<◌, ◌-◌, ◌^◌}
use Rattle.dd_store.specs.Nodes.{IsSound}
use Rattle.reduce_up.specs.Reducing.{AddsDescribed}
use Rattle.gate_plan.specs.Building.{AllRight}
use Rattle.gate_plan.specs.Need.{IsCounted}
use Rattle.gate_plan.specs.Asking.{AnyAsksBelow, IsWithinOrUnasked, IsRightAndWithinLimit, AreNarrowBelow}
use Rattle.expand_work.specs.Bounds.{most_of}
use Rattle.wave_engine.specs.EngineView.{CountsAll}
use Rattle.gate_plan.specs.Needing.{IsPlannedValue}
use Rattle.gate_plan.proofs.building.build_ranks.Given as goal

abbrev pub invariant-loop-below : goal.invariant-loop-below
invariant-loop-below g l = record {
  sound : IsSound l.store;
  adds : AddsDescribed l.fn.store l.store (IsCounted l.fn.store.levels (IsPlannedValue l.fn.store.levels l.sides));
  held : IsRightAndWithinLimit l.store l.engine.held;
  counts_all : CountsAll l.store l.engine;
  bound : l.engine.bound ≡ l.fn.engine.bound;
  within : IsWithinOrUnasked (AnyAsksBelow l.sides l.store l.below) l.fn.store l.store;
  narrow : most_of l.fn.engine.bound.requests < 2 ^ 64 - 1 → AreNarrowBelow (most_of l.fn.engine.bound.requests) l.fn.store.levels l.sides l.below;
  right : AllRight l.sides l.store l.built (l.below + 1);
}
