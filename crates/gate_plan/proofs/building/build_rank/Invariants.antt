use Rattle.std.proofs.Common.{◌≡◌, ℕ, ◌<◌, ◌-◌, ◌^◌}
use Rattle.dd_store.specs.Nodes.{IsSound}
use Rattle.reduce_up.specs.Reducing.{AddsDescribed}
use Rattle.gate_plan.specs.Building.{AllFolded}
use Rattle.gate_plan.specs.Need.{IsCounted}
use Rattle.gate_plan.specs.Asking.{AnyAsksAt, IsWithinOrUnasked, IsRightAndWithinLimit, AreNarrowTo}
use Rattle.expand_work.specs.Bounds.{most_of}
use Rattle.wave_engine.specs.EngineView.{CountsAll}
use Rattle.gate_plan.specs.Needing.{IsPlannedValue}
use Rattle.gate_plan.proofs.building.build_rank.Given as goal

abbrev pub invariant-loop-fold : goal.invariant-loop-fold
invariant-loop-fold g l = record {
  sound : IsSound l.store;
  adds : AddsDescribed l.fn.store l.store (IsCounted l.fn.store.levels (IsPlannedValue l.fn.store.levels l.sides));
  held : IsRightAndWithinLimit l.store l.engine.held;
  counts_all : CountsAll l.store l.engine;
  bound : l.engine.bound ≡ l.fn.engine.bound;
  within : IsWithinOrUnasked ((j : ℕ) × (j < l.fold) × AnyAsksAt l.sides l.store l.rank j) l.fn.store l.store;
  narrow : most_of l.fn.engine.bound.requests < 2 ^ 64 - 1 → AreNarrowTo (most_of l.fn.engine.bound.requests) l.fn.store.levels l.sides l.rank l.fold;
  folded : AllFolded l.sides l.store l.built l.rank l.fold;
}
