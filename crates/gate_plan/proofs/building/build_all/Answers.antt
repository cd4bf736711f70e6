use Rattle.std.proofs.Common.{refl, inl}
use Rattle.reduce_up.proofs.Reduction.{adds_none}
use Rattle.gate_plan.specs.Need.{IsCounted}
use Rattle.gate_plan.specs.Needing.{IsPlannedValue}
use Rattle.gate_plan.proofs.building.build_all.Goals as goal

pub returns-in_err-engine-clause-adds : goal.returns-in_err-engine-clause-adds
returns-in_err-engine-clause-adds g c =
    adds_none c.args.store.now c.args.store.now (IsCounted c.args.store.now.levels (IsPlannedValue c.args.store.now.levels c.args.sides.now)) refl

pub build_ranks-requires-clause-held : goal.build_ranks-requires-clause-held
build_ranks-requires-clause-held g c κs within = record { right = c.in_ok-engine.ensures.right c.args.store.now; within = inl c.in_ok-engine.ensures.empty }

pub build_ranks-requires-clause-counts_all : goal.build_ranks-requires-clause-counts_all
build_ranks-requires-clause-counts_all g c κs within = c.in_ok-engine.ensures.counts_all c.args.store.now
