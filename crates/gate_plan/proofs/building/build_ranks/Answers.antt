use Rattle.std.proofs.Common.{rules, refl, inr, arith, ◌∙◌, ◌≡◌, ◌+◌, ◌≤◌, map, subst, Err}
use Rattle.dd_store.specs.Nodes.{Nodes, count_of}
use Rattle.expand_work.specs.declared.fault.WaveFault.TheVariants.{OutOfMemory}
use Rattle.net_bench.specs.Circuit.{greatest}
use Rattle.reduce_up.proofs.Reduction.{adds_none}
use Rattle.expand_work.specs.Bounds.{most_of}
use Rattle.gate_plan.specs.Building.{AllRight, folds_at, ranks_of}
use Rattle.gate_plan.specs.Need.{IsCounted}
use Rattle.gate_plan.specs.Needing.{IsPlannedValue}
use Rattle.gate_plan.specs.Asking.{AnyAsksIn, AnyAsksBelow, IsWithinOrUnasked, AreNarrowTo, AreNarrowBelow}
use Rattle.gate_plan.proofs.Narrow.{none_narrow, next_narrow}
use Rattle.gate_plan.proofs.Asked.{none_unasked, next_unasked, still_within, within_kept}
use Rattle.gate_plan.proofs.Counted.{adds_next}
use Rattle.gate_plan.proofs.building.build_ranks.Goals as goal

pub loop-below-init : goal.loop-below-init
loop-below-init g c = record {
  sound = c.levels.ensures.sound;
  adds = adds_none c.args.store.now c.args.store.now (IsCounted c.args.store.now.levels (IsPlannedValue c.args.store.now.levels c.args.sides.now)) refl;
  held = c.requires.held;
  counts_all = c.requires.counts_all;
  bound = refl;
  narrow = λ bounded. none_narrow (λ k. AreNarrowTo (most_of c.args.engine.now.bound.requests) c.args.store.now.levels c.args.sides.now (k + 1) (greatest (map (folds_at (k + 1)) c.args.sides.now)));
  within = none_unasked c.args.store.now c.args.store.now (λ k. AnyAsksIn c.args.sides.now c.args.store.now (k + 1)) (inr refl);
  right = c.requires.right;
}

pub returns-in_err-build_rank-clause-adds : goal.returns-in_err-build_rank-clause-adds
returns-in_err-build_rank-clause-adds g c =
    adds_next c.args.store.now c.loop-below.store c.build_rank.new.store (λ n. IsPlannedValue n c.args.sides.now) c.loop-below.invariant.sound c.loop-below.invariant.adds c.build_rank.ensures.adds

pub loop-below-preserved : goal.loop-below-preserved
loop-below-preserved g c = record {
  sound = c.build_rank.ensures.sound;
  adds = adds_next c.args.store.now c.loop-below.store c.build_rank.new.store (λ n. IsPlannedValue n c.args.sides.now) c.loop-below.invariant.sound c.loop-below.invariant.adds c.build_rank.ensures.adds;
  held = c.in_ok-build_rank.ensures.held;
  counts_all = c.in_ok-build_rank.ensures.counts_all;
  narrow = next_narrow (λ n d k. AreNarrowTo n d c.args.sides.now (k + 1) (greatest (map (folds_at (k + 1)) c.args.sides.now))) c.args.engine.now.bound c.loop-below.engine.bound c.args.store.now.levels c.loop-below.store.levels
      c.loop-below.invariant.bound c.loop-below.invariant.adds.keeps.levels c.loop-below.below c.loop-below.invariant.narrow c.in_ok-build_rank.ensures.within_bound;
  bound = c.build_rank.ensures.bound ∙ c.loop-below.invariant.bound;
  within = next_unasked c.args.store.now c.loop-below.store c.build_rank.new.store (λ S k. AnyAsksIn c.args.sides.now S (k + 1)) c.loop-below.below c.loop-below.invariant.within c.in_ok-build_rank.ensures.within;
  right = c.in_ok-build_rank.ensures.next;
}

pub returns-clause-built : goal.returns-clause-built
returns-clause-built g c =
    let all : c.loop-below.below ≡ greatest (map ranks_of c.args.sides.now) = omega (arith, c.last_rank-ranks.ensures) in
    subst (λ n. AllRight c.args.sides.now c.loop-below.store c.loop-below.built (n + 1)) all c.loop-below.invariant.right

pub returns-clause-within_bound : goal.returns-clause-within_bound
returns-clause-within_bound g c = λ bounded.
    let all : c.loop-below.below ≡ greatest (map ranks_of c.args.sides.now) = omega (arith, c.last_rank-ranks.ensures) in
    subst (λ m. AreNarrowBelow (most_of c.args.engine.now.bound.requests) c.args.store.now.levels c.args.sides.now m) all (c.loop-below.invariant.narrow bounded)

pub returns-clause-within : goal.returns-clause-within
returns-clause-within g c =
    let all : c.loop-below.below ≡ greatest (map ranks_of c.args.sides.now) = omega (arith, c.last_rank-ranks.ensures) in
    subst (λ n. IsWithinOrUnasked (AnyAsksBelow c.args.sides.now c.loop-below.store n) c.args.store.now c.loop-below.store) all c.loop-below.invariant.within

pub returns-in_err-build_rank-clause-memory : goal.returns-in_err-build_rank-clause-memory
returns-in_err-build_rank-clause-memory g c =
    let O : Nodes = c.args.store.now in
    let T : Nodes = c.build_rank.new.store in
    let memory : count_of O ≤ O.limit → c.build_rank.result ≡ Err OutOfMemory → count_of T ≤ T.limit = λ old.
    c.build_rank.ensures.memory (within_kept O c.loop-below.store (still_within O c.loop-below.store _ c.loop-below.invariant.within) old) in
    search (rules, memory)
