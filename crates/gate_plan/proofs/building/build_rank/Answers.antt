use Rattle.std.proofs.Common.{rules, refl, inr, ◌≡◌, ◌∙◌, arith, ◌≤◌, Err, map, subst}
use Rattle.dd_store.specs.Nodes.{Nodes, count_of}
use Rattle.expand_work.specs.declared.fault.WaveFault.TheVariants.{OutOfMemory}
use Rattle.reduce_up.proofs.Reduction.{adds_none}
use Rattle.expand_work.specs.Bounds.{most_of}
use Rattle.net_bench.specs.Circuit.{greatest}
use Rattle.gate_plan.specs.Building.{input_level, levelled_of, folds_at}
use Rattle.gate_plan.specs.Need.{IsCounted}
use Rattle.gate_plan.specs.Needing.{IsPlannedValue}
use Rattle.gate_plan.specs.Asking.{AnyAsksAt, IsNarrowAt, AreNarrowTo}
use Rattle.gate_plan.proofs.Narrow.{none_narrow, next_narrow}
use Rattle.gate_plan.specs.Plans.{plan_copies, plan_folds}
use Rattle.gate_plan.proofs.Asked.{none_unasked, next_unasked, rank_unasked, still_within, within_kept}
use Rattle.gate_plan.proofs.Counted.{adds_next}
use Rattle.gate_plan.proofs.Ranks.{below_greatest}
use Rattle.gate_plan.proofs.Running.{copies_fit, all_copied, rank_right}
use Rattle.gate_plan.proofs.building.build_rank.Goals as goal

pub copy_rank-requires-clause-below : goal.copy_rank-requires-clause-below
copy_rank-requires-clause-below g c = (
  c.requires.right.0,
  λ k one refs lt at there.
      copies_fit one.net (c.requires.plans one (k, lt, at)).sound (input_level one) c.args.store.now refs refs c.args.rank (plan_copies one.net one.net.gates c.args.rank) (c.requires.right.1 k one refs lt at there) refl refl,
)

pub loop-fold-init : goal.loop-fold-init
loop-fold-init g c = record {
  sound = c.levels.ensures.sound;
  adds = adds_none c.args.store.now c.args.store.now (IsCounted c.args.store.now.levels (IsPlannedValue c.args.store.now.levels c.args.sides.now)) refl;
  held = c.requires.held;
  counts_all = c.requires.counts_all;
  bound = refl;
  narrow = λ bounded. none_narrow (λ j. IsNarrowAt (most_of c.args.engine.now.bound.requests) c.args.store.now.levels (map levelled_of c.args.sides.now) c.args.rank j);
  within = none_unasked c.args.store.now c.args.store.now (λ j. AnyAsksAt c.args.sides.now c.args.store.now c.args.rank j) (inr refl);
  folded = all_copied c.args.sides.now c.requires.plans c.args.store.now c.args.built.now c.copy_rank.new.built c.args.rank c.requires.right c.copy_rank.ensures;
}

pub returns-in_err-build_fold-clause-adds : goal.returns-in_err-build_fold-clause-adds
returns-in_err-build_fold-clause-adds g c =
    adds_next c.args.store.now c.loop-fold.store c.build_fold.new.store (λ n. IsPlannedValue n c.args.sides.now) c.loop-fold.invariant.sound c.loop-fold.invariant.adds c.build_fold.ensures.adds

pub loop-fold-preserved : goal.loop-fold-preserved
loop-fold-preserved g c = record {
  sound = c.build_fold.ensures.sound;
  adds = adds_next c.args.store.now c.loop-fold.store c.build_fold.new.store (λ n. IsPlannedValue n c.args.sides.now) c.loop-fold.invariant.sound c.loop-fold.invariant.adds c.build_fold.ensures.adds;
  held = c.in_ok-build_fold.ensures.held;
  counts_all = c.in_ok-build_fold.ensures.counts_all;
  narrow = next_narrow (λ n d j. IsNarrowAt n d (map levelled_of c.args.sides.now) c.args.rank j) c.args.engine.now.bound c.loop-fold.engine.bound c.args.store.now.levels c.loop-fold.store.levels
      c.loop-fold.invariant.bound c.loop-fold.invariant.adds.keeps.levels c.loop-fold.fold c.loop-fold.invariant.narrow c.in_ok-build_fold.ensures.within_bound;
  bound = c.build_fold.ensures.bound ∙ c.loop-fold.invariant.bound;
  within = next_unasked c.args.store.now c.loop-fold.store c.build_fold.new.store (λ S j. AnyAsksAt c.args.sides.now S c.args.rank j) c.loop-fold.fold c.loop-fold.invariant.within c.in_ok-build_fold.ensures.within;
  folded = c.in_ok-build_fold.ensures.next;
}

pub returns-clause-next : goal.returns-clause-next
returns-clause-next g c = (
  c.loop-fold.invariant.folded.0,
  λ k one refs lt at there.
      let most = below_greatest (folds_at c.args.rank) c.args.sides.now one (k, lt, at) in
      let top = c.most_folds-fold-end.ensures in
      let few : plan_folds one.net one.net.gates c.args.rank ≤ c.loop-fold.fold = omega arith in
      rank_right one.net (c.requires.plans one (k, lt, at)).sound (input_level one) c.loop-fold.store refs c.args.rank c.loop-fold.fold c.requires.rank few (c.loop-fold.invariant.folded.1 k one refs lt at there),
)

pub returns-clause-within_bound : goal.returns-clause-within_bound
returns-clause-within_bound g c = λ bounded.
    let all : c.loop-fold.fold ≡ greatest (map (folds_at c.args.rank) c.args.sides.now) = omega (arith, c.most_folds-fold-end.ensures) in
    subst (λ f. AreNarrowTo (most_of c.args.engine.now.bound.requests) c.args.store.now.levels c.args.sides.now c.args.rank f) all (c.loop-fold.invariant.narrow bounded)

pub returns-clause-within : goal.returns-clause-within
returns-clause-within g c =
    rank_unasked c.args.sides.now c.args.store.now c.loop-fold.store c.args.rank c.loop-fold.fold (λ one there. let most = below_greatest (folds_at c.args.rank) c.args.sides.now one there in let top = c.most_folds-fold-end.ensures in omega arith) c.loop-fold.invariant.within

pub returns-in_err-build_fold-clause-memory : goal.returns-in_err-build_fold-clause-memory
returns-in_err-build_fold-clause-memory g c =
    let O : Nodes = c.args.store.now in
    let T : Nodes = c.build_fold.new.store in
    let memory : count_of O ≤ O.limit → c.build_fold.result ≡ Err OutOfMemory → count_of T ≤ T.limit = λ old.
    c.build_fold.ensures.memory (within_kept O c.loop-fold.store (still_within O c.loop-fold.store _ c.loop-fold.invariant.within) old) in
    search (rules, memory)
