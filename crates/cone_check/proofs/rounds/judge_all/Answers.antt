use Rattle.std.specs.Prelude.{IsPermutation, ⊤}
use Rattle.net_order.specs.Force.{numbers_below}
use Rattle.std.proofs.Common.{length, sym, ◌<◌, ◌≤◌, ◌*◌, ◌^◌, ℕ, IfOk, refl, subst, suc, arith, lit<}
use Rattle.order_search.proofs.Budgets.{next_budget}
use Rattle.cone_check.proofs.Filling.{length_known}
use Rattle.compare_built.specs.Attempts.{IsBudget}
use Rattle.std.specs.List.{AllZip}
use Rattle.rayon.proofs.ListFacts.{IfOk-then}
use Rattle.cone_check.specs.ConeRounds.{IsKnown, IsUndecidedIn, IsDecidedIn}
use Rattle.cone_check.proofs.Keeping.{kept_both, kept_by_round, kept_itself}
use Rattle.cone_check.proofs.JobRounds.{none_yet, round_last, round_more}
use Rattle.cone_check.specs.KnownPairs.{AreKept}
use Rattle.cone_check.proofs.rounds.judge_all.Goals as goal

pub loop-budget-init : goal.loop-budget-init
loop-budget-init g c = record {
  power = (
    0,
    refl,
    none_yet c.args.context.now c.cone_limit-limit.result (g.G.Monitor.bound c.args.monitor.now) c.args.subjects.now c.args.known.items
        (subst (λ n. AllZip (IsKnown (IsDecidedIn c.args.context.now n) (λ s. ⊤)) c.args.subjects.now c.args.known.items) (sym c.cone_limit-limit.ensures) c.requires.at_once),
  );
  some = lit< tt;
  kept = kept_itself c.args.known.items;
}

pub judge_round-requires-clause-one_for_each : goal.judge_round-requires-clause-one_for_each
judge_round-requires-clause-one_for_each g c κs within =
    let p = c.loop-budget.invariant.power in
    length_known (IsDecidedIn c.args.context.now c.cone_limit-limit.result) (λ s. (j : ℕ) → j < p.0 → IsUndecidedIn c.args.context.now (16384 * 32 ^ j) (g.G.Monitor.bound c.args.monitor.now) s) c.args.subjects.now c.loop-budget.known.items p.2

pub judge_round-requires-2-clause-one_for_each : goal.judge_round-requires-2-clause-one_for_each
judge_round-requires-2-clause-one_for_each g c κs within =
    let p = c.loop-budget.invariant.power in
    length_known (IsDecidedIn c.args.context.now c.cone_limit-limit.result) (λ s. (j : ℕ) → j < p.0 → IsUndecidedIn c.args.context.now (16384 * 32 ^ j) (g.G.Monitor.bound c.args.monitor.now) s) c.args.subjects.now c.loop-budget.known.items p.2

pub judge_round-requires-clause-order : goal.judge_round-requires-clause-order
judge_round-requires-clause-order g c κs within =
    subst (IsPermutation (numbers_below (length c.args.subjects.now))) (sym c.as_slice.ensures.value) c.in_ok-order.ensures.places

pub judge_round-requires-2-clause-order : goal.judge_round-requires-2-clause-order
judge_round-requires-2-clause-order g c κs within =
    subst (IsPermutation (numbers_below (length c.args.subjects.now))) (sym c.as_slice-2.ensures.value) c.in_ok-order.ensures.places

pub loop-budget-preserved : goal.loop-budget-preserved
loop-budget-preserved g c =
    let p = c.loop-budget.invariant.power in
    let some = c.loop-budget.invariant.some in
    record {
      power = (
        suc p.0,
        next_budget p.0 c.loop-budget.budget p.1,
        round_more c.args.context.now c.cone_limit-limit.result (g.G.Monitor.bound c.args.monitor.now) c.args.subjects.now p.0 c.loop-budget.budget c.loop-budget.known.items c.in_ok-known.known.items p.1 (let low = c.loop-budget-test.true in omega (arith, low)) p.2 c.in_ok-known.ensures.round,
      );
      some = omega (arith, some);
      kept = kept_both c.args.known.items c.loop-budget.known.items c.in_ok-known.known.items c.loop-budget.invariant.kept
          (kept_by_round c.args.context.now c.loop-budget.budget (g.G.Monitor.bound c.args.monitor.now) c.args.subjects.now c.loop-budget.known.items c.in_ok-known.known.items
          (length_known (IsDecidedIn c.args.context.now c.cone_limit-limit.result) (λ s. (j : ℕ) → j < p.0 → IsUndecidedIn c.args.context.now (16384 * 32 ^ j) (g.G.Monitor.bound c.args.monitor.now) s) c.args.subjects.now c.loop-budget.known.items p.2)
          c.in_ok-known.ensures.round);
    }

pub returns-clause-known : goal.returns-clause-known
returns-clause-known g c =
    let w = c.args.context.now in
    let bound = g.G.Monitor.bound c.args.monitor.now in
    let p = c.loop-budget.invariant.power in
    let limit = c.cone_limit-limit.result in
    let most : limit ≤ 16384 * 32 ^ p.0 = (let e = p.1 in let past = c.loop-budget-test.false in omega arith) in
    subst (λ n. IfOk c.judge_round-2.result (λ v. AllZip (IsKnown (IsDecidedIn w n) (λ s. (budget : ℕ) → IsBudget n budget → IsUndecidedIn w budget bound s)) c.args.subjects.now v.items)) c.cone_limit-limit.ensures
    (IfOk-then c.judge_round-2.result _ _ c.judge_round-2.ensures.round (λ v r. round_last w limit bound c.args.subjects.now p.0 c.loop-budget.known.items v.items most p.2 r))

pub returns-clause-kept : goal.returns-clause-kept
returns-clause-kept g c =
    let w = c.args.context.now in
    let bound = g.G.Monitor.bound c.args.monitor.now in
    let p = c.loop-budget.invariant.power in
    let limit = c.cone_limit-limit.result in
    let known = c.loop-budget.known.items in
    IfOk-then c.judge_round-2.result _ (λ v. AreKept c.args.known.items v.items) c.judge_round-2.ensures.round
    (λ v r. kept_both c.args.known.items known v.items c.loop-budget.invariant.kept
    (kept_by_round w limit bound c.args.subjects.now known v.items (length_known (IsDecidedIn w limit) (λ s. (j : ℕ) → j < p.0 → IsUndecidedIn w (16384 * 32 ^ j) bound s) c.args.subjects.now known p.2) r))
