use Rattle.std.proofs.Common.{◌≡◌, ◌<◌, ◌≤◌, ◌∙◌, List, length, Some, All, refl, arith}
use Rattle.std.proofs.lemmas.Result.{err_from_is_err_and}
use Rattle.req_table.specs.declared.Key.{Key}
use Rattle.req_table.specs.declared.packed_child.PackedChild.{PackedChild}
use Rattle.req_table.specs.Places.{IsLastLevel}
use Rattle.reduce_up.specs.OverParts.{over_parts}
use Rattle.reduce_up.specs.ReductionPhase.{MayReduce}
use Rattle.reduce_up.specs.Waves.{Entry}
use Rattle.reduce_up.proofs.OverParts.{all_long}
use Rattle.reduce_up.proofs.Reduced.{none_reduced}
use Rattle.reduce_up.proofs.Ascending.{OnTheWay, fit, some_over, ready_over, adds_over, fault_over, next_over, count_over, all_reduced, all_counted}
use Rattle.reduce_up.proofs.Raising.{no_other_cause}
use Rattle.reduce_up.proofs.up.reduce.Given.{Over}
use Rattle.reduce_up.proofs.up.reduce.Goals as goal
use Rattle.reduce_up.proofs.up.reduce.Goals.{After-last_level, In-Some}

-- the state of the reduction when the last level that is left is looked for
abbrev way : (g : Over) (c : After-last_level g) (E : List Entry) (T : List (List Key)) → MayReduce c.args.store.now E c.args.from (over_parts c.args.store.now.levels c.args.parts.now) c.args.up.now.answers.items T → OnTheWay
way g c E T M = record {
  S = c.args.store.now;
  sound = c.requires.held;
  first = c.args.parts.now;
  from = c.args.from;
  within = c.requires.bound;
  entries = E;
  tables = T;
  known = c.args.up.now.answers.items;
  may = M;
  parts = c.loop-number.parts;
  end = c.loop-number.end;
  bound = c.loop-number.invariant.bound;
  left = c.loop-number.invariant.left;
  s = c.loop-number.store;
  answers = c.loop-number.up.answers.items;
  reduced = c.loop-number.invariant.reduced E T M;
}

-- a last level that is left was found
module _ (g : Over) (c : In-Some g) where
  abbrev own : OnTheWay
  own = way g (goal.at.In-Some g c).After-last_level c.requires.ready.0 c.requires.ready.1 c.requires.ready.2

  last : IsLastLevel (over_parts c.args.store.now.levels c.loop-number.parts) c.loop-number.end (Some c.in-Some.number)
  last = c.in-Some.ensures c.args.store.now.levels (let a = c.loop-number.invariant.bound in let b = c.requires.bound in omega (arith, a, b))

  -- all parts have this level
  has_level : All (λ (rows : List (List (PackedChild × PackedChild))). c.in-Some.number < length rows) c.loop-number.parts
  has_level = all_long (λ n. c.in-Some.number < n) c.loop-number.parts c.args.parts.now c.loop-number.invariant.levels
      (λ k d lt. let e : length _ ≡ c.args.store.now.levels = c.requires.levels k d lt in let f = fit own c.in-Some.number last in omega (arith, e, f))

pub loop-number-init : goal.loop-number-init
loop-number-init g c = record {
  bound = omega arith;
  held = c.requires.held;
  levels = refl;
  answers = c.requires.ready.2.ready.reduced.levels;
  left = λ w lt. refl;
  reduced = λ E T M. M.ready.reduced;
  counted = λ E T M. none_reduced T c.args.from c.args.up.now.reductions;
}

pub last_level-requires : goal.last_level-requires
last_level-requires g c =
    all_long (λ n. c.loop-number.end ≤ n) c.loop-number.parts c.args.parts.now c.loop-number.invariant.levels
    (λ k d lt. let e : length _ ≡ c.args.store.now.levels = c.requires.levels k d lt in let a = c.loop-number.invariant.bound in let b = c.requires.bound in omega (arith, e, a, b))

pub reduce_at-requires-clause-may : goal.reduce_at-requires-clause-may
reduce_at-requires-clause-may g c κs within =
    let w = (goal.at.reduce_at-requires-clause-may g c).In-Some in
    record { held = c.loop-number.invariant.held; levels = has_level g w; tables = c.requires.ready.1; ready = ready_over (own g w) c.in-Some.number (last g w) }

pub reduce_at-requires-clause-known : goal.reduce_at-requires-clause-known
reduce_at-requires-clause-known g c κs within =
    let w = (goal.at.reduce_at-requires-clause-known g c).In-Some in
    let f = fit (own g w) c.in-Some.number (last g w) in let e = c.loop-number.invariant.answers in omega (arith, e, f)

pub reduce_at-requires-clause-some : goal.reduce_at-requires-clause-some
reduce_at-requires-clause-some g c κs within = let w = (goal.at.reduce_at-requires-clause-some g c).In-Some in some_over (own g w) c.in-Some.number (last g w)

pub leave_level-requires : goal.leave_level-requires
leave_level-requires g c = has_level g (goal.at.leave_level-requires g c).In-Some

pub returns-in_err-reduce_at-clause-adds : goal.returns-in_err-reduce_at-clause-adds
returns-in_err-reduce_at-clause-adds g c = λ E T M.
    let w = goal.at.returns-in_err-reduce_at-clause-adds g c in
    let o = way g w.After-last_level E T M in let h = last g w.In-Some in
    adds_over o c.in-Some.number h c.reduce_at.new.store c.reduce_at.ensures.sound (c.reduce_at.ensures.level T (ready_over o c.in-Some.number h)).adds

pub returns-in_err-reduce_at-clause-fault : goal.returns-in_err-reduce_at-clause-fault
returns-in_err-reduce_at-clause-fault g c = λ E T M.
    let w = goal.at.returns-in_err-reduce_at-clause-fault g c in
    let o = way g w.After-last_level E T M in let h = last g w.In-Some in
    let L = c.in_err-reduce_at.ensures.level T (ready_over o c.in-Some.number h) in
    let p = err_from_is_err_and c.from_residual.result c.from_residual.ensures.1 in
    rw (p.1, p.2) (fault_over o c.in-Some.number h c.reduce_at.new.store L.adds c.in_err-reduce_at.field-0.0 L.fault)

pub returns-in_err-reduce_at-clause-never_no_worker : goal.returns-in_err-reduce_at-clause-never_no_worker
returns-in_err-reduce_at-clause-never_no_worker g c =
    let w = (goal.at.returns-in_err-reduce_at-clause-never_no_worker g c).In-Some in
    let p = err_from_is_err_and c.from_residual.result c.from_residual.ensures.1 in
    rw (p.1, p.2) (no_other_cause c.reduce_at.new.store c.requires.ready.1 c.in-Some.number c.in_err-reduce_at.field-0.0 (c.in_err-reduce_at.ensures.level _ (ready_over (own g w) c.in-Some.number (last g w))).fault).0

pub returns-in_err-reduce_at-clause-never_too_many_requests : goal.returns-in_err-reduce_at-clause-never_too_many_requests
returns-in_err-reduce_at-clause-never_too_many_requests g c =
    let w = (goal.at.returns-in_err-reduce_at-clause-never_too_many_requests g c).In-Some in
    let p = err_from_is_err_and c.from_residual.result c.from_residual.ensures.1 in
    rw (p.1, p.2) (no_other_cause c.reduce_at.new.store c.requires.ready.1 c.in-Some.number c.in_err-reduce_at.field-0.0 (c.in_err-reduce_at.ensures.level _ (ready_over (own g w) c.in-Some.number (last g w))).fault).1

pub returns-in_err-reduce_at-clause-never_stopped : goal.returns-in_err-reduce_at-clause-never_stopped
returns-in_err-reduce_at-clause-never_stopped g c =
    let w = (goal.at.returns-in_err-reduce_at-clause-never_stopped g c).In-Some in
    let p = err_from_is_err_and c.from_residual.result c.from_residual.ensures.1 in
    rw (p.1, p.2) (no_other_cause c.reduce_at.new.store c.requires.ready.1 c.in-Some.number c.in_err-reduce_at.field-0.0 (c.in_err-reduce_at.ensures.level _ (ready_over (own g w) c.in-Some.number (last g w))).fault).2

pub loop-number-preserved : goal.loop-number-preserved
loop-number-preserved g c =
    let w = goal.at.loop-number-preserved g c in
    let h = last g w.In-Some in
    let before : c.in-Some.number < c.loop-number.end = h.0 in
    let v = c.loop-number.invariant in
    record {
      bound = let a = v.bound in omega (arith, before, a);
      held = c.reduce_at.ensures.sound;
      levels = c.leave_level.ensures.levels ∙ v.levels;
      answers = c.reduce_at.ensures.lists ∙ v.answers;
      left = λ u lt. c.leave_level.ensures.others u (λ e. omega (arith, e, lt)) ∙ v.left u (omega (arith, lt, before));
      reduced = λ E T M.
          let o = way g w.After-last_level E T M in
          next_over o c.in-Some.number h c.reduce_at.new.store c.reduce_at.new.up.answers.items (c.in_ok-reduce_at.ensures.level T (ready_over o c.in-Some.number h)).whole
          c.in_ok-reduce_at.ensures.within c.reduce_at.ensures.lists c.reduce_at.ensures.others;
      counted = λ E T M. count_over (way g w.After-last_level E T M) c.in-Some.number h c.args.up.now.reductions c.loop-number.up.reductions c.reduce_at.new.up.reductions (v.counted E T M) c.in_ok-reduce_at.ensures.counted;
    }

pub returns-clause-adds : goal.returns-clause-adds
returns-clause-adds g c = λ E T M. (c.loop-number.invariant.reduced E T M).adds

pub returns-clause-reduced : goal.returns-clause-reduced
returns-clause-reduced g c = λ E T M.
    all_reduced (way g (goal.at.returns-clause-reduced g c).After-last_level E T M) (c.in_default.ensures c.args.store.now.levels (let a = c.loop-number.invariant.bound in let b = c.requires.bound in omega (arith, a, b)))

pub returns-clause-counted : goal.returns-clause-counted
returns-clause-counted g c = λ E T M.
    all_counted (way g (goal.at.returns-clause-counted g c).After-last_level E T M) (c.in_default.ensures c.args.store.now.levels (let a = c.loop-number.invariant.bound in let b = c.requires.bound in omega (arith, a, b)))
    c.args.up.now.reductions c.loop-number.up.reductions (c.loop-number.invariant.counted E T M)
