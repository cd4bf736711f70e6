use Rattle.std.proofs.Common.{rules, ◌≡◌, ◌<◌, ◌≤◌, ◌-◌, ◌∙◌, ◌+◌, ◌%◌, ◌^◌, ℕ, List, [], length, set, slice_get, Some, All, ap, subst, sym, arith}
use Rattle.std.proofs.lemmas.List.{length-set, set-set, set-get_or}
use Rattle.slot_table.specs.Lists.{IsOnce}
use Rattle.dd_store.specs.Nodes.{Nodes}
use Rattle.req_table.specs.declared.Key.{Key}
use Rattle.req_table.specs.declared.packed_child.PackedChild.{PackedChild}
use Rattle.req_table.specs.Keys.{IsKey}
use Rattle.req_table.specs.Places.{row}
use Rattle.req_table.proofs.AtPlace.{made_empty}
use Rattle.reduce_up.specs.ByPlace.{AreExpanded}
use Rattle.wave_engine.proofs.Children.{keys_stand, row_taken}
use Rattle.wave_engine.proofs.Counting.{too_many, all_counted}
use Rattle.wave_engine.proofs.Waiting.{IsGoing, going_start, going_passed, going_next, going_down, going_within, splice, waiting_admitted}
use Rattle.wave_engine.proofs.down.expand.Goals.{else-limits-lt18446744073709551615-via-then-limits-lt18446744073709551615+else-count-left, else-limits-lt18446744073709551615-via-else-limits-lt18446744073709551615}
use Rattle.wave_engine.proofs.down.expand.Given.{Over}
use Rattle.wave_engine.proofs.down.expand.Goals.{In-Some, In_default}
use Rattle.wave_engine.proofs.down.expand.Goals as goal

-- what holds after the next level was found
abbrev Going : (g : Over) → In-Some g → ℕ → Type 0
Going g c v =
    IsGoing c.args.store.now c.args.entries.now c.loop-next.down.roots.items v c.loop-next.down.requests c.loop-next.down.rows c.args.limits.wave c.loop-next.left c.args.down.now.splits c.loop-next.down.splits c.loop-next.invariant.going.0

here : (g : Over) (c : In-Some g) → Going g c c.in-Some.next
here g c = going_passed _ _ _ c.loop-next.level _ _ _ _ _ _ _ c.loop-next.invariant.going.1 c.in-Some.next c.in-Some.ensures.0 c.in-Some.ensures.3

fit : (g : Over) (c : In-Some g) → c.in-Some.next < c.args.store.now.levels
fit g c =
    let way : Going g c c.in-Some.next = here g c in
    let n = c.in-Some.ensures.1 in
    let l = way.expanded.admitted.levels in
    let m = way.waits.levels in
    omega (arith, n, l, m)

-- what holds after the last level
passed : (g : Over) (c : In_default g) → IsGoing c.args.store.now c.args.entries.now c.loop-next.down.roots.items c.levels-levels.result c.loop-next.down.requests c.loop-next.down.rows c.args.limits.wave c.loop-next.left c.args.down.now.splits c.loop-next.down.splits
    c.loop-next.invariant.going.0
passed g c = going_passed _ _ _ c.loop-next.level _ _ _ _ _ _ _ c.loop-next.invariant.going.1 c.levels-levels.result (let le = c.loop-next.invariant.bound in let l = c.levels-levels.ensures.value in omega (arith, le, l)) (λ w q k le lt h. c.in_default.ensures w q k le h)

pub returns-then-count-most-clause-down : goal.returns-then-count-most-clause-down
returns-then-count-most-clause-down g c =
    let w = (goal.at.returns-then-count-most-clause-down g c).In-Some in
    going_down _ _ _ w.in-Some.next _ _ _ _ _ _ _ (here g w) (let f = fit g w in omega (arith, f))

pub returns-then-count-most-clause-few : goal.returns-then-count-most-clause-few
returns-then-count-most-clause-few g c = λ bounded.
    let w = (goal.at.returns-then-count-most-clause-few g c).In-Some in
    going_within _ _ _ w.in-Some.next _ _ _ _ _ _ _ (here g w) (let f = fit g w in omega (arith, f)) bounded

pub returns-then-count-left-clause-past : goal.returns-then-count-left-clause-past
returns-then-count-left-clause-past g c = λ _.
    let w = (goal.at.returns-then-count-left-clause-past g c).In-Some in
    let way : Going g w w.in-Some.next = here g w in
    too_many c.args.store.now c.args.entries.now _ way.expanded.admitted c.args.limits.wave c.loop-next.left _ _ w.in-Some.next way.counted w.in-Some.next (omega arith) (subst IsOnce (way.waits.same w.in-Some.next (omega arith)) c.count-count.ensures.once)
    c.if-limits-lt18446744073709551615.true c.count-count.result (c.count-count.ensures.value ∙ ap length (way.waits.same w.in-Some.next (omega arith))) c.if-count-left.true

pub overflow_add-level : goal.overflow_add-level
overflow_add-level g c =
    let f = fit g (goal.at.overflow_add-level g c).In-Some in
    let few = c.loop-next.invariant.few in
    omega (arith, f, few)

pub take-pairs-requires : goal.take-pairs-requires
take-pairs-requires g c =
    let w = (goal.at.take-pairs-requires g c).In-Some in
    let way : Going g w w.in-Some.next = here g w in
    let f = fit g w in
    let l = way.expanded.levels in
    omega (arith, f, l)

pub expand_row-requires-clause-keys : goal.expand_row-requires-clause-keys
expand_row-requires-clause-keys g c =
    let w = (goal.at.expand_row-requires-clause-keys g c).In-Some in
    let way : Going g w w.in-Some.next = here g w in
    subst (All (IsKey c.args.store.now)) (sym c.take.ensures.keys) (keys_stand c.args.store.now c.args.entries.now c.loop-next.down.requests w.in-Some.next (waiting_admitted _ _ _ way.waits _ _ way.expanded.admitted))

pub expand_row-requires-clause-accepts : goal.expand_row-requires-clause-accepts
expand_row-requires-clause-accepts g c =
    let w = (goal.at.expand_row-requires-clause-accepts g c).In-Some in
    let way : Going g w w.in-Some.next = here g w in
    ap length c.take.ensures.rest ∙ length-set c.loop-next.down.requests w.in-Some.next [] ∙ way.waits.levels ∙ way.expanded.admitted.levels

pub expand_row-requires-clause-empty : goal.expand_row-requires-clause-empty
expand_row-requires-clause-empty g c =
    let w = (goal.at.expand_row-requires-clause-empty g c).In-Some in
    let way : Going g w w.in-Some.next = here g w in
    c.take-pairs.ensures.children ∙ way.later w.in-Some.next (omega arith)

pub put-requires-clause-bound : goal.put-requires-clause-bound
put-requires-clause-bound g c =
    let w = (goal.at.put-requires-clause-bound g c).In-Some in
    let way : Going g w w.in-Some.next = here g w in
    let f = fit g w in
    let l = way.expanded.levels in
    let t : length c.take-pairs.new.self ≡ length c.loop-next.down.rows = ap length c.take-pairs.ensures.rest ∙ length-set c.loop-next.down.rows w.in-Some.next [] in
    omega (arith, f, l, t)

pub loop-next-preserved : goal.loop-next-preserved
loop-next-preserved g c =
    let w = (goal.at.loop-next-preserved g c).In-Some in
    let S : Nodes = c.args.store.now in
    let es = c.args.entries.now in
    let W : List (List Key) = c.loop-next.down.requests in
    let rows : List (List (PackedChild × PackedChild)) = c.loop-next.down.rows in
    let next : ℕ = w.in-Some.next in
    let T : List (List Key) = c.loop-next.invariant.going.0 in
    let way : Going g w next = here g w in
    let keys : List Key = row W next in
    let pairs : List (PackedChild × PackedChild) = c.expand_row.new.row in
    let left : List (List Key) = c.expand_row.new.asks in
    let u = row_taken S c.levels-levels.ensures.sound es W next w.in-Some.ensures.1 (waiting_admitted _ _ _ way.waits _ _ way.expanded.admitted) c.take.new.self c.take.new.keys c.take.ensures.rest c.take.ensures.keys pairs left c.in_ok-expand_row.ensures.taken in
    let U : List (List Key) = set left next keys in
    let put : c.put.new.self ≡ set rows next pairs = c.put.ensures ∙ ap (λ (z : List (List (PackedChild × PackedChild))). set z next pairs) c.take-pairs.ensures.rest ∙ set-set rows next [] pairs in
    let emptied : c.recycle.new.self ≡ set U next [] = c.recycle.ensures.same ∙ sym (set-set left next keys [] ∙ ap (set left next) (sym u.none) ∙ set-get_or left next []) in
    let rest : ℕ = c.saturating_sub-left.result in
    let more : ℕ = c.expand_row.new.splits in
    let bound : ℕ = c.args.limits.wave in
    record {
      bound = let f = fit g w in omega (arith, f);
      few = c.loop-next.invariant.few;
      keys = c.recycle.ensures.empty;
      going = (
        splice next T U,
        subst (λ (z : List (List Key)). IsGoing S es c.loop-next.down.roots.items (next + 1) z c.put.new.self bound rest c.args.down.now.splits more (splice next T U)) (sym emptied)
            (subst (λ (z : List (List (PackedChild × PackedChild))). IsGoing S es c.loop-next.down.roots.items (next + 1) (set U next []) z bound rest c.args.down.now.splits more (splice next T U)) (sym put)
            (going_next S es c.loop-next.down.roots.items next W rows bound c.loop-next.left c.args.down.now.splits c.loop-next.down.splits T way (fit g w) c.count-count.ensures.once U pairs u.expanded c.count-count.result rest more c.count-count.ensures.value
            (λ bounded. elim c.else-limits-lt18446744073709551615.branch [
              | else-limits-lt18446744073709551615-via-then-limits-lt18446744073709551615+else-count-left b ↦
                  let fits : c.count-count.result ≤ c.loop-next.left = let over = b.if-count-left.false in grind (arith, over) in
                  let sub : rest ≡ c.loop-next.left - c.count-count.result = c.saturating_sub-left.ensures in
                  omega (arith, fits, sub)
              | else-limits-lt18446744073709551615-via-else-limits-lt18446744073709551615 b ↦ absurd (let free = b.if-limits-lt18446744073709551615.false in grind (arith, free, bounded))
            ]) (c.in_ok-expand_row.ensures.split ∙ ap (λ (z : List Key). (c.loop-next.down.splits + length z) % 2 ^ 64) c.take.ensures.keys))),
      );
    }

pub returns-clause-down : goal.returns-clause-down
returns-clause-down g c = going_down _ _ _ c.levels-levels.result _ _ _ _ _ _ _ (passed g (goal.at.returns-clause-down g c).In_default) (let l = c.levels-levels.ensures.value in omega (arith, l))

pub returns-clause-few : goal.returns-clause-few
returns-clause-few g c = λ bounded. going_within _ _ _ c.levels-levels.result _ _ _ _ _ _ _ (passed g (goal.at.returns-clause-few g c).In_default) (let l = c.levels-levels.ensures.value in omega (arith, l)) bounded

pub returns-clause-within_bound : goal.returns-clause-within_bound
returns-clause-within_bound g c = λ bounded same.
    let S : Nodes = c.args.store.now in
    let way = passed g (goal.at.returns-clause-within_bound g c).In_default in
    all_counted S c.args.entries.now c.loop-next.down.roots.items c.loop-next.invariant.going.0 c.loop-next.down.rows (subst (λ z. AreExpanded S c.args.entries.now c.loop-next.down.roots.items z c.loop-next.invariant.going.0 c.loop-next.down.rows) c.levels-levels.ensures.value way.expanded)
    c.args.limits.wave c.loop-next.left c.args.down.now.splits c.loop-next.down.splits c.levels-levels.result bounded way.counted
    (λ w q k le h. c.in_default.ensures w q k (let b = c.loop-next.invariant.bound in let l = c.levels-levels.ensures.value in omega (arith, b, l, le)) (subst (λ (z : List Key). slice_get z q ≡ Some k) (sym (way.waits.same w le)) h))

pub loop-next-init : goal.loop-next-init
loop-next-init g c = record {
  bound = omega arith;
  few = search rules;
  keys = search rules;
  going = (c.args.down.now.requests, going_start c.args.store.now c.args.entries.now c.args.down.now.roots.items c.args.down.now.requests c.args.down.now.rows c.args.store.now.levels c.args.limits.wave c.args.down.now.splits c.requires.start (made_empty c.args.store.now.levels c.args.down.now.rows c.requires.rows));
}
