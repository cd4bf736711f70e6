use Rattle.std.proofs.Common.{◌≡◌, ℕ, List, length, set, sym, subst, arith}
use Rattle.std.proofs.lemmas.List.{length-set}
use Rattle.dd_store.specs.declared.reference.Ref.{Ref}
use Rattle.req_table.specs.declared.Key.{Key}
use Rattle.req_table.specs.Places.{row}
use Rattle.req_table.proofs.AtPlace.{row_own, row_other}
use Rattle.reduce_up.specs.OverParts.{level_over}
use Rattle.reduce_up.specs.ReductionPhase.{IsReadyAt, ReducesLevel}
use Rattle.reduce_up.proofs.Raising.{ready_beside, past_fault}
use Rattle.reduce_up.proofs.up.reduce_at.Given.{Over}
use Rattle.reduce_up.proofs.up.reduce_at.Goals as goal
use Rattle.reduce_up.proofs.up.reduce_at.Goals.{After-as_slice}

-- the level is ready without its own list, which is moved out
beside : (g : Over) (c : After-as_slice g) (T : List (List Key)) → IsReadyAt c.args.store.now T (level_over c.args.parts.now c.args.number) c.args.up.now.answers.items c.args.number
    → IsReadyAt c.args.store.now T (level_over c.args.parts.now c.args.number) c.as_slice.result.now c.args.number
beside g c T R =
    let A : List (List Ref) = c.args.up.now.answers.items in
    let v : ℕ = c.args.number in
    subst (λ (z : List (List Ref)). IsReadyAt c.args.store.now T (level_over c.args.parts.now v) z v) (sym c.as_slice.ensures.value)
    (ready_beside c.args.store.now T (level_over c.args.parts.now v) A (set A v c.replace-own.new.dest) v (λ w ne. row_other A v c.replace-own.new.dest w ne) R)

pub answer_level-done-requires-after_bounds : goal.answer_level-done-requires-after_bounds
answer_level-done-requires-after_bounds g c κs within =
    let may = c.requires.may in
    record { held = may.held; levels = may.levels; tables = may.tables; ready = beside g (goal.at.answer_level-done-requires-after_bounds g c).After-as_slice may.tables may.ready }

pub returns-then-count-limit-clause-level : goal.returns-then-count-limit-clause-level
returns-then-count-limit-clause-level g c = λ T R. record {
  adds = (c.answer_level-done.ensures.level T (beside g (goal.at.returns-then-count-limit-clause-level g c).After-as_slice T R)).adds;
  whole = tt;
  fault = past_fault c.args.store.now T (level_over c.args.parts.now c.args.number) c.args.up.now.answers.items c.args.number R c.requires.some c.answer_level-done.new.store (omega arith);
}

pub returns-clause-level : goal.returns-clause-level
returns-clause-level g c = λ T R.
    let A : List (List Ref) = c.args.up.now.answers.items in
    let v : ℕ = c.args.number in
    let B : List (List Ref) = set A v c.replace-own.new.dest in
    let own : List Ref = c.answer_level-done.new.own in
    let here : row (set B v own) v ≡ own = row_own B v own (let l : length B ≡ length A = length-set A v c.replace-own.new.dest in let k = c.requires.known in omega (arith, l, k)) in
    subst (ReducesLevel c.args.store.now T v c.answer_level-done.result c.answer_level-done.new.store) (sym here)
    (c.answer_level-done.ensures.level T (beside g (goal.at.returns-clause-level g c).After-as_slice T R))
