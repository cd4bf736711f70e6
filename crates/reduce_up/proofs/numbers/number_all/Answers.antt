use Rattle.std.proofs.Common.{◌≡◌, List, All, arith, sym, ap, ◌∙◌, subst, ◌<◌, length}
use Rattle.expand_work.specs.WavePorts.{row_of}
use Rattle.expand_work.specs.WaveParts.{AreParts}
use Rattle.expand_work.specs.OwnerRows.{AreRowsByOwner}
use Rattle.req_table.specs.declared.packed_child.PackedChild.{PackedChild}
use Rattle.reduce_up.specs.declared.numbers.NumberingInput.{NumberingInput}
use Rattle.reduce_up.specs.Numbers.{IsNumberingInput, AreNumbered, AreNew, AreFew, starts_below}
use Rattle.reduce_up.proofs.Numbering.{by_owner_levels}
use Rattle.reduce_up.proofs.Numbered.{input_is, tasks_begin, all_ready, all_numbered}
use Rattle.reduce_up.proofs.numbers.number_all.Given.{Over}
use Rattle.reduce_up.proofs.numbers.number_all.Goals as goal
use Rattle.reduce_up.proofs.numbers.number_all.Goals.{After-as_slice-2}

-- the input of numbering
module _ (g : Over) (c : After-as_slice-2 g) where
  abbrev input : NumberingInput
  input = record { alloc = c.args.alloc; store = c.args.store; notes = c.args.notes; starts = c.as_slice-2.result; workers = c.in_ok-workers.workers }

  parts : AreParts c.args.store.now c.in_ok-workers.workers c.args.roots.now c.args.notes.now
  parts = rw c.in_ok-workers.ensures c.requires.parts

  is_input : IsNumberingInput input
  is_input =
      let p = c.args.notes.now in let n = c.in_ok-workers.workers in
      let by_owner = subst (AreRowsByOwner p.rows) (sym c.as_slice.ensures.value) c.requires.by_owner in
      let many : length p.rows ≡ n = parts.many_rows in
      let starts = c.in_ok-starts.ensures.starts p.rows by_owner ∙ ap (λ z. starts_below c.levels.result z (row_of p.rows)) many in
      let few = subst (λ z. AreFew c.levels.result z (row_of p.rows)) many (c.in_ok-starts.ensures.few p.rows by_owner) in
      input_is input c.args.roots.now parts c.levels.ensures.sound (subst (λ z. 0 < z) (sym c.in_ok-workers.ensures) c.requires.some)
      (c.as_slice-2.ensures.value ∙ starts ∙ ap (λ z. starts_below z n (row_of p.rows)) c.levels.ensures.value) (subst (λ z. AreFew z n (row_of p.rows)) c.levels.ensures.value few)

pub all_starts-requires : goal.all_starts-requires
all_starts-requires g c =
    let p = c.args.notes.now in
    let many : length p.rows ≡ length c.args.rows.items = c.requires.parts.many_rows in
    record {
      levels = subst (λ (z : List (List (List (PackedChild × PackedChild)))). All (λ (own : List (List (PackedChild × PackedChild))). length own ≡ c.levels.result) z) (sym c.as_slice.ensures.value)
          (by_owner_levels p.rows c.args.rows.items c.requires.by_owner c.levels.result (λ k kb. c.requires.parts.levels k (omega (arith, kb, many)) ∙ sym c.levels.ensures.value));
    }

pub new_tasks-requires-clause-input : goal.new_tasks-requires-clause-input
new_tasks-requires-clause-input g c = is_input g (goal.at.new_tasks-requires-clause-input g c).After-as_slice-2

pub number_roots-requires-clause-input : goal.number_roots-requires-clause-input
number_roots-requires-clause-input g c = is_input g (goal.at.number_roots-requires-clause-input g c).After-as_slice-2

pub number_roots-requires-clause-tasks : goal.number_roots-requires-clause-tasks
number_roots-requires-clause-tasks g c =
    let w = (goal.at.number_roots-requires-clause-tasks g c).After-as_slice-2 in
    tasks_begin (input g w) c.args.roots.now (parts g w) c.args.rows.items c.as_mut_slice-all.result.now c.requires.by_owner (subst (AreNew (input g w) (length c.args.rows.items) c.args.rows.items) (sym c.as_mut_slice-all.ensures.value) c.in_ok-tasks.ensures)

pub number_tasks-requires-clause-input : goal.number_tasks-requires-clause-input
number_tasks-requires-clause-input g c κs within = is_input g (goal.at.number_tasks-requires-clause-input g c).After-as_slice-2

pub number_tasks-requires-clause-tasks : goal.number_tasks-requires-clause-tasks
number_tasks-requires-clause-tasks g c κs within =
    let w = (goal.at.number_tasks-requires-clause-tasks g c).After-as_slice-2 in
    all_ready (input g w) (is_input g w) c.args.roots.now c.number_roots.new.tasks c.in_ok-placed.ensures.tasks

pub returns : goal.returns
returns g c =
    let w = (goal.at.returns g c).After-as_slice-2 in
    subst (λ z. AreNumbered c.args.store.now z c.args.roots.now c.args.notes.now c.in_ok-rows_of_tasks.field-0.items c.in_ok-placed.placed.items) c.in_ok-workers.ensures
    (all_numbered (input g w) c.args.roots.now c.in_ok-rows_of_tasks.field-0.items c.in_ok-placed.placed.items c.in_ok-rows_of_tasks.ensures c.in_ok-placed.ensures.placed)
