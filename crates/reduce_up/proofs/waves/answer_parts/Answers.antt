use Rattle.std.proofs.Common.{◌≡◌, ◌∙◌, ℕ, List, length, sym, ap, subst, arith, All}
use Rattle.std.specs.List.{AllZip}
use Rattle.std.proofs.lemmas.List.{length-map}
use Rattle.std.proofs.lemmas.Result.{err_from_is_err_and}
use Rattle.dd_store.specs.declared.reference.Ref.{Ref}
use Rattle.dd_store.specs.Nodes.{Nodes}
use Rattle.expand_work.specs.WaveParts.{PartsView}
use Rattle.req_table.specs.declared.Key.{Key}
use Rattle.req_table.specs.declared.packed_child.PackedChild.{PackedChild}
use Rattle.reduce_up.specs.ByPlace.{AreExpanded}
use Rattle.reduce_up.specs.Numbers.{keys_of, AreNumbered}
use Rattle.reduce_up.specs.OverParts.{over_parts}
use Rattle.reduce_up.specs.ReductionPhase.{ResolvesTo, IsWithinBelow, MayReduce}
use Rattle.reduce_up.specs.Waves.{Entry, IsEntry, AnswersEach, IsWithinLimit, entries_for}
use Rattle.reduce_up.proofs.Answering.{roots_come, roots_answered, within_both}
use Rattle.reduce_up.proofs.Noting.{on_ok}
use Rattle.reduce_up.proofs.Ready.{all_expanded, numbered_ready}
use Rattle.reduce_up.proofs.Rooted.{entries_good}
use Rattle.reduce_up.proofs.Waving.{wave_given_up, wave_done, within_still}
use Rattle.reduce_up.proofs.waves.answer_parts.Given.{Over}
use Rattle.reduce_up.proofs.waves.answer_parts.Goals as goal
use Rattle.reduce_up.proofs.waves.answer_parts.Goals.{After-as_mut_slice}

-- what the workers have recorded can be reduced after it was numbered
module _ (g : Over) (c : After-as_mut_slice g) where
  abbrev S : Nodes
  S = c.args.store.now

  abbrev E : List Entry
  E = entries_for c.args.roots.now

  abbrev T : List (List Key)
  T = keys_of c.args.crew.now.workers.count c.args.parts S.levels

  good : All (IsEntry S) E
  good = entries_good S c.args.roots.now c.requires.roots

  numbered : AreNumbered S c.args.crew.now.workers.count c.args.roots.now c.args.parts c.in-Ok.rows.items c.in-Ok.placed.items
  numbered =
      let many : length c.open-rows.result.0.items ≡ c.args.crew.now.workers.count = ap length c.open-rows.ensures.rows ∙ length-map c.args.parts.rows _ ∙ c.requires.parts.many_rows in
      subst (λ (z : ℕ × PartsView). AreNumbered S z.0 c.args.roots.now z.1 c.in-Ok.rows.items c.in-Ok.placed.items) (λ i. (many i, c.open-rows.ensures.notes i)) c.in-Ok.ensures

  expanded : AreExpanded S E c.in-Ok.placed.items S.levels T (over_parts S.levels c.in-Ok.rows.items)
  expanded = all_expanded _ c.levels-levels.ensures.sound _ _ c.requires.roots _ c.requires.parts _ _ numbered

  long : length c.fit.new.self.answers.items ≡ S.levels
  long = on_ok c.fit.result (sym c.is_err.ensures.value ∙ c.if-is_err.false) c.fit.ensures.levels ∙ c.levels-levels.ensures.value

  ready : MayReduce S E S.levels (over_parts S.levels c.in-Ok.rows.items) c.fit.new.self.answers.items T
  ready = numbered_ready _ c.levels-levels.ensures.sound _ _ c.requires.roots _ c.requires.parts _ _ numbered _ long

  may : MayReduce S E c.levels-levels.result (over_parts S.levels c.as_mut_slice.result.now) c.fit.new.self.answers.items T
  may = subst (λ (z : ℕ × List (List (List (PackedChild × PackedChild)))). MayReduce S E z.0 (over_parts S.levels z.1) c.fit.new.self.answers.items T) (λ i. (sym c.levels-levels.ensures.value i, sym c.as_mut_slice.ensures.value i)) ready

  limited : (s : Nodes) → IsWithinBelow S T 0 s → IsWithinLimit S E s
  limited s h = within_both S c.levels-levels.ensures.sound E good T c.in-Ok.placed.items expanded.rooted S.levels S s ready.ready.reduced.within h

pub reduce-requires-clause-ready : goal.reduce-requires-clause-ready
reduce-requires-clause-ready g c κs within = let w = (goal.at.reduce-requires-clause-ready g c).After-as_mut_slice in (E g w, T g w, may g w)

pub returns-in_err-reduce-clause-wave : goal.returns-in_err-reduce-clause-wave
returns-in_err-reduce-clause-wave g c =
    let w = (goal.at.returns-in_err-reduce-clause-wave g c).After-as_mut_slice in
    let e = err_from_is_err_and c.from_residual.result c.from_residual.ensures.1 in
    rw (e.1, e.2)
    (wave_given_up (S g w) (E g w) (E g w) c.reduce.new.store c.in_err-reduce.field-0.0 c.reduce.ensures.sound (c.reduce.ensures.adds _ _ (may g w)) (c.in_err-reduce.ensures.fault _ _ (may g w)))

pub root_answers-requires : goal.root_answers-requires
root_answers-requires g c =
    let w = (goal.at.root_answers-requires g c).After-as_mut_slice in
    let R = c.in_ok-reduce.ensures.reduced _ _ (may g w) in
    rw (c.as_slice.ensures.value, c.as_slice-known.ensures.value)
    (roots_come (S g w) c.levels-levels.ensures.sound (E g w) (good g w) (T g w) c.reduce.new.up.answers.items (λ v q k h. R.counts v q k (omega arith) h) c.in-Ok.placed.items (expanded g w).rooted)

pub returns-in_default-root_answers-clause-wave : goal.returns-in_default-root_answers-clause-wave
returns-in_default-root_answers-clause-wave g c =
    let w = (goal.at.returns-in_default-root_answers-clause-wave g c).After-as_mut_slice in
    wave_given_up (S g w) (E g w) (E g w) c.reduce.new.store _ c.reduce.ensures.sound (c.reduce.ensures.adds _ _ (may g w)) tt

pub returns-in_default-root_answers-clause-memory : goal.returns-in_default-root_answers-clause-memory
returns-in_default-root_answers-clause-memory g c = λ old _.
    let w = (goal.at.returns-in_default-root_answers-clause-memory g c).After-as_mut_slice in
    within_still (S g w) (E g w) c.reduce.new.store (limited g w c.reduce.new.store (c.in_ok-reduce.ensures.reduced _ _ (may g w)).within) old

pub returns-clause-wave : goal.returns-clause-wave
returns-clause-wave g c =
    let w = (goal.at.returns-clause-wave g c).After-as_mut_slice in
    let R = c.in_ok-reduce.ensures.reduced _ _ (may g w) in
    let adds = c.reduce.ensures.adds _ _ (may g w) in
    let found = c.in-Ok-root_answers.answers.items in
    let resolvable : AllZip (ResolvesTo c.reduce.new.up.answers.items) c.in-Ok.placed.items found =
    subst (λ (z : List PackedChild × List (List Ref)). AllZip (ResolvesTo z.1) z.0 found) (λ i. (c.as_slice.ensures.value i, c.as_slice-known.ensures.value i)) c.in-Ok-root_answers.ensures in
    let answers : AnswersEach (S g w) (E g w) c.reduce.new.store found =
    roots_answered (S g w) c.levels-levels.ensures.sound (E g w) (good g w) (T g w) c.reduce.new.up.answers.items c.reduce.new.store (expanded g w).admitted adds.keeps (λ v q k r h x. R.answered v q k r (omega arith) h x)
    (E g w) (good g w) c.in-Ok.placed.items (expanded g w).rooted found resolvable in
    wave_done (S g w) (E g w) (E g w) c.reduce.new.store c.in-Ok-root_answers.answers c.reduce.ensures.sound adds answers (limited g w c.reduce.new.store R.within)
