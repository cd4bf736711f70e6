use Rattle.std.proofs.Common.{◌≡◌, ◌≤◌, ◌-◌, List, length, All, sym, subst, arith}
use Rattle.std.specs.List.{AllZip}
use Rattle.dd_store.specs.declared.reference.Ref.{Ref}
use Rattle.req_table.specs.declared.Key.{Key}
use Rattle.reduce_up.specs.Reducing.{AddsDescribed}
use Rattle.reduce_up.specs.Waves.{IsWanted, AnswersEach, IsWaveFault}
use Rattle.reduce_up.proofs.Waving.{not_full, wave_unchanged, wave_given_up, wave_done, within_still}
use Rattle.std.proofs.lemmas.Result.{err_from_is_err_and}
use Rattle.req_table.specs.declared.packed_child.PackedChild.{PackedChild}
use Rattle.expand_work.specs.Bounds.{AreFew}
use Rattle.expand_work.specs.WaveParts.{HaveExpanded}
use Rattle.wave_engine.specs.ExpansionPhase.{IsExpandedTo, IsExpandedWithin}
use Rattle.reduce_up.specs.ReductionPhase.{AreCounted, ResolvesTo, AreReducedBelow, IsWithinBelow, AreReady}
use Rattle.wave_engine.proofs.Both.{have_both, have_reduced, have_shared, at_most_both}
use Rattle.wave_engine.proofs.WholeWave.{entries_kept, down_ready, adds_both, fault_back}
use Rattle.reduce_up.proofs.Answering.{roots_come, roots_answered, within_both}
use Rattle.wave_engine.proofs.Waiting.{waiting_admitted, waiting_within, waiting_keys}
use Rattle.reduce_up.specs.OverParts.{over_parts}
use Rattle.reduce_up.specs.ReductionPhase.{MayReduce}
use Rattle.reduce_up.proofs.Ready.{one_part}
use Rattle.wave_engine.proofs.workspace.Workspace.attempt.Goals as goal

pub reduce-requires-clause-ready : goal.reduce-requires-clause-ready
reduce-requires-clause-ready g c κs within =
    let rows : List (List (PackedChild × PackedChild)) = c.place_and_expand.new.down.rows in
    let ps : List PackedChild = c.place_and_expand.new.down.roots.items in
    let D : IsExpandedTo c.args.store.now c.args.entries.now c.in_ok-from.from c.place_and_expand.new.down.requests rows ps c.args.self.now.down.splits c.place_and_expand.new.down.splits = c.in_ok-from.ensures.down in
    let T : List (List Key) = D.tables in
    let Y : AreReady c.hand_over.new.store c.args.entries.now c.in_ok-from.from rows c.hand_over.new.answers.items T =
    down_ready c.args.store.now c.levels.ensures.sound c.args.entries.now c.requires.operands c.hand_over.new.store c.hand_over.ensures.adds.keeps c.in_ok-from.from c.place_and_expand.new.down.requests rows ps c.args.self.now.down.splits c.place_and_expand.new.down.splits D
    c.hand_over.new.answers.items c.in_ok-shared.ensures.reduced in
    let M : MayReduce c.hand_over.new.store c.args.entries.now c.in_ok-from.from (over_parts c.hand_over.new.store.levels c.from_mut-parts.result.now) c.hand_over.new.answers.items T =
    one_part c.hand_over.new.store c.args.entries.now c.in_ok-from.from rows c.hand_over.new.answers.items T c.from_mut-parts.result.now c.from_mut-parts.ensures.value
    (entries_kept c.args.store.now c.levels.ensures.sound c.args.entries.now c.requires.operands c.hand_over.new.store c.hand_over.ensures.adds.keeps) Y in
    (c.args.entries.now, T, M)

pub hand_over-requires-clause-admitted : goal.hand_over-requires-clause-admitted
hand_over-requires-clause-admitted g c κs within =
    let ps : List PackedChild = c.place_and_expand.new.down.roots.items in
    let D : IsExpandedTo c.args.store.now c.args.entries.now c.in_ok-from.from c.place_and_expand.new.down.requests c.place_and_expand.new.down.rows ps c.args.self.now.down.splits c.place_and_expand.new.down.splits = c.in_ok-from.ensures.down in
    waiting_admitted D.tables c.in_ok-from.from c.place_and_expand.new.down.requests D.waits c.args.store.now c.args.entries.now D.expanded.admitted

pub returns-in_err-from-clause-wave : goal.returns-in_err-from-clause-wave
returns-in_err-from-clause-wave g c =
    let p = err_from_is_err_and c.from_residual.result c.from_residual.ensures.1 in
    rw (p.1, p.2) (wave_unchanged c.args.store.now c.args.entries.now c.args.entries.now _ c.levels.ensures.sound
    (not_full c.args.store.now c.args.entries.now c.args.store.now _ c.in_err-from.ensures.never_full))

pub returns-in_err-shared-clause-wave : goal.returns-in_err-shared-clause-wave
returns-in_err-shared-clause-wave g c =
    let p = err_from_is_err_and c.from_residual-in_err-shared.result c.from_residual-in_err-shared.ensures.1 in
    rw (p.1, p.2) (wave_given_up c.args.store.now c.args.entries.now c.args.entries.now c.hand_over.new.store c.in_err-shared.field-0.0 c.hand_over.ensures.sound c.hand_over.ensures.adds c.in_err-shared.ensures.fault)

pub returns-in_err-reduce-clause-wave : goal.returns-in_err-reduce-clause-wave
returns-in_err-reduce-clause-wave g c =
    let rows : List (List (PackedChild × PackedChild)) = c.place_and_expand.new.down.rows in
    let ps : List PackedChild = c.place_and_expand.new.down.roots.items in
    let D : IsExpandedTo c.args.store.now c.args.entries.now c.in_ok-from.from c.place_and_expand.new.down.requests rows ps c.args.self.now.down.splits c.place_and_expand.new.down.splits = c.in_ok-from.ensures.down in
    let T : List (List Key) = D.tables in
    let Y : AreReady c.hand_over.new.store c.args.entries.now c.in_ok-from.from rows c.hand_over.new.answers.items T =
    down_ready c.args.store.now c.levels.ensures.sound c.args.entries.now c.requires.operands c.hand_over.new.store c.hand_over.ensures.adds.keeps c.in_ok-from.from c.place_and_expand.new.down.requests rows ps c.args.self.now.down.splits c.place_and_expand.new.down.splits D
    c.hand_over.new.answers.items c.in_ok-shared.ensures.reduced in
    let M : MayReduce c.hand_over.new.store c.args.entries.now c.in_ok-from.from (over_parts c.hand_over.new.store.levels c.from_mut-parts.result.now) c.hand_over.new.answers.items T =
    one_part c.hand_over.new.store c.args.entries.now c.in_ok-from.from rows c.hand_over.new.answers.items T c.from_mut-parts.result.now c.from_mut-parts.ensures.value
    (entries_kept c.args.store.now c.levels.ensures.sound c.args.entries.now c.requires.operands c.hand_over.new.store c.hand_over.ensures.adds.keeps) Y in
    let adds : AddsDescribed c.args.store.now c.reduce.new.store (IsWanted c.args.store.now c.args.entries.now) =
    adds_both c.args.store.now c.levels.ensures.sound c.args.entries.now c.requires.operands c.hand_over.new.store c.hand_over.ensures.adds.keeps c.hand_over.ensures.sound c.reduce.new.store c.hand_over.ensures.adds (c.reduce.ensures.adds c.args.entries.now T M) in
    let f : IsWaveFault c.args.store.now c.args.entries.now c.reduce.new.store c.in_err-reduce.field-0.0 =
    fault_back c.args.store.now c.levels.ensures.sound c.args.entries.now c.requires.operands c.hand_over.new.store c.hand_over.ensures.adds.keeps c.reduce.new.store c.in_err-reduce.field-0.0 (c.in_err-reduce.ensures.fault c.args.entries.now T M) in
    let p = err_from_is_err_and c.from_residual-in_err-reduce.result c.from_residual-in_err-reduce.ensures.1 in
    rw (p.1, p.2) (wave_given_up c.args.store.now c.args.entries.now c.args.entries.now c.reduce.new.store c.in_err-reduce.field-0.0 c.reduce.ensures.sound adds f)

pub root_answers-requires : goal.root_answers-requires
root_answers-requires g c =
    let rows : List (List (PackedChild × PackedChild)) = c.place_and_expand.new.down.rows in
    let ps : List PackedChild = c.place_and_expand.new.down.roots.items in
    let D : IsExpandedTo c.args.store.now c.args.entries.now c.in_ok-from.from c.place_and_expand.new.down.requests rows ps c.args.self.now.down.splits c.place_and_expand.new.down.splits = c.in_ok-from.ensures.down in
    let T : List (List Key) = D.tables in
    let Y : AreReady c.hand_over.new.store c.args.entries.now c.in_ok-from.from rows c.hand_over.new.answers.items T =
    down_ready c.args.store.now c.levels.ensures.sound c.args.entries.now c.requires.operands c.hand_over.new.store c.hand_over.ensures.adds.keeps c.in_ok-from.from c.place_and_expand.new.down.requests rows ps c.args.self.now.down.splits c.place_and_expand.new.down.splits D
    c.hand_over.new.answers.items c.in_ok-shared.ensures.reduced in
    let M : MayReduce c.hand_over.new.store c.args.entries.now c.in_ok-from.from (over_parts c.hand_over.new.store.levels c.from_mut-parts.result.now) c.hand_over.new.answers.items T =
    one_part c.hand_over.new.store c.args.entries.now c.in_ok-from.from rows c.hand_over.new.answers.items T c.from_mut-parts.result.now c.from_mut-parts.ensures.value
    (entries_kept c.args.store.now c.levels.ensures.sound c.args.entries.now c.requires.operands c.hand_over.new.store c.hand_over.ensures.adds.keeps) Y in
    let R : AreReducedBelow c.hand_over.new.store c.args.entries.now T 0 c.reduce.new.store c.reduce.new.up.answers.items = c.in_ok-reduce.ensures.reduced c.args.entries.now T M in
    subst (λ (z : List PackedChild). All (λ p. (r : Ref) × ResolvesTo c.as_slice-answers.result.now p r) z) (sym c.as_slice.ensures.value)
    (subst (λ (z : List (List Ref)). All (λ p. (r : Ref) × ResolvesTo z p r) ps) (sym c.as_slice-answers.ensures.value)
    (roots_come c.args.store.now c.levels.ensures.sound c.args.entries.now c.requires.operands T c.reduce.new.up.answers.items (λ v q k h. R.counts v q k (omega arith) h) ps D.expanded.rooted))

pub returns-in-Ok-clause-wave : goal.returns-in-Ok-clause-wave
returns-in-Ok-clause-wave g c =
    let rows : List (List (PackedChild × PackedChild)) = c.place_and_expand.new.down.rows in
    let ps : List PackedChild = c.place_and_expand.new.down.roots.items in
    let D : IsExpandedTo c.args.store.now c.args.entries.now c.in_ok-from.from c.place_and_expand.new.down.requests rows ps c.args.self.now.down.splits c.place_and_expand.new.down.splits = c.in_ok-from.ensures.down in
    let T : List (List Key) = D.tables in
    let Y : AreReady c.hand_over.new.store c.args.entries.now c.in_ok-from.from rows c.hand_over.new.answers.items T =
    down_ready c.args.store.now c.levels.ensures.sound c.args.entries.now c.requires.operands c.hand_over.new.store c.hand_over.ensures.adds.keeps c.in_ok-from.from c.place_and_expand.new.down.requests rows ps c.args.self.now.down.splits c.place_and_expand.new.down.splits D
    c.hand_over.new.answers.items c.in_ok-shared.ensures.reduced in
    let M : MayReduce c.hand_over.new.store c.args.entries.now c.in_ok-from.from (over_parts c.hand_over.new.store.levels c.from_mut-parts.result.now) c.hand_over.new.answers.items T =
    one_part c.hand_over.new.store c.args.entries.now c.in_ok-from.from rows c.hand_over.new.answers.items T c.from_mut-parts.result.now c.from_mut-parts.ensures.value
    (entries_kept c.args.store.now c.levels.ensures.sound c.args.entries.now c.requires.operands c.hand_over.new.store c.hand_over.ensures.adds.keeps) Y in
    let R : AreReducedBelow c.hand_over.new.store c.args.entries.now T 0 c.reduce.new.store c.reduce.new.up.answers.items = c.in_ok-reduce.ensures.reduced c.args.entries.now T M in
    let come : AllZip (ResolvesTo c.reduce.new.up.answers.items) ps c.in-Ok.answers.items =
    subst (λ (z : List PackedChild). AllZip (ResolvesTo c.reduce.new.up.answers.items) z c.in-Ok.answers.items) c.as_slice.ensures.value
    (subst (λ (z : List (List Ref)). AllZip (ResolvesTo z) c.as_slice.result.now c.in-Ok.answers.items) c.as_slice-answers.ensures.value c.in-Ok.ensures) in
    let adds : AddsDescribed c.args.store.now c.reduce.new.store (IsWanted c.args.store.now c.args.entries.now) = adds_both c.args.store.now c.levels.ensures.sound c.args.entries.now c.requires.operands c.hand_over.new.store c.hand_over.ensures.adds.keeps c.hand_over.ensures.sound c.reduce.new.store c.hand_over.ensures.adds (c.reduce.ensures.adds c.args.entries.now T M) in
    let answers : AnswersEach c.args.store.now c.args.entries.now c.reduce.new.store c.in-Ok.answers.items =
    roots_answered c.args.store.now c.levels.ensures.sound c.args.entries.now c.requires.operands T c.reduce.new.up.answers.items c.reduce.new.store D.expanded.admitted adds.keeps (λ v q k r h g. R.answered v q k r (omega arith) h g) c.args.entries.now c.requires.operands ps D.expanded.rooted c.in-Ok.answers.items come in
    let first : IsWithinBelow c.args.store.now T c.in_ok-from.from c.hand_over.new.store =
    waiting_within T c.in_ok-from.from c.place_and_expand.new.down.requests D.waits c.args.store.now c.hand_over.new.store c.in_ok-shared.ensures.within in
    wave_done c.args.store.now c.args.entries.now c.args.entries.now c.reduce.new.store c.in-Ok.answers c.reduce.ensures.sound adds answers
    (within_both c.args.store.now c.levels.ensures.sound c.args.entries.now c.requires.operands T ps D.expanded.rooted c.in_ok-from.from c.hand_over.new.store c.reduce.new.store first R.within)

pub returns-in-Err-clause-wave : goal.returns-in-Err-clause-wave
returns-in-Err-clause-wave g c =
    let rows : List (List (PackedChild × PackedChild)) = c.place_and_expand.new.down.rows in
    let ps : List PackedChild = c.place_and_expand.new.down.roots.items in
    let D : IsExpandedTo c.args.store.now c.args.entries.now c.in_ok-from.from c.place_and_expand.new.down.requests rows ps c.args.self.now.down.splits c.place_and_expand.new.down.splits = c.in_ok-from.ensures.down in
    let T : List (List Key) = D.tables in
    let Y : AreReady c.hand_over.new.store c.args.entries.now c.in_ok-from.from rows c.hand_over.new.answers.items T =
    down_ready c.args.store.now c.levels.ensures.sound c.args.entries.now c.requires.operands c.hand_over.new.store c.hand_over.ensures.adds.keeps c.in_ok-from.from c.place_and_expand.new.down.requests rows ps c.args.self.now.down.splits c.place_and_expand.new.down.splits D
    c.hand_over.new.answers.items c.in_ok-shared.ensures.reduced in
    let M : MayReduce c.hand_over.new.store c.args.entries.now c.in_ok-from.from (over_parts c.hand_over.new.store.levels c.from_mut-parts.result.now) c.hand_over.new.answers.items T =
    one_part c.hand_over.new.store c.args.entries.now c.in_ok-from.from rows c.hand_over.new.answers.items T c.from_mut-parts.result.now c.from_mut-parts.ensures.value
    (entries_kept c.args.store.now c.levels.ensures.sound c.args.entries.now c.requires.operands c.hand_over.new.store c.hand_over.ensures.adds.keeps) Y in
    let adds : AddsDescribed c.args.store.now c.reduce.new.store (IsWanted c.args.store.now c.args.entries.now) =
    adds_both c.args.store.now c.levels.ensures.sound c.args.entries.now c.requires.operands c.hand_over.new.store c.hand_over.ensures.adds.keeps c.hand_over.ensures.sound c.reduce.new.store c.hand_over.ensures.adds (c.reduce.ensures.adds c.args.entries.now T M) in
    wave_given_up c.args.store.now c.args.entries.now c.args.entries.now c.reduce.new.store _ c.reduce.ensures.sound adds tt

pub returns-in-Ok-clause-expanded : goal.returns-in-Ok-clause-expanded
returns-in-Ok-clause-expanded g c =
    let rows : List (List (PackedChild × PackedChild)) = c.place_and_expand.new.down.rows in
    let ps : List PackedChild = c.place_and_expand.new.down.roots.items in
    let D : IsExpandedTo c.args.store.now c.args.entries.now c.in_ok-from.from c.place_and_expand.new.down.requests rows ps c.args.self.now.down.splits c.place_and_expand.new.down.splits = c.in_ok-from.ensures.down in
    let T : List (List Key) = D.tables in
    have_both c.args.store.now c.levels.ensures.sound c.args.entries.now c.requires.operands T rows ps c.in_ok-from.from D.expanded c.args.self.now.crew.now.workers.count c.args.self.now.down.splits c.place_and_expand.new.down.splits
    c.args.self.now.wave_memory c.hand_over.new.wave_memory D.split
    (subst (λ z. HaveExpanded c.args.store.now c.args.self.now.crew.now.workers.count z c.args.self.now.wave_memory c.hand_over.new.wave_memory) (waiting_keys T c.in_ok-from.from c.place_and_expand.new.down.requests D.waits) c.in_ok-shared.ensures.expanded)

pub returns-in-Err-clause-memory : goal.returns-in-Err-clause-memory
returns-in-Err-clause-memory g c = λ old _.
    let rows : List (List (PackedChild × PackedChild)) = c.place_and_expand.new.down.rows in
    let ps : List PackedChild = c.place_and_expand.new.down.roots.items in
    let D : IsExpandedTo c.args.store.now c.args.entries.now c.in_ok-from.from c.place_and_expand.new.down.requests rows ps c.args.self.now.down.splits c.place_and_expand.new.down.splits = c.in_ok-from.ensures.down in
    let T : List (List Key) = D.tables in
    let Y : AreReady c.hand_over.new.store c.args.entries.now c.in_ok-from.from rows c.hand_over.new.answers.items T =
    down_ready c.args.store.now c.levels.ensures.sound c.args.entries.now c.requires.operands c.hand_over.new.store c.hand_over.ensures.adds.keeps c.in_ok-from.from c.place_and_expand.new.down.requests rows ps c.args.self.now.down.splits c.place_and_expand.new.down.splits D
    c.hand_over.new.answers.items c.in_ok-shared.ensures.reduced in
    let M : MayReduce c.hand_over.new.store c.args.entries.now c.in_ok-from.from (over_parts c.hand_over.new.store.levels c.from_mut-parts.result.now) c.hand_over.new.answers.items T =
    one_part c.hand_over.new.store c.args.entries.now c.in_ok-from.from rows c.hand_over.new.answers.items T c.from_mut-parts.result.now c.from_mut-parts.ensures.value
    (entries_kept c.args.store.now c.levels.ensures.sound c.args.entries.now c.requires.operands c.hand_over.new.store c.hand_over.ensures.adds.keeps) Y in
    let R : AreReducedBelow c.hand_over.new.store c.args.entries.now T 0 c.reduce.new.store c.reduce.new.up.answers.items = c.in_ok-reduce.ensures.reduced c.args.entries.now T M in
    let first : IsWithinBelow c.args.store.now T c.in_ok-from.from c.hand_over.new.store =
    waiting_within T c.in_ok-from.from c.place_and_expand.new.down.requests D.waits c.args.store.now c.hand_over.new.store c.in_ok-shared.ensures.within in
    within_still c.args.store.now c.args.entries.now c.reduce.new.store
    (within_both c.args.store.now c.levels.ensures.sound c.args.entries.now c.requires.operands T ps D.expanded.rooted c.in_ok-from.from c.hand_over.new.store c.reduce.new.store first R.within) old

pub returns-in-Ok-clause-divided : goal.returns-in-Ok-clause-divided
returns-in-Ok-clause-divided g c =
    let rows : List (List (PackedChild × PackedChild)) = c.place_and_expand.new.down.rows in
    let ps : List PackedChild = c.place_and_expand.new.down.roots.items in
    let D : IsExpandedTo c.args.store.now c.args.entries.now c.in_ok-from.from c.place_and_expand.new.down.requests rows ps c.args.self.now.down.splits c.place_and_expand.new.down.splits = c.in_ok-from.ensures.down in
    let T : List (List Key) = D.tables in
    let Y : AreReady c.hand_over.new.store c.args.entries.now c.in_ok-from.from rows c.hand_over.new.answers.items T =
    down_ready c.args.store.now c.levels.ensures.sound c.args.entries.now c.requires.operands c.hand_over.new.store c.hand_over.ensures.adds.keeps c.in_ok-from.from c.place_and_expand.new.down.requests rows ps c.args.self.now.down.splits c.place_and_expand.new.down.splits D
    c.hand_over.new.answers.items c.in_ok-shared.ensures.reduced in
    let M : MayReduce c.hand_over.new.store c.args.entries.now c.in_ok-from.from (over_parts c.hand_over.new.store.levels c.from_mut-parts.result.now) c.hand_over.new.answers.items T =
    one_part c.hand_over.new.store c.args.entries.now c.in_ok-from.from rows c.hand_over.new.answers.items T c.from_mut-parts.result.now c.from_mut-parts.ensures.value
    (entries_kept c.args.store.now c.levels.ensures.sound c.args.entries.now c.requires.operands c.hand_over.new.store c.hand_over.ensures.adds.keeps) Y in
    record {
      level = c.in_ok-from.from;
      above = have_reduced c.args.store.now c.levels.ensures.sound c.args.entries.now c.requires.operands T rows ps c.in_ok-from.from D.expanded 1 c.args.self.now.up.reductions c.reduce.new.up.reductions (subst (λ z. AreCounted T 0 c.in_ok-from.from z c.reduce.new.up.reductions) c.place_and_expand.ensures.counted (c.in_ok-reduce.ensures.counted c.args.entries.now T M));
      below = have_shared c.args.store.now c.levels.ensures.sound c.args.entries.now c.requires.operands T rows ps c.in_ok-from.from D.expanded c.args.self.now.crew.now.workers.count c.args.self.now.wave_memory c.hand_over.new.wave_memory
          (subst (λ z. HaveExpanded c.args.store.now c.args.self.now.crew.now.workers.count z c.args.self.now.wave_memory c.hand_over.new.wave_memory) (waiting_keys T c.in_ok-from.from c.place_and_expand.new.down.requests D.waits) c.in_ok-shared.ensures.expanded);
    }

pub returns-in-Ok-clause-within_bound : goal.returns-in-Ok-clause-within_bound
returns-in-Ok-clause-within_bound g c = λ bounded.
    let rows : List (List (PackedChild × PackedChild)) = c.place_and_expand.new.down.rows in
    let ps : List PackedChild = c.place_and_expand.new.down.roots.items in
    let W : IsExpandedWithin c.args.limits.wave c.args.store.now c.args.entries.now c.in_ok-from.from c.place_and_expand.new.down.requests rows ps c.args.self.now.down.splits c.place_and_expand.new.down.splits = c.in_ok-from.ensures.few bounded in
    let D : IsExpandedTo c.args.store.now c.args.entries.now c.in_ok-from.from c.place_and_expand.new.down.requests rows ps c.args.self.now.down.splits c.place_and_expand.new.down.splits = W.0 in
    let T : List (List Key) = D.tables in
    let n : length D.split.requests ≤ c.args.limits.wave = W.1 in
    let m = D.split.count in
    let left = c.left-most.ensures bounded in
    let first = c.count-before.ensures in
    let second = c.count.ensures in
    let low = c.count-before.type_inv in
    let high = c.count.type_inv in
    let is : c.left-most.result ≡ c.args.limits.wave - length D.split.requests = omega (arith, n, m, left, first, second, low, high, bounded) in
    at_most_both c.args.store.now c.levels.ensures.sound c.args.entries.now c.requires.operands T rows ps c.in_ok-from.from D.expanded c.args.self.now.crew.now.workers.count c.args.self.now.down.splits c.place_and_expand.new.down.splits D.split
    c.args.limits.wave c.left-most.result n is
    (subst (λ z. AreFew c.args.store.now c.args.self.now.crew.now.workers.count z c.left-most.result) (waiting_keys T c.in_ok-from.from c.place_and_expand.new.down.requests D.waits) (c.in_ok-shared.ensures.few (omega (arith, is, bounded))))
    c.args.self.now.wave_memory c.hand_over.new.wave_memory
    (subst (λ z. HaveExpanded c.args.store.now c.args.self.now.crew.now.workers.count z c.args.self.now.wave_memory c.hand_over.new.wave_memory) (waiting_keys T c.in_ok-from.from c.place_and_expand.new.down.requests D.waits) c.in_ok-shared.ensures.expanded)
