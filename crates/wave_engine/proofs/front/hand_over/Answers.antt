use Rattle.std.proofs.Common.{◌≡◌, ◌∙◌, ◌≤◌, inl, true, false, List, [], length, All, ap, sym, subst, arith}
use Rattle.std.proofs.lemmas.Result.{err_from_is_err_and}
use Rattle.std.specs.Prelude.{◌==◌}
use Rattle.std.proofs.lemmas.Bool.Decides.{nat_tests}
use Rattle.dd_store.specs.declared.reference.Ref.{Ref}
use Rattle.dd_store.specs.Nodes.{IsDiagram, count_of}
use Rattle.reduce_up.specs.Reducing.{AddsDescribed}
use Rattle.reduce_up.specs.Waves.{Entry, entry_value, entries_for, IsWanted, AnswersEach, IsWithinLimit, IsWaveFault}
use Rattle.reduce_up.proofs.Waving.{within_still}
use Rattle.wave_engine.specs.Front.{keys_from, ArePut}
use Rattle.req_table.specs.Keys.{IsKey}
use Rattle.req_table.specs.declared.Key.{Key}
use Rattle.expand_work.specs.Bounds.{AreFew}
use Rattle.expand_work.specs.WaveParts.{HaveExpanded}
use Rattle.expand_work.proofs.Tallying.{none_expanded, none_few}
use Rattle.wave_engine.proofs.Fronting.{front_none, front_keys, none_over, none_within, over_adds, over_within, over_fault, over_reduced, zip_length}
use Rattle.wave_engine.proofs.front.hand_over.Goals as goal

pub returns-then-is_empty-clause-reduced : goal.returns-then-is_empty-clause-reduced
returns-then-is_empty-clause-reduced g c =
    let front : c.in-Ok.front.items ≡ keys_from c.args.frontier.now.from c.args.frontier.now.requests.now = c.in-Ok.ensures in
    let none : keys_from c.args.frontier.now.from c.args.frontier.now.requests.now ≡ [] = front_none (keys_from c.args.frontier.now.from c.args.frontier.now.requests.now) (let z : (length c.as_slice-asked.result.now == 0) ≡ true = sym c.is_empty.ensures ∙ c.if-is_empty.true in let l : length c.as_slice-asked.result.now ≡ 0 = grind (arith, nat_tests, z) in sym (ap length (c.as_slice-asked.ensures.value ∙ front)) ∙ l) in
    none_over c.args.store.now c.levels.ensures.sound c.args.entries.now c.requires.operands c.args.frontier.now.requests.now c.requires.admitted c.args.frontier.now.from none c.args.answers.now.items c.requires.levels

pub returns-then-is_empty-clause-within : goal.returns-then-is_empty-clause-within
returns-then-is_empty-clause-within g c =
    let front : c.in-Ok.front.items ≡ keys_from c.args.frontier.now.from c.args.frontier.now.requests.now = c.in-Ok.ensures in
    let none : keys_from c.args.frontier.now.from c.args.frontier.now.requests.now ≡ [] = front_none (keys_from c.args.frontier.now.from c.args.frontier.now.requests.now) (let z : (length c.as_slice-asked.result.now == 0) ≡ true = sym c.is_empty.ensures ∙ c.if-is_empty.true in let l : length c.as_slice-asked.result.now ≡ 0 = grind (arith, nat_tests, z) in sym (ap length (c.as_slice-asked.ensures.value ∙ front)) ∙ l) in
    none_within c.args.store.now c.levels.ensures.sound c.args.entries.now c.requires.operands c.args.frontier.now.requests.now c.requires.admitted c.args.frontier.now.from none

pub wave_by_workers-requires-clause-roots : goal.wave_by_workers-requires-clause-roots
wave_by_workers-requires-clause-roots g c κs within =
    let slice = c.as_slice-asked.ensures.value ∙ c.in-Ok.ensures in
    subst (All (IsKey c.args.store.now)) (sym slice) (front_keys c.args.store.now c.levels.ensures.sound c.args.entries.now c.requires.operands c.args.frontier.now.requests.now c.requires.admitted c.args.frontier.now.from)

pub returns-in_err-found-clause-adds : goal.returns-in_err-found-clause-adds
returns-in_err-found-clause-adds g c =
    let front : c.in-Ok.front.items ≡ keys_from c.args.frontier.now.from c.args.frontier.now.requests.now = c.in-Ok.ensures in
    let slice : entries_for c.as_slice-asked.result.now ≡ entries_for (keys_from c.args.frontier.now.from c.args.frontier.now.requests.now) = ap entries_for (c.as_slice-asked.ensures.value ∙ front) in
    over_adds c.args.store.now c.levels.ensures.sound c.args.entries.now c.requires.operands c.args.frontier.now.requests.now c.requires.admitted c.args.frontier.now.from c.wave_by_workers.new.store c.wave_by_workers.ensures.wave.sound (subst (λ (z : List Entry). AddsDescribed c.args.store.now c.wave_by_workers.new.store (IsWanted c.args.store.now z)) slice c.wave_by_workers.ensures.wave.adds)

pub returns-in-Ok-put_answers-clause-adds : goal.returns-in-Ok-put_answers-clause-adds
returns-in-Ok-put_answers-clause-adds g c =
    let front : c.in-Ok.front.items ≡ keys_from c.args.frontier.now.from c.args.frontier.now.requests.now = c.in-Ok.ensures in
    let slice : entries_for c.as_slice-asked.result.now ≡ entries_for (keys_from c.args.frontier.now.from c.args.frontier.now.requests.now) = ap entries_for (c.as_slice-asked.ensures.value ∙ front) in
    over_adds c.args.store.now c.levels.ensures.sound c.args.entries.now c.requires.operands c.args.frontier.now.requests.now c.requires.admitted c.args.frontier.now.from c.wave_by_workers.new.store c.wave_by_workers.ensures.wave.sound (subst (λ (z : List Entry). AddsDescribed c.args.store.now c.wave_by_workers.new.store (IsWanted c.args.store.now z)) slice c.wave_by_workers.ensures.wave.adds)

pub returns-clause-adds : goal.returns-clause-adds
returns-clause-adds g c =
    let front : c.in-Ok.front.items ≡ keys_from c.args.frontier.now.from c.args.frontier.now.requests.now = c.in-Ok.ensures in
    let slice : entries_for c.as_slice-asked.result.now ≡ entries_for (keys_from c.args.frontier.now.from c.args.frontier.now.requests.now) = ap entries_for (c.as_slice-asked.ensures.value ∙ front) in
    over_adds c.args.store.now c.levels.ensures.sound c.args.entries.now c.requires.operands c.args.frontier.now.requests.now c.requires.admitted c.args.frontier.now.from c.wave_by_workers.new.store c.wave_by_workers.ensures.wave.sound (subst (λ (z : List Entry). AddsDescribed c.args.store.now c.wave_by_workers.new.store (IsWanted c.args.store.now z)) slice c.wave_by_workers.ensures.wave.adds)

pub returns-in_err-found-clause-fault : goal.returns-in_err-found-clause-fault
returns-in_err-found-clause-fault g c =
    let front : c.in-Ok.front.items ≡ keys_from c.args.frontier.now.from c.args.frontier.now.requests.now = c.in-Ok.ensures in
    let slice : entries_for c.as_slice-asked.result.now ≡ entries_for (keys_from c.args.frontier.now.from c.args.frontier.now.requests.now) = ap entries_for (c.as_slice-asked.ensures.value ∙ front) in
    let adds : AddsDescribed c.args.store.now c.wave_by_workers.new.store (IsWanted c.args.store.now (entries_for (keys_from c.args.frontier.now.from c.args.frontier.now.requests.now))) = subst (λ (z : List Entry). AddsDescribed c.args.store.now c.wave_by_workers.new.store (IsWanted c.args.store.now z)) slice c.wave_by_workers.ensures.wave.adds in
    let p = err_from_is_err_and c.from_residual.result c.from_residual.ensures.1 in
    rw (p.1, p.2) (over_fault c.args.store.now c.levels.ensures.sound c.args.entries.now c.requires.operands c.args.frontier.now.requests.now c.requires.admitted c.args.frontier.now.from c.wave_by_workers.new.store c.wave_by_workers.ensures.wave.sound adds c.in_err-found.field-0.0 (subst (λ (z : List Entry). IsWaveFault c.args.store.now z c.wave_by_workers.new.store c.in_err-found.field-0.0) slice c.in_err-found.ensures.wave.fault))

pub put_answers-requires-clause-all : goal.put_answers-requires-clause-all
put_answers-requires-clause-all g c =
    let front : c.in-Ok.front.items ≡ keys_from c.args.frontier.now.from c.args.frontier.now.requests.now = c.in-Ok.ensures in
    let slice : entries_for c.as_slice-asked.result.now ≡ entries_for (keys_from c.args.frontier.now.from c.args.frontier.now.requests.now) = ap entries_for (c.as_slice-asked.ensures.value ∙ front) in
    let answers : AnswersEach c.args.store.now (entries_for (keys_from c.args.frontier.now.from c.args.frontier.now.requests.now)) c.wave_by_workers.new.store c.in_ok-found.found.items = subst (λ (z : List Entry). AnswersEach c.args.store.now z c.wave_by_workers.new.store c.in_ok-found.found.items) slice c.in_ok-found.ensures.wave.answers in
    ap length c.as_slice.ensures.value ∙ zip_length (λ e r. IsDiagram c.wave_by_workers.new.store r (entry_value c.args.store.now e)) (keys_from c.args.frontier.now.from c.args.frontier.now.requests.now) c.in_ok-found.found.items answers

pub returns-in-Ok-put_answers-clause-reduced : goal.returns-in-Ok-put_answers-clause-reduced
returns-in-Ok-put_answers-clause-reduced g c =
    let front : c.in-Ok.front.items ≡ keys_from c.args.frontier.now.from c.args.frontier.now.requests.now = c.in-Ok.ensures in
    let slice : entries_for c.as_slice-asked.result.now ≡ entries_for (keys_from c.args.frontier.now.from c.args.frontier.now.requests.now) = ap entries_for (c.as_slice-asked.ensures.value ∙ front) in
    let adds : AddsDescribed c.args.store.now c.wave_by_workers.new.store (IsWanted c.args.store.now (entries_for (keys_from c.args.frontier.now.from c.args.frontier.now.requests.now))) = subst (λ (z : List Entry). AddsDescribed c.args.store.now c.wave_by_workers.new.store (IsWanted c.args.store.now z)) slice c.wave_by_workers.ensures.wave.adds in
    let some : keys_from c.args.frontier.now.from c.args.frontier.now.requests.now ≡ [] → ⊥ = λ e. (let z : (length c.as_slice-asked.result.now == 0) ≡ false = sym c.is_empty.ensures ∙ c.if-is_empty.false in let l : length c.as_slice-asked.result.now ≡ 0 = ap length (c.as_slice-asked.ensures.value ∙ front ∙ e) in grind (arith, nat_tests, z, l)) in
    let within : count_of c.wave_by_workers.new.store ≤ c.wave_by_workers.new.store.limit = over_within c.args.store.now c.levels.ensures.sound c.args.entries.now c.requires.operands c.args.frontier.now.requests.now c.requires.admitted c.args.frontier.now.from c.wave_by_workers.new.store c.wave_by_workers.ensures.wave.sound adds some (subst (λ (z : List Entry). IsWithinLimit c.args.store.now z c.wave_by_workers.new.store) slice c.in_ok-found.ensures.wave.within) in
    let answers : AnswersEach c.args.store.now (entries_for (keys_from c.args.frontier.now.from c.args.frontier.now.requests.now)) c.wave_by_workers.new.store c.in_ok-found.found.items = subst (λ (z : List Entry). AnswersEach c.args.store.now z c.wave_by_workers.new.store c.in_ok-found.found.items) slice c.in_ok-found.ensures.wave.answers in
    let put : ArePut c.args.frontier.now.requests.now c.args.frontier.now.from c.in_ok-found.found.items (length c.args.frontier.now.requests.now) c.put_answers.new.answers.items = subst (λ (z : List Ref). ArePut c.args.frontier.now.requests.now c.args.frontier.now.from z (length c.args.frontier.now.requests.now) c.put_answers.new.answers.items) c.as_slice.ensures.value c.in-Ok-put_answers.ensures in
    over_reduced c.args.store.now c.levels.ensures.sound c.args.entries.now c.requires.operands c.args.frontier.now.requests.now c.requires.admitted c.args.frontier.now.from c.wave_by_workers.new.store c.wave_by_workers.ensures.wave.sound adds c.in_ok-found.found.items c.put_answers.new.answers.items answers put within

pub returns-in-Ok-put_answers-clause-within : goal.returns-in-Ok-put_answers-clause-within
returns-in-Ok-put_answers-clause-within g c =
    let front : c.in-Ok.front.items ≡ keys_from c.args.frontier.now.from c.args.frontier.now.requests.now = c.in-Ok.ensures in
    let slice : entries_for c.as_slice-asked.result.now ≡ entries_for (keys_from c.args.frontier.now.from c.args.frontier.now.requests.now) = ap entries_for (c.as_slice-asked.ensures.value ∙ front) in
    let adds : AddsDescribed c.args.store.now c.wave_by_workers.new.store (IsWanted c.args.store.now (entries_for (keys_from c.args.frontier.now.from c.args.frontier.now.requests.now))) = subst (λ (z : List Entry). AddsDescribed c.args.store.now c.wave_by_workers.new.store (IsWanted c.args.store.now z)) slice c.wave_by_workers.ensures.wave.adds in
    let some : keys_from c.args.frontier.now.from c.args.frontier.now.requests.now ≡ [] → ⊥ = λ e. (let z : (length c.as_slice-asked.result.now == 0) ≡ false = sym c.is_empty.ensures ∙ c.if-is_empty.false in let l : length c.as_slice-asked.result.now ≡ 0 = ap length (c.as_slice-asked.ensures.value ∙ front ∙ e) in grind (arith, nat_tests, z, l)) in
    let within : count_of c.wave_by_workers.new.store ≤ c.wave_by_workers.new.store.limit = over_within c.args.store.now c.levels.ensures.sound c.args.entries.now c.requires.operands c.args.frontier.now.requests.now c.requires.admitted c.args.frontier.now.from c.wave_by_workers.new.store c.wave_by_workers.ensures.wave.sound adds some (subst (λ (z : List Entry). IsWithinLimit c.args.store.now z c.wave_by_workers.new.store) slice c.in_ok-found.ensures.wave.within) in
    inl within

pub returns-then-is_empty-clause-expanded : goal.returns-then-is_empty-clause-expanded
returns-then-is_empty-clause-expanded g c =
    let front : c.in-Ok.front.items ≡ keys_from c.args.frontier.now.from c.args.frontier.now.requests.now = c.in-Ok.ensures in
    let none : keys_from c.args.frontier.now.from c.args.frontier.now.requests.now ≡ [] = front_none (keys_from c.args.frontier.now.from c.args.frontier.now.requests.now) (let z : (length c.as_slice-asked.result.now == 0) ≡ true = sym c.is_empty.ensures ∙ c.if-is_empty.true in let l : length c.as_slice-asked.result.now ≡ 0 = grind (arith, nat_tests, z) in sym (ap length (c.as_slice-asked.ensures.value ∙ front)) ∙ l) in
    subst (λ (ks : List Key). HaveExpanded c.args.store.now c.args.crew.now.workers.count ks c.args.wave_memory.now c.args.wave_memory.now) (sym none) (none_expanded c.args.store.now c.args.crew.now.workers.count c.args.wave_memory.now)

pub returns-in-Ok-put_answers-clause-expanded : goal.returns-in-Ok-put_answers-clause-expanded
returns-in-Ok-put_answers-clause-expanded g c =
    subst (λ (ks : List Key). HaveExpanded c.args.store.now c.args.crew.now.workers.count ks c.args.wave_memory.now c.wave_by_workers.new.wave_memory) (c.as_slice-asked.ensures.value ∙ c.in-Ok.ensures) c.in_ok-found.ensures.expanded

pub returns-clause-memory : goal.returns-clause-memory
returns-clause-memory g c = λ old _. within_still c.args.store.now (entries_for c.as_slice-asked.result.now) c.wave_by_workers.new.store c.in_ok-found.ensures.wave.within old

pub returns-then-is_empty-clause-few : goal.returns-then-is_empty-clause-few
returns-then-is_empty-clause-few g c = λ _.
    let front : c.in-Ok.front.items ≡ keys_from c.args.frontier.now.from c.args.frontier.now.requests.now = c.in-Ok.ensures in
    let none : keys_from c.args.frontier.now.from c.args.frontier.now.requests.now ≡ [] = front_none (keys_from c.args.frontier.now.from c.args.frontier.now.requests.now) (let z : (length c.as_slice-asked.result.now == 0) ≡ true = sym c.is_empty.ensures ∙ c.if-is_empty.true in let l : length c.as_slice-asked.result.now ≡ 0 = grind (arith, nat_tests, z) in sym (ap length (c.as_slice-asked.ensures.value ∙ front)) ∙ l) in
    subst (λ (ks : List Key). AreFew c.args.store.now c.args.crew.now.workers.count ks c.args.frontier.now.most) (sym none) (none_few c.args.store.now c.args.crew.now.workers.count c.args.frontier.now.most)

pub returns-in-Ok-put_answers-clause-few : goal.returns-in-Ok-put_answers-clause-few
returns-in-Ok-put_answers-clause-few g c = λ bounded.
    subst (λ (ks : List Key). AreFew c.args.store.now c.args.crew.now.workers.count ks c.args.frontier.now.most) (c.as_slice-asked.ensures.value ∙ c.in-Ok.ensures) (c.in_ok-found.ensures.few bounded)
