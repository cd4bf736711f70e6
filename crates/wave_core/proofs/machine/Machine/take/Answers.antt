use Rattle.std.proofs.Common.{◌≡◌, ◌<◌, ◌≤◌, ◌+◌, ◌*◌, List, [], ◌∷◌, ◌++◌, set, length, refl, sym, ap, ap₂, subst, arith, ◌∙◌, length-append}
use Rattle.std.proofs.lemmas.List.{get_or_default}
use Rattle.req_table.specs.declared.Key.{Key}
use Rattle.req_table.specs.declared.Item.{Item}
use Rattle.req_table.specs.Lanes.{sent_by, ends, asks_at}
use Rattle.wave_core.specs.declared.Event.TheVariants.{Take}
use Rattle.wave_core.specs.MachineView.{MachineView, IsConsistent, IsTable, by_place, list_of, number_of, state_of, wave_of_view}
use Rattle.wave_core.specs.Step.{IsStep, at_one}
use Rattle.wave_core.proofs.Grid.{got, read_back, set_same, set_twice, place}
use Rattle.wave_core.proofs.Machines.{view_in, still}
use Rattle.wave_core.proofs.Taking.{take_step, take_kept, ask_counted, ask_beyond, ask_offered, end_tables, end_beyond, end_counted, ends_by_le}
use Rattle.wave_core.proofs.machine.Machine.take.Goals as goal

pub invariant_of-self-then-level-self : goal.invariant_of-self-then-level-self
invariant_of-self-then-level-self c =
    let v = view_in c.self.inside in
    let h = c.self.invariant in
    let bb : c.args.by < v.workers = omega arith in
    let item = c.in-Some.item in
    let (rest, seen) = c.in-Some.ensures in
    let room : c.args.by < length v.waiting = subst (λ n. c.args.by < n) (sym h.shape.waiting) bb in
    let first : c.index_mut-then-level-self.result.now ≡ item ∷ rest = c.index_mut-then-level-self.ensures.value ∙ get_or_default v.waiting c.args.by c.index_mut-then-level-self.result.now c.index.result.now room ∙ sym c.index.ensures ∙ seen in
    let popped : c.index_mut-then-level-self.result.now ≡ item ∷ c.pop.new.self = first ∙ ap (λ l. item ∷ l) (sym (c.pop.ensures rest item first)) in
    let far : v.levels ≤ c.in-Ask.level = omega arith in
    take_kept v h c.args.by bb item c.index_mut.result.now c.put.new.self c.index_mut-then-level-self.result.now c.pop.new.self c.index_mut.ensures.value c.in_ok-put.ensures.ok c.index_mut-then-level-self.ensures.value popped v.ends_taken v.tables h.shape.ends_taken h.shape.tables
    (λ k s kb sb. subst (λ i. number_of v.workers v.ends_taken k s ≡ ends (sent_by s (list_of v.taken k ++ at_one c.args.by i k))) (sym c.in-Ask.is) (ask_counted v h c.args.by bb c.in-Ask.from c.in-Ask.level c.in-Ask.key k s kb sb))
    (λ k l kb lb. subst (λ i. IsTable (asks_at l (list_of v.taken k ++ at_one c.args.by i k)) (by_place v.levels v.tables k l) (by_place v.levels v.rows k l)) (sym c.in-Ask.is) (ask_beyond v h c.args.by bb c.in-Ask.from c.in-Ask.level c.in-Ask.key far k l kb lb))

pub invariant_of-self-in-Ok : goal.invariant_of-self-in-Ok
invariant_of-self-in-Ok c =
    let v = view_in c.self.inside in
    let h = c.self.invariant in
    let bb : c.args.by < v.workers = omega arith in
    let item = c.in-Some.item in
    let (rest, seen) = c.in-Some.ensures in
    let room : c.args.by < length v.waiting = subst (λ n. c.args.by < n) (sym h.shape.waiting) bb in
    let first : c.index_mut-in-Ok.result.now ≡ item ∷ rest = c.index_mut-in-Ok.ensures.value ∙ get_or_default v.waiting c.args.by c.index_mut-in-Ok.result.now c.index.result.now room ∙ sym c.index.ensures ∙ seen in
    let popped : c.index_mut-in-Ok.result.now ≡ item ∷ c.pop-in-Ok.new.self = first ∙ ap (λ l. item ∷ l) (sym (c.pop-in-Ok.ensures rest item first)) in
    let near : c.in-Ask.level < v.levels = omega arith in
    let new = set v.tables (c.args.by * v.levels + c.in-Ask.level) c.admit.new.self in
    take_kept v h c.args.by bb item c.index_mut.result.now c.put.new.self c.index_mut-in-Ok.result.now c.pop-in-Ok.new.self c.index_mut.ensures.value c.in_ok-put.ensures.ok c.index_mut-in-Ok.ensures.value popped v.ends_taken new h.shape.ends_taken (still v.tables (c.args.by * v.levels + c.in-Ask.level) c.admit.new.self (v.workers * v.levels) h.shape.tables)
    (λ k s kb sb. subst (λ i. number_of v.workers v.ends_taken k s ≡ ends (sent_by s (list_of v.taken k ++ at_one c.args.by i k))) (sym c.in-Ask.is) (ask_counted v h c.args.by bb c.in-Ask.from c.in-Ask.level c.in-Ask.key k s kb sb))
    (λ k l kb lb. subst (λ i. IsTable (asks_at l (list_of v.taken k ++ at_one c.args.by i k)) (by_place v.levels new k l) (by_place v.levels v.rows k l)) (sym c.in-Ask.is) (ask_offered v h c.args.by bb c.in-Ask.from c.in-Ask.level c.in-Ask.key near c.index_mut-in-Ask.result.now c.admit.new.self c.in-Ok.field-0.1 c.index_mut-in-Ask.ensures.value c.in-Ok.ensures.admits_key k l kb lb))

pub invariant_of-self-then-from-self : goal.invariant_of-self-then-from-self
invariant_of-self-then-from-self c =
    let v = view_in c.self.inside in
    let h = c.self.invariant in
    let bb : c.args.by < v.workers = omega arith in
    let item = c.in-Some.item in
    let (rest, seen) = c.in-Some.ensures in
    let room : c.args.by < length v.waiting = subst (λ n. c.args.by < n) (sym h.shape.waiting) bb in
    let first : c.index_mut-then-from-self.result.now ≡ item ∷ rest = c.index_mut-then-from-self.ensures.value ∙ get_or_default v.waiting c.args.by c.index_mut-then-from-self.result.now c.index.result.now room ∙ sym c.index.ensures ∙ seen in
    let popped : c.index_mut-then-from-self.result.now ≡ item ∷ c.pop-then-from-self.new.self = first ∙ ap (λ l. item ∷ l) (sym (c.pop-then-from-self.ensures rest item first)) in
    let far : v.workers ≤ c.in-End.from = omega arith in
    take_kept v h c.args.by bb item c.index_mut.result.now c.put.new.self c.index_mut-then-from-self.result.now c.pop-then-from-self.new.self c.index_mut.ensures.value c.in_ok-put.ensures.ok c.index_mut-then-from-self.ensures.value popped v.ends_taken v.tables h.shape.ends_taken h.shape.tables
    (λ k s kb sb. subst (λ i. number_of v.workers v.ends_taken k s ≡ ends (sent_by s (list_of v.taken k ++ at_one c.args.by i k))) (sym c.in-End.is) (end_beyond v h c.args.by bb c.in-End.from c.in-End.level far k s kb sb))
    (λ k l kb lb. subst (λ i. IsTable (asks_at l (list_of v.taken k ++ at_one c.args.by i k)) (by_place v.levels v.tables k l) (by_place v.levels v.rows k l)) (sym c.in-End.is) (end_tables v h c.args.by bb c.in-End.from c.in-End.level k l kb lb))

pub invariant_of-self-in-End : goal.invariant_of-self-in-End
invariant_of-self-in-End c =
    let v = view_in c.self.inside in
    let h = c.self.invariant in
    let bb : c.args.by < v.workers = omega arith in
    let item = c.in-Some.item in
    let (rest, seen) = c.in-Some.ensures in
    let room : c.args.by < length v.waiting = subst (λ n. c.args.by < n) (sym h.shape.waiting) bb in
    let first : c.index_mut-in-End-2.result.now ≡ item ∷ rest = c.index_mut-in-End-2.ensures.value ∙ get_or_default v.waiting c.args.by c.index_mut-in-End-2.result.now c.index.result.now room ∙ sym c.index.ensures ∙ seen in
    let popped : c.index_mut-in-End-2.result.now ≡ item ∷ c.pop-in-End.new.self = first ∙ ap (λ l. item ∷ l) (sym (c.pop-in-End.ensures rest item first)) in
    let near : c.in-End.from < v.workers = omega arith in
    let one = c.index_mut-in-End.result.now + 1 in
    take_kept v h c.args.by bb item c.index_mut.result.now c.put.new.self c.index_mut-in-End-2.result.now c.pop-in-End.new.self c.index_mut.ensures.value c.in_ok-put.ensures.ok c.index_mut-in-End-2.ensures.value popped (set v.ends_taken (c.args.by * v.workers + c.in-End.from) one) v.tables (still v.ends_taken (c.args.by * v.workers + c.in-End.from) one (v.workers * v.workers) h.shape.ends_taken) h.shape.tables
    (λ k s kb sb. subst (λ i. number_of v.workers (set v.ends_taken (c.args.by * v.workers + c.in-End.from) one) k s ≡ ends (sent_by s (list_of v.taken k ++ at_one c.args.by i k))) (sym c.in-End.is) (end_counted v h c.args.by bb c.in-End.from c.in-End.level near c.index_mut-in-End.result.now one c.index_mut-in-End.ensures.value refl k s kb sb))
    (λ k l kb lb. subst (λ i. IsTable (asks_at l (list_of v.taken k ++ at_one c.args.by i k)) (by_place v.levels v.tables k l) (by_place v.levels v.rows k l)) (sym c.in-End.is) (end_tables v h c.args.by bb c.in-End.from c.in-End.level k l kb lb))

pub invariant_of-self-in-Err : goal.invariant_of-self-in-Err
invariant_of-self-in-Err c =
    let v = view_in c.self.inside in
    let h = c.self.invariant in
    let bb : c.args.by < v.workers = omega arith in
    let room : c.args.by < length v.taken = subst (λ n. c.args.by < n) (sym h.shape.taken) bb in
    let was = c.undo.ensures c.index_mut.result.now c.in-Some.item (read_back v.taken c.args.by c.put.new.self c.index_mut-in-Err.result.now room c.index_mut-in-Err.ensures.value ∙ c.in_ok-put.ensures.ok) in
    let same = ap₂ (λ (l : List (List Item)) (m : List (List Key)). let r : MachineView = record v { taken = l; tables = m } in r)
    (set_twice v.taken c.args.by c.index_mut.result.now c.put.new.self c.undo.new.self c.index_mut.ensures.value was)
    (set_same v.tables (c.args.by * v.levels + c.in-Ask.level) c.index_mut-in-Ask.result.now c.admit.new.self c.index_mut-in-Ask.ensures.value c.in-Err.ensures.refused) in
    subst (λ (u : MachineView). IsConsistent u) (sym same) c.self.invariant

pub returns-in-Err-clause-err : goal.returns-in-Err-clause-err
returns-in-Err-clause-err c =
    let v = view_in c.self.inside in
    let h = c.self.invariant in
    let bb : c.args.by < v.workers = omega arith in
    let room : c.args.by < length v.taken = subst (λ n. c.args.by < n) (sym h.shape.taken) bb in
    let was = c.undo.ensures c.index_mut.result.now c.in-Some.item (read_back v.taken c.args.by c.put.new.self c.index_mut-in-Err.result.now room c.index_mut-in-Err.ensures.value ∙ c.in_ok-put.ensures.ok) in
    let same = ap₂ (λ (l : List (List Item)) (m : List (List Key)). let r : MachineView = record v { taken = l; tables = m } in r)
    (set_twice v.taken c.args.by c.index_mut.result.now c.put.new.self c.undo.new.self c.index_mut.ensures.value was)
    (set_same v.tables (c.args.by * v.levels + c.in-Ask.level) c.index_mut-in-Ask.result.now c.admit.new.self c.index_mut-in-Ask.ensures.value c.in-Err.ensures.refused) in
    same ∙ c.self.view_is

pub overflow_add-index_mut : goal.overflow_add-index_mut
overflow_add-index_mut c =
    let v = view_in c.self.inside in
    let h = c.self.invariant in
    let bb : c.args.by < v.workers = omega arith in
    let fb : c.in-End.from < v.workers = omega arith in
    let old = c.index_mut.result.now in
    let n = c.index_mut-in-End.result.now in
    let room : c.args.by < length v.taken = subst (λ m. c.args.by < m) (sym h.shape.taken) bb in
    let is : list_of v.taken c.args.by ≡ old = got v.taken c.args.by old [] room c.index_mut.ensures.value in
    let count = sym (got v.ends_taken (c.args.by * v.workers + c.in-End.from) n 0 (place v.workers v.workers c.args.by c.in-End.from (length v.ends_taken) bb fb h.shape.ends_taken) c.index_mut-in-End.ensures.value) ∙ h.ends_taken c.args.by c.in-End.from bb fb in
    let le = subst (λ l. ends (sent_by c.in-End.from (list_of v.taken c.args.by)) ≤ length l) is (ends_by_le c.in-End.from (list_of v.taken c.args.by)) in
    let long = c.len.ensures ∙ ap length (read_back v.taken c.args.by c.put.new.self c.index-in-End.result.now room c.index-in-End.ensures ∙ c.in_ok-put.ensures.ok) ∙ length-append old (c.in-Some.item ∷ []) in
    let fits = c.len.type_inv in
    omega (arith, count, le, long, fits)

pub returns-then-level-self-clause-ok : goal.returns-then-level-self-clause-ok
returns-then-level-self-clause-ok c =
    let v = view_in c.self.inside in
    let h = c.self.invariant in
    let bb : c.args.by < v.workers = omega arith in
    let item = c.in-Some.item in
    let (rest, seen) = c.in-Some.ensures in
    let room : c.args.by < length v.waiting = subst (λ n. c.args.by < n) (sym h.shape.waiting) bb in
    let first : c.index_mut-then-level-self.result.now ≡ item ∷ rest = c.index_mut-then-level-self.ensures.value ∙ get_or_default v.waiting c.args.by c.index_mut-then-level-self.result.now c.index.result.now room ∙ sym c.index.ensures ∙ seen in
    let popped : c.index_mut-then-level-self.result.now ≡ item ∷ c.pop.new.self = first ∙ ap (λ l. item ∷ l) (sym (c.pop.ensures rest item first)) in
    let tables : List (List Key) = v.tables in
    subst (λ (u : MachineView). IsStep (wave_of_view c.args.store.now u) (state_of u) (Take c.args.by) (state_of (record v { waiting = set v.waiting c.args.by c.pop.new.self; taken = set v.taken c.args.by c.put.new.self; ends_taken = v.ends_taken; tables = tables }))) c.self.view_is
    (take_step v h c.args.by bb item c.index_mut.result.now c.put.new.self c.index_mut-then-level-self.result.now c.pop.new.self c.index_mut.ensures.value c.in_ok-put.ensures.ok c.index_mut-then-level-self.ensures.value popped c.args.store.now v.ends_taken tables)

pub returns-in-Ok-clause-ok : goal.returns-in-Ok-clause-ok
returns-in-Ok-clause-ok c =
    let v = view_in c.self.inside in
    let h = c.self.invariant in
    let bb : c.args.by < v.workers = omega arith in
    let item = c.in-Some.item in
    let (rest, seen) = c.in-Some.ensures in
    let room : c.args.by < length v.waiting = subst (λ n. c.args.by < n) (sym h.shape.waiting) bb in
    let first : c.index_mut-in-Ok.result.now ≡ item ∷ rest = c.index_mut-in-Ok.ensures.value ∙ get_or_default v.waiting c.args.by c.index_mut-in-Ok.result.now c.index.result.now room ∙ sym c.index.ensures ∙ seen in
    let popped : c.index_mut-in-Ok.result.now ≡ item ∷ c.pop-in-Ok.new.self = first ∙ ap (λ l. item ∷ l) (sym (c.pop-in-Ok.ensures rest item first)) in
    let tables : List (List Key) = set v.tables (c.args.by * v.levels + c.in-Ask.level) c.admit.new.self in
    subst (λ (u : MachineView). IsStep (wave_of_view c.args.store.now u) (state_of u) (Take c.args.by) (state_of (record v { waiting = set v.waiting c.args.by c.pop-in-Ok.new.self; taken = set v.taken c.args.by c.put.new.self; ends_taken = v.ends_taken; tables = tables }))) c.self.view_is
    (take_step v h c.args.by bb item c.index_mut.result.now c.put.new.self c.index_mut-in-Ok.result.now c.pop-in-Ok.new.self c.index_mut.ensures.value c.in_ok-put.ensures.ok c.index_mut-in-Ok.ensures.value popped c.args.store.now v.ends_taken tables)
