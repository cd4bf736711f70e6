-- A machine that only makes allowed steps keeps a core sound.
use Rattle.std.proofs.Common.{◌≡◌, ℕ, ◌+◌, ◌<◌, get_or, IsTrue, Bool, true, false, List, All, AllPairs, Contains, map, Result, Ok, Err, IfOk, OnErr, MatchBool, refl, sym, ap, ◌∙◌, subst, arith}
use Rattle.std.specs.declared.alloc.AllocError.{AllocError}
use Rattle.dd_store.specs.Nodes.{Nodes, IsSound as IsSoundStore}
use Rattle.req_table.specs.declared.Key.{Key}
use Rattle.req_table.specs.declared.Record.{Record}
use Rattle.req_table.specs.Lanes.{sent_by, ends, IsFair}
use Rattle.req_table.specs.Keys.{IsKey, level_of, wave_at, wave_of}
use Rattle.req_table.specs.Settled.{IsClosure, IsSplit, key_of, level_of_rows}
use Rattle.req_table.specs.Reached.{IsReached}
use Rattle.req_table.specs.Tables.{row_at}
use Rattle.req_table.proofs.Lists.{each, all_of}
use Rattle.req_table.proofs.Fair.{taken_prefix, fair_front}
use Rattle.req_table.proofs.Waved.{is_wave}
use Rattle.wave_core.specs.declared.Event.{Event}
use Rattle.wave_core.specs.Step.{IsStart, IsStep, IsAllowed, IsFinished, asks_here}
use Rattle.wave_core.specs.MachineView.{MachineView, IsConsistent, IsOwnInOrder, by_place, state_of, wave_of_view, list_of, done_of}
use Rattle.wave_core.specs.Cores.{CoreView, core_wave, core_state, IsSoundCore, IsSettledCore, IsNew, IsSameWave}
use Rattle.req_table.specs.Wave.{IsWave}
use Rattle.wave_core.specs.Sound.{IsSoundState, IsDue}
use Rattle.wave_core.proofs.Counted.{kept_by, counts_one}
use Rattle.wave_core.proofs.Runs.{step_sound, start_sound}
use Rattle.wave_core.proofs.Expands.{taken_key}
use Rattle.wave_core.proofs.Finished.{finished_settles, finished_closes}

abbrev pub core_at : Nodes → MachineView → List Key → CoreView
core_at S v roots = record { store = S; roots = roots; machine = v }

-- what the machine ensures of an event
abbrev pub Does : Nodes → MachineView → Event → Bool → MachineView → Type 0
Does S v e b u = MatchBool b (IsStep (wave_of_view S v) (state_of v) e (state_of u)) ((u ≡ v) × ¬ IsAllowed (wave_of_view S v) (state_of v) e)

-- what a core ensures of an event, by the wave over its store
abbrev pub TriesEvent : Nodes → MachineView → List Key → Event → Bool → MachineView → Type 0
TriesEvent S v roots e b u = MatchBool b (IsStep (wave_of S v.workers) (state_of v) e (state_of u)) ((core_at S u roots ≡ core_at S v roots) × ¬ IsAllowed (wave_of S v.workers) (state_of v) e)

-- the wave of a machine that has the levels of its store
pub wave_is : (S : Nodes) (v : MachineView) → v.levels ≡ S.levels → wave_of_view S v ≡ wave_of S v.workers
wave_is S v e = ap (λ n. wave_at S n v.workers) e

pub lifts_does : (S : Nodes) (v u : MachineView) (roots : List Key) (e : Event) (b : Bool) → v.levels ≡ S.levels → Does S v e b u → TriesEvent S v roots e b u
lifts_does S v u roots e true l d = subst (λ w. IsStep w (state_of v) e (state_of u)) (wave_is S v l) d
lifts_does S v u roots e false l d = (ap (λ (m : MachineView). core_at S m roots) d.0, subst (λ w. ¬ IsAllowed w (state_of v) e) (wave_is S v l) d.1)

pub lifts : (S : Nodes) (v u : MachineView) (roots : List Key) (e : Event) (r : Result Bool AllocError) → v.levels ≡ S.levels → IfOk r (λ b. Does S v e b u) → IfOk r (λ b. TriesEvent S v roots e b u)
lifts S v u roots e (Ok b) l d = lifts_does S v u roots e b l d
lifts S v u roots e (Err x) l d = d

stepped : (S : Nodes) (v u : MachineView) (roots : List Key) (e : Event) → (u.workers ≡ v.workers) × (u.levels ≡ v.levels) → IsStep (wave_of S v.workers) (state_of v) e (state_of u) → IsSoundCore (core_at S v roots) → IsSoundCore (core_at S u roots)
stepped S v u roots e same step h =
    let sound = step_sound (wave_of S v.workers) h.laws roots (state_of v) (state_of u) e step h.sound in
    let workers-is = ap (λ n. wave_of S n) (sym same.0) in
    record { levels = same.1 ∙ h.levels; laws = subst IsWave workers-is h.laws; sound = subst (λ w. IsSoundState w roots (state_of u)) workers-is sound }

pub does_keeps : (S : Nodes) (v u : MachineView) (roots : List Key) (e : Event) (b : Bool) → (u.workers ≡ v.workers) × (u.levels ≡ v.levels) → Does S v e b u → IsSoundCore (core_at S v roots) → IsSoundCore (core_at S u roots)
does_keeps S v u roots e true same d h = stepped S v u roots e same (lifts_does S v u roots e true h.levels d) h
does_keeps S v u roots e false same d h = subst (λ (x : MachineView). IsSoundCore (core_at S x roots)) (sym d.0) h

pub event_keeps : (S : Nodes) (v u : MachineView) (roots : List Key) (e : Event) (r : Result Bool AllocError) → (u.workers ≡ v.workers) × (u.levels ≡ v.levels) → IfOk r (λ b. Does S v e b u) → OnErr r (u ≡ v)
    → IsSoundCore (core_at S v roots) → IsSoundCore (core_at S u roots)
event_keeps S v u roots e (Ok b) same ok err h = does_keeps S v u roots e b same ok h
event_keeps S v u roots e (Err x) same ok err h = subst (λ (x : MachineView). IsSoundCore (core_at S x roots)) (sym err) h

-- what a worker has taken of a sender is fair, and what it has taken at its level is of the store
pub taken_fair : (S : Nodes) (v : MachineView) (roots : List Key) (by : ℕ) → IsSoundCore (core_at S v roots) → by < v.workers → (s : ℕ) → s < v.workers → IsFair (wave_of_view S v).scope (sent_by s (list_of v.taken by))
taken_fair S v roots by h bb s sb =
    let w = wave_of S v.workers in
    let c = state_of v in
    subst (λ x. IsFair x.scope (sent_by s (list_of v.taken by))) (sym (wave_is S v h.levels))
    (fair_front w.scope 0 (sent_by s (c.taken by)) (sent_by s (c.waiting by))
    (subst (λ l. IsFair w.scope l) (taken_prefix w.scope (λ k. c.sent k by) (c.taken by) (c.waiting by) s (h.sound.lane by bb) sb) (h.sound.fair s by sb bb)))

pub taken_held : (S : Nodes) (v : MachineView) (roots : List Key) (by : ℕ) → IsSoundCore (core_at S v roots) → by < v.workers → All (IsKey S) (asks_here (state_of v) by)
taken_held S v roots by h bb = all_of (IsKey S) (asks_here (state_of v) by) (λ x i. (taken_key (wave_of S v.workers) roots (state_of v) by ((state_of v).at by) x h.sound bb i).1)

-- what a worker has sent to itself it has taken or it waits, and what is due from it to itself is of a level of the
-- machine
pub own_in_order : (S : Nodes) (v : MachineView) (roots : List Key) (by : ℕ) → IsSoundCore (core_at S v roots) → by < v.workers → IsOwnInOrder v by
own_in_order S v roots by h bb = let c = state_of v in taken_prefix (wave_of S v.workers).scope (λ k. c.sent k by) (c.taken by) (c.waiting by) by (h.sound.lane by bb) bb

pub own_below : (S : Nodes) (v : MachineView) (roots : List Key) (by : ℕ) → IsSoundCore (core_at S v roots) → by < v.workers → All (λ x. level_of S x < v.levels) (by_place v.workers v.due by by)
own_below S v roots by h bb =
    let c = state_of v in
    all_of (λ x. level_of S x < v.levels) (c.due by by)
    (λ x i. subst (λ n. level_of S x < n) (sym h.levels) (h.laws.bounded x (each (IsDue (wave_of S v.workers) (ends (c.sent by by)) (c.at by)) (c.due by by) x (h.sound.dues by by bb bb) i).held))

-- an event that was done counts as one, and an event that was not leaves the count
pub counts_event : (S : Nodes) (v u : MachineView) (e : Event) (b : Bool) → IsConsistent v → (u.workers ≡ v.workers) × (u.levels ≡ v.levels) → Does S v e b u → (IsTrue b → u.kept ≡ v.kept + kept_by e) → MatchBool b (done_of u ≡ done_of v + 1) (done_of u ≡ done_of v)
counts_event S v u e true h same d k = counts_one S v u e h same d (k refl)
counts_event S v u e false h same d k = ap done_of d.0

pub counts_does : (S : Nodes) (v u : MachineView) (e : Event) (r : Result Bool AllocError) → IsConsistent v → (u.workers ≡ v.workers) × (u.levels ≡ v.levels) → IfOk r (λ b. Does S v e b u) → IfOk r (λ b. IsTrue b → u.kept ≡ v.kept + kept_by e)
    → IfOk r (λ b. MatchBool b (done_of u ≡ done_of v + 1) (done_of u ≡ done_of v))
counts_does S v u e (Ok b) h same d k = counts_event S v u e b h same d k
counts_does S v u e (Err x) h same d k = d

-- an event that keeps no request counts as one if it was done
pub counts_same : (S : Nodes) (v u : MachineView) (e : Event) (r : Result Bool AllocError) → IsConsistent v → (u.workers ≡ v.workers) × (u.levels ≡ v.levels) → IfOk r (λ b. Does S v e b u) → u.kept ≡ v.kept → kept_by e ≡ 0
    → IfOk r (λ b. MatchBool b (done_of u ≡ done_of v + 1) (done_of u ≡ done_of v))
counts_same S v u e (Ok b) h same d k z = counts_event S v u e b h same d (λ t. omega (arith, k, z))
counts_same S v u e (Err x) h same d k z = d

pub settles_at : (x v : CoreView) → x ≡ v → IsSoundCore x → IsFinished (core_wave v) (core_state v) → IsSettledCore v
settles_at x v e h = subst (λ (y : CoreView). IsFinished (core_wave y) (core_state y) → IsSettledCore y) e (λ done. finished_settles (core_wave x) h.laws x.roots (core_state x) h.sound done)

-- what the machine says of its levels holds of the core
pub finish_says : (x v : CoreView) → x ≡ v → x.machine.levels ≡ x.store.levels → (b : Bool) → MatchBool b ((k : ℕ) → k < x.machine.workers → get_or x.machine.at k 0 ≡ x.machine.levels) ((k : ℕ) × (k < x.machine.workers) × ¬ (get_or x.machine.at k 0 ≡ x.machine.levels))
    → MatchBool b (IsFinished (core_wave v) (core_state v)) (¬ IsFinished (core_wave v) (core_state v))
finish_says x v e l true m = subst (λ (y : CoreView). IsFinished (core_wave y) (core_state y)) e (λ k kb. m k kb ∙ l)
finish_says x v e l false m = subst (λ (y : CoreView). ¬ IsFinished (core_wave y) (core_state y)) e (λ f. m.2 (f m.0 m.1 ∙ sym l))

pub finish_settles : (x v : CoreView) → x ≡ v → (b : Bool) → IsSoundCore x → MatchBool b (IsFinished (core_wave v) (core_state v)) (¬ IsFinished (core_wave v) (core_state v)) → IsTrue b → IsSettledCore v
finish_settles x v e true h m t = settles_at x v e h m
finish_settles x v e false h m t = absurd (cc)

-- the core before any event
pub start_keeps : (S : Nodes) (m : MachineView) (roots : List Key) (workers : ℕ) → IsSoundStore S → 0 < workers → All (IsKey S) roots → (m.workers ≡ workers) × (m.levels ≡ S.levels) × IsStart (wave_of S workers) roots (state_of m) → IsSoundCore (core_at S m roots)
start_keeps S m roots workers o some held h =
    let workers-is = ap (λ n. wave_of S n) (sym h.0) in
    record {
      levels = h.1;
      laws = subst IsWave workers-is (is_wave S o workers some);
      sound = start_sound (wave_of S m.workers) roots (state_of m) held (subst (λ w. IsStart w roots (state_of m)) workers-is h.2);
    }

pub start_is_new : (S : Nodes) (m : MachineView) (roots : List Key) (workers' : ℕ) → (m.workers ≡ workers') × (m.levels ≡ S.levels) × IsStart (wave_of S workers') roots (state_of m) → IsNew S workers' roots (core_at S m roots)
start_is_new S m roots workers' h = record { store = refl; roots = refl; workers = h.0; start = subst (λ w. IsStart w roots (state_of m)) (ap (λ n. wave_of S n) (sym h.0)) h.2 }

-- ---- records by level that are the same as the rows
closure_along : (v : CoreView) (rows records : ℕ → List Record) → ((l : ℕ) → l < v.store.levels → records l ≡ rows l) → IsClosure (core_wave v) v.roots rows → IsClosure (core_wave v) v.roots records
closure_along v rows records e h = record {
  split = λ l b. subst (All (IsSplit (core_wave v))) (sym (e l b)) (h.split l b);
  placed = λ l b. subst (All (λ r. (core_wave v).level r.key ≡ l)) (sym (e l b)) (h.placed l b);
  reached = λ l b. subst (All (λ r. IsReached (core_wave v) v.roots r.key)) (sym (e l b)) (h.reached l b);
  recorded = λ x i. (let q = h.recorded x i in (q.0, subst (λ rs. Contains (map key_of rs) x) (sym (e ((core_wave v).level x) q.0)) q.1));
  once = λ l b. subst (λ rs. AllPairs (λ (a b : Record). ¬ (a.key ≡ b.key)) rs) (sym (e l b)) (h.once l b);
}

pub records_close : (x v : CoreView) → x ≡ v → IsSoundCore x → (records : ℕ → List Record) → ((l : ℕ) → l < v.store.levels → records l ≡ level_of_rows v.machine.workers (core_state v).rows l)
    → IsFinished (core_wave v) (core_state v) → IsClosure (core_wave v) v.roots records
records_close x v e h records same = subst (λ (y : CoreView). ((l : ℕ) → l < y.store.levels → records l ≡ level_of_rows y.machine.workers (core_state y).rows l) → IsFinished (core_wave y) (core_state y) → IsClosure (core_wave y) y.roots records) e
    (λ is done. closure_along x (level_of_rows x.machine.workers (core_state x).rows) records is (finished_closes (core_wave x) h.laws x.roots (core_state x) h.sound done)) same

pub same_after : (x v : CoreView) (u : MachineView) → x ≡ v → u.workers ≡ x.machine.workers → IsSameWave v (core_at x.store u x.roots)
same_after x v u e w = subst (λ (y : CoreView). IsSameWave y (core_at x.store u x.roots)) e (record { store = refl; roots = refl; workers = w })

pub records_close_ok : (x v : CoreView) → x ≡ v → IsSoundCore x → (r : Result (List (List Record)) AllocError)
    → IfOk r (λ rows. (l : ℕ) → l < x.machine.levels → row_at rows l ≡ level_of_rows x.machine.workers (core_state x).rows l)
    → IsFinished (core_wave v) (core_state v) → IfOk r (λ rows. IsClosure (core_wave v) v.roots (row_at rows))
records_close_ok x v e h (Ok rows) same done =
    records_close x v e h (row_at rows) (subst (λ (y : CoreView). (l : ℕ) → l < y.store.levels → row_at rows l ≡ level_of_rows y.machine.workers (core_state y).rows l) e (λ l b. same l (subst (λ n. l < n) (sym h.levels) b))) done
records_close_ok x v e h (Err f) same done = same

-- what the machine says of an event holds of the core
pub allows_at : (x v : CoreView) → x ≡ v → x.machine.levels ≡ x.store.levels → (f : Event) (b : Bool) → MatchBool b (IsAllowed (wave_of_view x.store x.machine) (core_state x) f) (¬ IsAllowed (wave_of_view x.store x.machine) (core_state x) f)
    → MatchBool b (IsAllowed (core_wave v) (core_state v) f) (¬ IsAllowed (core_wave v) (core_state v) f)
allows_at x v e l f b m = subst (λ (y : CoreView). MatchBool b (IsAllowed (core_wave y) (core_state y) f) (¬ IsAllowed (core_wave y) (core_state y) f)) e
    (subst (λ w. MatchBool b (IsAllowed w (core_state x) f) (¬ IsAllowed w (core_state x) f)) (wave_is x.store x.machine l) m)
