-- What a core says of one event, and of several in turn.
use Rattle.std.proofs.Common.{◌≡◌, ℕ, ◌+◌, ◌<◌, List, [], ◌∷◌, ◌++◌, length, take, drop, get_or, Bool, MatchBool, All, AllPairs, map, refl, sym, ap, ◌∙◌, subst, arith}
use Rattle.std.proofs.lemmas.List.{drop_more, length-take-le, take-append-drop}
use Rattle.req_table.specs.declared.Key.{Key}
use Rattle.req_table.specs.declared.Item.{Item}
use Rattle.req_table.specs.declared.Record.{Record}
use Rattle.req_table.specs.Wave.{Wave}
use Rattle.req_table.specs.Lanes.{sent_by, IsFair, IsClosed, LaneLaw}
use Rattle.req_table.specs.Settled.{IsSplit, key_of}
use Rattle.req_table.proofs.Lists.{Has, IsDistinct, all_of, Has-map, pairs_of_distinct}
use Rattle.req_table.proofs.Keyed.{key_decides}
use Rattle.req_table.specs.contracts.KeyPartialEq.TheImpl.{eq-value}
use Rattle.wave_core.specs.declared.Event.{Event}
use Rattle.wave_core.specs.declared.CoreFault.{CoreFault}
use Rattle.wave_core.specs.declared.Event.TheVariants.{Send, End, Take, Expand, Advance, Keep}
use Rattle.wave_core.specs.Step.{State, IsStep, IsRun, IsAllowed}
use Rattle.wave_core.specs.Drive.{IsChosenStep}
use Rattle.wave_core.specs.MachineView.{wave_of_view, list_of}
use Rattle.wave_core.specs.Cores.{CoreView, core_wave, core_state, IsSoundCore, IsSameWave, events_done, HasStep, IsRefusal, IsStopped, Reaches, TakesOpen}
use Rattle.wave_core.proofs.Cores.{wave_is}
use Rattle.wave_core.proofs.Drives.{same_wave}
use Rattle.wave_core.proofs.Progress.{allowed_of_step, step_of_allowed}
use Rattle.wave_core.proofs.Runs.{sound_prefix, once_in_row, recorded_place}
use Rattle.wave_core.proofs.Takes.{open_front}
use Rattle.wave_core.proofs.Keeps.{keep_open}

-- an event is allowed exactly if some state follows by it
pub none_follows : (v : CoreView) (e : Event) → ¬ IsAllowed (core_wave v) (core_state v) e → ¬ HasStep v e
none_follows v e bar s = bar (allowed_of_step (core_wave v) (core_state v) s.0 e s.1)

pub one_follows : (v : CoreView) (e : Event) → IsAllowed (core_wave v) (core_state v) e → HasStep v e
one_follows v e may = step_of_allowed eq-value.it key_decides (core_wave v) (core_state v) e may

-- an Ask that was taken is of no closed level
pub takes_open : (v : CoreView) (d : State) (e : Event) → IsSoundCore v → IsStep (core_wave v) (core_state v) e d → TakesOpen v e
takes_open v d (Send by to) h s = tt
takes_open v d (End by to) h s = tt
takes_open v d (Take by) h s = λ t l x rest front. open_front (core_wave v) v.roots (core_state v) by t l x rest h.sound s.0 front
takes_open v d (Expand by) h s = tt
takes_open v d (Advance by) h s = tt
takes_open v d (Keep by) h s = λ x rest front.
    (let same : s.1 ∷ s.2 ≡ x ∷ rest = sym s.3 ∙ front in
    let first : s.1 ≡ x = cc in
    subst (λ (y : Key). ¬ IsClosed (core_wave v).scope ((core_wave v).level y) ((core_state v).taken by)) first (keep_open (core_wave v) v.roots (core_state v) d by h.sound s))

-- a run and one event more
pub run_more : (w : Wave) (c b d : State) (es : List Event) (e : Event) → IsRun w c es b → IsStep w b e d → IsRun w c (es ++ e ∷ []) d
run_more w c b d [] e r s = (d, subst (λ z. IsStep w z e d) (sym r) s, refl)
run_more w c b d (x ∷ es) e r s = (r.0, r.1, run_more w r.0 b d es e r.2 s)

pub core_run_more : (v x y : CoreView) (es : List Event) (e : Event) → IsSameWave v x → IsRun (core_wave v) (core_state v) es (core_state x) → IsStep (core_wave x) (core_state x) e (core_state y) → IsRun (core_wave v) (core_state v) (es ++ e ∷ []) (core_state y)
core_run_more v x y es e same r s = run_more (core_wave v) (core_state v) (core_state x) (core_state y) es e r (subst (λ w. IsStep w (core_state x) e (core_state y)) (same_wave v x same) s)

pub reaches_more : (v x y : CoreView) (choice : ℕ) → IsSameWave v x → IsChosenStep (core_wave x) (core_state x) choice (core_state y) → Reaches v x → Reaches v y
reaches_more v x y choice same t r = (r.0 ++ t.event ∷ [], core_run_more v x y r.0 t.event same r.1 t.step)

pub reaches_then : (v x y : CoreView) → IsSameWave v x → Reaches v x → Reaches x y → Reaches v y
reaches_then v x y same r q = (r.0 ++ q.0, joined (core_wave v) (core_state v) (core_state x) (core_state y) r.0 q.0 r.1 (subst (λ w. IsRun w (core_state x) q.0 (core_state y)) (same_wave v x same) q.1))
  where
    joined : (w : Wave) (c b d : State) (es fs : List Event) → IsRun w c es b → IsRun w b fs d → IsRun w c (es ++ fs) d
    joined w c b d [] fs r q = subst (λ z. IsRun w z fs d) (sym r) q
    joined w c b d (e ∷ es) fs r q = (r.0, r.1, joined w r.0 b d es fs r.2 q)

-- the events before a place were done, and the one at it was refused
pub stopped_at : (old x y : CoreView) (events : List Event) (i : ℕ) (fault : CoreFault) → i < length events → IsSameWave old x → IsRun (core_wave old) (core_state old) (take i events) (core_state x) → events_done x ≡ events_done old + i → y ≡ x → IsRefusal x (get_or events i (Send 0 0)) fault → IsStopped old events y fault
stopped_at old x y events i fault l same r n e h = subst (λ (z : CoreView). IsStopped old events z fault) (sym e) (record {
  before = take i events;
  event = get_or events i (Send 0 0);
  after = drop (i + 1) events;
  split = sym (take-append-drop i events) ∙ ap (λ xs. take i events ++ xs) (drop_more events i (Send 0 0) l);
  run = r;
  counts = let long = length-take-le i events (omega (arith, l)) in omega (arith, n, long);
  refused = h;
})

-- ---- what the lists of a core say
pub sent_fair : (x v : CoreView) → x ≡ v → IsSoundCore x → (by to : ℕ) → by < v.machine.workers → to < v.machine.workers → (xs : List Item) → xs ≡ (core_state v).sent by to → IsFair (core_wave v).scope xs
sent_fair x v e h by to bb tb xs is = subst (IsFair (core_wave v).scope) (sym is) ((subst IsSoundCore e h).sound.fair by to bb tb)

pub taken_lane : (x v : CoreView) → x ≡ v → IsSoundCore x → (by : ℕ) → by < v.machine.workers → (xs : List Item) → xs ≡ (core_state v).taken by
    → LaneLaw (core_wave v).scope (λ s. (core_state v).sent s by) xs ((core_state v).waiting by)
taken_lane x v e h by bb xs is = subst (λ l. LaneLaw (core_wave v).scope (λ s. (core_state v).sent s by) l ((core_state v).waiting by)) (sym is) ((subst IsSoundCore e h).sound.lane by bb)

pub taken_front : (x v : CoreView) → x ≡ v → IsSoundCore x → (by : ℕ) → by < v.machine.workers → (xs : List Item) → xs ≡ (core_state v).taken by
    → (s : ℕ) → s < v.machine.workers → (rest : List Item) × ((core_state v).sent s by ≡ sent_by s xs ++ rest)
taken_front x v e h by bb xs is s sb = subst (λ l. (rest : List Item) × ((core_state v).sent s by ≡ sent_by s l ++ rest)) (sym is) (sound_prefix (core_wave v) v.roots (core_state v) (subst IsSoundCore e h).sound s by sb bb)

module _ (x v : CoreView) (e : x ≡ v) (h : IsSoundCore x) (by l : ℕ) (bb : by < v.machine.workers) (lb : l < v.store.levels) (rs : List Record) (is : rs ≡ (core_state v).rows by l) where
  pub records_split : All (IsSplit (core_wave v)) rs
  records_split = subst (All (IsSplit (core_wave v))) (sym is) ((subst IsSoundCore e h).sound.split by l bb lb)

  pub records_placed : All (λ r. (l ≡ (core_wave v).level r.key) × ((core_wave v).owner r.key ≡ by)) rs
  records_placed = all_of (λ r. (l ≡ (core_wave v).level r.key) × ((core_wave v).owner r.key ≡ by)) rs
      (λ r i. recorded_place (core_wave v) v.roots (core_state v) by l r.key (subst IsSoundCore e h).sound bb lb (subst (λ xs. Has (map key_of xs) r.key) is (Has-map key_of rs r i)))

  pub records_once : AllPairs (λ (a b : Record). ¬ (a.key ≡ b.key)) rs
  records_once = pairs_of_distinct key_of rs (subst (λ xs. IsDistinct (map key_of xs)) (sym is) (once_in_row (core_wave v) v.roots (core_state v) by l (subst IsSoundCore e h).sound bb lb))

-- what the machine says of a closed level holds of the core
pub closed_at : (x v : CoreView) → x ≡ v → x.machine.levels ≡ x.store.levels → (by l : ℕ) (b : Bool)
    → MatchBool b (IsClosed (wave_of_view x.store x.machine).scope l (list_of x.machine.taken by)) (¬ IsClosed (wave_of_view x.store x.machine).scope l (list_of x.machine.taken by))
    → MatchBool b (IsClosed (core_wave v).scope l ((core_state v).taken by)) (¬ IsClosed (core_wave v).scope l ((core_state v).taken by))
closed_at x v e n by l b m = subst (λ (y : CoreView). MatchBool b (IsClosed (core_wave y).scope l ((core_state y).taken by)) (¬ IsClosed (core_wave y).scope l ((core_state y).taken by))) e
    (subst (λ w. MatchBool b (IsClosed w.scope l (list_of x.machine.taken by)) (¬ IsClosed w.scope l (list_of x.machine.taken by))) (wave_is x.store x.machine n) m)
