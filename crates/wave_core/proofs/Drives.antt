-- The search through all events, and what a driven core does.
use Rattle.std.proofs.Common.{◌≡◌, ℕ, zero, suc, ◌+◌, ◌-◌, ◌%◌, ◌<◌, ◌≤◌, List, [], ◌∷◌, length, drop, get_or, Bool, true, false, MatchBool, inl, inr, refl, sym, ap, ◌∙◌, subst, arith}
use Rattle.req_table.specs.Wave.{Wave}
use Rattle.wave_core.specs.declared.Event.{Event}
use Rattle.wave_core.specs.declared.Event.TheVariants.{Send}
use Rattle.wave_core.specs.Step.{State, IsStep, IsAllowed, IsFinished}
use Rattle.wave_core.specs.Cores.{CoreView, core_wave, core_state, IsSoundCore, IsSameWave}
use Rattle.wave_core.specs.Drive.{CountsAllowed, IsNthAllowed, IsDriven, IsChosenStep, stop, by_choice, first, all_events}
use Rattle.std.proofs.lemmas.List.{drop_more, drop_all}
use Rattle.req_table.specs.Keys.{wave_of}
use Rattle.wave_core.specs.Measure.{measure}
use Rattle.wave_core.specs.CoreMeasure.{core_measure}
use Rattle.wave_core.proofs.Driven.{scanned_finished}
use Rattle.wave_core.proofs.MeasureDecreases.{step_falls}
use Rattle.req_table.proofs.Keyed.{key_decides}
use Rattle.req_table.specs.contracts.KeyPartialEq.TheImpl.{eq-value}

-- what was counted so far, if the events xs are left
abbrev pub CountsOn : Wave → State → List Event → List Event → ℕ → Type 0
CountsOn w c events xs count = (k : ℕ) → CountsAllowed w c xs k → CountsAllowed w c events (count + k)

-- what was skipped so far
abbrev pub NumbersOn : Wave → State → List Event → List Event → ℕ → ℕ → Type 0
NumbersOn w c events xs number left = (e : Event) → IsNthAllowed w c xs left e → IsNthAllowed w c events number e

abbrev pub HasMore : Wave → State → List Event → ℕ → Type 0
HasMore w c xs left = (m : ℕ) × (left < m) × CountsAllowed w c xs m

pub counts_skip : (w : Wave) (c : State) (events xs : List Event) (x : Event) (count : ℕ) → ¬ IsAllowed w c x → CountsOn w c events (x ∷ xs) count → CountsOn w c events xs count
counts_skip w c events xs x count bar h k a = h k (inl (bar, a))

pub counts_one : (w : Wave) (c : State) (events xs : List Event) (x : Event) (count : ℕ) → IsAllowed w c x → CountsOn w c events (x ∷ xs) count → CountsOn w c events xs (count + 1)
counts_one w c events xs x count may h k a = subst (CountsAllowed w c events) (omega arith) (h (suc k) (inr (may, (k, refl, a))))

pub numbers_skip : (w : Wave) (c : State) (events xs : List Event) (x : Event) (number left : ℕ) → ¬ IsAllowed w c x → NumbersOn w c events (x ∷ xs) number left → NumbersOn w c events xs number left
numbers_skip w c events xs x number left bar h e n = h e (inl (bar, n))

pub numbers_one : (w : Wave) (c : State) (events xs : List Event) (x : Event) (number left : ℕ) → 0 < left → IsAllowed w c x → NumbersOn w c events (x ∷ xs) number left → NumbersOn w c events xs number (left - 1)
numbers_one w c events xs x number left some may h e n = h e (inr (may, inr (left - 1, omega arith, n)))

pub number_found : (w : Wave) (c : State) (events xs : List Event) (x : Event) (number left : ℕ) → left ≡ 0 → IsAllowed w c x → NumbersOn w c events (x ∷ xs) number left → IsNthAllowed w c events number x
number_found w c events xs x number left none may h = h x (inr (may, inl (none, refl)))

pub more_skip : (w : Wave) (c : State) (xs : List Event) (x : Event) (left : ℕ) → ¬ IsAllowed w c x → HasMore w c (x ∷ xs) left → HasMore w c xs left
more_skip w c xs x left bar (m, l, inl a) = (m, l, a.1)
more_skip w c xs x left bar (m, l, inr a) = absurd (bar a.0)

pub more_one : (w : Wave) (c : State) (xs : List Event) (x : Event) (left : ℕ) → 0 < left → IsAllowed w c x → HasMore w c (x ∷ xs) left → HasMore w c xs (left - 1)
more_one w c xs x left some may (m, l, inl a) = absurd (a.0 may)
more_one w c xs x left some may (m, l, inr a) = let e : m ≡ suc a.1.0 = a.1.1 in (a.1.0, omega (arith, l, e, some), a.1.2)

pub none_more : (w : Wave) (c : State) (left : ℕ) → HasMore w c [] left → ⊥
none_more w c left (m, l, e) = omega (arith, l, e)

-- ---- one allowed event is done
pub same_wave : (v u : CoreView) → IsSameWave v u → core_wave u ≡ core_wave v
same_wave v u same = ap (λ S. wave_of S u.machine.workers) same.store ∙ ap (λ n. wave_of v.store n) same.workers

pub same_refl : (v : CoreView) → IsSameWave v v
same_refl v = record { store = refl; roots = refl; workers = refl }

pub same_then : (v x y : CoreView) → IsSameWave v x → IsSameWave x y → IsSameWave v y
same_then v x y a b = record { store = b.store ∙ a.store; roots = b.roots ∙ a.roots; workers = b.workers ∙ a.workers }

pub step_measure : (v u : CoreView) (e : Event) → IsSoundCore v → IsSameWave v u → IsStep (core_wave v) (core_state v) e (core_state u) → core_measure u < core_measure v
step_measure v u e h same s =
    let fall = step_falls eq-value.it key_decides (core_wave v) h.laws v.roots (core_state v) (core_state u) e h.sound s in
    subst (λ w. measure eq-value.it w (core_state u) < core_measure v) (sym (same_wave v u same)) fall

pub some_allowed : (v : CoreView) (m : ℕ) → IsSoundCore v → ¬ IsFinished (core_wave v) (core_state v) → CountsAllowed (core_wave v) (core_state v) (all_events (core_wave v)) m → 0 < m
some_allowed v zero h bar a = absurd (bar (scanned_finished eq-value.it key_decides (core_wave v) h.laws v.roots (core_state v) h.sound a))
some_allowed v (suc m) h bar a = omega arith

pub chosen_step_made : (w : Wave) (c d : State) (choice m : ℕ) (e : Event) → 0 < m → CountsAllowed w c (all_events w) m → IsNthAllowed w c (all_events w) (choice % m) e → IsStep w c e d → IsChosenStep w c choice d
chosen_step_made w c d choice zero e some a n s = absurd (omega arith)
chosen_step_made w c d choice (suc m) e some a n s = record { others = m; event = e; count = a; nth_allowed = n; step = s }

numbered_allowed : (w : Wave) (c : State) (xs : List Event) (n : ℕ) (e : Event) → IsNthAllowed w c xs n e → IsAllowed w c e
numbered_allowed w c [] n e h = absurd h
numbered_allowed w c (x ∷ xs) n e (inl a) = numbered_allowed w c xs n e a.1
numbered_allowed w c (x ∷ xs) n e (inr (a, inl b)) = subst (IsAllowed w c) (sym b.1) a
numbered_allowed w c (x ∷ xs) n e (inr (a, inr b)) = numbered_allowed w c xs b.0 e b.2

pub is_allowed : (w : Wave) (c : State) (xs : List Event) (n : ℕ) (e : Event) → IsNthAllowed w c xs n e → ¬ IsAllowed w c e → ⊥
is_allowed w c xs n e h bar = bar (numbered_allowed w c xs n e h)

-- ---- what was done so far, if the choices xs are left
abbrev pub DrivesOn : CoreView → CoreView → List ℕ → List ℕ → Type 0
DrivesOn v x choices xs = (d : State) → IsDriven (core_wave v) (core_state x) xs d → IsDriven (core_wave v) (core_state v) choices d

chosen_step_of : (v x : CoreView) (choice : ℕ) (d : State) → IsSameWave v x → IsChosenStep (core_wave x) (core_state x) choice d → IsChosenStep (core_wave v) (core_state x) choice d
chosen_step_of v x choice d same t = subst (λ w. IsChosenStep w (core_state x) choice d) (same_wave v x same) t

pub chosen : (v x y : CoreView) (choices : List ℕ) (i choice : ℕ) → i < length choices → choice ≡ get_or choices i choice → IsSameWave v x → ¬ IsFinished (core_wave x) (core_state x) → IsChosenStep (core_wave x) (core_state x) choice (core_state y)
    → DrivesOn v x choices (drop i choices) → DrivesOn v y choices (drop (i + 1) choices)
chosen v x y choices i choice l is same bar t h d r =
    let u = chosen_step_of v x choice (core_state y) same t in
    let open' = subst (λ w. ¬ IsFinished w (core_state x)) (same_wave v x same) bar in
    h d (subst (λ xs. IsDriven (core_wave v) (core_state x) xs d) (sym (drop_more choices i choice l ∙ ap (λ n. n ∷ drop (i + 1) choices) (sym is))) (by_choice u.others u.event open' u.count u.nth_allowed u.step r))

stopped : (w : Wave) (c d : State) (xs : List ℕ) → IsFinished w c → IsDriven w c [] d → IsDriven w c xs d
stopped w c d xs f (stop h) = stop h
stopped w c d xs f (first e bar n s r) = absurd (bar f)

pub chosen_all : (v x : CoreView) (choices xs : List ℕ) → IsSameWave v x → IsFinished (core_wave x) (core_state x) → DrivesOn v x choices xs → DrivesOn v x choices []
chosen_all v x choices xs same f h d r = h d (stopped (core_wave v) (core_state x) d xs (subst (λ w. IsFinished w (core_state x)) (same_wave v x same) f) r)

pub finishes : (v x y : CoreView) → IsSameWave v x → ¬ IsFinished (core_wave x) (core_state x) → IsChosenStep (core_wave x) (core_state x) 0 (core_state y) → DrivesOn v x [] [] → DrivesOn v y [] []
finishes v x y same bar t h d r =
    let u = chosen_step_of v x 0 (core_state y) same t in
    let open' = subst (λ w. ¬ IsFinished w (core_state x)) (same_wave v x same) bar in
    let z : 0 % suc u.others ≡ 0 = omega arith in
    h d (first u.event open' (subst (λ n. IsNthAllowed (core_wave v) (core_state x) (all_events (core_wave v)) n u.event) z u.nth_allowed) u.step r)

pub finished_now : (v x : CoreView) → IsSameWave v x → IsFinished (core_wave x) (core_state x) → DrivesOn v x [] [] → IsDriven (core_wave v) (core_state v) [] (core_state x)
finished_now v x same f h = h (core_state x) (stop (subst (λ w. IsFinished w (core_state x)) (same_wave v x same) f))

pub events_same : (v x : CoreView) (events : List Event) → IsSameWave v x → events ≡ all_events (core_wave v) → events ≡ all_events (core_wave x)
events_same v x events same e = e ∙ ap all_events (sym (same_wave v x same))

-- first the choices, then the rest
pub driven_both : (v x y : CoreView) (choices : List ℕ) → IsSameWave v x → DrivesOn v x choices [] → IsDriven (core_wave x) (core_state x) [] (core_state y) → IsDriven (core_wave v) (core_state v) choices (core_state y)
driven_both v x y choices same h d = h (core_state y) (subst (λ w. IsDriven w (core_state x) [] (core_state y)) (same_wave v x same) d)

-- ---- the search at a place
pub of_true : (b : Bool) (P Q : Type 0) → b ≡ true → MatchBool b P Q → P
of_true true P Q e m = m
of_true false P Q e m = absurd (cc)

pub of_false : (b : Bool) (P Q : Type 0) → b ≡ false → MatchBool b P Q → Q
of_false true P Q e m = absurd (cc)
of_false false P Q e m = m

cut : (xs : List Event) (i : ℕ) → i < length xs → drop i xs ≡ get_or xs i (Send 0 0) ∷ drop (i + 1) xs
cut xs i l = drop_more xs i (Send 0 0) l

pub counts_next : (w : Wave) (c : State) (xs : List Event) (i count : ℕ) → i < length xs → IsAllowed w c (get_or xs i (Send 0 0)) → CountsOn w c xs (drop i xs) count → CountsOn w c xs (drop (i + 1) xs) (count + 1)
counts_next w c xs i count l may h = counts_one w c xs (drop (i + 1) xs) (get_or xs i (Send 0 0)) count may (subst (λ ys. CountsOn w c xs ys count) (cut xs i l) h)

pub counts_past : (w : Wave) (c : State) (xs : List Event) (i count : ℕ) → i < length xs → ¬ IsAllowed w c (get_or xs i (Send 0 0)) → CountsOn w c xs (drop i xs) count → CountsOn w c xs (drop (i + 1) xs) count
counts_past w c xs i count l bar h = counts_skip w c xs (drop (i + 1) xs) (get_or xs i (Send 0 0)) count bar (subst (λ ys. CountsOn w c xs ys count) (cut xs i l) h)

pub counts_all : (w : Wave) (c : State) (xs : List Event) (i count : ℕ) → length xs ≤ i → CountsOn w c xs (drop i xs) count → CountsAllowed w c xs count
counts_all w c xs i count l h = subst (CountsAllowed w c xs) (omega arith) (h 0 (subst (λ ys. CountsAllowed w c ys 0) (sym (drop_all i xs l)) refl))

pub numbers_next : (w : Wave) (c : State) (xs : List Event) (i number left : ℕ) → i < length xs → 0 < left → IsAllowed w c (get_or xs i (Send 0 0)) → NumbersOn w c xs (drop i xs) number left → NumbersOn w c xs (drop (i + 1) xs) number (left - 1)
numbers_next w c xs i number left l some may h = numbers_one w c xs (drop (i + 1) xs) (get_or xs i (Send 0 0)) number left some may (subst (λ ys. NumbersOn w c xs ys number left) (cut xs i l) h)

pub numbers_past : (w : Wave) (c : State) (xs : List Event) (i number left : ℕ) → i < length xs → ¬ IsAllowed w c (get_or xs i (Send 0 0)) → NumbersOn w c xs (drop i xs) number left → NumbersOn w c xs (drop (i + 1) xs) number left
numbers_past w c xs i number left l bar h = numbers_skip w c xs (drop (i + 1) xs) (get_or xs i (Send 0 0)) number left bar (subst (λ ys. NumbersOn w c xs ys number left) (cut xs i l) h)

pub number_here : (w : Wave) (c : State) (xs : List Event) (i number left : ℕ) → i < length xs → left ≡ 0 → IsAllowed w c (get_or xs i (Send 0 0)) → NumbersOn w c xs (drop i xs) number left → IsNthAllowed w c xs number (get_or xs i (Send 0 0))
number_here w c xs i number left l none may h = number_found w c xs (drop (i + 1) xs) (get_or xs i (Send 0 0)) number left none may (subst (λ ys. NumbersOn w c xs ys number left) (cut xs i l) h)

pub more_next : (w : Wave) (c : State) (xs : List Event) (i left : ℕ) → i < length xs → 0 < left → IsAllowed w c (get_or xs i (Send 0 0)) → HasMore w c (drop i xs) left → HasMore w c (drop (i + 1) xs) (left - 1)
more_next w c xs i left l some may h = more_one w c (drop (i + 1) xs) (get_or xs i (Send 0 0)) left some may (subst (λ ys. HasMore w c ys left) (cut xs i l) h)

pub more_past : (w : Wave) (c : State) (xs : List Event) (i left : ℕ) → i < length xs → ¬ IsAllowed w c (get_or xs i (Send 0 0)) → HasMore w c (drop i xs) left → HasMore w c (drop (i + 1) xs) left
more_past w c xs i left l bar h = more_skip w c (drop (i + 1) xs) (get_or xs i (Send 0 0)) left bar (subst (λ ys. HasMore w c ys left) (cut xs i l) h)

pub more_all : (w : Wave) (c : State) (xs : List Event) (i left : ℕ) → length xs ≤ i → HasMore w c (drop i xs) left → ⊥
more_all w c xs i left l h = none_more w c left (subst (λ ys. HasMore w c ys left) (drop_all i xs l) h)
