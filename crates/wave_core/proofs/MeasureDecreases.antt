-- Every event makes the measure smaller.
use Rattle.std.proofs.Common.{◌≡◌, ℕ, zero, suc, ◌+◌, ◌-◌, ◌*◌, ◌<◌, ◌≤◌, Bool, true, false, cond, eqb, ◌&&◌, List, [], ◌∷◌, ◌++◌, map, filter, Decides, inl, inr, refl, sym, ap, ◌∙◌, subst, arith, eqb-true, eq-eqb}
use Rattle.std.proofs.lemmas.List.Elements.{filter-append}
use Rattle.req_table.specs.declared.Key.{Key}
use Rattle.req_table.specs.declared.Child.{Child}
use Rattle.req_table.specs.declared.Child.TheVariants.{Done, Ask as AskOf}
use Rattle.req_table.specs.declared.Item.{Item}
use Rattle.req_table.specs.declared.Item.TheVariants.{Ask, End as EndOf}
use Rattle.req_table.specs.Wave.{Wave, IsWave}
use Rattle.req_table.specs.Lanes.{sender_of, ends, asks}
use Rattle.req_table.specs.Settled.{key_of, asked, asked_by, is_owned}
use Rattle.req_table.proofs.Lists.{Has, contains_of, each, Has-append_left, Has-append_right}
use Rattle.req_table.proofs.Items.{asks_has, asks_of, asks_at_has, sent_by_of, fair_ask}
use Rattle.req_table.proofs.Fair.{ends-append}
use Rattle.wave_core.proofs.Fair.{asks-append, fair_ends}
use Rattle.req_table.proofs.Closure.{map-append_lem}
use Rattle.wave_core.specs.declared.Event.{Event}
use Rattle.wave_core.specs.declared.Event.TheVariants.{Send, End, Take, Expand, Advance, Keep}
use Rattle.wave_core.specs.Step.{State, Effect, Applies, IsStep, IsNext, only, at_one, ask_of, split_of}
use Rattle.wave_core.specs.Sound.{IsSoundState, IsDue}
use Rattle.wave_core.specs.Measure.{cost, due_cost, waiting_cost, taken_cost, total, sum_below, lacks, open_keys, measure}
use Rattle.wave_core.proofs.Sums.{total-append, sum_same, sum_le, sum_add, sum_none, sum_at_one, sum_at_pair, sum_filters, sum_one, total_filter_le, total_filter_lt, cost_mono}
use Rattle.wave_core.proofs.Sends.{send_effect, end_effect}
use Rattle.wave_core.proofs.Takes.{take_effect, advance_effect}
use Rattle.wave_core.proofs.Expands.{expand_effect, taken_key}
use Rattle.wave_core.proofs.Keeps.{keep_effect}
use Rattle.wave_core.proofs.Runs.{step_sound}

abbrev pub pairs : ℕ → (ℕ → ℕ → ℕ) → ℕ
pairs n g = sum_below n (λ s. sum_below n (λ k. g s k))

pub pairs_same : (n : ℕ) (g h : ℕ → ℕ → ℕ) → ((s k : ℕ) → s < n → k < n → g s k ≡ h s k) → pairs n g ≡ pairs n h
pairs_same n g h e = sum_same n (λ s. sum_below n (λ k. g s k)) (λ s. sum_below n (λ k. h s k)) (λ s sb. sum_same n (λ k. g s k) (λ k. h s k) (λ k kb. e s k sb kb))

pub pairs_add : (n : ℕ) (g h : ℕ → ℕ → ℕ) → pairs n (λ s k. g s k + h s k) ≡ pairs n g + pairs n h
pairs_add n g h =
    sum_same n (λ s. sum_below n (λ k. g s k + h s k)) (λ s. sum_below n (λ k. g s k) + sum_below n (λ k. h s k)) (λ s sb. sum_add n (λ k. g s k) (λ k. h s k))
    ∙ sum_add n (λ s. sum_below n (λ k. g s k)) (λ s. sum_below n (λ k. h s k))

pub pairs_none : (n : ℕ) → pairs n (λ s k. 0) ≡ 0
pairs_none n = sum_none n (λ s. sum_below n (λ k. 0)) (λ s sb. sum_none n (λ k. 0) (λ k kb. refl))

pub sums_none : (n : ℕ) → sum_below n (λ k. 0) ≡ 0
sums_none n = sum_none n (λ k. 0) (λ k kb. refl)

-- twice the number of Ends
abbrev pub end_cost : Item → ℕ
end_cost (Ask s l x) = 0
end_cost (EndOf s l) = 2

pub total_ends : (xs : List Item) → total end_cost xs ≡ 2 * ends xs
total_ends [] = refl
total_ends (Ask s l x ∷ xs) = let e = total_ends xs in omega (arith, e)
total_ends (EndOf s l ∷ xs) = let e = total_ends xs in omega (arith, e)

pub total_filter_all : {X : Type 0} (f : X → ℕ) (p : X → Bool) (xs : List X) → total f (filter p xs) ≤ total f xs
total_filter_all f p [] = omega arith
total_filter_all f p (x ∷ xs) = let i = total_filter_all f p xs in elim (p x) as (λ b. total f (cond b (x ∷ filter p xs) (filter p xs)) ≤ f x + total f xs) [ true ↦ omega (arith, i) | false ↦ omega (arith, i) ]

pub lacks-append : (same : Key → Key → Bool) (xs ys : List Key) (x : Key) → lacks same (xs ++ ys) x ≡ true → lacks same xs x ≡ true
lacks-append same [] ys x h = refl
lacks-append same (y ∷ xs) ys x h =
    elim (same y x) as (λ b. cond b false (lacks same (xs ++ ys) x) ≡ true → cond b false (lacks same xs x) ≡ true) [ true ↦ λ q. q | false ↦ λ q. lacks-append same xs ys x q ] h

-- what an Ask that was taken says of its key
pub taken_ask : (w : Wave) (roots : List Key) (c : State) (k : ℕ) (x : Key) → IsSoundState w roots c → k < w.workers → Has (asks (c.taken k)) x → w.HasKey x
taken_ask w roots c k x o kb h =
    let (s, l, i) = asks_has (c.taken k) x h in
    let law = o.lane k kb in
    let j = Has-append_left (c.taken k) (c.waiting k) (Ask s l x) i in
    let sb = each (λ i. sender_of i < w.workers) (c.taken k ++ c.waiting k) (Ask s l x) law.senders j in
    let q = subst (λ m. Has m (Ask s l x)) (law.in_order s sb) (sent_by_of s (c.taken k ++ c.waiting k) (Ask s l x) j refl) in
    (fair_ask w.scope 0 (c.sent s k) s l x (o.fair s k sb kb) q).2

pub cost_pos : (m : ℕ) → 0 < m → 3 ≤ cost m
cost_pos zero l = absurd (omega arith)
cost_pos (suc m) l = omega arith

module _ (same : Key → Key → Bool) (same_is : (x y : Key) → Decides (same x y) (x ≡ y)) (w : Wave) (laws : IsWave w) where
  pub lacks_new : (xs : List Key) (x : Key) → (Has xs x → ⊥) → lacks same xs x ≡ true
  lacks_new [] x n = refl
  lacks_new (y ∷ xs) x n =
      elim (same y x) as (λ b. same y x ≡ b → cond b false (lacks same xs x) ≡ true) [ true ↦ λ t. absurd (n (inl ((same_is y x).0 t))) | false ↦ λ t. lacks_new xs x (λ h. n (inr h)) ] refl

  pub lacks_not : (xs : List Key) (x : Key) → Has xs x → lacks same xs x ≡ false
  lacks_not [] x h = absurd h
  lacks_not (y ∷ xs) x (inl e) = ap (λ b. cond b false (lacks same xs x)) ((same_is y x).1 e)
  lacks_not (y ∷ xs) x (inr h) = elim (same y x) as (λ b. cond b false (lacks same xs x) ≡ false) [ true ↦ refl | false ↦ lacks_not xs x h ]

  module _ (roots : List Key) (c d : State) (f : Effect) (a : Applies w c d f) (o : IsSoundState w roots c) (p : IsSoundState w roots d) where
    pub due_delta : pairs w.workers (λ s k. total (due_cost w) (c.due s k)) + pairs w.workers (λ s k. total (due_cost w) (f.due_added s k))
        ≡ pairs w.workers (λ s k. total (due_cost w) (f.due_taken_off s k)) + pairs w.workers (λ s k. total (due_cost w) (d.due s k))
    due_delta =
        sym (pairs_add w.workers (λ s k. total (due_cost w) (c.due s k)) (λ s k. total (due_cost w) (f.due_added s k)))
        ∙ pairs_same w.workers (λ s k. total (due_cost w) (c.due s k) + total (due_cost w) (f.due_added s k)) (λ s k. total (due_cost w) (f.due_taken_off s k) + total (due_cost w) (d.due s k))
        (λ s k sb kb. sym (total-append (due_cost w) (c.due s k) (f.due_added s k)) ∙ ap (total (due_cost w)) (sym (a.due s k sb kb)) ∙ total-append (due_cost w) (f.due_taken_off s k) (d.due s k))
        ∙ pairs_add w.workers (λ s k. total (due_cost w) (f.due_taken_off s k)) (λ s k. total (due_cost w) (d.due s k))

    pub waiting_delta : sum_below w.workers (λ k. total (waiting_cost w) (c.waiting k)) + sum_below w.workers (λ k. total (waiting_cost w) (f.lane_added k))
        ≡ sum_below w.workers (λ k. total (waiting_cost w) (f.lane_taken_off k)) + sum_below w.workers (λ k. total (waiting_cost w) (d.waiting k))
    waiting_delta =
        sym (sum_add w.workers (λ k. total (waiting_cost w) (c.waiting k)) (λ k. total (waiting_cost w) (f.lane_added k)))
        ∙ sum_same w.workers (λ k. total (waiting_cost w) (c.waiting k) + total (waiting_cost w) (f.lane_added k)) (λ k. total (waiting_cost w) (f.lane_taken_off k) + total (waiting_cost w) (d.waiting k))
        (λ k kb. sym (total-append (waiting_cost w) (c.waiting k) (f.lane_added k)) ∙ ap (total (waiting_cost w)) (sym (a.waiting k kb)) ∙ total-append (waiting_cost w) (f.lane_taken_off k) (d.waiting k))
        ∙ sum_add w.workers (λ k. total (waiting_cost w) (f.lane_taken_off k)) (λ k. total (waiting_cost w) (d.waiting k))

    pub ends_delta : pairs w.workers (λ s k. 2 * (w.levels - ends (c.sent s k))) ≡ pairs w.workers (λ s k. 2 * (w.levels - ends (d.sent s k))) + pairs w.workers (λ s k. total end_cost (f.sent_added s k))
    ends_delta =
        pairs_same w.workers (λ s k. 2 * (w.levels - ends (c.sent s k))) (λ s k. 2 * (w.levels - ends (d.sent s k)) + total end_cost (f.sent_added s k))
        (λ s k sb kb.
        (let e = ap ends (a.sent s k sb kb) ∙ ends-append (c.sent s k) (f.sent_added s k) in
        let m = fair_ends w.scope 0 (d.sent s k) (p.fair s k sb kb) (omega arith) in
        let t = total_ends (f.sent_added s k) in omega (arith, e, m, t)))
        ∙ pairs_add w.workers (λ s k. 2 * (w.levels - ends (d.sent s k))) (λ s k. total end_cost (f.sent_added s k))

    pub at_delta : sum_below w.workers (λ k. w.levels - c.at k) ≡ sum_below w.workers (λ k. w.levels - d.at k) + sum_below w.workers f.level_added
    at_delta =
        sum_same w.workers (λ k. w.levels - c.at k) (λ k. (w.levels - d.at k) + f.level_added k) (λ k kb. (let e = a.at k kb in let m = p.limited k kb in omega (arith, e, m)))
        ∙ sum_add w.workers (λ k. w.levels - d.at k) f.level_added

    -- a key that its row does not have after the event it did not have before
    pub lacked : (k : ℕ) (x : Key) → k < w.workers → Has (asks (c.taken k)) x → lacks same (map key_of (d.rows k (w.level x))) x ≡ true → lacks same (map key_of (c.rows k (w.level x))) x ≡ true
    lacked k x kb h t =
        let e = ap (map key_of) (a.rows k (w.level x) kb (laws.bounded x (taken_ask w roots c k x o kb h))) ∙ map-append_lem (c.rows k (w.level x)) (f.rows_added k (w.level x)) in
        lacks-append same (map key_of (c.rows k (w.level x))) (map key_of (f.rows_added k (w.level x))) x (subst (λ l. lacks same l x ≡ true) e t)

    pub open_split : (k : ℕ) → k < w.workers
        → open_keys same w d k ≡ filter (λ x. lacks same (map key_of (d.rows k (w.level x))) x) (asks (c.taken k)) ++ filter (λ x. lacks same (map key_of (d.rows k (w.level x))) x) (asks (f.taken_added k))
    open_split k kb =
        ap (λ l. filter (λ x. lacks same (map key_of (d.rows k (w.level x))) x) (asks l)) (a.taken k kb)
        ∙ ap (filter (λ x. lacks same (map key_of (d.rows k (w.level x))) x)) (asks-append (c.taken k) (f.taken_added k))
        ∙ filter-append (λ x. lacks same (map key_of (d.rows k (w.level x))) x) (asks (c.taken k)) (asks (f.taken_added k))

    pub open_le : (k : ℕ) → k < w.workers → total (taken_cost w) (open_keys same w d k) ≤ total (taken_cost w) (open_keys same w c k) + total (taken_cost w) (asks (f.taken_added k))
    open_le k kb =
        let q = λ (x : Key). lacks same (map key_of (d.rows k (w.level x))) x in
        let e = ap (total (taken_cost w)) (open_split k kb) ∙ total-append (taken_cost w) (filter q (asks (c.taken k))) (filter q (asks (f.taken_added k))) in
        let old = total_filter_le (taken_cost w) (λ x. lacks same (map key_of (c.rows k (w.level x))) x) q (asks (c.taken k)) (λ x h t. lacked k x kb h t) in
        let new = total_filter_all (taken_cost w) q (asks (f.taken_added k)) in
        omega (arith, e, old, new)

    pub opens_le : sum_below w.workers (λ k. total (taken_cost w) (open_keys same w d k)) ≤ sum_below w.workers (λ k. total (taken_cost w) (open_keys same w c k)) + sum_below w.workers (λ k. total (taken_cost w) (asks (f.taken_added k)))
    opens_le = subst (λ m. sum_below w.workers (λ k. total (taken_cost w) (open_keys same w d k)) ≤ m)
        (sum_add w.workers (λ k. total (taken_cost w) (open_keys same w c k)) (λ k. total (taken_cost w) (asks (f.taken_added k))))
        (sum_le w.workers (λ k. total (taken_cost w) (open_keys same w d k)) (λ k. total (taken_cost w) (open_keys same w c k) + total (taken_cost w) (asks (f.taken_added k))) open_le)

  pub due_pos : (x : Key) → w.HasKey x → 3 ≤ due_cost w x
  due_pos x h = let l = laws.bounded x h in cost_pos (w.levels - w.level x) (omega (arith, l))

  pub send_falls : (roots : List Key) (c d : State) (by to : ℕ) (x : Key) (rest : List Key) → by < w.workers → to < w.workers → c.due by to ≡ x ∷ rest
      → Applies w c d (send_effect w by to x) → IsSoundState w roots c → IsSoundState w roots d → measure same w d < measure same w c
  send_falls roots c d by to x rest bb tb due a o p =
      let f = send_effect w by to x in
      let held = (each (IsDue w (ends (c.sent by to)) (c.at by)) (c.due by to) x (o.dues by to bb tb) (subst (λ l. Has l x) (sym due) (inl refl))).held in
      let pos = due_pos x held in
      let on_due = due_delta roots c d f a o p in
      let z1 = pairs_none w.workers in
      let p1 = sum_at_pair (due_cost w) w.workers by to x bb tb in
      let on_waiting = waiting_delta roots c d f a o p in
      let z2 = sums_none w.workers in
      let l2 = sum_at_one (waiting_cost w) w.workers to (ask_of w by x) tb in
      let on_open = opens_le roots c d f a o p in
      let on_ends = ends_delta roots c d f a o p in
      let e4 = sum_at_pair end_cost w.workers by to (ask_of w by x) bb tb in
      let on_at = at_delta roots c d f a o p in
      omega (arith, pos, on_due, z1, p1, on_waiting, z2, l2, on_open, on_ends, e4, on_at)

  pub end_falls : (roots : List Key) (c d : State) (by to e : ℕ) → by < w.workers → to < w.workers
      → Applies w c d (end_effect by to e) → IsSoundState w roots c → IsSoundState w roots d → measure same w d < measure same w c
  end_falls roots c d by to e bb tb a o p =
      let f = end_effect by to e in
      let on_due = due_delta roots c d f a o p in
      let z1 = pairs_none w.workers in
      let on_waiting = waiting_delta roots c d f a o p in
      let z2 = sums_none w.workers in
      let l2 = sum_at_one (waiting_cost w) w.workers to (EndOf by e) tb in
      let on_open = opens_le roots c d f a o p in
      let on_ends = ends_delta roots c d f a o p in
      let e4 = sum_at_pair end_cost w.workers by to (EndOf by e) bb tb in
      let on_at = at_delta roots c d f a o p in
      omega (arith, on_due, z1, on_waiting, z2, l2, on_open, on_ends, e4, on_at)

  pub asks_cost : (b : Bool) (i : Item) → total (taken_cost w) (asks (only b i)) ≡ cond b (total (taken_cost w) (asks (i ∷ []))) 0
  asks_cost true i = refl
  asks_cost false i = refl

  pub front_cost : (roots : List Key) (c : State) (by : ℕ) (i : Item) (rest : List Item) → IsSoundState w roots c → by < w.workers → c.waiting by ≡ i ∷ rest → total (taken_cost w) (asks (i ∷ [])) + 1 ≤ waiting_cost w i
  front_cost roots c by (EndOf s l) rest o bb e = omega arith
  front_cost roots c by (Ask s l x) rest o bb e =
      let law = o.lane by bb in
      let j = Has-append_right (c.taken by) (c.waiting by) (Ask s l x) (subst (λ m. Has m (Ask s l x)) (sym e) (inl refl)) in
      let sb = each (λ i. sender_of i < w.workers) (c.taken by ++ c.waiting by) (Ask s l x) law.senders j in
      let q = subst (λ m. Has m (Ask s l x)) (law.in_order s sb) (sent_by_of s (c.taken by ++ c.waiting by) (Ask s l x) j refl) in
      let pos = due_pos x (fair_ask w.scope 0 (c.sent s by) s l x (o.fair s by sb bb) q).2 in
      omega (arith, pos)

  pub take_falls : (roots : List Key) (c d : State) (by : ℕ) (i : Item) (rest : List Item) → by < w.workers → c.waiting by ≡ i ∷ rest
      → Applies w c d (take_effect by i) → IsSoundState w roots c → IsSoundState w roots d → measure same w d < measure same w c
  take_falls roots c d by i rest bb front a o p =
      let f = take_effect by i in
      let on_due = due_delta roots c d f a o p in
      let z1 = pairs_none w.workers in
      let on_waiting = waiting_delta roots c d f a o p in
      let z2 = sums_none w.workers in
      let l2 = sum_at_one (waiting_cost w) w.workers by i bb in
      let on_open = opens_le roots c d f a o p in
      let got = sum_one w.workers by (total (taken_cost w) (asks (i ∷ []))) (λ k. total (taken_cost w) (asks (at_one by i k))) bb
      (asks_cost (eqb by by) i ∙ ap (λ b. cond b (total (taken_cost w) (asks (i ∷ []))) 0) (eq-eqb by by refl))
      (λ k q. asks_cost (eqb k by) i ∙ elim (eqb k by) as (λ b. eqb k by ≡ b → cond b (total (taken_cost w) (asks (i ∷ []))) 0 ≡ 0) [ true ↦ λ t. absurd (q (eqb-true k by t)) | false ↦ λ t. refl ] refl) in
      let pos = front_cost roots c by i rest o bb front in
      let on_ends = ends_delta roots c d f a o p in
      let on_at = at_delta roots c d f a o p in
      omega (arith, pos, on_due, z1, on_waiting, z2, l2, on_open, got, on_ends, on_at)

  pub advance_falls : (roots : List Key) (c d : State) (by : ℕ) → by < w.workers
      → Applies w c d (advance_effect by) → IsSoundState w roots c → IsSoundState w roots d → measure same w d < measure same w c
  advance_falls roots c d by bb a o p =
      let f = advance_effect by in
      let on_due = due_delta roots c d f a o p in
      let z1 = pairs_none w.workers in
      let on_waiting = waiting_delta roots c d f a o p in
      let z2 = sums_none w.workers in
      let on_open = opens_le roots c d f a o p in
      let on_ends = ends_delta roots c d f a o p in
      let on_at = at_delta roots c d f a o p in
      let e5 = sum_one w.workers by 1 (λ k. cond (eqb k by) 1 0) bb (ap (λ b. cond b 1 0) (eq-eqb by by refl))
      (λ k q. elim (eqb k by) as (λ b. eqb k by ≡ b → ◌≡◌ {A = ℕ} (cond b 1 0) 0) [ true ↦ λ t. absurd (q (eqb-true k by t)) | false ↦ λ t. refl ] refl) in
      omega (arith, on_due, z1, on_waiting, z2, on_open, on_ends, on_at, e5)

  pub keep_falls : (roots : List Key) (c d : State) (by : ℕ) (x : Key) (rest : List Key) → by < w.workers → c.due by by ≡ x ∷ rest
      → Applies w c d (keep_effect w by x) → IsSoundState w roots c → IsSoundState w roots d → measure same w d < measure same w c
  keep_falls roots c d by x rest bb due a o p =
      let f = keep_effect w by x in
      let i = ask_of w by x in
      let held = (each (IsDue w (ends (c.sent by by)) (c.at by)) (c.due by by) x (o.dues by by bb bb) (subst (λ l. Has l x) (sym due) (inl refl))).held in
      let pos = due_pos x held in
      let on_due = due_delta roots c d f a o p in
      let z1 = pairs_none w.workers in
      let p1 = sum_at_pair (due_cost w) w.workers by by x bb bb in
      let on_waiting = waiting_delta roots c d f a o p in
      let z2 = sums_none w.workers in
      let on_open = opens_le roots c d f a o p in
      let got = sum_one w.workers by (taken_cost w x + 0) (λ k. total (taken_cost w) (asks (at_one by i k))) bb
      (asks_cost (eqb by by) i ∙ ap (λ b. cond b (taken_cost w x + 0) 0) (eq-eqb by by refl))
      (λ k q. asks_cost (eqb k by) i ∙ elim (eqb k by) as (λ b. eqb k by ≡ b → cond b (taken_cost w x + 0) 0 ≡ 0) [ true ↦ λ t. absurd (q (eqb-true k by t)) | false ↦ λ t. refl ] refl) in
      let on_ends = ends_delta roots c d f a o p in
      let e4 = sum_at_pair end_cost w.workers by by i bb bb in
      let on_at = at_delta roots c d f a o p in
      omega (arith, pos, on_due, z1, p1, on_waiting, z2, on_open, got, on_ends, e4, on_at)

  -- the children of a key together cost less than the key did
  pub child_cost : (x y : Key) (b : Bool) (l : ℕ) (m : Bool) → w.HasKey x → w.child x b ≡ AskOf l y m → 2 * due_cost w y + 3 ≤ due_cost w x
  child_cost x y b l m h e =
      let less = laws.deeper x y b l m h e in
      let lx = laws.bounded x h in
      let mono = cost_mono (suc (w.levels - w.level y)) (w.levels - w.level x) (omega (arith, less, lx)) in
      omega (arith, mono)

  pub asked_cost : (x : Key) (b : Bool) (ch : Child) → w.HasKey x → w.child x b ≡ ch → 2 * total (due_cost w) (asked ch) + 3 ≤ due_cost w x
  asked_cost x b (Done r) h e = let q = due_pos x h in omega (arith, q)
  asked_cost x b (AskOf l y m) h e = let q = child_cost x y b l m h e in omega (arith, q)

  pub children_cost : (x : Key) → w.HasKey x → total (due_cost w) (asked_by (split_of w x ∷ [])) + 3 ≤ due_cost w x
  children_cost x h =
      let a = asked_cost x false (w.child x false) h refl in
      let b = asked_cost x true (w.child x true) h refl in
      let e = total-append (due_cost w) (asked (w.child x false) ++ asked (w.child x true)) [] in
      let g = total-append (due_cost w) (asked (w.child x false)) (asked (w.child x true)) in
      omega (arith, a, b, e, g)

  pub expand_falls : (roots : List Key) (c d : State) (by : ℕ) (x : Key) → by < w.workers → c.at by < w.levels → IsNext w c by x
      → Applies w c d (expand_effect w by (c.at by) x) → IsSoundState w roots c → IsSoundState w roots d → measure same w d < measure same w c
  expand_falls roots c d by x bb vb next a o p =
      let v0 = c.at by in
      let f = expand_effect w by v0 x in
      let row = map key_of (c.rows by v0) in
      let there = subst (λ l. Has l x) (sym next.asks_split) (Has-append_right next.before (x ∷ next.after) x (inl refl)) in
      let (v-is, held) = taken_key w roots c by v0 x o bb there in
      let (s, i) = asks_at_has v0 (c.taken by) x there in
      let among = asks_of (c.taken by) s v0 x i in
      let on_due = due_delta roots c d f a o p in
      let z1 = pairs_none w.workers in
      let all = asked_by (split_of w x ∷ []) in
      let asked_in_all = sum_one w.workers by (total (due_cost w) all) (λ s. sum_below w.workers (λ k. total (due_cost w) (cond (eqb s by) (filter (is_owned w k) all) []))) bb
      (sum_same w.workers (λ k. total (due_cost w) (cond (eqb by by) (filter (is_owned w k) all) [])) (λ k. total (due_cost w) (filter (is_owned w k) all)) (λ k kb. ap (λ b. total (due_cost w) (cond b (filter (is_owned w k) all) [])) (eq-eqb by by refl))
      ∙ sum_filters (due_cost w) w.owner w.workers all laws.owned)
      (λ s q. sum_none w.workers (λ k. total (due_cost w) (cond (eqb s by) (filter (is_owned w k) all) [])) (λ k kb.
      elim (eqb s by) as (λ b. eqb s by ≡ b → total (due_cost w) (cond b (filter (is_owned w k) all) []) ≡ 0) [ true ↦ λ t. absurd (q (eqb-true s by t)) | false ↦ λ t. refl ] refl)) in
      let paid = children_cost x held in
      let on_waiting = waiting_delta roots c d f a o p in
      let z2 = sums_none w.workers in
      -- the row of x has it now
      let old-lacks : lacks same (map key_of (c.rows by (w.level x))) x ≡ true = subst (λ n. lacks same (map key_of (c.rows by n)) x ≡ true) v-is (lacks_new row x (λ h. next.new (contains_of row x h))) in
      let on : only (eqb by by && eqb v0 v0) (split_of w x) ≡ split_of w x ∷ [] = ap (λ b. only (b && eqb v0 v0) (split_of w x)) (eq-eqb by by refl) ∙ ap (λ b. only (true && b) (split_of w x)) (eq-eqb v0 v0 refl) in
      let row-new : map key_of (d.rows by v0) ≡ row ++ x ∷ [] = ap (map key_of) (a.rows by v0 bb vb ∙ ap (λ l. c.rows by v0 ++ l) on) ∙ map-append_lem (c.rows by v0) (split_of w x ∷ []) in
      let new-lacks : lacks same (map key_of (d.rows by (w.level x))) x ≡ false =
      subst (λ n. lacks same (map key_of (d.rows by n)) x ≡ false) v-is (ap (λ l. lacks same l x) row-new ∙ lacks_not (row ++ x ∷ []) x (Has-append_right row (x ∷ []) x (inl refl))) in
      let here : total (taken_cost w) (open_keys same w d by) + taken_cost w x ≤ total (taken_cost w) (open_keys same w c by) =
      (let q = λ (y : Key). lacks same (map key_of (d.rows by (w.level y))) y in
      let e = ap (total (taken_cost w)) (open_split roots c d f a o p by bb) ∙ total-append (taken_cost w) (filter q (asks (c.taken by))) [] in
      let m = total_filter_lt (taken_cost w) (λ y. lacks same (map key_of (c.rows by (w.level y))) y) q (asks (c.taken by)) x (λ y h t. lacked roots c d f a o p by y bb h t) among old-lacks new-lacks in
      omega (arith, e, m)) in
      let g = λ (k : ℕ). cond (eqb k by) (taken_cost w x) 0 in
      let on_open : sum_below w.workers (λ k. total (taken_cost w) (open_keys same w d k)) + taken_cost w x ≤ sum_below w.workers (λ k. total (taken_cost w) (open_keys same w c k)) =
      (let sum = sum_add w.workers (λ k. total (taken_cost w) (open_keys same w d k)) g in
      let one = sum_one w.workers by (taken_cost w x) g bb (ap (λ b. cond b (taken_cost w x) 0) (eq-eqb by by refl))
      (λ k q. elim (eqb k by) as (λ b. eqb k by ≡ b → cond b (taken_cost w x) 0 ≡ 0) [ true ↦ λ t. absurd (q (eqb-true k by t)) | false ↦ λ t. refl ] refl) in
      let le = sum_le w.workers (λ k. total (taken_cost w) (open_keys same w d k) + g k) (λ k. total (taken_cost w) (open_keys same w c k)) (λ k kb.
      (let m = open_le roots c d f a o p k kb in
      elim (eqb k by) as (λ b. eqb k by ≡ b → total (taken_cost w) (open_keys same w d k) + cond b (taken_cost w x) 0 ≤ total (taken_cost w) (open_keys same w c k)) [
        | true ↦ λ t. subst (λ n. total (taken_cost w) (open_keys same w d n) + taken_cost w x ≤ total (taken_cost w) (open_keys same w c n)) (sym (eqb-true k by t)) here
        | false ↦ λ t. omega (arith, m)
      ] refl)) in
      omega (arith, sum, one, le)) in
      let on_ends = ends_delta roots c d f a o p in
      let on_at = at_delta roots c d f a o p in
      omega (arith, on_due, asked_in_all, paid, on_waiting, z2, z1, on_open, on_ends, on_at)

  pub step_falls : (roots : List Key) (c d : State) (e : Event) → IsSoundState w roots c → IsStep w c e d → measure same w d < measure same w c
  step_falls roots c d (Send by to) o h = send_falls roots c d by to h.2 h.3 h.0 h.1 h.4 h.5 o (step_sound w laws roots c d (Send by to) h o)
  step_falls roots c d (End by to) o h = end_falls roots c d by to (ends (c.sent by to)) h.0 h.1 h.5 o (step_sound w laws roots c d (End by to) h o)
  step_falls roots c d (Take by) o h = take_falls roots c d by h.1 h.2 h.0 h.3 h.4 o (step_sound w laws roots c d (Take by) h o)
  step_falls roots c d (Expand by) o h = expand_falls roots c d by h.1 h.0.0 h.0.1 h.2 h.3 o (step_sound w laws roots c d (Expand by) h o)
  step_falls roots c d (Advance by) o h = advance_falls roots c d by h.0.0 h.3 o (step_sound w laws roots c d (Advance by) h o)
  step_falls roots c d (Keep by) o h = keep_falls roots c d by h.1 h.2 h.0 h.3 h.5 o (step_sound w laws roots c d (Keep by) h o)
