-- How many events a core has done: none at the start, and one more with each step.
use Rattle.std.proofs.Common.{◌≡◌, ℕ, zero, suc, ◌+◌, ◌*◌, ◌<◌, ◌≤◌, Bool, true, false, cond, eqb, ◌&&◌, List, [], ◌∷◌, ◌++◌, length, sum, get_or, refl, sym, ap, ◌∙◌, arith, length-append, eqb-true, eq-eqb}
use Rattle.std.specs.List.{sum_by}
use Rattle.std.proofs.lemmas.List.Sums.{sum_by-cons}
use Rattle.req_table.specs.declared.Key.{Key}
use Rattle.req_table.specs.declared.Item.TheVariants.{End as EndOf}
use Rattle.req_table.specs.Wave.{Wave}
use Rattle.req_table.specs.Lanes.{ends}
use Rattle.dd_store.specs.Nodes.{Nodes}
use Rattle.wave_core.specs.declared.Event.{Event}
use Rattle.wave_core.specs.declared.Event.TheVariants.{Send, End, Take, Expand, Advance, Keep}
use Rattle.wave_core.specs.Measure.{total, sum_below}
use Rattle.wave_core.specs.Step.{State, Effect, Applies, IsStart, IsStep, at_one, at_pair, only, ask_of, split_of}
use Rattle.wave_core.specs.MachineView.{MachineView, IsShaped, IsConsistent, state_of, wave_of_view, done_of}
use Rattle.wave_core.specs.Counting.{sum_over, noted}
use Rattle.wave_core.proofs.Sums.{sum_same, sum_add, sum_none, sum_one, sum_at_one, sum_at_pair}

-- ---- lists by place
sum_front : (n : ℕ) (f : ℕ → ℕ) → sum_below (suc n) f ≡ f 0 + sum_below n (λ k. f (suc k))
sum_front zero f = omega arith
sum_front (suc n) f = let i = sum_front n f in omega (arith, i)

sum_split : (a b : ℕ) (f : ℕ → ℕ) → sum_below (a + b) f ≡ sum_below a f + sum_below b (λ k. f (a + k))
sum_split a zero f = let e : a + 0 ≡ a = omega arith in ap (λ n. sum_below n f) e ∙ omega arith
sum_split a (suc b) f = let i = sum_split a b f in let e : a + suc b ≡ suc (a + b) = omega arith in ap (λ n. sum_below n f) e ∙ omega (arith, i)

sum_blocks : (n m : ℕ) (f : ℕ → ℕ) → sum_below (n * m) f ≡ sum_over n m (λ s k. f (s * m + k))
sum_blocks zero m f = let e : 0 * m ≡ 0 = omega arith in ap (λ k. sum_below k f) e
sum_blocks (suc n) m f = let i = sum_blocks n m f in let e : suc n * m ≡ n * m + m = omega arith in ap (λ k. sum_below k f) e ∙ sum_split (n * m) m f ∙ omega (arith, i)

pub sum_list : {X : Type 0} (g : X → ℕ) (d : X) (xs : List X) → sum_by g xs ≡ sum_below (length xs) (λ k. g (get_or xs k d))
sum_list g d [] = refl
sum_list g d (x ∷ xs) = sum_by-cons g x xs ∙ ap (λ n. g x + n) (sum_list g d xs) ∙ sym (sum_front (length xs) (λ k. g (get_or (x ∷ xs) k d)))

pub sum_numbers : (xs : List ℕ) → sum xs ≡ sum_below (length xs) (λ k. get_or xs k 0)
sum_numbers xs = sum_list (λ x. x) 0 xs

-- a list of n times m lists, by place
pub sum_grid : {X : Type 0} (n m : ℕ) (xss : List (List X)) → length xss ≡ n * m → sum_by length xss ≡ sum_over n m (λ s k. length (get_or xss (s * m + k) []))
sum_grid n m xss long = sum_list length [] xss ∙ ap (λ l. sum_below l (λ k. length (get_or xss k []))) long ∙ sum_blocks n m (λ k. length (get_or xss k []))

pub sum_line : {X : Type 0} (n : ℕ) (xss : List (List X)) → length xss ≡ n → sum_by length xss ≡ sum_below n (λ k. length (get_or xss k []))
sum_line n xss long = sum_list length [] xss ∙ ap (λ l. sum_below l (λ k. length (get_or xss k []))) long

pub sum_of_numbers : (n : ℕ) (xs : List ℕ) → length xs ≡ n → sum xs ≡ sum_below n (λ k. get_or xs k 0)
sum_of_numbers n xs long = sum_numbers xs ∙ ap (λ l. sum_below l (λ k. get_or xs k 0)) long

-- the sum of the sizes of a machine's lists
pub counted : (v : MachineView) → IsShaped v → sum_by length v.sent + sum_by length v.taken + (sum_by length v.rows + sum v.at) ≡ noted v.workers v.levels (state_of v)
counted v h =
    let a = sum_grid v.workers v.workers v.sent h.sent in
    let b = sum_line v.workers v.taken h.taken in
    let r = sum_grid v.workers v.levels v.rows h.rows in
    let t = sum_of_numbers v.workers v.at h.at in
    omega (arith, a, b, r, t)

-- ---- what an event adds
long_total : {X : Type 0} (xs : List X) → length xs ≡ total (λ (x : X). 1) xs
long_total [] = refl
long_total (x ∷ xs) = let i = long_total xs in omega (arith, i)

over_same : (n m : ℕ) (f g : ℕ → ℕ → ℕ) → ((s k : ℕ) → s < n → k < m → f s k ≡ g s k) → sum_over n m f ≡ sum_over n m g
over_same n m f g h = sum_same n (λ s. sum_below m (f s)) (λ s. sum_below m (g s)) (λ s sb. sum_same m (f s) (g s) (λ k kb. h s k sb kb))

over_add : (n m : ℕ) (f g : ℕ → ℕ → ℕ) → sum_over n m (λ s k. f s k + g s k) ≡ sum_over n m f + sum_over n m g
over_add n m f g = sum_same n (λ s. sum_below m (λ k. f s k + g s k)) (λ s. sum_below m (f s) + sum_below m (g s)) (λ s sb. sum_add m (f s) (g s)) ∙ sum_add n (λ s. sum_below m (f s)) (λ s. sum_below m (g s))

over_none : (n m : ℕ) (f : ℕ → ℕ → ℕ) → ((s k : ℕ) → s < n → k < m → f s k ≡ 0) → sum_over n m f ≡ 0
over_none n m f h = sum_none n (λ s. sum_below m (f s)) (λ s sb. sum_none m (f s) (λ k kb. h s k sb kb))

-- lists that grow by others
over_grown : {X : Type 0} (n m : ℕ) (f g p : ℕ → ℕ → List X) → ((s k : ℕ) → s < n → k < m → g s k ≡ f s k ++ p s k)
    → sum_over n m (λ s k. length (g s k)) ≡ sum_over n m (λ s k. length (f s k)) + sum_over n m (λ s k. length (p s k))
over_grown n m f g p h =
    over_same n m (λ s k. length (g s k)) (λ s k. length (f s k) + length (p s k)) (λ s k sb kb. ap length (h s k sb kb) ∙ length-append (f s k) (p s k))
    ∙ over_add n m (λ s k. length (f s k)) (λ s k. length (p s k))

grown : {X : Type 0} (n : ℕ) (f g p : ℕ → List X) → ((k : ℕ) → k < n → g k ≡ f k ++ p k)
    → sum_below n (λ k. length (g k)) ≡ sum_below n (λ k. length (f k)) + sum_below n (λ k. length (p k))
grown n f g p h =
    sum_same n (λ k. length (g k)) (λ k. length (f k) + length (p k)) (λ k kb. ap length (h k kb) ∙ length-append (f k) (p k))
    ∙ sum_add n (λ k. length (f k)) (λ k. length (p k))

abbrev added : ℕ → ℕ → Effect → ℕ
added n m f =
    sum_over n n (λ s k. length (f.sent_added s k)) + sum_below n (λ k. length (f.taken_added k))
    + sum_over n m (λ k v. length (f.rows_added k v)) + sum_below n f.level_added

applied : (w : Wave) (c d : State) (f : Effect) → Applies w c d f → noted w.workers w.levels d ≡ noted w.workers w.levels c + added w.workers w.levels f
applied w c d f h =
    let a = over_grown w.workers w.workers c.sent d.sent f.sent_added h.sent in
    let b = grown w.workers c.taken d.taken f.taken_added h.taken in
    let r = over_grown w.workers w.levels c.rows d.rows f.rows_added h.rows in
    let t = sum_same w.workers d.at (λ k. c.at k + f.level_added k) h.at ∙ sum_add w.workers c.at f.level_added in
    omega (arith, a, b, r, t)

-- ---- one item, of a pair or of a worker
one_at_pair : {X : Type 0} (n by to : ℕ) (x : X) → by < n → to < n → sum_over n n (λ s k. length (at_pair by to x s k)) ≡ 1
one_at_pair n by to x l m = over_same n n (λ s k. length (at_pair by to x s k)) (λ s k. total (λ y. 1) (at_pair by to x s k)) (λ s k sb kb. long_total (at_pair by to x s k)) ∙ sum_at_pair (λ y. 1) n by to x l m

one_at_one : {X : Type 0} (n by : ℕ) (x : X) → by < n → sum_below n (λ k. length (at_one by x k)) ≡ 1
one_at_one n by x l = sum_same n (λ k. length (at_one by x k)) (λ k. total (λ y. 1) (at_one by x k)) (λ k kb. long_total (at_one by x k)) ∙ sum_at_one (λ y. 1) n by x l

-- a record, at the place of its worker and level
one_at_place : {X : Type 0} (n m by l : ℕ) (x : X) → by < n → l < m → sum_over n m (λ k v. length (at_pair by l x k v)) ≡ 1
one_at_place n m by l x bb lb =
    over_same n m (λ k v. length (at_pair by l x k v)) (λ k v. total (λ y. 1) (at_pair by l x k v)) (λ k v kb vb. long_total (at_pair by l x k v))
    ∙ sum_one n by 1 (λ k. sum_below m (λ v. total (λ y. 1) (at_pair by l x k v))) bb
    (sum_same m (λ v. total (λ y. 1) (at_pair by l x by v)) (λ v. total (λ y. 1) (at_one l x v)) (λ v vb. ap (λ b. total (λ y. 1) (only (b && eqb v l) x)) (eq-eqb by by refl)) ∙ sum_at_one (λ y. 1) m l x lb)
    (λ k q. sum_none m (λ v. total (λ y. 1) (at_pair by l x k v)) (λ v vb.
    elim (eqb k by) as (λ b. eqb k by ≡ b → total (λ y. 1) (only (b && eqb v l) x) ≡ 0) [ true ↦ λ t. absurd (q (eqb-true k by t)) | false ↦ λ t. refl ] refl))

abbrev bit : Bool → ℕ
bit b = cond b 1 0

-- a level that one worker passes
one_risen : (n by : ℕ) → by < n → sum_below n (λ k. cond (eqb k by) 1 0) ≡ 1
one_risen n by bb = sum_one n by 1 (λ k. bit (eqb k by)) bb (ap bit (eq-eqb by by refl))
    (λ k q. elim (eqb k by) as (λ b. eqb k by ≡ b → bit b ≡ 0) [ true ↦ λ t. absurd (q (eqb-true k by t)) | false ↦ λ t. refl ] refl)

-- ---- the start, and each step
pub starts_at_none : (w : Wave) (roots : List Key) (c : State) → IsStart w roots c → noted w.workers w.levels c ≡ 0
starts_at_none w roots c h =
    let a = over_none w.workers w.workers (λ s k. length (c.sent s k)) (λ s k sb kb. ap length (h.sent s k sb kb)) in
    let b = sum_none w.workers (λ k. length (c.taken k)) (λ k kb. ap length (h.taken k kb)) in
    let r = over_none w.workers w.levels (λ k v. length (c.rows k v)) (λ k v kb vb. ap length (h.rows k v kb vb)) in
    let t = sum_none w.workers c.at h.at in
    omega (arith, a, b, r, t)

-- how many requests an event keeps
abbrev pub kept_by : Event → ℕ
kept_by (Send by to) = 0
kept_by (End by to) = 0
kept_by (Take by) = 0
kept_by (Expand by) = 0
kept_by (Advance by) = 0
kept_by (Keep by) = 1

pub counts_step : (w : Wave) (c d : State) (e : Event) → IsStep w c e d → noted w.workers w.levels d ≡ noted w.workers w.levels c + 1 + kept_by e
counts_step w c d (Send by to) (bb, tb, x, rest, here, h) =
    let a = applied w c d _ h in
    let s = one_at_pair w.workers by to (ask_of w by x) bb tb in
    let g = sum_none w.workers (λ k. 0) (λ k kb. refl) in
    let r = over_none w.workers w.levels (λ k v. 0) (λ k v kb vb. refl) in
    omega (arith, a, s, g, r)
counts_step w c d (End by to) (bb, tb, none, level, more, h) =
    let a = applied w c d _ h in
    let s = one_at_pair w.workers by to (EndOf by (ends (c.sent by to))) bb tb in
    let g = sum_none w.workers (λ k. 0) (λ k kb. refl) in
    let r = over_none w.workers w.levels (λ k v. 0) (λ k v kb vb. refl) in
    omega (arith, a, s, g, r)
counts_step w c d (Take by) (bb, i, rest, here, h) =
    let a = applied w c d _ h in
    let s = one_at_one w.workers by i bb in
    let g = sum_none w.workers (λ k. 0) (λ k kb. refl) in
    let p = over_none w.workers w.workers (λ s k. 0) (λ s k sb kb. refl) in
    let r = over_none w.workers w.levels (λ k v. 0) (λ k v kb vb. refl) in
    omega (arith, a, s, g, p, r)
counts_step w c d (Expand by) (work, x, next, h) =
    let a = applied w c d _ h in
    let s = one_at_place w.workers w.levels by (c.at by) (split_of w x) work.0 work.1 in
    let g = sum_none w.workers (λ k. 0) (λ k kb. refl) in
    let p = over_none w.workers w.workers (λ s k. 0) (λ s k sb kb. refl) in
    omega (arith, a, s, g, p)
counts_step w c d (Advance by) (work, done, paid, h) =
    let a = applied w c d _ h in
    let s = one_risen w.workers by work.0 in
    let g = sum_none w.workers (λ k. 0) (λ k kb. refl) in
    let p = over_none w.workers w.workers (λ s k. 0) (λ s k sb kb. refl) in
    let r = over_none w.workers w.levels (λ k v. 0) (λ k v kb vb. refl) in
    omega (arith, a, s, g, p, r)
counts_step w c d (Keep by) (bb, x, rest, here, all, h) =
    let a = applied w c d _ h in
    let s = one_at_pair w.workers by by (ask_of w by x) bb bb in
    let g = one_at_one w.workers by (ask_of w by x) bb in
    let z = sum_none w.workers (λ k. 0) (λ k kb. refl) in
    let r = over_none w.workers w.levels (λ k v. 0) (λ k v kb vb. refl) in
    omega (arith, a, s, g, z, r)

-- a machine has sent at least what was kept, so one more event is counted
pub counts_one : (S : Nodes) (v u : MachineView) (e : Event) → IsConsistent v → (u.workers ≡ v.workers) × (u.levels ≡ v.levels) → IsStep (wave_of_view S v) (state_of v) e (state_of u) → u.kept ≡ v.kept + kept_by e → done_of u ≡ done_of v + 1
counts_one S v u e h same s kept =
    let a = counts_step (wave_of_view S v) (state_of v) (state_of u) e s in
    let n : noted u.workers u.levels (state_of u) ≡ noted v.workers v.levels (state_of u) = (λ i. noted (same.0 i) (same.1 i) (state_of u)) in
    let few = h.kept in
    omega (arith, a, n, few, kept)

-- the sizes of lists that grow are as before, and one more if one of them grew
pub more_of : {X : Type 0} (n m a : ℕ) (f g p : ℕ → ℕ → List X) → ((s k : ℕ) → s < n → k < m → g s k ≡ f s k ++ p s k) → a ≤ sum_over n m (λ s k. length (f s k)) → a ≤ sum_over n m (λ s k. length (g s k))
more_of n m a f g p h l = let e = over_grown n m f g p h in omega (arith, e, l)

pub one_more_of : {X : Type 0} (n a by to : ℕ) (x : X) (f g : ℕ → ℕ → List X) → by < n → to < n → ((s k : ℕ) → s < n → k < n → g s k ≡ f s k ++ at_pair by to x s k) → a ≤ sum_over n n (λ s k. length (f s k)) → a + 1 ≤ sum_over n n (λ s k. length (g s k))
one_more_of n a by to x f g bb tb h l = let e = over_grown n n f g (at_pair by to x) h in let o = one_at_pair n by to x bb tb in omega (arith, e, o, l)
