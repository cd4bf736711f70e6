-- Children by their places: what a worker asks of another one next is at the next place that the other has noted.
use Rattle.std.proofs.Common.{◌≡◌, ℕ, zero, suc, ◌+◌, ◌-◌, ◌*◌, ◌^◌, ◌<◌, ◌≤◌, Bool, true, false, cond, List, [], ◌∷◌, ◌++◌, length, map, filter, take, drop, get_or, set, slice_get, Some, Contains, All, refl, sym, ap, ◌∙◌, subst, arith, append_assoc, append-nil, eq-eqb, ne_eqb, get_or-set_same, get_or-set_other, length-append}
use denote.Ref.{Bor}
use Rattle.std.specs.Prelude.{AllPairs}
use Rattle.std.specs.List.{AllZip}
use Rattle.std.proofs.lemmas.List.{take_more, take_all, length-set, length-map, map-append, get_or_append_left, get_or-append_right, get_or_default, drop_more}
use Rattle.std.proofs.lemmas.List.Elements.{All-contains}
use Rattle.std.proofs.lemmas.Option.{slice_get_within, get_or_from_slice_get}
use Rattle.std.proofs.Math.Nat.{mod-lt, mul-le-mul_right}
use Rattle.std.proofs.Math.Seq.{get_or-append_seam, drop-length}
use mathlib.Core.Logic.{dite}
use native.Mathlib.Decide.{ℕ_discrete}
use Rattle.dd_store.specs.Hashes.{ref_hash_of}
use Rattle.dd_store.specs.Nodes.{Nodes, IsSound}
use Rattle.req_table.specs.declared.Key.{Key}
use Rattle.req_table.specs.declared.Child.{Child}
use Rattle.req_table.specs.declared.Child.TheVariants.{Done, Ask}
use Rattle.req_table.specs.declared.Record.{Record}
use Rattle.req_table.specs.declared.packed_child.PackedChild.{PackedChild}
use Rattle.req_table.specs.declared.packed_child.PlacedChild.TheVariants as by_number
use Rattle.req_table.specs.TerminalCase.{op_number}
use Rattle.req_table.specs.Keys.{level_of, owner, child_of, wave_of}
use Rattle.req_table.specs.Places.{row, IsPlaced}
use Rattle.req_table.specs.Reached.{IsReached}
use Rattle.req_table.specs.Settled.{IsClosure, IsSplit, key_of, asked, asked_by, level_of_rows}
use Rattle.req_table.specs.Wave.{Wave}
use Rattle.req_table.proofs.Waved as waved
use Rattle.expand_work.specs.WavePorts.{row_of}
use Rattle.expand_work.specs.WaveParts.{PartsView, AreParts}
use Rattle.expand_work.specs.OwnerRows.{by_owner, row_by_owner, AreRowsByOwner}
use Rattle.std.proofs.Math.ListN as listn
use Rattle.expand_work.specs.Work.{owned_by}
use Rattle.expand_work.proofs.Zips.{zip_grown}
use Rattle.reduce_up.specs.declared.numbers.NumberingInput.{NumberingInput}
use Rattle.reduce_up.specs.declared.numbers.NumberingTask.{NumberingTask}
use Rattle.reduce_up.specs.Numbers.{keys_at, keys_of, keys_in, starts_at, starts_below, HasItsLevel, HaveTheirLevels, IsNumberingInput, IsSender, HasPlaceOf, AreNext, IsNext, IsNumbered, IsRowNumbered, IsNumberedTo, asked_up, asked_from}
use Rattle.dd_store.proofs.Places.{mapped, slice_get-append}
use Rattle.reduce_up.proofs.OverParts.{slice_get-behind}
use Rattle.reduce_up.proofs.Placing.{in_left, in_right}
use Rattle.reduce_up.proofs.Rooted.{all_of}

-- ---- records by level
pub level_split : (rows : ℕ → ℕ → List Record) (v n k : ℕ) → k < n → (rest : List Record) × (level_of_rows n rows v ≡ (level_of_rows k rows v ++ rows k v) ++ rest)
level_split rows v zero k l = absurd (omega (arith, l))
level_split rows v (suc n) k l = dite (ℕ_discrete k n)
    (λ e. ([], subst (λ z. level_of_rows n rows v ++ rows n v ≡ (level_of_rows z rows v ++ rows z v) ++ []) (sym e) (sym (append-nil (level_of_rows n rows v ++ rows n v)))))
    (λ m. let w = level_split rows v n k (grind (arith, l, m)) in (w.0 ++ rows n v, ap (λ z. z ++ rows n v) w.1 ∙ append_assoc (level_of_rows k rows v ++ rows k v) w.0 (rows n v)))

-- a worker's record is one of the level
pub in_team : (n : ℕ) (p : PartsView) (v k : ℕ) (r : Record) → k < n → Contains (row_of p.rows k v) r → Contains (level_of_rows n (row_of p.rows) v) r
in_team n p v k r l c =
    let w = level_split (row_of p.rows) v n k l in
    subst (λ z. Contains z r) (sym w.1) (in_left (level_of_rows k (row_of p.rows) v ++ row_of p.rows k v) w.0 r (in_right (level_of_rows k (row_of p.rows) v) (row_of p.rows k v) r c))

-- records that are the same, level by level
module _ (w : Wave) (rows records : ℕ → List Record) (same : (v : ℕ) → v < w.levels → records v ≡ rows v) where
  pub closure_same : (roots : List Key) → IsClosure w roots rows → IsClosure w roots records
  closure_same roots c = record {
    split = λ v vb. subst (All (IsSplit w)) (sym (same v vb)) (c.split v vb);
    placed = λ v vb. subst (All (λ (r : Record). w.level r.key ≡ v)) (sym (same v vb)) (c.placed v vb);
    reached = λ v vb. subst (All (λ (r : Record). IsReached w roots r.key)) (sym (same v vb)) (c.reached v vb);
    recorded = λ x h. (let (b, k) = c.recorded x h in (b, subst (λ (rs : List Record). Contains (map key_of rs) x) (sym (same (w.level x) b)) k));
    once = λ v vb. subst (AllPairs (λ (a b : Record). ¬ (a.key ≡ b.key))) (sym (same v vb)) (c.once v vb);
  }

-- ---- a child has the level of its request
child_level_matches : (S : Nodes) → IsSound S → (k : Key) (b : Bool) (c : Child) → c ≡ child_of S k b → HasItsLevel S c
child_level_matches S w k b (Done r) e = tt
child_level_matches S w k b (Ask l x m) e = waved.child_level S w k x b l m (sym e)

pub rows_have_levels : (S : Nodes) (n : ℕ) (roots : List Key) (p : PartsView) → IsSound S → AreParts S n roots p → (k v : ℕ) → k < n → v < S.levels → All (HaveTheirLevels S) (row_of p.rows k v)
rows_have_levels S n roots p sound a k v kb vb =
    all_of (HaveTheirLevels S) (row_of p.rows k v)
    (λ r c.
    let split : IsSplit (wave_of S n) r = All-contains (IsSplit (wave_of S n)) (level_of_rows n (row_of p.rows) v) r (a.closure.split v vb) (in_team n p v k r kb c) in
    (child_level_matches S sound r.key false r.low split.0, child_level_matches S sound r.key true r.high split.1))

-- ---- places of a level
-- the place of a worker's request among all of its level
pub stands_in_level : (n : ℕ) (p : PartsView) (v k place : ℕ) (x : Key) → k < n → slice_get (map key_of (row_of p.rows k v)) place ≡ Some x
    → slice_get (keys_at n p v) (length (level_of_rows k (row_of p.rows) v) + place) ≡ Some x
stands_in_level n p v k place x l e =
    let w = level_split (row_of p.rows) v n k l in
    let before = level_of_rows k (row_of p.rows) v in
    let own = row_of p.rows k v in
    let keys : keys_at n p v ≡ (map key_of before ++ map key_of own) ++ map key_of w.0 = ap (map key_of) w.1 ∙ map-append key_of (before ++ own) w.0 ∙ ap (λ z. z ++ map key_of w.0) (map-append key_of before own) in
    let at : length before + place ≡ length (map key_of before) + place = (let z = length-map before key_of in omega (arith, z)) in
    subst (λ z. slice_get z (length before + place) ≡ Some x) (sym keys)
    (subst (λ z. slice_get ((map key_of before ++ map key_of own) ++ map key_of w.0) z ≡ Some x) (sym at)
    (slice_get-append (map key_of before ++ map key_of own) (map key_of w.0) (length (map key_of before) + place) x (slice_get-behind (map key_of before) (map key_of own) place ∙ e)))

pub keys_of-long : (n : ℕ) (p : PartsView) (m : ℕ) → length (keys_of n p m) ≡ m
keys_of-long n p zero = refl
keys_of-long n p (suc m) = length-append (keys_of n p m) (keys_at n p m ∷ []) ∙ (let e = keys_of-long n p m in omega (arith, e))

pub keys_of_at : (n : ℕ) (p : PartsView) (m v : ℕ) → v < m → row (keys_of n p m) v ≡ keys_at n p v
keys_of_at n p zero v l = absurd (omega (arith, l))
keys_of_at n p (suc m) v l = dite (ℕ_discrete v m)
    (λ e. ap (λ z. get_or (keys_of n p m ++ keys_at n p m ∷ []) z []) (e ∙ sym (keys_of-long n p m)) ∙ get_or-append_seam (keys_of n p m) (keys_at n p m) [] [] ∙ ap (keys_at n p) (sym e))
    (λ o. get_or_append_left (keys_of n p m) (keys_at n p m ∷ []) [] v (let e = keys_of-long n p m in grind (arith, l, o, e)) ∙ keys_of_at n p m v (grind (arith, l, o)))

-- ---- how many requests the workers before each have
starts_at-long : (n : ℕ) (rows : ℕ → ℕ → List Record) (v : ℕ) → length (starts_at n rows v) ≡ n
starts_at-long zero rows v = refl
starts_at-long (suc n) rows v = length-append (starts_at n rows v) (length (level_of_rows n rows v) ∷ []) ∙ (let e = starts_at-long n rows v in omega (arith, e))

starts_at_at : (n : ℕ) (rows : ℕ → ℕ → List Record) (v k : ℕ) → k < n → get_or (starts_at n rows v) k 0 ≡ length (level_of_rows k rows v)
starts_at_at zero rows v k l = absurd (omega (arith, l))
starts_at_at (suc n) rows v k l = dite (ℕ_discrete k n)
    (λ e. ap (λ z. get_or (starts_at n rows v ++ length (level_of_rows n rows v) ∷ []) z 0) (e ∙ sym (starts_at-long n rows v))
    ∙ get_or-append_seam (starts_at n rows v) (length (level_of_rows n rows v)) [] 0 ∙ ap (λ z. length (level_of_rows z rows v)) (sym e))
    (λ o. get_or_append_left (starts_at n rows v) (length (level_of_rows n rows v) ∷ []) 0 k (let e = starts_at-long n rows v in grind (arith, l, o, e)) ∙ starts_at_at n rows v k (grind (arith, l, o)))

starts_below-long : (m n : ℕ) (rows : ℕ → ℕ → List Record) → length (starts_below m n rows) ≡ m * n
starts_below-long zero n rows = omega arith
starts_below-long (suc m) n rows =
    let a = length-append (starts_below m n rows) (starts_at n rows m) in
    let b = starts_below-long m n rows in
    let c = starts_at-long n rows m in
    grind (arith, a, b, c)

-- the place of a worker's number of a level
row_within : (m n v k : ℕ) → v < m → k < n → v * n + k < m * n
row_within m n v k vb kb =
    let a : suc v * n ≤ m * n = mul-le-mul_right n (omega (arith, vb)) in
    let b : suc v * n ≡ v * n + n = grind arith in
    omega (arith, a, b, kb)

pub starts_within : (m n : ℕ) (rows : ℕ → ℕ → List Record) (v k : ℕ) → v < m → k < n → v * n + k < length (starts_below m n rows)
starts_within m n rows v k vb kb = subst (λ z. v * n + k < z) (sym (starts_below-long m n rows)) (row_within m n v k vb kb)

pub starts_below_at : (m n : ℕ) (rows : ℕ → ℕ → List Record) (v k : ℕ) → v < m → k < n → get_or (starts_below m n rows) (v * n + k) 0 ≡ length (level_of_rows k rows v)
starts_below_at zero n rows v k vb kb = absurd (omega (arith, vb))
starts_below_at (suc m) n rows v k vb kb = dite (ℕ_discrete v m)
    (λ e. let at : m * n + k - m * n ≡ k = omega arith in
    ap (λ z. get_or (starts_below m n rows ++ starts_at n rows m) (z * n + k) 0) e
    ∙ get_or-append_right (starts_below m n rows) (starts_at n rows m) (m * n) (m * n + k) 0 (starts_below-long m n rows) (omega arith)
    ∙ ap (λ z. get_or (starts_at n rows m) z 0) at ∙ starts_at_at n rows m k kb ∙ ap (λ z. length (level_of_rows k rows z)) (sym e))
    (λ o. let lt : v < m = grind (arith, vb, o) in
    get_or_append_left (starts_below m n rows) (starts_at n rows m) 0 (v * n + k) (starts_within m n rows v k lt kb) ∙ starts_below_at m n rows v k lt kb)

-- one more worker
pub starts_more : (rows : ℕ → ℕ → List Record) (v k : ℕ) (before starts starts' : List ℕ) (start : ℕ) → starts ≡ before ++ starts_at k rows v → start ≡ length (level_of_rows k rows v) → starts' ≡ starts ++ start ∷ [] → starts' ≡ before ++ starts_at (k + 1) rows v
starts_more rows v k before starts starts' start is start-is more =
    let up : suc k ≡ k + 1 = omega arith in
    more ∙ ap (λ z. z ++ start ∷ []) is ∙ ap (λ z. (before ++ starts_at k rows v) ++ z ∷ []) start-is
    ∙ append_assoc before (starts_at k rows v) (length (level_of_rows k rows v) ∷ []) ∙ ap (λ z. before ++ starts_at z rows v) up

pub start_more : (rows : ℕ → ℕ → List Record) (v k start count n : ℕ) (own : List (PackedChild × PackedChild)) → start ≡ length (level_of_rows k rows v) → own ≡ row_by_owner n (rows k v) → count ≡ length own → start + count ≡ length (level_of_rows (k + 1) rows v)
start_more rows v k start count n own start-is own-is count-is =
    let up : suc k ≡ k + 1 = omega arith in
    let many : count ≡ length (rows k v) = count-is ∙ ap length own-is ∙ length-map {B = PackedChild × PackedChild} (rows k v) (λ (r : Record). (by_owner n r.low, by_owner n r.high)) in
    let both = length-append (level_of_rows k rows v) (rows k v) in
    let here : start + count ≡ length (level_of_rows (suc k) rows v) = omega (arith, start-is, many, both) in
    here ∙ ap (λ z. length (level_of_rows z rows v)) up

-- a worker's row of a level, with owners
pub by_owner_at : (records : List (List (List Record))) (rows : List (List (List (PackedChild × PackedChild)))) → AreRowsByOwner records rows → (k v : ℕ) (own : List (List (PackedChild × PackedChild))) → k < length rows → own ≡ get_or rows k own → row own v ≡ row_by_owner (length records) (row_of records k v)
by_owner_at records rows by_owner k v own kb is =
    let n = length records in
    ap (λ (z : List (List (PackedChild × PackedChild))). row z v) (is ∙ get_or_default rows k own [] kb ∙ ap (λ (z : List (List (List (PackedChild × PackedChild)))). get_or z k []) by_owner ∙ listn.get_or-map (map (row_by_owner n)) records k [])
    ∙ listn.get_or-map (row_by_owner n) (get_or records k []) v []

-- each worker has a row for each level
pub by_owner_levels : (records : List (List (List Record))) (rows : List (List (List (PackedChild × PackedChild)))) → AreRowsByOwner records rows → (m : ℕ) → ((k : ℕ) → k < length records → length (get_or records k []) ≡ m) → All (λ (own : List (List (PackedChild × PackedChild))). length own ≡ m) rows
by_owner_levels records rows by_owner m each k d kb =
    let n = length records in
    let long : length rows ≡ n = ap (λ (z : List (List (List (PackedChild × PackedChild)))). length z) by_owner ∙ length-map records (map (row_by_owner n)) in
    ap (λ (z : List (List (PackedChild × PackedChild))). length z) (get_or_default rows k d [] kb ∙ ap (λ (z : List (List (List (PackedChild × PackedChild)))). get_or z k []) by_owner ∙ listn.get_or-map (map (row_by_owner n)) records k [])
    ∙ length-map (get_or records k []) (row_by_owner n) ∙ each k (omega (arith, kb, long))

-- ---- what is asked next
zip_next : {A B : Type 0} (R : A → B → Type 0) (x : A) (xs : List A) (ys : List B) → AllZip R (x ∷ xs) ys → (y : B) × (slice_get ys 0 ≡ Some y) × R x y × AllZip R xs (drop 1 ys)
zip_next R x xs [] h = absurd h
zip_next R x xs (y ∷ ys) h = (y, refl, h.0, h.1)

pub owned_within : (n : ℕ) (x : Key) → 0 < n → owner n x < n
owned_within n x some = mod-lt (op_number x.op + 3 * ref_hash_of x.f + 5 * ref_hash_of x.g) some

-- a level that has a request is one of the worker's
row_there : {X : Type 0} (xs : List (List X)) (l place : ℕ) → place < length (get_or xs l []) → l < length xs
row_there [] zero place b = absurd (omega (arith, b))
row_there [] (suc l) place b = absurd (omega (arith, b))
row_there (x ∷ xs) zero place b = omega arith
row_there (x ∷ xs) (suc l) place b = let z = row_there xs l place b in omega (arith, z)

-- ---- a child in eight bytes
pub asked_child : (n : ℕ) (e : PackedChild) (c : Child) (level k : ℕ) (m : Bool) → e ≡ by_number.Ask level k m → e ≡ by_owner n c → (x : Key) × (c ≡ Ask level x m) × (k ≡ owner n x)
asked_child n e (Done r) level k m is f = absurd (let z = sym is ∙ f in cc)
asked_child n e (Ask l x b) level k m is f =
    let z : by_number.Ask level k m ≡ by_number.Ask l (owner n x) b = sym is ∙ f in
    let at : level ≡ l = cc in let own : k ≡ owner n x = cc in let complement : m ≡ b = cc in
    (x, (λ i. Ask (sym at i) x (sym complement i)), own)

-- a child that asks worker k at level l, which has noted these places for what is left to ask
module _ (f : NumberingInput) (F : IsNumberingInput f) (left : List (Bor (List ℕ))) (child : PackedChild) (c : Child) (rest : List Key) (i : IsNext f left child c rest)
    (l k : ℕ) (m : Bool) (is : child ≡ by_number.Ask l k m) (noted : Bor (List ℕ)) (noted-is : noted ≡ get_or left k noted) where
  abbrev place : ℕ
  place = get_or noted.now 0 0

  asks : (x : Key) × (c ≡ Ask l x m) × (k ≡ owner f.workers x)
  asks = asked_child f.workers child c l k m is i.owned

  abbrev x : Key
  x = asks.0

  k-is : k ≡ owner f.workers x
  k-is = asks.2

  asks_have_levels : l ≡ level_of f.store.now x
  asks_have_levels = subst (HasItsLevel f.store.now) asks.1 i.levels_match

  asks_next : AreNext f (x ∷ rest) left
  asks_next = subst (λ z. AreNext f (asked z ++ rest) left) asks.1 i.places

  pub owner_within : k < f.workers
  owner_within = subst (λ z. z < f.workers) (sym k-is) (owned_within f.workers x F.some)

  mine : owned_by f.workers k x ≡ true
  mine = eq-eqb (owner f.workers x) k (sym k-is)

  found : (y : ℕ) × (slice_get noted.now 0 ≡ Some y) × HasPlaceOf f k x y × AllZip (HasPlaceOf f k) (filter (owned_by f.workers k) rest) (drop 1 noted.now)
  found = zip_next (HasPlaceOf f k) x (filter (owned_by f.workers k) rest) noted.now
      (subst (λ (z : Bor (List ℕ)). AllZip (HasPlaceOf f k) (x ∷ filter (owned_by f.workers k) rest) z.now) (sym noted-is)
      (subst (λ b. AllZip (HasPlaceOf f k) (cond b (x ∷ filter (owned_by f.workers k) rest) (filter (owned_by f.workers k) rest)) (get_or left k noted).now) mine (asks_next.each k noted owner_within)))

  place-is : place ≡ found.0
  place-is = get_or_from_slice_get noted.now 0 found.0 0 found.1

  stands : slice_get (map key_of (row_of f.notes.now.rows k l)) place ≡ Some x
  stands = subst (λ (z : ℕ × ℕ). slice_get (map key_of (row_of f.notes.now.rows k z.0)) z.1 ≡ Some x) (λ i. (sym asks_have_levels i, sym place-is i)) found.2

  pub level_within : l < f.store.now.levels
  level_within = subst (λ z. l < z) (F.levels k owner_within)
      (row_there (get_or f.notes.now.rows k []) l place (let w = slice_get_within (map key_of (row_of f.notes.now.rows k l)) place x stands in let z = length-map (row_of f.notes.now.rows k l) key_of in omega (arith, w, z)))

  pub start_within : l * f.workers + k < length f.starts.now
  start_within = subst (λ z. l * f.workers + k < length z) (sym F.starts_are) (starts_within f.store.now.levels f.workers (row_of f.notes.now.rows) l k level_within owner_within)

  start-is : get_or f.starts.now (l * f.workers + k) 0 ≡ length (level_of_rows k (row_of f.notes.now.rows) l)
  start-is = ap (λ z. get_or z (l * f.workers + k) 0) F.starts_are ∙ starts_below_at f.store.now.levels f.workers (row_of f.notes.now.rows) l k level_within owner_within

  in_level : slice_get (keys_at f.workers f.notes.now l) (get_or f.starts.now (l * f.workers + k) 0 + place) ≡ Some x
  in_level = subst (λ z. slice_get (keys_at f.workers f.notes.now l) (z + place) ≡ Some x) (sym start-is) (stands_in_level f.workers f.notes.now l k place x owner_within stands)

  pub sum_fits : get_or f.starts.now (l * f.workers + k) 0 + place < 2 ^ 32
  sum_fits =
      let a = slice_get_within (keys_at f.workers f.notes.now l) (get_or f.starts.now (l * f.workers + k) 0 + place) x in_level in
      let b = length-map (level_of_rows f.workers (row_of f.notes.now.rows) l) key_of in
      let c = F.few l level_within in
      omega (arith, a, b, c)

  pub child_placed : IsPlaced (keys_in f) (by_number.Ask l (get_or f.starts.now (l * f.workers + k) 0 + place) m) c
  child_placed = (x, subst (λ z. slice_get z (get_or f.starts.now (l * f.workers + k) 0 + place) ≡ Some x) (sym (keys_of_at f.workers f.notes.now f.store.now.levels l level_within)) in_level, asks.1)

  pub one_asked : (behind : Bor (List ℕ)) → behind.now ≡ drop 1 noted.now → AreNext f rest (set left k behind)
  one_asked behind behind-is = record {
    long = length-set left k behind ∙ asks_next.long;
    each = λ j d jb. dite (ℕ_discrete j k)
        (λ e.
        let at : get_or (set left k behind) j d ≡ behind = ap (λ z. get_or (set left k behind) z d) e ∙ get_or-set_same left k behind d (subst (λ z. k < z) (sym asks_next.long) owner_within) in
        subst (λ (z : Bor (List ℕ)). AllZip (HasPlaceOf f j) (filter (owned_by f.workers j) rest) z.now) (sym at)
        (subst (λ z. AllZip (HasPlaceOf f z) (filter (owned_by f.workers z) rest) behind.now) (sym e)
        (subst (λ (z : List ℕ). AllZip (HasPlaceOf f k) (filter (owned_by f.workers k) rest) z) (sym behind-is) found.3)))
        (λ o.
        let other : owned_by f.workers j x ≡ false = ne_eqb (owner f.workers x) j (λ e. o (sym (k-is ∙ e))) in
        subst (λ (z : Bor (List ℕ)). AllZip (HasPlaceOf f j) (filter (owned_by f.workers j) rest) z.now) (sym (get_or-set_other left k j behind d o))
        (subst (λ b. AllZip (HasPlaceOf f j) (cond b (x ∷ filter (owned_by f.workers j) rest) (filter (owned_by f.workers j) rest)) (get_or left j d).now) other (asks_next.each j d jb)));
  }

-- ---- records and their pairs

-- a list from a place on begins with the element at this place
goes_on : {X : Type 0} (xs : List X) (i : ℕ) (x : X) → slice_get xs i ≡ Some x → drop i xs ≡ x ∷ drop (i + 1) xs
goes_on xs i x e = drop_more xs i x (slice_get_within xs i x e) ∙ ap (λ z. z ∷ drop (i + 1) xs) (get_or_from_slice_get xs i x x e)

ends_with : {X : Type 0} (xs : List X) (i : ℕ) (x : X) → slice_get xs i ≡ Some x → take (i + 1) xs ≡ take i xs ++ x ∷ []
ends_with xs i x e = take_more xs i x (slice_get_within xs i x e) ∙ ap (λ z. take i xs ++ z ∷ []) (get_or_from_slice_get xs i x x e)

-- what a level asks for is asked before what the levels below it ask for
pub asked_first : (f : NumberingInput) (s v : ℕ) → v < f.store.now.levels → asked_from f s v ≡ asked_by (row_of f.notes.now.rows s v) ++ asked_from f s (v + 1)
asked_first f s v l =
    let rows : ℕ → List Record = row_of f.notes.now.rows s in
    let one : f.store.now.levels - v ≡ suc (f.store.now.levels - (v + 1)) = omega (arith, l) in
    let up : suc v ≡ v + 1 = omega arith in
    ap (λ z. asked_up z v rows) one ∙ ap (λ z. asked_by (rows v) ++ asked_up (f.store.now.levels - (v + 1)) z rows) up

-- the children of a record are asked for first
record_first : (low high : List Key) (by later : List Key) → ((low ++ high) ++ by) ++ later ≡ low ++ (high ++ (by ++ later))
record_first low high by later = append_assoc (low ++ high) by later ∙ append_assoc low high (by ++ later)

-- a record of worker s and level v, for whose children the pair e has the owners
module _ (f : NumberingInput) (s : ℕ) (sender : IsSender f s) (v : ℕ) (vb : v < f.store.now.levels) (pairs : List (PackedChild × PackedChild)) (pairs-are : pairs ≡ row_by_owner f.workers (row_of f.notes.now.rows s v))
    (later : List Key) (i : ℕ) (e : PackedChild × PackedChild) (e-is : slice_get pairs i ≡ Some e) (next : List (Bor (List ℕ))) (a : AreNext f (asked_by (drop i (row_of f.notes.now.rows s v)) ++ later) next) where
  abbrev records : List Record
  records = row_of f.notes.now.rows s v

  pub read : (r : Record) × (slice_get records i ≡ Some r) × ((by_owner f.workers r.low, by_owner f.workers r.high) ≡ e)
  read = mapped (λ (r : Record). (by_owner f.workers r.low, by_owner f.workers r.high)) records i e (subst (λ z. slice_get z i ≡ Some e) pairs-are e-is)

  abbrev pub the_record : Record
  the_record = read.0

  record_has_levels : HaveTheirLevels f.store.now the_record
  record_has_levels = subst (HaveTheirLevels f.store.now) (get_or_from_slice_get records i the_record the_record read.1) (sender.input.levels_match s v sender.within vb i the_record (slice_get_within records i the_record read.1))

  -- what is asked after the record, and after its low child
  abbrev pub behind : List Key
  behind = asked_by (drop (i + 1) records) ++ later

  abbrev pub behind_low : List Key
  behind_low = asked the_record.high ++ behind

  pub low_next : IsNext f next e.0 the_record.low behind_low
  low_next = record {
    owned = sym (ap (λ z. z.0) read.2);
    levels_match = record_has_levels.0;
    places = subst (λ z. AreNext f z next) (ap (λ z. asked_by z ++ later) (goes_on records i the_record read.1) ∙ record_first (asked the_record.low) (asked the_record.high) (asked_by (drop (i + 1) records)) later) a;
  }

  pub high_next : (next' : List (Bor (List ℕ))) → AreNext f behind_low next' → IsNext f next' e.1 the_record.high behind
  high_next next' b = record { owned = sym (ap (λ z. z.1) read.2); levels_match = record_has_levels.1; places = b }

  pub pair_more : (old new : List (PackedChild × PackedChild)) (low high : PackedChild) → AllZip (IsNumbered (keys_in f)) (take i records) old → IsPlaced (keys_in f) low the_record.low → IsPlaced (keys_in f) high the_record.high
      → new ≡ old ++ (low, high) ∷ [] → AllZip (IsNumbered (keys_in f)) (take (i + 1) records) new
  pair_more old new low high z l h is = zip_grown (IsNumbered (keys_in f)) (take i records) (take (i + 1) records) old new the_record (low, high) (ends_with records i the_record read.1) is z (l, h)

-- all records of a level were numbered
module _ (f : NumberingInput) (s v : ℕ) (by_owner-pairs : List (PackedChild × PackedChild)) (by_owner-are : by_owner-pairs ≡ row_by_owner f.workers (row_of f.notes.now.rows s v)) (i : ℕ) (all : i ≡ length by_owner-pairs) where
  i-is : i ≡ length (row_of f.notes.now.rows s v)
  i-is = all ∙ ap length by_owner-are ∙ length-map (row_of f.notes.now.rows s v) (λ (r : Record). (by_owner f.workers r.low, by_owner f.workers r.high))

  pub pairs_all : (pairs : List (PackedChild × PackedChild)) → AllZip (IsNumbered (keys_in f)) (take i (row_of f.notes.now.rows s v)) pairs → IsRowNumbered f s v pairs
  pairs_all pairs z = subst (λ (rs : List Record). AllZip (IsNumbered (keys_in f)) rs pairs) (take_all i (row_of f.notes.now.rows s v) (omega (arith, i-is))) z

  pub asked_all : (later : List Key) (next : List (Bor (List ℕ))) → AreNext f (asked_by (drop i (row_of f.notes.now.rows s v)) ++ later) next → AreNext f later next
  asked_all later next a = subst (λ z. AreNext f (asked_by z ++ later) next) (ap (λ z. drop z (row_of f.notes.now.rows s v)) i-is ∙ drop-length (row_of f.notes.now.rows s v)) a

-- a level was numbered
module _ (f : NumberingInput) (s v : ℕ) (vb : v < f.store.now.levels) (old : NumberingTask) (a : IsNumberedTo f s v old) where
  -- the level had no requests
  pub level_none : length (row old.rows v) ≡ 0 → IsNumberedTo f s (v + 1) old
  level_none e =
      let none : row_of f.notes.now.rows s v ≡ [] = no_records (row_of f.notes.now.rows s v) (sym (length-map (row_of f.notes.now.rows s v) (λ (r : Record). (by_owner f.workers r.low, by_owner f.workers r.high))) ∙ ap length (sym (a.left v (omega arith) vb)) ∙ e) in
      record {
        levels = a.levels;
        done = λ u l. dite (ℕ_discrete u v)
            (λ q. subst (λ z. IsRowNumbered f s z (row old.rows z)) (sym q)
            (subst (λ (z : List Record). AllZip (IsNumbered (keys_in f)) z (row old.rows v)) (sym none)
            (subst (λ z. AllZip (IsNumbered (keys_in f)) [] z) (sym (no_pairs (row old.rows v) e)) tt)))
            (λ o. a.done u (grind (arith, l, o)));
        left = λ u l ub. a.left u (omega (arith, l)) ub;
        places = subst (λ z. AreNext f z old.left.items) (asked_first f s v vb ∙ ap (λ z. asked_by z ++ asked_from f s (v + 1)) none) a.places;
        spare_row = a.spare_row;
      }
    where
      no_records : (xs : List Record) → length xs ≡ 0 → xs ≡ []
      no_records [] e = refl
      no_records (x ∷ xs) e = absurd (omega (arith, e))

      no_pairs : (xs : List (PackedChild × PackedChild)) → length xs ≡ 0 → xs ≡ []
      no_pairs [] e = refl
      no_pairs (x ∷ xs) e = absurd (omega (arith, e))
