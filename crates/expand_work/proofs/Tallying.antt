-- The number of requests that the workers have recorded: those that are reached, each once.
use Rattle.std.proofs.Common.{◌≡◌, ℕ, zero, suc, ◌+◌, ◌%◌, ◌^◌, ◌<◌, ◌≤◌, inl, inr, List, [], ◌∷◌, ◌++◌, map, length, slice_index_or, slice_get, Some, refl, sym, ap, ◌∙◌, subst, arith}
use Rattle.std.specs.List.{sum_by}
use Rattle.std.proofs.lemmas.Bool.{cases_lt}
use Rattle.std.proofs.lemmas.List.{length-append, length-map, get_or-map, get_or_default}
use Rattle.std.proofs.lemmas.Option.{slice_get-get_or, slice_get_within, get_or_from_slice_get}
use Rattle.slot_table.specs.Lists.{IsIn, IsOnce}
use Rattle.slot_table.proofs.Pigeons.{pigeons}
use Rattle.dd_store.specs.Nodes.{Nodes}
use Rattle.req_table.specs.declared.Key.{Key}
use Rattle.req_table.specs.declared.Record.{Record}
use Rattle.req_table.specs.Wave.{Wave}
use Rattle.req_table.specs.Keys.{wave_of}
use Rattle.req_table.specs.Reached.{IsReached, root, child}
use Rattle.req_table.specs.Tables.{row_at}
use Rattle.req_table.specs.Settled.{IsClosure, key_of, level_of_rows}
use Rattle.req_table.proofs.Lists.{Has, has_of, contains_of, each, map_has, Has-append_left, Has-append_right, Has-append_cases}
use Rattle.expand_work.specs.Bounds.{AreFew}
use Rattle.expand_work.specs.Parts.{sum_below}
use Rattle.expand_work.specs.WavePorts.{row_of}
use Rattle.expand_work.specs.WaveParts.{PartsView, AreParts, HaveExpanded, count_in}
use Rattle.expand_work.proofs.Counting.{sum_same, sum_add, sum_const}
use Rattle.expand_work.proofs.Expanding.{sum_by_below}
use Rattle.expand_work.proofs.Once.{once_append}
use Rattle.expand_work.proofs.Teams.{first_of}

has_in : {X : Type 0} (xs : List X) (x : X) → IsIn xs x → Has xs x
has_in xs x h = has_of xs x (h.0, slice_get_within xs h.0 x h.1, get_or_from_slice_get xs h.0 x x h.1)

-- the keys of the records of the levels below n
abbrev keys_below : ℕ → (ℕ → List Record) → List Key
keys_below zero records = []
keys_below (suc n) records = keys_below n records ++ map key_of (records n)

-- ---- records that are exactly the reached requests, each once
module _ (w : Wave) (roots : List Key) (R : ℕ → List Record) (c : IsClosure w roots R) where
  has_level : (n : ℕ) (x : Key) → Has (keys_below n R) x → (v : ℕ) × (v < n) × Has (map key_of (R v)) x
  has_level zero x h = absurd h
  has_level (suc n) x h =
      elim (Has-append_cases (keys_below n R) (map key_of (R n)) x h) [
        | inl a ↦ let t = has_level n x a in (t.0, (let b = t.1 in omega (arith, b)), t.2)
        | inr b ↦ (n, omega arith, b)
      ]

  has_below : (n v : ℕ) (x : Key) → v < n → Has (map key_of (R v)) x → Has (keys_below n R) x
  has_below zero v x lt h = absurd (omega (arith, lt))
  has_below (suc n) v x lt h =
      elim (cases_lt v n) [
        | inl b ↦ Has-append_left (keys_below n R) (map key_of (R n)) x (has_below n v x b h)
        | inr ge ↦ let same : v ≡ n = omega (arith, lt, ge) in Has-append_right (keys_below n R) (map key_of (R n)) x (subst (λ u. Has (map key_of (R u)) x) same h)
      ]

  level_at : (v : ℕ) → v < w.levels → (x : Key) → Has (map key_of (R v)) x → w.level x ≡ v
  level_at v vb x h = let t = map_has key_of (R v) x h in ap (λ k. w.level k) (sym t.2) ∙ each (λ (r : Record). w.level r.key ≡ v) (R v) t.0 (c.placed v vb) t.1

  key_at : (v i : ℕ) (x : Key) (d : Record) → slice_get (map key_of (R v)) i ≡ Some x → (i < length (R v)) × ((slice_index_or (R v) i d).key ≡ x)
  key_at v i x d e =
      let l : i < length (map key_of (R v)) = slice_get_within (map key_of (R v)) i x e in
      let n : length (map key_of (R v)) ≡ length (R v) = length-map (R v) key_of in
      let lt : i < length (R v) = omega (arith, l, n) in
      (lt, sym (get_or-map key_of (R v) i d x lt) ∙ get_or_from_slice_get (map key_of (R v)) i x x e)

  apart_at : (v : ℕ) → v < w.levels → (i j : ℕ) (x : Key) → i < j → slice_get (map key_of (R v)) i ≡ Some x → slice_get (map key_of (R v)) j ≡ Some x → ⊥
  apart_at v vb i j x lt e f =
      let l : j < length (map key_of (R v)) = slice_get_within (map key_of (R v)) j x f in
      let n : length (map key_of (R v)) ≡ length (R v) = length-map (R v) key_of in
      let d : Record = first_of (R v) (omega (arith, l, n)) in
      let a = key_at v i x d e in
      let b = key_at v j x d f in
      c.once v vb i j d lt b.0 (a.1 ∙ sym b.1)

  pub own_once : (v : ℕ) → v < w.levels → IsOnce (map key_of (R v))
  own_once v vb i j x e f =
      elim (cases_lt i j) [
        | inl lt ↦ absurd (apart_at v vb i j x lt e f)
        | inr ge ↦ elim (cases_lt j i) [ inl gt ↦ absurd (apart_at v vb j i x gt f e) | inr le ↦ omega (arith, ge, le) ]
      ]

  once_below : (n : ℕ) → n ≤ w.levels → IsOnce (keys_below n R)
  once_below zero le = λ i j x e f. absurd (let z : i < 0 = slice_get_within [] i x e in omega (arith, z))
  once_below (suc n) le =
      once_append (keys_below n R) (map key_of (R n)) (once_below n (omega (arith, le))) (own_once n (omega (arith, le)))
      (λ x a b.
      let t = has_level n x (has_in (keys_below n R) x a) in
      let lt = t.1 in
      let one = level_at t.0 (omega (arith, lt, le)) x t.2 in
      let two = level_at n (omega (arith, le)) x (has_in (map key_of (R n)) x b) in
      omega (arith, lt, one, two))

  reached_below : (x : Key) → Has (keys_below w.levels R) x → IsReached w roots x
  reached_below x h =
      let t = has_level w.levels x h in
      let r = map_has key_of (R t.0) x t.2 in
      subst (IsReached w roots) r.2 (each (λ (q : Record). IsReached w roots q.key) (R t.0) r.0 (c.reached t.0 t.1) r.1)

  all_below : (x : Key) → IsReached w roots x → Has (keys_below w.levels R) x
  all_below x h = let t = c.recorded x h in has_below w.levels (w.level x) x t.0 (has_of (map key_of (R (w.level x))) x t.1)

-- ---- how many they are
length_below : (n : ℕ) (R : ℕ → List Record) → length (keys_below n R) ≡ sum_below n (λ v. length (R v))
length_below zero R = refl
length_below (suc n) R =
    let a = length-append (keys_below n R) (map key_of (R n)) in
    let b = length_below n R in
    let m = length-map (R n) key_of in
    omega (arith, a, b, m)

length_level : (m : ℕ) (rows : ℕ → ℕ → List Record) (v : ℕ) → length (level_of_rows m rows v) ≡ sum_below m (λ k. length (rows k v))
length_level zero rows v = refl
length_level (suc m) rows v =
    let a = length-append (level_of_rows m rows v) (rows m v) in
    let b = length_level m rows v in
    omega (arith, a, b)

-- summing first by level or first by worker is the same
swapped : (n m : ℕ) (f : ℕ → ℕ → ℕ) → sum_below n (λ v. sum_below m (λ k. f k v)) ≡ sum_below m (λ k. sum_below n (λ v. f k v))
swapped zero m f = let a = sum_const m 0 in omega (arith, a)
swapped (suc n) m f = ap (λ z. z + sum_below m (λ k. f k n)) (swapped n m f) ∙ sym (sum_add m (λ k. sum_below n (λ v. f k v)) (λ k. f k n))

module _ (S : Nodes) (n : ℕ) (roots : List Key) (p : PartsView) (h : AreParts S n roots p) where
  abbrev R : ℕ → List Record
  R = level_of_rows n (row_of p.rows)

  of_worker : (k : ℕ) → k < n → sum_by (λ (row : List Record). length row) (slice_index_or p.rows k []) ≡ sum_below S.levels (λ v. length (row_of p.rows k v))
  of_worker k kb =
      let levels = slice_index_or p.rows k [] in
      sum_by_below (λ (row : List Record). length row) levels (λ v. length (row_at levels v)) (λ v d vb. ap (λ (row : List Record). length row) (get_or_default levels v d [] vb))
      ∙ ap (λ m. sum_below m (λ v. length (row_at levels v))) (h.levels k kb)

  counted : length (keys_below S.levels R) ≡ count_in p.rows
  counted =
      length_below S.levels R
      ∙ sum_same S.levels (λ v. length (R v)) (λ v. sum_below n (λ k. length (row_of p.rows k v))) (λ v vb. length_level n (row_of p.rows) v)
      ∙ swapped S.levels n (λ k v. length (row_of p.rows k v))
      ∙ sym (sum_by_below (λ (levels : List (List Record)). sum_by (λ (row : List Record). length row) levels) p.rows (λ k. sum_below S.levels (λ v. length (row_of p.rows k v)))
      (λ k d kb. ap (λ (levels : List (List Record)). sum_by (λ (row : List Record). length row) levels) (get_or_default p.rows k d [] kb) ∙ of_worker k (let m = h.many_rows in omega (arith, kb, m)))
      ∙ ap (λ m. sum_below m (λ k. sum_below S.levels (λ v. length (row_of p.rows k v)))) h.many_rows)

  pub have_expanded : (before after : ℕ) → after ≡ (before + count_in p.rows % 2 ^ 64) % 2 ^ 64 → HaveExpanded S n roots before after
  have_expanded before after e = record {
    requests = keys_below S.levels R;
    once = once_below (wave_of S n) roots R h.closure S.levels (omega arith);
    reached = λ x i. reached_below (wave_of S n) roots R h.closure x (has_of (keys_below S.levels R) x i);
    all = λ x i. contains_of (keys_below S.levels R) x (all_below (wave_of S n) roots R h.closure x i);
    count = let c = counted in omega (arith, e, c);
  }

  in_below : (x : Key) → Has (keys_below S.levels R) x → IsIn (keys_below S.levels R) x
  in_below x h = let c = contains_of (keys_below S.levels R) x h in (c.0, slice_get-get_or (keys_below S.levels R) c.0 x c.1 ∙ ap (λ z. Some z) c.2)

  -- if there are at most so many records, at most so many requests are reached
  pub few_reached : (most : ℕ) → count_in p.rows ≤ most → AreFew S n roots most
  few_reached most le requests once reached =
      let fits : length requests ≤ length (keys_below S.levels R) = pigeons (λ j k. j ≡ k) requests (keys_below S.levels R) once
      (λ i k at. (k, refl, in_below k (all_below (wave_of S n) roots R h.closure k (reached k (i, slice_get_within requests i k at, get_or_from_slice_get requests i k k at))))) (λ j k l a b. a ∙ sym b) in
      let c = counted in
      omega (arith, fits, c, le)

-- from no roots nothing is reached
none_reached : (w : Wave) (x : Key) → IsReached w [] x → ⊥
none_reached w x (root c) = has_of [] x c
none_reached w x (child b l m above asks) = none_reached w _ above

pub none_expanded : (S : Nodes) (n before : ℕ) → HaveExpanded S n [] before before
none_expanded S n before = record {
  requests = [];
  once = λ i j x e f. absurd (let z : i < 0 = slice_get_within [] i x e in omega (arith, z));
  reached = λ x i. absurd (has_of [] x i);
  all = λ x h. absurd (none_reached (wave_of S n) x h);
  count = omega arith;
}

-- from no roots at most any number is reached
pub none_few : (S : Nodes) (n most : ℕ) → AreFew S n [] most
none_few S n most [] once reached = omega arith
none_few S n most (x ∷ xs) once reached = absurd (none_reached (wave_of S n) x (reached x (0, omega arith, refl)))
