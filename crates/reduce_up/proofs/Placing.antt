-- Diagrams by level: what all levels have together, and what is found by place.
use Rattle.std.proofs.Common.{◌≡◌, ℕ, zero, suc, ◌<◌, ◌≤◌, ◌⊎◌, inl, inr, true, false, eqb, List, [], ◌∷◌, ◌++◌, length, map, get_or, set, slice_get, Some, refl, sym, ◌∙◌, ap, subst, arith, Contains, eqb-true, eq-eqb, get_or-set_same, get_or-set_other}
use Rattle.std.specs.Prelude.{All}
use Rattle.std.proofs.lemmas.List.{length-map}
use Rattle.dd_store.specs.declared.reference.Ref.{Ref}
use Rattle.dd_store.specs.declared.reference.Reference.TheVariants.{False}
use Rattle.req_table.specs.declared.Key.{Key}
use Rattle.req_table.specs.declared.Child.TheVariants.{Done}
use Rattle.req_table.specs.declared.Record.{Record}
use Rattle.req_table.specs.Settled.{key_of}
use Rattle.reduce_up.specs.Reducing.{NotesAnswer}
use Rattle.reduce_up.specs.Sharing.{NotesFirst}
use Rattle.reduce_up.specs.AnswersByLevel.{place_of, paired, joined, ArePlaced}
use Rattle.reduce_up.proofs.Noting.{nothing, head_in, tail_in, in_cases}

-- ---- members of two lists
pub in_left : {X : Type 0} (xs ys : List X) (p : X) → Contains xs p → Contains (xs ++ ys) p
in_left [] ys p c = absurd (nothing p c)
in_left (x ∷ xs) ys p c = elim (in_cases x p xs c) [ inl e ↦ subst (Contains (x ∷ (xs ++ ys))) e (head_in x (xs ++ ys)) | inr d ↦ tail_in x p (xs ++ ys) (in_left xs ys p d) ]

pub in_right : {X : Type 0} (xs ys : List X) (p : X) → Contains ys p → Contains (xs ++ ys) p
in_right [] ys p c = c
in_right (x ∷ xs) ys p c = tail_in x p (xs ++ ys) (in_right xs ys p c)

pub in_either : {X : Type 0} (xs ys : List X) (p : X) → Contains (xs ++ ys) p → Contains xs p ⊎ Contains ys p
in_either [] ys p c = inr c
in_either (x ∷ xs) ys p c = elim (in_cases x p (xs ++ ys) c) [
  | inl e ↦ inl (subst (Contains (x ∷ xs)) e (head_in x xs))
  | inr d ↦ elim (in_either xs ys p d) [ inl a ↦ inl (tail_in x p xs a) | inr b ↦ inr b ]
]

-- ---- members of all levels
pub in_joined : (rows : List (List (Key × Ref))) (p : Key × Ref) → Contains (joined rows) p → (i : ℕ) × (i < length rows) × Contains (get_or rows i []) p
in_joined [] p c = absurd (nothing p c)
in_joined (row ∷ rows) p c = elim (in_either row (joined rows) p c) [
  | inl a ↦ (zero, omega arith, a)
  | inr b ↦ let (i, l, d) = in_joined rows p b in (suc i, omega (arith, l), d)
]

pub joined_in : (rows : List (List (Key × Ref))) (i : ℕ) (p : Key × Ref) → Contains (get_or rows i []) p → Contains (joined rows) p
joined_in [] i p c = absurd (nothing p c)
joined_in (row ∷ rows) zero p c = in_left row (joined rows) p c
joined_in (row ∷ rows) (suc i) p c = in_right row (joined rows) p (joined_in rows i p c)

-- ---- one row of many is replaced
module _ (rows : List (List (Key × Ref))) (i : ℕ) (new : List (Key × Ref)) (lt : i < length rows) where
  -- a pair of the rows after it, by the row that holds it
  pub after_set : (p : Key × Ref) → Contains (joined (set rows i new)) p → Contains new p ⊎ ((j : ℕ) × (j ≡ i → ⊥) × Contains (get_or rows j []) p)
  after_set p c =
      let (j, l, d) = in_joined (set rows i new) p c in
      elim (eqb j i) as (λ b. eqb j i ≡ b → Contains new p ⊎ ((j : ℕ) × (j ≡ i → ⊥) × Contains (get_or rows j []) p)) [
        | true ↦ λ t. inl (subst (λ l. Contains l p) (let e = eqb-true j i t in ap (λ n. get_or (set rows i new) n []) e ∙ (rw get_or-set_same)) d)
        | false ↦ λ t. (
            let apart : j ≡ i → ⊥ = λ e. (let z = sym t ∙ eq-eqb j i e in cc) in
            inr (j, apart, subst (λ l. Contains l p) (rw get_or-set_other) d))
      ] refl

  pub before_set : (p : Key × Ref) → Contains new p → Contains (joined (set rows i new)) p
  before_set p c = joined_in (set rows i new) i p (subst (λ l. Contains l p) (sym (rw get_or-set_same)) c)

  pub other_set : (j : ℕ) (p : Key × Ref) → (j ≡ i → ⊥) → Contains (get_or rows j []) p → Contains (joined (set rows i new)) p
  other_set j p apart c = joined_in (set rows i new) j p (subst (λ l. Contains l p) (sym (rw get_or-set_other)) c)

  -- a pair of the rows before it, by whether the row held it
  pub of_rows : (p : Key × Ref) → Contains (joined rows) p → Contains (get_or rows i []) p ⊎ Contains (joined (set rows i new)) p
  of_rows p c =
      let (j, l, d) = in_joined rows p c in
      elim (eqb j i) as (λ b. eqb j i ≡ b → Contains (get_or rows i []) p ⊎ Contains (joined (set rows i new)) p) [
        | true ↦ λ t. inl (subst (λ n. Contains (get_or rows n []) p) (eqb-true j i t) d)
        | false ↦ λ t. inr (other_set j p (λ e. (let z = sym t ∙ eq-eqb j i e in cc)) d)
      ] refl

  -- an answer noted in one row is noted in all together
  pub notes_row : (k : Key) (r : Ref) → NotesAnswer (get_or rows i []) k r new → NotesAnswer (joined rows) k r (joined (set rows i new))
  notes_row k r n = record {
    noted = (n.noted.0, before_set (k, n.noted.0) n.noted.1);
    only = λ l a c. elim (after_set (l, a) c) [
      | inl d ↦ elim (n.only l a d) [ inl o ↦ inl (joined_in rows i (l, a) o) | inr e ↦ inr e ]
      | inr (j, apart, d) ↦ inl (joined_in rows j (l, a) d)
    ];
    more = λ l h. elim (of_rows (l, h.0) h.1) [ inl d ↦ (let m = n.more l (h.0, d) in (m.0, before_set (l, m.0) m.1)) | inr d ↦ (h.0, d) ];
  }

  pub placed_set : ArePlaced rows → ((k : Key) (r : Ref) → Contains new (k, r) → place_of k ≡ i) → ArePlaced (set rows i new)
  placed_set h own j k r c =
      elim (eqb j i) as (λ b. eqb j i ≡ b → place_of k ≡ j) [
        | true ↦ λ t. (let e = eqb-true j i t in own k r (subst (λ l. Contains {X = Key × Ref} l (k, r)) (ap (λ n. get_or (set rows i new) n []) e ∙ (rw get_or-set_same)) c) ∙ sym e)
        | false ↦ λ t. (let apart : j ≡ i → ⊥ = λ e. (let z = sym t ∙ eq-eqb j i e in cc) in h j k r (subst (λ l. Contains {X = Key × Ref} l (k, r)) (rw get_or-set_other) c))
      ] refl

pub paired_at : (ks : List Key) (rs : List Ref) (i : ℕ) (k : Key) (d : Ref) → length ks ≡ length rs → slice_get ks i ≡ Some k → (i < length rs) × Contains {X = Key × Ref} (paired ks rs) (k, get_or rs i d)
paired_at [] rs i k d e f = absurd (cc)
paired_at (l ∷ ks) [] i k d e f = absurd (omega (arith, e))
paired_at (l ∷ ks) (s ∷ rs) zero k d e f = (omega arith, (let same : l ≡ k = cc in subst (λ z. Contains {X = Key × Ref} ((l, s) ∷ paired ks rs) (z, s)) same (head_in {X = Key × Ref} (l, s) (paired ks rs))))
paired_at (l ∷ ks) (s ∷ rs) (suc i) k d e f = let m = paired_at ks rs i k d (omega (arith, e)) f in let a = m.0 in (omega (arith, a), tail_in {X = Key × Ref} (l, s) (k, get_or rs i d) (paired ks rs) m.1)

-- a pair is a key with the reference at its place
pub paired_place : (ks : List Key) (rs : List Ref) (k : Key) (r : Ref) → Contains {X = Key × Ref} (paired ks rs) (k, r) → (i : ℕ) × (i < length ks) × (slice_get ks i ≡ Some k) × (get_or rs i r ≡ r)
paired_place [] rs k r c = absurd (nothing {X = Key × Ref} (k, r) c)
paired_place (l ∷ ks) [] k r c = absurd (nothing {X = Key × Ref} (k, r) c)
paired_place (l ∷ ks) (s ∷ rs) k r c = elim (in_cases {X = Key × Ref} (l, s) (k, r) (paired ks rs) c) [
  | inl e ↦ (zero, omega arith, ap Some (ap (λ q. q.0) e), ap (λ q. q.1) e)
  | inr d ↦ let (i, lt, f, g) = paired_place ks rs k r d in (suc i, omega (arith, lt), f, g)
]

-- ---- the answers of a row of records are put into an empty list
module _ (rows : List (List (Key × Ref))) (i : ℕ) (row : List Record) (answers : List Ref) (keys : List Key) (lt : i < length rows) (empty : get_or rows i [] ≡ []) (long : length answers ≡ length row) (index : keys ≡ map key_of row) where
  key_place : (j : ℕ) (k : Key) (d : Record) → slice_get (map key_of row) j ≡ Some k → (get_or row j d).key ≡ k
  key_place j k d e = by row j e
    where
      by : (row : List Record) (j : ℕ) → slice_get (map key_of row) j ≡ Some k → (get_or row j d).key ≡ k
      by [] j e = absurd (cc)
      by (x ∷ row) zero e = (let s : x.key ≡ k = cc in s)
      by (x ∷ row) (suc j) e = by row j e

  key_there : (row : List Record) (j : ℕ) (d : Record) → j < length row → slice_get (map key_of row) j ≡ Some (get_or row j d).key
  key_there [] j d l = absurd (omega arith)
  key_there (x ∷ row) zero d l = refl
  key_there (x ∷ row) (suc j) d l = key_there row j d (omega (arith, l))

  keys_long : length keys ≡ length row
  keys_long = ap length index ∙ length-map row key_of

  pub row_notes : (n : ℕ) → n ≤ length row → NotesFirst (joined rows) row answers n (joined (set rows i (paired keys answers)))
  row_notes n le = record {
    only = λ k a c. elim (after_set rows i (paired keys answers) lt (k, a) c) [
      | inl d ↦ (
          let (j, l, f, g) = paired_place keys answers k a d in
          let f' : slice_get (map key_of row) j ≡ Some k = subst (λ ks. slice_get ks j ≡ Some k) index f in
          let dr : Record = record { key = k; low = Done a; high = Done a } in
          inr (j, dr, (let e = keys_long in omega (arith, l, e)), key_place j k dr f', g))
      | inr (j, apart, d) ↦ inl (joined_in rows j (k, a) d)
    ];
    more = λ k h. elim (of_rows rows i (paired keys answers) lt (k, h.0) h.1) [
      | inl d ↦ absurd (nothing {X = Key × Ref} (k, h.0) (subst (λ l. Contains {X = Key × Ref} l (k, h.0)) empty d))
      | inr d ↦ (h.0, d)
    ];
    done = λ j d l. (
        let lj : j < length row = omega (arith, l, le) in
        let at = subst (λ ks. slice_get ks j ≡ Some (get_or row j d).key) (sym index) (key_there row j d lj) in
        let m = paired_at keys answers j (get_or row j d).key False (keys_long ∙ sym long) at in
        (get_or answers j False, before_set rows i (paired keys answers) lt ((get_or row j d).key, get_or answers j False) m.1));
  }

  pub row_placed : ArePlaced rows → All (λ r. place_of r.key ≡ i) row → ArePlaced (set rows i (paired keys answers))
  row_placed h own = placed_set rows i (paired keys answers) lt h
      (λ k r c. (
      let (j, l, f, g) = paired_place keys answers k r c in
      let f' : slice_get (map key_of row) j ≡ Some k = subst (λ ks. slice_get ks j ≡ Some k) index f in
      let dr : Record = record { key = k; low = Done r; high = Done r } in
      let e = keys_long in
      ap place_of (sym (key_place j k dr f')) ∙ own j dr (omega (arith, l, e))))
