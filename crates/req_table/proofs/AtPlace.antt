-- Lists by level: what is at a place, and levels that are emptied.
use Rattle.std.proofs.Common.{◌≡◌, ◌≢◌, ℕ, zero, suc, ◌<◌, ◌≤◌, ◌⊎◌, inl, inr, List, [], ◌∷◌, length, set, get_or, replicate, Option, Some, None, slice_get, refl, sym, ◌∙◌, ap, subst, arith}
use Rattle.std.proofs.Math.Nat.{eq-or-lt_of_le}
use Rattle.std.proofs.Math.ListN.{get_or-eq_default, length-replicate}
use Rattle.std.proofs.lemmas.Bool.{cases_lt}
use Rattle.std.proofs.lemmas.List.{get_or_default, get_or-set_same, get_or-set_other}
use Rattle.req_table.specs.Places.{row, IsAtPlace, AreEmpty, AreNone}

pub same_level : (w l : ℕ) → (w ≡ l) ⊎ (w ≢ l)
same_level w l =
    elim (cases_lt w l) [
      | inl lt ↦ inr (λ e. omega (arith, e, lt))
      | inr le ↦ elim (eq-or-lt_of_le le) [ inl e ↦ inl (sym e) | inr lt ↦ inr (λ e. omega (arith, e, lt)) ]
    ]

pub some_same : {X : Type 0} (o : Option X) (x y : X) → o ≡ Some x → o ≡ Some y → x ≡ y
some_same (Some z) x y e f = cc
some_same None x y e f = absurd (let g : None ≡ Some x = e in cc)

pub at_place_none : {X : Type 0} (xs : List X) (q : ℕ) (x : X) → xs ≡ [] → slice_get xs q ≡ Some x → ⊥
at_place_none {X} xs q x e h = by (subst (λ (z : List X). slice_get z q ≡ Some x) e h)
  where
    by : None ≡ Some x → ⊥
    by g = cc

-- one list of a list of lists is written
pub row_own : {X : Type 0} (lists : List (List X)) (v : ℕ) (xs : List X) → v < length lists → row (set lists v xs) v ≡ xs
row_own lists v xs lt = get_or-set_same lists v xs [] lt

pub row_other : {X : Type 0} (lists : List (List X)) (v : ℕ) (xs : List X) (w : ℕ) → w ≢ v → row (set lists v xs) w ≡ row lists w
row_other lists v xs w ne = get_or-set_other lists v w xs [] ne

-- a level with nothing at any place is empty
pub row_none : {X : Type 0} (lists : List (List X)) (w : ℕ) → ((q : ℕ) (x : X) → IsAtPlace lists w q x → ⊥) → row lists w ≡ []
row_none {X} lists w none = by (row lists w) refl
  where
    by : (xs : List X) → row lists w ≡ xs → row lists w ≡ []
    by [] e = e
    by (x ∷ xs) e = absurd (none 0 x (ap (λ z. slice_get z 0) e))

-- what an index reads of a list of lists
pub row_read : {X : Type 0} (lists : List (List X)) (v : ℕ) (xs : List X) → v < length lists → xs ≡ get_or lists v xs → xs ≡ row lists v
row_read lists v xs lt e = e ∙ get_or_default lists v xs [] lt

-- what is at a place is in one of the lists
pub in_lists : {X : Type 0} (lists : List (List X)) (l p : ℕ) (x : X) → IsAtPlace lists l p x → l < length lists
in_lists lists l p x h = elim (cases_lt l (length lists)) [ inl lt ↦ lt | inr le ↦ absurd (at_place_none (row lists l) p x (get_or-eq_default lists [] le) h) ]

-- each place of a list has something
pub at_place_some : {X : Type 0} (xs : List X) (i : ℕ) → i < length xs → (x : X) × (slice_get xs i ≡ Some x)
at_place_some [] i lt = absurd (omega arith)
at_place_some (x ∷ xs) zero lt = (x, refl)
at_place_some (x ∷ xs) (suc i) lt = at_place_some xs i (omega arith)

-- empty lists
pub row_replicate : {X : Type 0} (n w : ℕ) → row {X = X} (replicate n []) w ≡ []
row_replicate zero w = refl
row_replicate (suc n) zero = refl
row_replicate (suc n) (suc w) = row_replicate n w

pub made_empty : {X : Type 0} (n : ℕ) (lists : List (List X)) → lists ≡ replicate n [] → AreEmpty lists n
made_empty {X} n lists e = subst (λ (z : List (List X)). AreEmpty z n) (sym e) (record { levels = length-replicate n []; empty = λ w. row_replicate n w })

pub taken_all : {X : Type 0} (T : List (List X)) (n v : ℕ) → length T ≡ n → AreNone T 0 v → ((w q : ℕ) (x : X) → v ≤ w → IsAtPlace T w q x → ⊥) → AreEmpty T n
taken_all T n v len before later = record {
  levels = len;
  empty = λ w. row_none T w (λ q x h. elim (cases_lt w v) [ inl lt ↦ before w q x (omega arith) lt h | inr le ↦ later w q x le h ]);
}

-- lists of which each is empty
pub all_empty : {X : Type 0} (lists : List (List X)) (n : ℕ) → AreEmpty lists n → lists ≡ replicate n []
all_empty [] zero e = refl
all_empty [] (suc n) e = absurd (let l = e.levels in omega (arith, l))
all_empty (x ∷ xs) zero e = absurd (let l = e.levels in omega (arith, l))
all_empty (x ∷ xs) (suc n) e = λ i. e.empty 0 i ∷ all_empty xs n (record { levels = let l = e.levels in omega (arith, l); empty = λ w. e.empty (suc w) }) i
