-- Lists of lists, and one more item at the end of one of them.
use Rattle.std.proofs.Common.{◌≡◌, ◌≢◌, ℕ, zero, suc, ◌+◌, ◌<◌, ◌≤◌, ◌==◌, Bool, true, false, cond, List, [], ◌∷◌, ◌++◌, length, map, get_or, max, refl, sym, ◌∙◌, ap, arith, eq-eqb, set}
use Rattle.std.proofs.lemmas.List.{append-nil}
use Rattle.std.proofs.lemmas.Bool.{ne_eqb}
use Rattle.std.proofs.lemmas.Bool.Decides.{eqb_tells, nat_tests}
use Rattle.std.proofs.Common.{◌⊎◌, inl, inr, nat_lt}
use Rattle.std.specs.Prelude.{Result, Ok, Err, if◌then◌else◌}
use Rattle.std.specs.Result.{is_ok, is_err}
use Rattle.gate_plan.specs.Plans.{AddsAt}

-- equality of numbers is decidable
pub same_number : (a b : ℕ) → Dec (a ≡ b)
same_number a b = elim (eqb_tells a b) [ inl t ↦ yes t.1 | inr t ↦ no t.1 ]

pub lt_or_le : (a b : ℕ) → (a < b) ⊎ (b ≤ a)
lt_or_le a b = by (nat_lt a b) refl
  where
    by : (t : Bool) → nat_lt a b ≡ t → (a < b) ⊎ (b ≤ a)
    by true e = inl (grind (arith, nat_tests))
    by false e = inr (grind (arith, nat_tests))

-- a push that was not refused
pub pushed : {A E X : Type 0} (r : Result A E) (new xs : List X) (x : X) → new ≡ (if is_ok r then xs ++ x ∷ [] else xs) → is_err r ≡ false → new ≡ xs ++ x ∷ []
pushed (Ok a) new xs x e f = e
pushed (Err a) new xs x e f = absurd (cc)

pub at_end : {X : Type 0} (xs : List X) (x d : X) → get_or (xs ++ x ∷ []) (length xs) d ≡ x
at_end [] x d = refl
at_end (y ∷ xs) x d = at_end xs x d

pub before_end : {X : Type 0} (xs : List X) (x d : X) (i : ℕ) → i < length xs → get_or (xs ++ x ∷ []) i d ≡ get_or xs i d
before_end [] x d i lt = absurd (omega arith)
before_end (y ∷ xs) x d zero lt = refl
before_end (y ∷ xs) x d (suc i) lt = before_end xs x d i (omega arith)

module _ {X Y : Type 0} (f : Y → List X) where
  -- the list at the place of a write
  at_set : (ls : List Y) (place : ℕ) (y : Y) → place < length ls → get_or (map f (set ls place y)) place [] ≡ f y
  at_set [] place y lt = absurd (omega arith)
  at_set (l ∷ ls) zero y lt = refl
  at_set (l ∷ ls) (suc place) y lt = at_set ls place y (omega arith)

  -- the list at another place than that of the write
  off_set : (ls : List Y) (place j : ℕ) (y : Y) → j ≢ place → get_or (map f (set ls place y)) j [] ≡ get_or (map f ls) j []
  off_set [] zero j y ne = refl
  off_set [] (suc place) j y ne = refl
  off_set (l ∷ ls) zero zero y ne = absurd (ne refl)
  off_set (l ∷ ls) zero (suc j) y ne = refl
  off_set (l ∷ ls) (suc place) zero y ne = refl
  off_set (l ∷ ls) (suc place) (suc j) y ne = off_set ls place j y (λ e. ne (ap suc e))

  length_set : (ls : List Y) (place : ℕ) (y : Y) → length (map f (set ls place y)) ≡ length (map f ls)
  length_set [] zero y = refl
  length_set [] (suc place) y = refl
  length_set (l ∷ ls) zero y = refl
  length_set (l ∷ ls) (suc place) y = ap suc (length_set ls place y)

  map_at : (ls : List Y) (j : ℕ) (d : Y) → j < length ls → get_or (map f ls) j [] ≡ f (get_or ls j d)
  map_at [] j d lt = absurd (omega arith)
  map_at (l ∷ ls) zero d lt = refl
  map_at (l ∷ ls) (suc j) d lt = map_at ls j d (omega arith)

  -- one more item in one of the lists
  pub added_in : (ls : List Y) (place : ℕ) (y d : Y) (item : X) → place < length ls → f y ≡ f (get_or ls place d) ++ item ∷ [] → AddsAt (map f ls) place item (map f (set ls place y))
  added_in ls place y d item lt e = record { count = same ∙ sym fits; lists = λ j. by j (same_number j place) }
    where
      same : length (map f (set ls place y)) ≡ length (map f ls)
      same = length_set ls place y

      count : (zs : List Y) → length (map f zs) ≡ length zs
      count [] = refl
      count (z ∷ zs) = ap suc (count zs)

      fits : max (length (map f ls)) (place + 1) ≡ length (map f ls)
      fits = let n : length (map f ls) ≡ length ls = count ls in omega arith

      by : (j : ℕ) → Dec (j ≡ place) → get_or (map f (set ls place y)) j [] ≡ get_or (map f ls) j [] ++ cond (j == place) (item ∷ []) []
      by j (yes same) =
          ap (λ z. get_or (map f (set ls place y)) z []) same ∙ at_set ls place y lt ∙ e
          ∙ ap (λ z. z ++ item ∷ []) (sym (map_at ls place d lt) ∙ ap (λ z. get_or (map f ls) z []) (sym same))
          ∙ ap (λ b. get_or (map f ls) j [] ++ cond b (item ∷ []) []) (sym (eq-eqb j place same))
      by j (no ne) =
          off_set ls place j y ne ∙ sym (append-nil (get_or (map f ls) j []))
          ∙ ap (λ b. get_or (map f ls) j [] ++ cond b (item ∷ []) []) (sym (ne_eqb j place ne))

  -- one more empty list
  at_next : (ls : List Y) (y : Y) → f y ≡ [] → (j : ℕ) → get_or (map f (ls ++ y ∷ [])) j [] ≡ get_or (map f ls) j []
  at_next [] y e zero = e
  at_next [] y e (suc j) = refl
  at_next (l ∷ ls) y e zero = refl
  at_next (l ∷ ls) y e (suc j) = at_next ls y e j

  length_next : (ls : List Y) (y : Y) → length (map f (ls ++ y ∷ [])) ≡ length (map f ls) + 1
  length_next [] y = refl
  length_next (l ∷ ls) y = let e : length (map f (ls ++ y ∷ [])) ≡ length (map f ls) + 1 = length_next ls y in omega arith

  -- one item in the list after the last
  pub added_next : (ls : List Y) (place : ℕ) (y : Y) (item : X) (new : List (List X)) → place ≡ length ls → f y ≡ [] → AddsAt (map f (ls ++ y ∷ [])) place item new → AddsAt (map f ls) place item new
  added_next ls place y item new at e a = record {
    count = a.count ∙ (let n = length_next ls y in let m : length (map f ls) ≡ length ls = count ls in omega arith);
    lists = λ j. a.lists j ∙ ap (λ z. z ++ cond (j == place) (item ∷ []) []) (at_next ls y e j);
  }
    where
      count : (zs : List Y) → length (map f zs) ≡ length zs
      count [] = refl
      count (z ∷ zs) = ap suc (count zs)
