-- Names that are all different are unchanged if each is interned.
use Rattle.std.proofs.Common.{◌≡◌, ◌≢◌, ℕ, zero, suc, ◌<◌, List, [], ◌∷◌, ◌++◌, true, false, refl, sym, ap, ◌∙◌, map, length, get_or, arith}
use Rattle.std.specs.Prelude.{All, cond, ◌||◌, bytes_eq, fold, slice_index}
use Rattle.std.proofs.lemmas.List.{append-nil, append_assoc}
use Rattle.std.proofs.lemmas.List.Elements.{All-append}
use Rattle.net_bench.specs.Circuit.{HaveNoRepeats, is_name_in, with_name}
use Rattle.net_bench.proofs.Names.{same_bytes}

-- each name differs from those after it
abbrev pub AreApart : List (List ℕ) → Type 0
AreApart [] = Unit {0}
AreApart (x ∷ xs) = All (λ y. y ≢ x) xs × AreApart xs

-- no name of the second list is in the first
abbrev pub AreNew : List (List ℕ) → List (List ℕ) → Type 0
AreNew old new = All (λ y. All (λ x. x ≢ y) old) new

tail_all : (P : List ℕ → Type 0) (x : List ℕ) (xs : List (List ℕ)) → All P (x ∷ xs) → All P xs
tail_all P x xs all i d low = all (suc i) d (omega arith)

not_in : (names : List (List ℕ)) (n : List ℕ) → All (λ x. x ≢ n) names → is_name_in names n ≡ false
not_in [] n all = refl
not_in (x ∷ xs) n all =
    elim (bytes_eq x n) as (λ b. b ≡ bytes_eq x n → (b || is_name_in xs n) ≡ false) [
      | true ↦ λ e. absurd (all 0 [] (omega arith) (same_bytes x n true e refl))
      | false ↦ λ e. not_in xs n (tail_all (λ y. y ≢ n) x xs all)
    ] refl

one : (P : List ℕ → Type 0) (x : List ℕ) → P x → All P (x ∷ [])
one P x p zero d low = p
one P x p (suc i) d low = absurd (omega arith)

pub counted : (old new : List (List ℕ)) → AreApart new → AreNew old new → fold with_name old new ≡ old ++ new
counted old [] apart fresh = sym (append-nil old)
counted old (y ∷ ys) (differ, apart) fresh =
    ap (λ b. fold with_name (cond b old (old ++ y ∷ [])) ys) (not_in old y (fresh 0 [] (omega arith))) ∙
    counted (old ++ y ∷ []) ys apart
    (λ i d low. All-append (λ x. x ≢ get_or ys i d) old (y ∷ []) (fresh (suc i) d (omega arith))
    (one (λ x. x ≢ get_or ys i d) y (λ same. differ i d low (sym same)))) ∙
    append_assoc old (y ∷ []) ys

pub at_two : (xs : List (List ℕ)) → AreApart xs → (i j : ℕ) → i < j → j < length xs → get_or xs i [] ≢ get_or xs j []
at_two [] apart i j less low = absurd (omega arith)
at_two (x ∷ xs) (differ, apart) i zero less low = absurd (omega arith)
at_two (x ∷ xs) (differ, apart) zero (suc j) less low = λ same. differ j [] (omega arith) (sym same)
at_two (x ∷ xs) (differ, apart) (suc i) (suc j) less low = at_two xs apart i j (omega arith) (omega arith)

pub apart_append : (xs ys : List (List ℕ)) → AreApart xs → AreApart ys → AreNew xs ys → AreApart (xs ++ ys)
apart_append [] ys ax ay new = ay
apart_append (x ∷ xs) ys (differ, ax) ay new = (
  All-append (λ y. y ≢ x) xs ys differ (λ i d low same. new i d low 0 [] (omega arith) (sym same)),
  apart_append xs ys ax ay (λ i d low. tail_all (λ z. z ≢ get_or ys i d) x xs (new i d low)),
)

pub apart_map : (f : ℕ → List ℕ) (xs : List ℕ) → HaveNoRepeats xs → ((i j : ℕ) → i < length xs → j < length xs → f (slice_index xs i) ≡ f (slice_index xs j) → slice_index xs i ≡ slice_index xs j) → AreApart (map f xs)
apart_map f [] once differ = tt
apart_map f (x ∷ xs) once differ = (
  all_map xs (λ i low same. once 0 (suc i) (omega arith) (omega arith) (sym (differ (suc i) 0 (omega arith) (omega arith) same))),
  apart_map f xs (λ i j less low. once (suc i) (suc j) (omega arith) (omega arith)) (λ i j low small. differ (suc i) (suc j) (omega arith) (omega arith)),
)
  where
    all_map : (ys : List ℕ) → ((i : ℕ) → i < length ys → f (slice_index ys i) ≢ f x) → All (λ y. y ≢ f x) (map f ys)
    all_map [] none i d low = absurd (omega arith)
    all_map (y ∷ ys) none zero d low = none 0 (omega arith)
    all_map (y ∷ ys) none (suc i) d low = all_map ys (λ j small. none (suc j) (omega arith)) i d (omega arith)

-- names with different first bytes
pub new_map : (old : List (List ℕ)) (f : ℕ → List ℕ) (xs : List ℕ) → ((s : ℕ) → All (λ x. x ≢ f s) old) → AreNew old (map f xs)
new_map old f [] none i d low = absurd (omega arith)
new_map old f (x ∷ xs) none zero d low = none x
new_map old f (x ∷ xs) none (suc i) d low = new_map old f xs none i d (omega arith)

pub none_map : (f : ℕ → List ℕ) (xs : List ℕ) (n : List ℕ) → ((s : ℕ) → f s ≢ n) → All (λ x. x ≢ n) (map f xs)
none_map f [] n none i d low = absurd (omega arith)
none_map f (x ∷ xs) n none zero d low = none x
none_map f (x ∷ xs) n none (suc i) d low = none_map f xs n none i d (omega arith)
