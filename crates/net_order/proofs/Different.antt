-- Lists of different names, and how many there are.
use Rattle.std.proofs.Common.{◌≡◌, ℕ, suc, ◌<◌, ◌≤◌, List, [], ◌∷◌, Bool, true, false, refl, sym, ap, ◌∙◌, inl, inr, length, arith, get_or}
use Rattle.std.specs.Prelude.{◌||◌, bytes_eq}
use Rattle.std.specs.Cmp.{IsEquivalence}
use Rattle.std.specs.List.{IsDistinct, AllByRecursion}
use Rattle.std.specs.Set.{is_member as is_key}
use Rattle.std.proofs.lemmas.Map.Made.{length-le_from_is_member}
use Rattle.std.proofs.lemmas.Map.Keys.{IsDistinct-cons}
use Rattle.net_bench.specs.Circuit.{is_name_in, distinct}
use Rattle.net_bench.proofs.Numbers.{same_name, name_itself, or_cases, AreApart, apart_distinct}

-- ---- different names

bytes_congr : (x y z : List ℕ) → bytes_eq x y ≡ true → bytes_eq x z ≡ bytes_eq y z
bytes_congr x y z e = ap (λ w. bytes_eq w z) (same_name x y e)

both_ways : (x y : List ℕ) (a b : Bool) → bytes_eq x y ≡ a → bytes_eq y x ≡ b → a ≡ b
both_ways x y true b e f = sym (name_itself x) ∙ ap (λ w. bytes_eq w x) (same_name x y e) ∙ f
both_ways x y false true e f = sym e ∙ ap (λ w. bytes_eq x w) (same_name y x f) ∙ name_itself x
both_ways x y false false e f = refl

pub names_equal : IsEquivalence bytes_eq
names_equal = record {
  refl = name_itself;
  symm = λ x y. both_ways x y (bytes_eq x y) (bytes_eq y x) refl refl;
  congr = bytes_congr;
}

-- the same test, from either side
key_is : (names : List (List ℕ)) (n : List ℕ) → is_key bytes_eq names n ≡ is_name_in names n
key_is [] n = refl
key_is (m ∷ names) n = ap (λ b. b || is_key bytes_eq names n) (names_equal.symm n m) ∙ ap (λ b. bytes_eq m n || b) (key_is names n)

abbrev pub AmongNames : List (List ℕ) → List (List ℕ) → Type 0
AmongNames xs ys = (n : List ℕ) → is_name_in xs n ≡ true → is_name_in ys n ≡ true

-- different names out of a list are no more than the list
pub no_more : (xs ys : List (List ℕ)) → IsDistinct bytes_eq xs → AmongNames xs ys → length xs ≤ length ys
no_more xs ys h among = length-le_from_is_member names_equal xs ys h (λ n e. key_is ys n ∙ among n (sym (key_is xs n) ∙ e))

not_equal : (b : Bool) → (b ≡ true → ⊥) → b ≡ false
not_equal true h = absurd (h refl)
not_equal false h = refl

-- a name that is not at any other place
head_apart : (x : List ℕ) (xs : List (List ℕ)) → ((j : ℕ) → j < length xs → x ≡ get_or xs j [] → ⊥) → AllByRecursion (λ y. bytes_eq x y ≡ false) xs
head_apart x [] h = tt
head_apart x (y ∷ xs) h = (not_equal (bytes_eq x y) (λ e. h 0 (omega arith) (same_name x y e)), head_apart x xs (λ j low e. h (suc j) (omega arith) e))

pub distinct_from_apart : (names : List (List ℕ)) → AreApart names → IsDistinct bytes_eq names
unfolding IsDistinct
distinct_from_apart [] h = tt
distinct_from_apart (x ∷ names) h =
    IsDistinct-cons bytes_eq x names (head_apart x names (λ j low e. h 0 (suc j) (omega arith) (omega arith) e))
    (distinct_from_apart names (λ i j lt low e. h (suc i) (suc j) (omega arith) (omega arith) e))

pub all_different : (names : List (List ℕ)) → IsDistinct bytes_eq (distinct names)
all_different names = distinct_from_apart (distinct names) (apart_distinct names)

neither_left : (a b : Bool) → (a || b) ≡ false → a ≡ false
neither_left true b e = e
neither_left false b e = refl

neither_right : (a b : Bool) → (a || b) ≡ false → b ≡ false
neither_right true b e = cc
neither_right false b e = e

absent_apart : (x : List ℕ) (xs : List (List ℕ)) → is_name_in xs x ≡ false → AllByRecursion (λ y. bytes_eq x y ≡ false) xs
absent_apart x [] h = tt
absent_apart x (y ∷ xs) h = (names_equal.symm x y ∙ neither_left (bytes_eq y x) (is_name_in xs x) h, absent_apart x xs (neither_right (bytes_eq y x) (is_name_in xs x) h))

either_name : (xs ys : List (List ℕ)) (n m : List ℕ) → AmongNames xs ys → is_name_in ys n ≡ true → (bytes_eq n m || is_name_in xs m) ≡ true → is_name_in ys m ≡ true
either_name xs ys n m among e h = elim (or_cases (bytes_eq n m) (is_name_in xs m) h) [
  | inl same ↦ ap (is_name_in ys) (sym (same_name n m same)) ∙ e
  | inr more ↦ among m more
]

-- different names that are as many as the list that they are from are all of it
pub all_there : (xs ys : List (List ℕ)) → IsDistinct bytes_eq xs → AmongNames xs ys → length ys ≤ length xs → AmongNames ys xs
all_there xs ys h among many n e =
    elim (is_name_in xs n) as (λ b. is_name_in xs n ≡ b → b ≡ true) [
      | true ↦ λ there. refl
      | false ↦ λ absent.
          let more : length (n ∷ xs) ≤ length ys = no_more (n ∷ xs) ys (IsDistinct-cons bytes_eq n xs (absent_apart n xs absent) h) (λ m k. either_name xs ys n m among e k) in
          absurd (omega arith)
    ] refl
