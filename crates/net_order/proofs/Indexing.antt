-- The names by rising number are the names.
use Rattle.std.proofs.Common.{◌≡◌, ℕ, ◌≤◌, List, [], ◌∷◌, ◌++◌, Bool, true, false, refl, sym, ap, ◌∙◌, length, arith, append_assoc}
use Rattle.std.specs.Prelude.{cond, ◌||◌, bytes_eq, fold, nat_le}
use Rattle.std.specs.List.{IsDistinct, AllByRecursion}
use Rattle.std.proofs.lemmas.List.{append-nil}
use Rattle.std.proofs.lemmas.List.Sorted.{length_permutation}
use Rattle.std.proofs.lemmas.Map.Keys.{IsDistinct-IsPermutation}
use Rattle.net_bench.specs.Circuit.{is_name_in, with_name, distinct}
use Rattle.net_order.specs.Index.{index_key, put_by_key, rising}
use Rattle.net_order.specs.Order.{NamedNetlistModel, all_names, by_index, declared}
use Rattle.net_order.specs.Tables.{with_names}
use Rattle.net_order.proofs.Different.{AmongNames, all_different, names_equal}
use Rattle.net_order.proofs.Members.{in_joined}
use Rattle.net_order.proofs.Rising.{rising_moved}

-- ---- different names are their own distinct names

no_false : (b : Bool) → b ≡ false → b ≡ true → ⊥
no_false true h e = cc
no_false false h e = cc

absent : (x : List ℕ) (xs : List (List ℕ)) → AllByRecursion (λ y. bytes_eq x y ≡ false) xs → is_name_in xs x ≡ false
absent x [] h = refl
absent x (y ∷ xs) h = ap (λ b. b || is_name_in xs x) (names_equal.symm y x ∙ h.0) ∙ absent x xs h.1

-- names that are not among those before come after them
all_new : (before xs : List (List ℕ)) → IsDistinct bytes_eq xs → AllByRecursion (λ x. is_name_in before x ≡ false) xs → fold with_name before xs ≡ before ++ xs
unfolding IsDistinct
all_new before [] h new = sym (append-nil before)
all_new before (x ∷ xs) h new =
    ap (λ b. fold with_name (cond b before (before ++ x ∷ [])) xs) new.0 ∙
    all_new (before ++ x ∷ []) xs h.1 (still xs h.0 new.1) ∙ append_assoc before (x ∷ []) xs
  where
    still : (ys : List (List ℕ)) → AllByRecursion (λ y. bytes_eq x y ≡ false) ys → AllByRecursion (λ y. is_name_in before y ≡ false) ys → AllByRecursion (λ y. is_name_in (before ++ x ∷ []) y ≡ false) ys
    still [] a b = tt
    still (y ∷ ys) a b = (in_joined before (x ∷ []) y ∙ ap (λ c. c || (bytes_eq x y || false)) b.0 ∙ ap (λ c. false || (c || false)) a.0, still ys a.1 b.1)

none_before : (xs : List (List ℕ)) → AllByRecursion (λ x. is_name_in [] x ≡ false) xs
none_before [] = tt
none_before (x ∷ xs) = (refl, none_before xs)

pub itself_distinct : (xs : List (List ℕ)) → IsDistinct bytes_eq xs → distinct xs ≡ xs
itself_distinct xs h = all_new [] xs h (none_before xs)

-- ---- names in another order

either_way : (a b c : Bool) → (a || (b || c)) ≡ (b || (a || c))
either_way true true c = refl
either_way true false c = refl
either_way false true c = refl
either_way false false c = refl

put_in : (key : List ℕ → ℕ) (x : List ℕ) (xs : List (List ℕ)) (n : List ℕ) → is_name_in (put_by_key key x xs) n ≡ (bytes_eq x n || is_name_in xs n)
put_in key x [] n = refl
put_in key x (y ∷ ys) n =
    elim (nat_le (key x) (key y)) as (λ b. is_name_in (cond b (x ∷ y ∷ ys) (y ∷ put_by_key key x ys)) n ≡ (bytes_eq x n || (bytes_eq y n || is_name_in ys n))) [
      | true ↦ refl
      | false ↦ ap (λ b. bytes_eq y n || b) (put_in key x ys n) ∙ either_way (bytes_eq y n) (bytes_eq x n) (is_name_in ys n)
    ]

pub rising_in : (key : List ℕ → ℕ) (xs : List (List ℕ)) (n : List ℕ) → is_name_in (rising key xs) n ≡ is_name_in xs n
rising_in key [] n = refl
rising_in key (x ∷ xs) n = put_in key x (rising key xs) n ∙ ap (λ b. bytes_eq x n || b) (rising_in key xs n)

pub rising_different : (key : List ℕ → ℕ) (xs : List (List ℕ)) → IsDistinct bytes_eq xs → IsDistinct bytes_eq (rising key xs)
rising_different key xs h = IsDistinct-IsPermutation bytes_eq names_equal.symm xs (rising key xs) (rising_moved key xs) h

module _ (sides given : List NamedNetlistModel) where
  pub indexed_different : IsDistinct bytes_eq (by_index sides given)
  indexed_different = rising_different index_key (declared sides given) (all_different (all_names sides given))

  pub indexed_known : AmongNames (by_index sides given) (declared sides given)
  indexed_known n e = sym (rising_in index_key (declared sides given) n) ∙ e

  pub indexed_all : AmongNames (declared sides given) (by_index sides given)
  indexed_all n e = rising_in index_key (declared sides given) n ∙ e

-- a table of the names by rising number
pub indexed_is : (names table : List (List ℕ)) → IsDistinct bytes_eq names → table ≡ with_names [] (rising index_key names) → table ≡ rising index_key names
indexed_is names table h made = made ∙ itself_distinct (rising index_key names) (rising_different index_key names h)

pub indexed_few : (names table : List (List ℕ)) (most : ℕ) → table ≡ rising index_key names → length names ≤ most → length table ≤ most
indexed_few names table most is few = omega (arith, few, ap length is, length_permutation names (rising index_key names) (rising_moved index_key names))
