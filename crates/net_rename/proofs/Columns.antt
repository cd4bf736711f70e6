-- The columns of a list of pairs, as one pair after the other is put into them.
use Rattle.std.proofs.Common.{◌≡◌, ◌≢◌, ◌∙◌, ◌+◌, ◌<◌, ◌++◌, ◌∷◌, [], ℕ, List, false, refl, sym, ap, subst, length, map, take, drop, get_or, arith}
use Rattle.std.specs.Prelude.{bytes_eq, cond, ◌||◌, IsTrue}
use Rattle.std.specs.List.{IsDistinct}
use Rattle.std.proofs.lemmas.List.{drop_more, map-append, take-append-drop, take_more}
use Rattle.std.proofs.lemmas.List.Folds.{list_any_at}
use Rattle.std.proofs.lemmas.List.Quantifiers.{all_pairs_push}
use Rattle.std.proofs.lemmas.Map.Made.{AllPairs-from_IsDistinct, IsDistinct-from_AllPairs}
use Rattle.std.proofs.lemmas.Slice.Eq.{bytes_eq-Decides}
use Rattle.net_bench.specs.Circuit.{is_name_in, with_name}
use Rattle.net_bench.proofs.Numbers.{name_itself}
use Rattle.net_rename.specs.declared.pair.NamePair.{NamePair}
use Rattle.net_rename.specs.Renaming.{HasRepeated, firsts, seconds}

-- a name that is not there goes to the end
put_last : (names all : List (List ℕ)) (n : List ℕ) → is_name_in names n ≡ false → all ≡ with_name names n → all ≡ names ++ n ∷ []
put_last names all n absent grown = grown ∙ ap (λ b. cond b names (names ++ n ∷ [])) absent

-- no name is twice in an empty column, nor in a column with a new name more
pub none_twice : (names : List (List ℕ)) → names ≡ [] → IsDistinct bytes_eq names
none_twice names e =
    subst (IsDistinct bytes_eq) (sym e) (IsDistinct-from_AllPairs bytes_eq-Decides [] (λ i j d lt low. absurd (omega arith)))

pub once_more : (names all : List (List ℕ)) (n : List ℕ) → IsDistinct bytes_eq names → is_name_in names n ≡ false → all ≡ with_name names n → IsDistinct bytes_eq all
once_more names all n once absent grown =
    let other : (k : ℕ) (d : List ℕ) → k < length names → get_or names k d ≢ n =
    λ k d low e. let there = list_any_at (λ m. bytes_eq m n) names k d low (ap (λ m. bytes_eq m n) e ∙ name_itself n) in cc in
    subst (IsDistinct bytes_eq) (sym (put_last names all n absent grown))
    (IsDistinct-from_AllPairs bytes_eq-Decides (names ++ n ∷ []) (all_pairs_push (λ x y. x ≢ y) names n (AllPairs-from_IsDistinct bytes_eq-Decides names once) other))

-- the pairs before one, this one, and those after it
pub parted : (pairs : List NamePair) (i : ℕ) (p : NamePair) → i < length pairs → p ≡ get_or pairs i p → pairs ≡ take i pairs ++ p ∷ drop (i + 1) pairs
parted pairs i p low at =
    sym (take-append-drop i pairs) ∙ ap (λ ps. take i pairs ++ ps) (drop_more pairs i p low ∙ ap (λ q. q ∷ drop (i + 1) pairs) (sym at))

module _ (pairs : List NamePair) (i : ℕ) (p : NamePair) (low : i < length pairs) (at : p ≡ get_or pairs i p) where
  -- the name of one more pair
  pub column_more : (f : NamePair → List ℕ) (n : List ℕ) (names all : List (List ℕ)) → n ≡ f p → names ≡ map f (take i pairs) → is_name_in names n ≡ false → all ≡ with_name names n →
      all ≡ map f (take (i + 1) pairs)
  column_more f n names all is column absent grown =
      put_last names all n absent grown ∙ ap (λ ns. ns ++ n ∷ []) column ∙ ap (λ m. map f (take i pairs) ++ m ∷ []) (is ∙ ap f at) ∙
      sym (ap (map f) (take_more pairs i p low) ∙ map-append f (take i pairs) (get_or pairs i p ∷ []))

  -- a name of an earlier pair, where no earlier name is in its column twice
  pub repeated_at : (one two : List (List ℕ)) → one ≡ firsts (take i pairs) → two ≡ seconds (take i pairs) → IsDistinct bytes_eq one → IsDistinct bytes_eq two →
      IsTrue (is_name_in one p.first.items || is_name_in two p.second.items) → HasRepeated pairs p.line
  repeated_at one two first second firsts_once seconds_once there = (
    take i pairs,
    drop (i + 1) pairs,
    p,
    parted pairs i p low at,
    refl,
    (subst (IsDistinct bytes_eq) first firsts_once, subst (IsDistinct bytes_eq) second seconds_once),
    sym (ap (λ ns. is_name_in ns p.first.items || is_name_in two p.second.items) first ∙ ap (λ ns. is_name_in (firsts (take i pairs)) p.first.items || is_name_in ns p.second.items) second) ∙ there,
  )
