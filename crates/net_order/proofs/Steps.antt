-- One more step of the loops over lists.
use Rattle.std.proofs.Common.{◌≡◌, ℕ, ◌+◌, ◌<◌, List, [], ◌∷◌, ◌++◌, Bool, true, false, refl, sym, ap, ◌∙◌, suc, length, take, drop, get_or, arith, drop-cons}
use Rattle.std.specs.Prelude.{cond, not, ◌&&◌, Some, slice_get}
use Rattle.std.proofs.lemmas.List.{take_more}
use Rattle.std.proofs.lemmas.Option.{get_or_from_slice_get}
use Rattle.net_bench.specs.Circuit.{is_name_in, with_name}
use Rattle.net_order.specs.Order.{bad_place}

pub head_of : {X : Type 0} (xs : List X) (i : ℕ) (x : X) → i < length xs → x ≡ get_or xs i x → drop i xs ≡ x ∷ drop (i + 1) xs
head_of xs i x h at =
    let more : suc i ≡ i + 1 = omega arith in
    drop-cons xs i x h ∙ ap (λ y. y ∷ drop (suc i) xs) (sym at) ∙ ap (λ k. x ∷ drop k xs) more

-- the name at a place, and those after it
pub names_from : (list : List (List ℕ)) (i : ℕ) (n : List ℕ) → slice_get list i ≡ Some n → i < length list → drop i list ≡ n ∷ drop (i + 1) list
names_from list i n named h = head_of list i n h (sym (get_or_from_slice_get list i n n named))

-- ---- lists of names

and_false : (b : Bool) → (b && false) ≡ false
and_false true = refl
and_false false = refl

module _ (variables before list : List (List ℕ)) (i : ℕ) (n : List ℕ) (named : slice_get list i ≡ Some n) (h : i < length list) where
  here : bad_place variables before (drop i list) (i + 1) ≡ cond (is_name_in variables n && not (is_name_in before n)) (bad_place variables (before ++ n ∷ []) (drop (i + 1) list) (i + 1 + 1)) (Some (i + 1))
  here = ap (λ ns. bad_place variables before ns (i + 1)) (names_from list i n named h)

  pub no_variable : is_name_in variables n ≡ false → bad_place variables before (drop i list) (i + 1) ≡ Some (i + 1)
  no_variable none = here ∙ ap (λ v. cond (v && not (is_name_in before n)) (bad_place variables (before ++ n ∷ []) (drop (i + 1) list) (i + 1 + 1)) (Some (i + 1))) none

  pub stood_before : is_name_in before n ≡ true → bad_place variables before (drop i list) (i + 1) ≡ Some (i + 1)
  stood_before some =
      here ∙
      ap (λ v. cond (is_name_in variables n && not v) (bad_place variables (before ++ n ∷ []) (drop (i + 1) list) (i + 1 + 1)) (Some (i + 1))) some ∙
      ap (λ v. cond v (bad_place variables (before ++ n ∷ []) (drop (i + 1) list) (i + 1 + 1)) (Some (i + 1))) (and_false (is_name_in variables n))

  module _ (new : List (List ℕ)) (absent : is_name_in before n ≡ false) (counted : new ≡ with_name before n) where
    grown : new ≡ before ++ n ∷ []
    grown = counted ∙ ap (λ b. cond b before (before ++ n ∷ [])) absent

    pub one_name : is_name_in variables n ≡ true → bad_place variables new (drop (i + 1) list) (i + 1 + 1) ≡ bad_place variables before (drop i list) (i + 1)
    one_name some =
        ap (λ t. bad_place variables t (drop (i + 1) list) (i + 1 + 1)) grown ∙
        sym (
        here ∙
        ap (λ v. cond (v && not (is_name_in before n)) (bad_place variables (before ++ n ∷ []) (drop (i + 1) list) (i + 1 + 1)) (Some (i + 1))) some ∙
        ap (λ v. cond (not v) (bad_place variables (before ++ n ∷ []) (drop (i + 1) list) (i + 1 + 1)) (Some (i + 1))) absent
        )

    pub taken_more : before ≡ take i list → new ≡ take (i + 1) list
    taken_more is_taken =
        grown ∙ ap (λ t. t ++ n ∷ []) is_taken ∙ ap (λ m. take i list ++ m ∷ []) (sym (get_or_from_slice_get list i n n named)) ∙ sym (take_more list i n h)
