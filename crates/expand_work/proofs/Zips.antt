-- Two lists, compared place by place.
use Rattle.std.proofs.Common.{◌≡◌, ℕ, zero, suc, ◌<◌, List, [], ◌∷◌, ◌++◌, length, slice_index_or, refl, sym, ap, ◌∙◌, subst, arith, append_assoc}
use Rattle.std.specs.List.{AllZip}
use Rattle.dd_store.proofs.Noting.{zip_push}

-- a loop over a list has gone one element further
pub turned : {A : Type 0} (done rest next all : List A) (x : A) → rest ≡ x ∷ next → done ++ rest ≡ all → (done ++ x ∷ []) ++ next ≡ all
turned done rest next all x is whole = append_assoc done (x ∷ []) next ∙ ap (λ xs. done ++ xs) (sym is) ∙ whole

module _ {A B : Type 0} (R : A → B → Type 0) where
  -- one more pair at the end
  pub zip_grown : (xs xs' : List A) (ys ys' : List B) (x : A) (y : B) → xs' ≡ xs ++ x ∷ [] → ys' ≡ ys ++ y ∷ [] → AllZip R xs ys → R x y → AllZip R xs' ys'
  zip_grown xs xs' ys ys' x y x-is y-is h r = subst (λ us. AllZip R us ys') (sym x-is) (subst (λ vs. AllZip R (xs ++ x ∷ []) vs) (sym y-is) (zip_push R xs ys x y h r))

  -- the pair at a place
  pub zip_at : (xs : List A) (ys : List B) (i : ℕ) (d : A) (e : B) → AllZip R xs ys → i < length xs → R (slice_index_or xs i d) (slice_index_or ys i e)
  zip_at [] [] i d e h l = absurd (omega (arith, l))
  zip_at [] (z ∷ ys) i d e h l = absurd h
  zip_at (z ∷ xs) [] i d e h l = absurd h
  zip_at (u ∷ xs) (v ∷ ys) zero d e h l = h.0
  zip_at (u ∷ xs) (v ∷ ys) (suc i) d e h l = zip_at xs ys i d e h.1 (omega (arith, l))

  pub zip_long : (xs : List A) (ys : List B) → AllZip R xs ys → length xs ≡ length ys
  zip_long [] [] h = refl
  zip_long [] (z ∷ ys) h = absurd h
  zip_long (z ∷ xs) [] h = absurd h
  zip_long (u ∷ xs) (v ∷ ys) h = let a = zip_long xs ys h.1 in omega (arith, a)

pub zip_weaker : {A B : Type 0} (R Q : A → B → Type 0) → ((x : A) (y : B) → R x y → Q x y) → (xs : List A) (ys : List B) → AllZip R xs ys → AllZip Q xs ys
zip_weaker R Q f [] [] h = tt
zip_weaker R Q f [] (y ∷ ys) h = absurd h
zip_weaker R Q f (x ∷ xs) [] h = absurd h
zip_weaker R Q f (x ∷ xs) (y ∷ ys) h = (f x y h.0, zip_weaker R Q f xs ys h.1)
