-- Lists that are divided by a number for each item, and joined again.
use Rattle.std.proofs.Common.{◌≡◌, ◌≢◌, ℕ, zero, suc, ◌+◌, ◌≤◌, inl, inr, true, false, cond, eqb, List, [], ◌∷◌, ◌++◌, length, take, drop, get_or, slice_get, Some, Contains, All, refl, ap, ◌∙◌, subst, arith, append-nil, eq-eqb, ne_eqb}
use Rattle.std.specs.List.{AllZip}
use Rattle.std.proofs.lemmas.List.{take_more, get_or-drop, length-drop}
use Rattle.std.proofs.lemmas.Option.{slice_get_within, get_or_from_slice_get}
use mathlib.Core.Logic.{dite}
use native.Mathlib.Decide.{ℕ_discrete}
use Rattle.reduce_up.specs.Division.{chosen, span}
use Rattle.reduce_up.proofs.Noting.{nothing, head_in, tail_in, in_cases}

pub chosen-push : {X : Type 0} (s : ℕ) (hs : List ℕ) (xs : List X) (h : ℕ) (x : X) → length hs ≡ length xs → chosen s (hs ++ h ∷ []) (xs ++ x ∷ []) ≡ chosen s hs xs ++ cond (eqb h s) (x ∷ []) []
chosen-push s [] [] h x e = refl
chosen-push s [] (y ∷ xs) h x e = absurd (omega (arith, e))
chosen-push s (g ∷ hs) [] h x e = absurd (omega (arith, e))
chosen-push s (g ∷ hs) (y ∷ xs) h x e =
    let more = chosen-push s hs xs h x (omega (arith, e)) in
    elim (eqb g s) as (λ b. cond b (y ∷ chosen s (hs ++ h ∷ []) (xs ++ x ∷ [])) (chosen s (hs ++ h ∷ []) (xs ++ x ∷ [])) ≡ cond b (y ∷ chosen s hs xs) (chosen s hs xs) ++ cond (eqb h s) (x ∷ []) []) [
      | true ↦ ap (λ z. y ∷ z) more
      | false ↦ more
    ]

-- one more item is chosen by its own number, and by no other
pub chosen-own : {X : Type 0} (hs : List ℕ) (xs : List X) (h : ℕ) (x : X) → length hs ≡ length xs → chosen h (hs ++ h ∷ []) (xs ++ x ∷ []) ≡ chosen h hs xs ++ x ∷ []
chosen-own hs xs h x e = chosen-push h hs xs h x e ∙ ap (λ b. chosen h hs xs ++ cond b (x ∷ []) []) (eq-eqb h h refl)

pub chosen-other : {X : Type 0} (s : ℕ) (hs : List ℕ) (xs : List X) (h : ℕ) (x : X) → length hs ≡ length xs → h ≢ s → chosen s (hs ++ h ∷ []) (xs ++ x ∷ []) ≡ chosen s hs xs
chosen-other s hs xs h x e n = chosen-push s hs xs h x e ∙ ap (λ b. chosen s hs xs ++ cond b (x ∷ []) []) (ne_eqb h s n) ∙ append-nil (chosen s hs xs)

-- how many are chosen depends only on the numbers
pub chosen-many : {X Y : Type 0} (s : ℕ) (hs : List ℕ) (xs : List X) (ys : List Y) → length xs ≡ length hs → length ys ≡ length hs → length (chosen s hs xs) ≡ length (chosen s hs ys)
chosen-many s [] [] [] a b = refl
chosen-many s [] [] (y ∷ ys) a b = absurd (omega (arith, b))
chosen-many s [] (x ∷ xs) ys a b = absurd (omega (arith, a))
chosen-many s (h ∷ hs) [] ys a b = absurd (omega (arith, a))
chosen-many s (h ∷ hs) (x ∷ xs) [] a b = absurd (omega (arith, b))
chosen-many s (h ∷ hs) (x ∷ xs) (y ∷ ys) a b =
    let more = chosen-many s hs xs ys (omega (arith, a)) (omega (arith, b)) in
    elim (eqb h s) as (λ c. length (cond c (x ∷ chosen s hs xs) (chosen s hs xs)) ≡ length (cond c (y ∷ chosen s hs ys) (chosen s hs ys))) [
      | true ↦ ap suc more
      | false ↦ more
    ]

-- fewer are chosen of the first items than of all
pub chosen-fewer : (s : ℕ) (hs : List ℕ) (i : ℕ) → length (chosen s (take i hs) (take i hs)) ≤ length (chosen s hs hs)
chosen-fewer s [] zero = omega arith
chosen-fewer s [] (suc i) = omega arith
chosen-fewer s (h ∷ hs) zero = omega arith
chosen-fewer s (h ∷ hs) (suc i) =
    let more = chosen-fewer s hs i in
    elim (eqb h s) as (λ c. length (cond c (h ∷ chosen s (take i hs) (take i hs)) (chosen s (take i hs) (take i hs))) ≤ length (cond c (h ∷ chosen s hs hs) (chosen s hs hs))) [
      | true ↦ omega (arith, more)
      | false ↦ more
    ]

-- an item that was chosen is one of the list
pub chosen-in : {X : Type 0} (s : ℕ) (hs : List ℕ) (xs : List X) (x : X) → Contains (chosen s hs xs) x → Contains xs x
chosen-in s [] xs x c = absurd (nothing x c)
chosen-in s (h ∷ hs) [] x c = absurd (nothing x c)
chosen-in s (h ∷ hs) (y ∷ xs) x c =
    elim (eqb h s) as (λ b. Contains (cond b (y ∷ chosen s hs xs) (chosen s hs xs)) x → Contains (y ∷ xs) x) [
      | true ↦ λ d. elim (in_cases y x (chosen s hs xs) d) [ inl e ↦ subst (λ z. Contains (y ∷ xs) z) e (head_in y xs) | inr more ↦ tail_in y x xs (chosen-in s hs xs x more) ]
      | false ↦ λ d. tail_in y x xs (chosen-in s hs xs x d)
    ] c

-- Two lists are related place by place if, for each number, the items of this number are.
pub zip_chosen : {A B : Type 0} (R : A → B → Type 0) (hs : List ℕ) (xs : List A) (ys : List B) → length xs ≡ length hs → length ys ≡ length hs → All (λ h. h ≤ 16) hs → ((s : ℕ) → s ≤ 16 → AllZip R (chosen s hs xs) (chosen s hs ys)) → AllZip R xs ys
zip_chosen R [] [] [] a b w f = tt
zip_chosen R [] [] (y ∷ ys) a b w f = absurd (omega (arith, b))
zip_chosen R [] (x ∷ xs) ys a b w f = absurd (omega (arith, a))
zip_chosen R (h ∷ hs) [] ys a b w f = absurd (omega (arith, a))
zip_chosen R (h ∷ hs) (x ∷ xs) [] a b w f = absurd (omega (arith, b))
zip_chosen R (h ∷ hs) (x ∷ xs) (y ∷ ys) a b w f =
    let at : AllZip R (x ∷ chosen h hs xs) (y ∷ chosen h hs ys) = subst (λ c. AllZip R (cond c (x ∷ chosen h hs xs) (chosen h hs xs)) (cond c (y ∷ chosen h hs ys) (chosen h hs ys))) (eq-eqb h h refl) (f h (w 0 h (omega arith))) in (
      at.0,
      zip_chosen R hs xs ys (omega (arith, a)) (omega (arith, b)) (λ k d l. w (suc k) d (omega (arith, l)))
          (λ s l. dite (ℕ_discrete h s)
          (λ e. subst (λ z. AllZip R (chosen z hs xs) (chosen z hs ys)) e at.1)
          (λ n. subst (λ c. AllZip R (cond c (x ∷ chosen s hs xs) (chosen s hs xs)) (cond c (y ∷ chosen s hs ys) (chosen s hs ys))) (ne_eqb h s n) (f s l))),
    )

-- a span that is longer by an item
pub span_more : {X : Type 0} (start n : ℕ) (xs : List X) (x : X) → slice_get xs (start + n) ≡ Some x → span start (n + 1) xs ≡ span start n xs ++ x ∷ []
span_more start n xs x e =
    let l = slice_get_within xs (start + n) x e in
    let at : get_or (drop start xs) n x ≡ x = get_or-drop start xs n x ∙ get_or_from_slice_get xs (start + n) x x e in
    take_more (drop start xs) n x (let d = length-drop start xs in omega (arith, d, l)) ∙ ap (λ z. span start n xs ++ z ∷ []) at

-- the references of one part among those of all
pub zip_span : {A B : Type 0} (R : A → B → Type 0) (before own after : List A) (ys : List B) → AllZip R ((before ++ own) ++ after) ys → AllZip R own (span (length before) (length own) ys)
zip_span R [] [] after ys h = tt
zip_span R [] (x ∷ own) after [] h = absurd h
zip_span R [] (x ∷ own) after (y ∷ ys) h = (h.0, zip_span R [] own after ys h.1)
zip_span R (x ∷ before) own after [] h = absurd h
zip_span R (x ∷ before) own after (y ∷ ys) h = zip_span R before own after ys h.1
