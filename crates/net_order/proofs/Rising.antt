-- A stable sort by a key gives the list by rising key.
use Rattle.std.proofs.Common.{◌≡◌, ℕ, zero, suc, ◌+◌, ◌<◌, ◌≤◌, ◌⊎◌, inl, inr, List, [], ◌∷◌, Bool, true, false, refl, sym, ap, ap₂, ◌∙◌, subst, arith, add-one, get_or, map}
use Rattle.std.proofs.lemmas.Bool.{cases_lt}
use Rattle.std.proofs.lemmas.Bool.Decides.{nat_tests}
use Rattle.std.specs.Prelude.{cond, not, ◌&&◌, ◌==◌, nat_le, Contains}
use Rattle.std.specs.List.{filter}
use Rattle.std.specs.List.Sorted.{IsPermutation, IsSortedBy, IsStableBy, ties}
use Rattle.std.proofs.lemmas.List.Sorted.{IsPermutation-refl, IsPermutation-trans, IsPermutation-middle, IsPermutation-cons}
use Rattle.std.specs.Ordering.{is_lt, nat_cmp}
use Rattle.net_order.specs.Index.{put_by_key, rising}
use Rattle.net_order.proofs.Falling.{at_least, is_less, not_less}

no_both : true ≡ false → ⊥
no_both e = cc

equal_itself : (n : ℕ) → (n == n) ≡ true
equal_itself n = grind arith

shifted : {X : Type 0} (x : X) (xs : List X) (k : ℕ) (d : X) → get_or (x ∷ xs) (k + 1) d ≡ get_or xs k d
shifted x xs k d = rw add-one refl

more : {X : Type 0} (x : X) (xs : List X) (o : X) → Contains xs o → Contains (x ∷ xs) o
more x xs o among = (among.0 + 1, omega (arith, among.1), rw add-one among.2)

less : {X : Type 0} (x : X) (xs : List X) (o : X) → Contains (x ∷ xs) o → (x ≡ o) ⊎ Contains xs o
less x xs o (zero, low, at) = inl at
less x xs o (suc i, low, at) = inr (i, omega arith, at)

no_head : {X : Type 0} (x : X) (xs : List X) → [] ≡ x ∷ xs → ⊥
no_head x xs e = cc

heads : {X : Type 0} (x y : X) (xs ys : List X) → x ∷ xs ≡ y ∷ ys → x ≡ y
heads x y xs ys e = cc

tails : {X : Type 0} (b : Bool) (x y : X) (xs ys : List X) → cond b (x ∷ xs) xs ≡ cond b (y ∷ ys) ys → xs ≡ ys
tails true x y xs ys e = cc
tails false x y xs ys e = e

swapped : {X : Type 0} (b c : Bool) (s t : X) (r : List X) → (b ≡ true → c ≡ true → ⊥) → cond c (t ∷ cond b (s ∷ r) r) (cond b (s ∷ r) r) ≡ cond b (s ∷ cond c (t ∷ r) r) (cond c (t ∷ r) r)
swapped true true s t r h = absurd (h refl refl)
swapped true false s t r h = refl
swapped false true s t r h = refl
swapped false false s t r h = refl

filter_same : {X : Type 0} (p q : X → Bool) (xs : List X) → ((x : X) → p x ≡ q x) → filter p xs ≡ filter q xs
filter_same p q [] h = refl
filter_same p q (x ∷ xs) h = ap (λ b. cond b (x ∷ filter p xs) (filter p xs)) (h x) ∙ ap (λ ys. cond (q x) (x ∷ ys) ys) (filter_same p q xs h)

module _ {X : Type 0} (key : X → ℕ) where
  -- no item has a lower key than one before it
  abbrev Rises : List X → Type 0
  Rises [] = Unit {0}
  Rises (x ∷ xs) = ((o : X) → Contains xs o → key x ≤ key o) × Rises xs

  -- the items of a key
  abbrev at_key : ℕ → List X → List X
  at_key r xs = filter (λ s. key s == r) xs

  put_contains : (s : X) (ts : List X) (o : X) → Contains (put_by_key key s ts) o → (s ≡ o) ⊎ Contains ts o
  put_contains s [] o among = less s [] o among
  put_contains s (t ∷ ts) o among =
      elim (nat_le (key s) (key t)) as (λ b. Contains (cond b (s ∷ t ∷ ts) (t ∷ put_by_key key s ts)) o → (s ≡ o) ⊎ Contains (t ∷ ts) o) [
        | true ↦ λ h. less s (t ∷ ts) o h
        | false ↦ λ h. elim (less t (put_by_key key s ts) o h) [
          | inl here ↦ inr (0, omega arith, here)
          | inr there ↦ elim (put_contains s ts o there) [ inl here ↦ inl here | inr rest ↦ inr (more t ts o rest) ]
        ]
      ] among

  put_rises : (s : X) (ts : List X) → Rises ts → Rises (put_by_key key s ts)
  put_rises s [] f = (λ o among. absurd (omega (arith, among.1)), tt)
  put_rises s (t ∷ ts) f =
      elim (nat_le (key s) (key t)) as (λ b. nat_le (key s) (key t) ≡ b → Rises (cond b (s ∷ t ∷ ts) (t ∷ put_by_key key s ts))) [
        | true ↦ λ e.
            let above : key s ≤ key t = grind (arith, nat_tests) in (
              λ o among. elim (less t ts o among) [
                | inl here ↦ subst (λ x. key s ≤ key x) here above
                | inr rest ↦ let low : key t ≤ key o = f.0 o rest in omega arith
              ],
              f,
            )
        | false ↦ λ e.
            let below : key t ≤ key s = grind (arith, nat_tests) in (
              λ o among. elim (put_contains s ts o among) [
                | inl here ↦ subst (λ x. key t ≤ key x) here below
                | inr rest ↦ f.0 o rest
              ],
              put_rises s ts f.1,
            )
      ] refl

  rising_rises : (xs : List X) → Rises (rising key xs)
  rising_rises [] = tt
  rising_rises (x ∷ xs) = put_rises x (rising key xs) (rising_rises xs)

  put_at_key : (s : X) (ts : List X) (r : ℕ) → at_key r (put_by_key key s ts) ≡ at_key r (s ∷ ts)
  put_at_key s [] r = refl
  put_at_key s (t ∷ ts) r =
      elim (nat_le (key s) (key t)) as (λ b. nat_le (key s) (key t) ≡ b → at_key r (cond b (s ∷ t ∷ ts) (t ∷ put_by_key key s ts)) ≡ at_key r (s ∷ t ∷ ts)) [
        | true ↦ λ e. refl
        | false ↦ λ e.
            let other : (key s == r) ≡ true → (key t == r) ≡ true → ⊥ = λ h k. grind (arith, nat_tests) in
            ap (λ xs. cond (key t == r) (t ∷ xs) xs) (put_at_key s ts r) ∙ swapped (key s == r) (key t == r) s t (at_key r ts) other
      ] refl

  rising_at_key : (xs : List X) (r : ℕ) → at_key r (rising key xs) ≡ at_key r xs
  rising_at_key [] r = refl
  rising_at_key (x ∷ xs) r = put_at_key x (rising key xs) r ∙ ap (λ ys. cond (key x == r) (x ∷ ys) ys) (rising_at_key xs r)

  none_at : (r : ℕ) (xs : List X) → ((o : X) → Contains xs o → r < key o) → at_key r xs ≡ []
  none_at r [] h = refl
  none_at r (x ∷ xs) h =
      let high : r < key x = h x (0, omega arith, refl) in
      let no : (key x == r) ≡ false = grind arith in
      ap (λ b. cond b (x ∷ at_key r xs) (at_key r xs)) no ∙ none_at r xs (λ o among. h o (more x xs o among))

  at_head : (x : X) (xs : List X) → at_key (key x) (x ∷ xs) ≡ x ∷ at_key (key x) xs
  at_head x xs = ap (λ b. cond b (x ∷ at_key (key x) xs) (at_key (key x) xs)) (equal_itself (key x))

  -- a least key cannot be missing
  missing : (x y : X) (xs ys : List X) → Rises (x ∷ xs) → key y < key x → at_key (key y) (x ∷ xs) ≡ at_key (key y) (y ∷ ys) → ⊥
  missing x y xs ys f low e =
      no_head y (at_key (key y) ys)
      (sym (none_at (key y) (x ∷ xs) (λ o among. elim (less x xs o among) [ inl here ↦ subst (λ z. key y < key z) here low | inr rest ↦ let above : key x ≤ key o = f.0 o rest in omega arith ])) ∙ e ∙ at_head y ys)

  one_order : (xs ys : List X) → Rises xs → Rises ys → ((z : X) → at_key (key z) xs ≡ at_key (key z) ys) → xs ≡ ys
  one_order [] [] f g same = refl
  one_order [] (y ∷ ys) f g same = absurd (no_head y (at_key (key y) ys) (same y ∙ at_head y ys))
  one_order (x ∷ xs) [] f g same = absurd (no_head x (at_key (key x) xs) (sym (same x) ∙ at_head x xs))
  one_order (x ∷ xs) (y ∷ ys) f g same =
      elim (cases_lt (key y) (key x)) [
        | inl low ↦ absurd (missing x y xs ys f low (same y))
        | inr above ↦ elim (cases_lt (key x) (key y)) [
          | inl low ↦ absurd (missing y x ys xs g low (sym (same x)))
          | inr under ↦
              let equal : key x ≡ key y = omega arith in
              let first : x ≡ y = heads x y (at_key (key x) xs) (at_key (key x) ys) (sym (at_head x xs) ∙ same x ∙ ap (λ r. at_key r (y ∷ ys)) equal ∙ at_head y ys ∙ ap (λ r. y ∷ at_key r ys) (sym equal)) in
              let rest = one_order xs ys f.1 g.1
              (λ z. tails (key x == key z) x y (at_key (key z) xs) (at_key (key z) ys)
              (same z ∙ ap (λ k. cond (k == key z) (y ∷ at_key (key z) ys) (at_key (key z) ys)) (sym equal))) in
              ap (λ z. z ∷ xs) first ∙ ap (λ zs. y ∷ zs) rest
        ]
      ]

  -- ---- what a stable sort by rising key yields

  abbrev below : X → X → Bool
  below x y = is_lt (nat_cmp (key x) (key y))

  tie_is : (x y : X) → ties below x y ≡ (key y == key x)
  tie_is x y = elim (cases_lt (key x) (key y)) [
    | inl low ↦
        let no : (key y == key x) ≡ false = grind arith in
        ap (λ b. not b && not (below y x)) (is_less (key x) (key y) low) ∙ sym no
    | inr above ↦ elim (cases_lt (key y) (key x)) [
      | inl low ↦
          let no : (key y == key x) ≡ false = grind arith in
          ap (λ b. not b && not (below y x)) (not_less (key x) (key y) above) ∙ ap (λ b. not false && not b) (is_less (key y) (key x) low) ∙ sym no
      | inr under ↦
          let yes : (key y == key x) ≡ true = grind arith in
          ap (λ b. not b && not (below y x)) (not_less (key x) (key y) above) ∙ ap (λ b. not false && not b) (not_less (key y) (key x) under) ∙ sym yes
    ]
  ]

  rises_from : (xs : List X) → IsSortedBy below xs → Rises xs
  rises_from [] h = tt
  rises_from (x ∷ []) h = (λ o among. absurd (omega (arith, among.1)), tt)
  rises_from (x ∷ y ∷ xs) h =
      let rest : Rises (y ∷ xs) = rises_from (y ∷ xs)
      (λ k d low high. ap₂ (λ u v. below u v) (sym (shifted x (y ∷ xs) (k + 1) d)) (sym (shifted x (y ∷ xs) k d)) ∙ h (k + 1) d (omega arith) (omega (arith, high))) in
      let first : key x ≤ key y = at_least (key y) (key x) (h 0 x (omega arith) (omega arith)) in (
        λ o among. elim (less y xs o among) [
          | inl here ↦ subst (λ z. key x ≤ key z) here first
          | inr more_right ↦ let low : key y ≤ key o = rest.0 o more_right in omega arith
        ],
        rest,
      )

  pub sorted_is : (xs ys : List X) → IsSortedBy below ys → IsStableBy below xs ys → ys ≡ rising key xs
  sorted_is xs ys up stable =
      one_order ys (rising key xs) (rises_from ys up) (rising_rises xs)
      (λ z. sym (filter_same (ties below z) (λ s. key s == key z) ys (tie_is z)) ∙ stable z ∙
      filter_same (ties below z) (λ s. key s == key z) xs (tie_is z) ∙ sym (rising_at_key xs (key z)))

-- ---- sorting what a function makes of items

put_mapped : {X Y : Type 0} (f : X → Y) (key : Y → ℕ) (x : X) (xs : List X) → map f (put_by_key (λ z. key (f z)) x xs) ≡ put_by_key key (f x) (map f xs)
put_mapped f key x [] = refl
put_mapped f key x (y ∷ ys) =
    elim (nat_le (key (f x)) (key (f y))) as (λ b. map f (cond b (x ∷ y ∷ ys) (y ∷ put_by_key (λ z. key (f z)) x ys)) ≡ cond b (f x ∷ f y ∷ map f ys) (f y ∷ put_by_key key (f x) (map f ys))) [
      | true ↦ refl
      | false ↦ ap (λ zs. f y ∷ zs) (put_mapped f key x ys)
    ]

pub rising_mapped : {X Y : Type 0} (f : X → Y) (key : Y → ℕ) (xs : List X) → map f (rising (λ z. key (f z)) xs) ≡ rising key (map f xs)
rising_mapped f key [] = refl
rising_mapped f key (x ∷ xs) = put_mapped f key x (rising (λ z. key (f z)) xs) ∙ ap (put_by_key key (f x)) (rising_mapped f key xs)

-- ---- the same items

put_moved : {X : Type 0} (key : X → ℕ) (x : X) (xs : List X) → IsPermutation (x ∷ xs) (put_by_key key x xs)
put_moved key x [] = IsPermutation-refl (x ∷ [])
put_moved key x (y ∷ ys) =
    elim (nat_le (key x) (key y)) as (λ b. IsPermutation (x ∷ y ∷ ys) (cond b (x ∷ y ∷ ys) (y ∷ put_by_key key x ys))) [
      | true ↦ IsPermutation-refl (x ∷ y ∷ ys)
      | false ↦
          IsPermutation-trans (x ∷ y ∷ ys) (y ∷ x ∷ ys) (y ∷ put_by_key key x ys) (IsPermutation-middle (x ∷ []) y ys) (IsPermutation-cons y (x ∷ ys) (put_by_key key x ys) (put_moved key x ys))
    ]

pub rising_moved : {X : Type 0} (key : X → ℕ) (xs : List X) → IsPermutation xs (rising key xs)
rising_moved key [] = IsPermutation-refl []
rising_moved key (x ∷ xs) =
    IsPermutation-trans (x ∷ xs) (x ∷ rising key xs) (put_by_key key x (rising key xs)) (IsPermutation-cons x xs (rising key xs) (rising_moved key xs)) (put_moved key x (rising key xs))
