-- Signals by falling rank.
use Rattle.std.proofs.Common.{◌≡◌, ℕ, zero, suc, ◌+◌, ◌<◌, ◌≤◌, ◌⊎◌, inl, inr, List, [], ◌∷◌, Bool, true, false, refl, sym, ap, ◌∙◌, subst, arith, add-one, get_or}
use Rattle.std.proofs.lemmas.Bool.{cases_lt}
use Rattle.std.proofs.lemmas.Bool.Decides.{nat_tests}
use Rattle.std.proofs.Common.{ap₂}
use Rattle.std.specs.Prelude.{cond, not, ◌&&◌, ◌==◌, nat_le, nat_lt, Contains}
use Rattle.std.specs.List.{filter}
use Rattle.std.specs.List.Sorted.{IsSortedBy, IsStableBy, ties}
use Rattle.std.specs.Ordering.{is_lt, nat_cmp}
use Rattle.std.specs.declared.cmp.Ordering.TheVariants.{Less, Equal, Greater}
use Rattle.net_order.specs.Order.{put_by_rank, falling}

more : (x : ℕ) (xs : List ℕ) (o : ℕ) → Contains xs o → Contains (x ∷ xs) o
more x xs o among = (among.0 + 1, omega (arith, among.1), rw add-one among.2)

less : (x : ℕ) (xs : List ℕ) (o : ℕ) → Contains (x ∷ xs) o → (x ≡ o) ⊎ Contains xs o
less x xs o (zero, low, at) = inl at
less x xs o (suc i, low, at) = inr (i, omega arith, at)

put_contains : (rank : ℕ → ℕ) (s : ℕ) (ts : List ℕ) (o : ℕ) → Contains (put_by_rank rank s ts) o → (s ≡ o) ⊎ Contains ts o
put_contains rank s [] o among = less s [] o among
put_contains rank s (t ∷ ts) o among =
    elim (nat_le (rank t) (rank s)) as (λ b. Contains (cond b (s ∷ t ∷ ts) (t ∷ put_by_rank rank s ts)) o → (s ≡ o) ⊎ Contains (t ∷ ts) o) [
      | true ↦ λ h. less s (t ∷ ts) o h
      | false ↦ λ h. elim (less t (put_by_rank rank s ts) o h) [
        | inl here ↦ inr (0, omega arith, here)
        | inr there ↦ elim (put_contains rank s ts o there) [ inl here ↦ inl here | inr rest ↦ inr (more t ts o rest) ]
      ]
    ] among

-- what is in the sorted list was in the list
pub falling_contains : (rank : ℕ → ℕ) (xs : List ℕ) (o : ℕ) → Contains (falling rank xs) o → Contains xs o
falling_contains rank [] o among = among
falling_contains rank (x ∷ xs) o among = elim (put_contains rank x (falling rank xs) o among) [
  | inl here ↦ (0, omega arith, here)
  | inr rest ↦ more x xs o (falling_contains rank xs o rest)
]

-- ---- sorted lists with the same elements of each rank are the same

-- no element has a greater rank than one before it
abbrev pub Falls : (ℕ → ℕ) → List ℕ → Type 0
Falls rank [] = Unit {0}
Falls rank (x ∷ xs) = ((o : ℕ) → Contains xs o → rank o ≤ rank x) × Falls rank xs

-- the elements of a rank
abbrev pub at_rank : (ℕ → ℕ) → ℕ → List ℕ → List ℕ
at_rank rank r xs = filter (λ s. rank s == r) xs

put_falls : (rank : ℕ → ℕ) (s : ℕ) (ts : List ℕ) → Falls rank ts → Falls rank (put_by_rank rank s ts)
put_falls rank s [] f = (λ o among. absurd (omega (arith, among.1)), tt)
put_falls rank s (t ∷ ts) f =
    elim (nat_le (rank t) (rank s)) as (λ b. nat_le (rank t) (rank s) ≡ b → Falls rank (cond b (s ∷ t ∷ ts) (t ∷ put_by_rank rank s ts))) [
      | true ↦ λ e.
          let below : rank t ≤ rank s = grind (arith, nat_tests) in (
            λ o among. elim (less t ts o among) [
              | inl here ↦ subst (λ x. rank x ≤ rank s) here below
              | inr rest ↦ let low : rank o ≤ rank t = f.0 o rest in omega arith
            ],
            f,
          )
      | false ↦ λ e.
          let above : rank s ≤ rank t = grind (arith, nat_tests) in (
            λ o among. elim (put_contains rank s ts o among) [
              | inl here ↦ subst (λ x. rank x ≤ rank t) here above
              | inr rest ↦ f.0 o rest
            ],
            put_falls rank s ts f.1,
          )
    ] refl

pub falling_falls : (rank : ℕ → ℕ) (xs : List ℕ) → Falls rank (falling rank xs)
falling_falls rank [] = tt
falling_falls rank (x ∷ xs) = put_falls rank x (falling rank xs) (falling_falls rank xs)

swapped : (b c : Bool) (s t : ℕ) (r : List ℕ) → (b ≡ true → c ≡ true → ⊥) → cond c (t ∷ cond b (s ∷ r) r) (cond b (s ∷ r) r) ≡ cond b (s ∷ cond c (t ∷ r) r) (cond c (t ∷ r) r)
swapped true true s t r h = absurd (h refl refl)
swapped true false s t r h = refl
swapped false true s t r h = refl
swapped false false s t r h = refl

put_at_rank : (rank : ℕ → ℕ) (s : ℕ) (ts : List ℕ) (r : ℕ) → at_rank rank r (put_by_rank rank s ts) ≡ at_rank rank r (s ∷ ts)
put_at_rank rank s [] r = refl
put_at_rank rank s (t ∷ ts) r =
    elim (nat_le (rank t) (rank s)) as (λ b. nat_le (rank t) (rank s) ≡ b → at_rank rank r (cond b (s ∷ t ∷ ts) (t ∷ put_by_rank rank s ts)) ≡ at_rank rank r (s ∷ t ∷ ts)) [
      | true ↦ λ e. refl
      | false ↦ λ e.
          let other : (rank s == r) ≡ true → (rank t == r) ≡ true → ⊥ = λ h k. grind (arith, nat_tests) in
          ap (λ xs. cond (rank t == r) (t ∷ xs) xs) (put_at_rank rank s ts r) ∙ swapped (rank s == r) (rank t == r) s t (at_rank rank r ts) other
    ] refl

pub falling_at_rank : (rank : ℕ → ℕ) (xs : List ℕ) (r : ℕ) → at_rank rank r (falling rank xs) ≡ at_rank rank r xs
falling_at_rank rank [] r = refl
falling_at_rank rank (x ∷ xs) r = put_at_rank rank x (falling rank xs) r ∙ ap (λ ys. cond (rank x == r) (x ∷ ys) ys) (falling_at_rank rank xs r)

none_at : (rank : ℕ → ℕ) (r : ℕ) (xs : List ℕ) → ((o : ℕ) → Contains xs o → rank o < r) → at_rank rank r xs ≡ []
none_at rank r [] h = refl
none_at rank r (x ∷ xs) h =
    let low : rank x < r = h x (0, omega arith, refl) in
    let no : (rank x == r) ≡ false = grind arith in
    ap (λ b. cond b (x ∷ at_rank rank r xs) (at_rank rank r xs)) no ∙ none_at rank r xs (λ o among. h o (more x xs o among))

itself : (rank : ℕ → ℕ) (x : ℕ) → (rank x == rank x) ≡ true
itself rank x = grind arith

at_head : (rank : ℕ → ℕ) (x : ℕ) (xs : List ℕ) → at_rank rank (rank x) (x ∷ xs) ≡ x ∷ at_rank rank (rank x) xs
at_head rank x xs = ap (λ b. cond b (x ∷ at_rank rank (rank x) xs) (at_rank rank (rank x) xs)) (itself rank x)

no_head : (x : ℕ) (xs : List ℕ) → [] ≡ x ∷ xs → ⊥
no_head x xs e = cc

heads : (x y : ℕ) (xs ys : List ℕ) → x ∷ xs ≡ y ∷ ys → x ≡ y
heads x y xs ys e = cc

tails : (b : Bool) (x y : ℕ) (xs ys : List ℕ) → cond b (x ∷ xs) xs ≡ cond b (y ∷ ys) ys → xs ≡ ys
tails true x y xs ys e = cc
tails false x y xs ys e = e

-- a greatest rank cannot be missing
missing : (rank : ℕ → ℕ) (x y : ℕ) (xs ys : List ℕ) → Falls rank (x ∷ xs) → rank x < rank y → at_rank rank (rank y) (x ∷ xs) ≡ at_rank rank (rank y) (y ∷ ys) → ⊥
missing rank x y xs ys f low e =
    no_head y (at_rank rank (rank y) ys)
    (sym (none_at rank (rank y) (x ∷ xs) (λ o among. elim (less x xs o among) [ inl here ↦ subst (λ z. rank z < rank y) here low | inr rest ↦ let under : rank o ≤ rank x = f.0 o rest in omega arith ])) ∙ e ∙ at_head rank y ys)

pub one_order : (rank : ℕ → ℕ) (xs ys : List ℕ) → Falls rank xs → Falls rank ys → ((z : ℕ) → at_rank rank (rank z) xs ≡ at_rank rank (rank z) ys) → xs ≡ ys
one_order rank [] [] f g same = refl
one_order rank [] (y ∷ ys) f g same = absurd (no_head y (at_rank rank (rank y) ys) (same y ∙ at_head rank y ys))
one_order rank (x ∷ xs) [] f g same = absurd (no_head x (at_rank rank (rank x) xs) (sym (same x) ∙ at_head rank x xs))
one_order rank (x ∷ xs) (y ∷ ys) f g same =
    elim (cases_lt (rank x) (rank y)) [
      | inl low ↦ absurd (missing rank x y xs ys f low (same y))
      | inr above ↦ elim (cases_lt (rank y) (rank x)) [
        | inl low ↦ absurd (missing rank y x ys xs g low (sym (same x)))
        | inr under ↦
            let equal : rank x ≡ rank y = omega arith in
            let first : x ≡ y = heads x y (at_rank rank (rank x) xs) (at_rank rank (rank y) ys) (sym (at_head rank x xs) ∙ same x ∙ ap (λ r. at_rank rank r (y ∷ ys)) equal ∙ at_head rank y ys) in
            let rest = one_order rank xs ys f.1 g.1
            (λ z. tails (rank x == rank z) x y (at_rank rank (rank z) xs) (at_rank rank (rank z) ys)
            (same z ∙ ap (λ k. cond (k == rank z) (y ∷ at_rank rank (rank z) ys) (at_rank rank (rank z) ys)) (sym equal))) in
            ap (λ z. z ∷ xs) first ∙ ap (λ zs. y ∷ zs) rest
      ]
    ]

-- ---- what a stable sort by falling rank yields

abbrev pub before : (ℕ → ℕ) → ℕ → ℕ → Bool
before rank x y = is_lt (nat_cmp (rank y) (rank x))

pub is_less : (m n : ℕ) → m < n → is_lt (nat_cmp m n) ≡ true
is_less m n low = let yes : nat_lt m n ≡ true = grind (arith, nat_tests) in ap (λ b. is_lt (cond b Less (cond (m == n) Equal Greater))) yes

equal_or_more : (b : Bool) → is_lt (cond b Equal Greater) ≡ false
equal_or_more true = refl
equal_or_more false = refl

pub not_less : (m n : ℕ) → n ≤ m → is_lt (nat_cmp m n) ≡ false
not_less m n high = let no : nat_lt m n ≡ false = grind (arith, nat_tests) in ap (λ b. is_lt (cond b Less (cond (m == n) Equal Greater))) no ∙ equal_or_more (m == n)

no_both : true ≡ false → ⊥
no_both e = cc

pub at_least : (m n : ℕ) → is_lt (nat_cmp m n) ≡ false → n ≤ m
at_least m n e = elim (cases_lt m n) [
  | inl low ↦ absurd (no_both (sym (is_less m n low) ∙ e))
  | inr high ↦ high
]

tie_is : (rank : ℕ → ℕ) (x y : ℕ) → ties (before rank) x y ≡ (rank y == rank x)
tie_is rank x y = elim (cases_lt (rank x) (rank y)) [
  | inl low ↦
      let no : (rank y == rank x) ≡ false = grind arith in
      let one = is_less (rank x) (rank y) low in
      let two = not_less (rank y) (rank x) (omega arith) in
      ap (λ b. not b && not (before rank y x)) two ∙ ap (λ b. not false && not b) one ∙ sym no
  | inr above ↦ elim (cases_lt (rank y) (rank x)) [
    | inl low ↦
        let no : (rank y == rank x) ≡ false = grind arith in
        let one = is_less (rank y) (rank x) low in
        ap (λ b. not b && not (before rank y x)) one ∙ sym no
    | inr under ↦
        let yes : (rank y == rank x) ≡ true = grind arith in
        let one = not_less (rank y) (rank x) under in
        let two = not_less (rank x) (rank y) above in
        ap (λ b. not b && not (before rank y x)) one ∙ ap (λ b. not false && not b) two ∙ sym yes
  ]
]

filter_same : (p q : ℕ → Bool) (xs : List ℕ) → ((x : ℕ) → p x ≡ q x) → filter p xs ≡ filter q xs
filter_same p q [] h = refl
filter_same p q (x ∷ xs) h = ap (λ b. cond b (x ∷ filter p xs) (filter p xs)) (h x) ∙ ap (λ ys. cond (q x) (x ∷ ys) ys) (filter_same p q xs h)

shifted : (x : ℕ) (xs : List ℕ) (k d : ℕ) → get_or (x ∷ xs) (k + 1) d ≡ get_or xs k d
shifted x xs k d = rw add-one refl

falls_from : (rank : ℕ → ℕ) (xs : List ℕ) → IsSortedBy (before rank) xs → Falls rank xs
falls_from rank [] h = tt
falls_from rank (x ∷ []) h = (λ o among. absurd (omega (arith, among.1)), tt)
falls_from rank (x ∷ y ∷ xs) h =
    let rest : Falls rank (y ∷ xs) = falls_from rank (y ∷ xs)
    (λ k d low high. ap₂ (λ u v. before rank u v) (sym (shifted x (y ∷ xs) (k + 1) d)) (sym (shifted x (y ∷ xs) k d)) ∙ h (k + 1) d (omega arith) (omega (arith, high))) in
    let first : rank y ≤ rank x = at_least (rank x) (rank y) (h 0 0 (omega arith) (omega arith)) in (
      λ o among. elim (less y xs o among) [
        | inl here ↦ subst (λ z. rank z ≤ rank x) here first
        | inr more_right ↦ let low : rank o ≤ rank y = rest.0 o more_right in omega arith
      ],
      rest,
    )

pub sorted_is : (rank : ℕ → ℕ) (xs ys : List ℕ) → IsSortedBy (before rank) ys → IsStableBy (before rank) xs ys → ys ≡ falling rank xs
sorted_is rank xs ys up stable =
    one_order rank ys (falling rank xs) (falls_from rank ys up) (falling_falls rank xs)
    (λ z. sym (filter_same (ties (before rank) z) (λ s. rank s == rank z) ys (tie_is rank z)) ∙ stable z ∙
    filter_same (ties (before rank) z) (λ s. rank s == rank z) xs (tie_is rank z) ∙ sym (falling_at_rank rank xs (rank z)))

-- ---- equal ranks give one order

put_same : (f g : ℕ → ℕ) (s : ℕ) (ts : List ℕ) → f s ≡ g s → ((o : ℕ) → Contains ts o → f o ≡ g o) → put_by_rank f s ts ≡ put_by_rank g s ts
put_same f g s [] e h = refl
put_same f g s (t ∷ ts) e h =
    ap₂ (λ m n. cond (nat_le m n) (s ∷ t ∷ ts) (t ∷ put_by_rank f s ts)) (h t (0, omega arith, refl)) e ∙
    ap (λ xs. cond (nat_le (g t) (g s)) (s ∷ t ∷ ts) (t ∷ xs)) (put_same f g s ts e (λ o among. h o (more t ts o among)))

pub falling_same : (f g : ℕ → ℕ) (xs : List ℕ) → ((o : ℕ) → Contains xs o → f o ≡ g o) → falling f xs ≡ falling g xs
falling_same f g [] h = refl
falling_same f g (x ∷ xs) h =
    put_same f g x (falling f xs) (h x (0, omega arith, refl)) (λ o among. h o (more x xs o (falling_contains f xs o among))) ∙
    ap (put_by_rank g x) (falling_same f g xs (λ o among. h o (more x xs o among)))
