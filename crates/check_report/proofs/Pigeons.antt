-- Lists without repeats, and their lengths.
use Rattle.std.proofs.Common.{◌≡◌, ◌∙◌, ◌+◌, ◌≤◌, ◌⊎◌, inl, inr, List, [], ◌∷◌, ◌++◌, length, refl, sym, subst, arith}

-- x is in the list
abbrev pub Among : {X : Type 0} → X → List X → Type 0
Among x [] = ⊥
Among x (y ∷ ys) = (x ≡ y) ⊎ Among x ys

-- nothing is in the list twice
abbrev pub Distinct : {X : Type 0} → List X → Type 0
Distinct [] = Unit {0}
Distinct (x ∷ xs) = (Among x xs → ⊥) × Distinct xs

pub among_left : {X : Type 0} (x : X) (xs ys : List X) → Among x xs → Among x (xs ++ ys)
among_left x [] ys a = absurd a
among_left x (y ∷ xs) ys (inl e) = inl e
among_left x (y ∷ xs) ys (inr a) = inr (among_left x xs ys a)

pub among_right : {X : Type 0} (x : X) (xs ys : List X) → Among x ys → Among x (xs ++ ys)
among_right x [] ys a = a
among_right x (y ∷ xs) ys a = inr (among_right x xs ys a)

pub among_parts : {X : Type 0} (x : X) (xs ys : List X) → Among x (xs ++ ys) → Among x xs ⊎ Among x ys
among_parts x [] ys a = inr a
among_parts x (y ∷ xs) ys (inl e) = inl (inl e)
among_parts x (y ∷ xs) ys (inr a) = by (among_parts x xs ys a)
  where
    by : Among x xs ⊎ Among x ys → Among x (y ∷ xs) ⊎ Among x ys
    by (inl b) = inl (inr b)
    by (inr b) = inr b

pub distinct_parts : {X : Type 0} (xs ys : List X) → Distinct xs → Distinct ys → ((x : X) → Among x xs → Among x ys → ⊥) → Distinct (xs ++ ys)
distinct_parts [] ys d e apart = e
distinct_parts (x ∷ xs) ys d e apart = (λ a. by (among_parts x xs ys a), distinct_parts xs ys d.1 e (λ z a b. apart z (inr a) b))
  where
    by : Among x xs ⊎ Among x ys → ⊥
    by (inl a) = d.0 a
    by (inr a) = apart x (inl refl) a

-- The list without one occurrence of y.
pub record Without {X : Type 0} (y : X) (ys : List X) : Type 0 where
  pub rest : List X
  pub fewer : length ys ≡ length rest + 1
  pub others : (z : X) → Among z ys → (z ≡ y) ⊎ Among z rest

behind : {X : Type 0} (w y : X) (ws rest : List X) → ((z : X) → Among z ws → (z ≡ y) ⊎ Among z rest) → (z : X) → Among z (w ∷ ws) → (z ≡ y) ⊎ Among z (w ∷ rest)
behind {X} w y ws rest others z (inl f) = inr (inl f)
behind {X} w y ws rest others z (inr b) = by (others z b)
  where
    by : (z ≡ y) ⊎ Among z rest → (z ≡ y) ⊎ ((z ≡ w) ⊎ Among z rest)
    by (inl e) = inl e
    by (inr c) = inr (inr c)

at_head : {X : Type 0} (w y : X) (ws : List X) → y ≡ w → (z : X) → Among z (w ∷ ws) → (z ≡ y) ⊎ Among z ws
at_head w y ws e z (inl f) = inl (f ∙ sym e)
at_head w y ws e z (inr a) = inr a

pub without : {X : Type 0} (y : X) (ys : List X) → Among y ys → Without y ys
without y [] a = absurd a
without y (w ∷ ws) (inl e) = record { rest = ws; fewer = omega arith; others = at_head w y ws e }
without y (w ∷ ws) (inr a) =
    let r = without y ws a in
    let k = r.fewer in
    record { rest = w ∷ r.rest; fewer = omega arith; others = behind w y ws r.rest r.others }

-- a partner of another element is in the rest
other : {X Y : Type 0} (R : X → Y → Type 0) (x : X) (xs : List X) (y : Y) (rest : List Y) → (Among x xs → ⊥) → R x y → ((x z : X) (v : Y) → R x v → R z v → x ≡ z) → (z : X) → Among z xs →
    (v : Y) → R z v → (v ≡ y) ⊎ Among v rest → (v : Y) × Among v rest × R z v
other R x xs y rest new r own z a v s (inl e) =
    absurd (new (subst (λ u. Among u xs) (sym (own x z y r (subst (λ u. R z u) e s))) a))
other R x xs y rest new r own z a v s (inr b) = (v, b, s)

-- the pigeonhole principle: if each element of xs, which has no repeats, has a partner of its own in ys, then xs is no
-- longer than ys
pub pigeons : {X Y : Type 0} (R : X → Y → Type 0) (xs : List X) (ys : List Y) → Distinct xs → ((x : X) → Among x xs → (y : Y) × Among y ys × R x y) → ((x z : X) (v : Y) → R x v → R z v → x ≡ z) →
    length xs ≤ length ys
pigeons R [] ys d partner own = omega arith
pigeons R (x ∷ xs) ys d partner own =
    let w = partner x (inl refl) in
    let less = without w.0 ys w.1 in
    let k : length xs ≤ length less.rest =
    pigeons R xs less.rest d.1 (λ z a. let p = partner z (inr a) in other R x xs w.0 less.rest d.0 w.2 own z a p.0 p.2 (less.others p.0 p.1)) own in
    let e = less.fewer in
    omega arith
