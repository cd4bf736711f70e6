-- Lists, and their elements.
use Rattle.std.proofs.Common.{◌≡◌, ℕ, zero, suc, List, [], ◌∷◌, ◌++◌, Bool, true, false, refl, sym, ap, ◌∙◌, subst, map, arith}
use Rattle.std.specs.Prelude.{All, Contains, cond, filter}

pub in_filter : {X : Type 0} (p : X → Bool) (xs : List X) (x : X) → Contains xs x → p x ≡ true → Contains (filter p xs) x
in_filter p [] x (i, low, at) visited = absurd (omega arith)
in_filter p (y ∷ ys) x (zero, low, at) visited =
    subst (λ b. Contains (cond b (y ∷ filter p ys) (filter p ys)) x) (sym (ap p at ∙ visited)) (0, omega arith, at)
in_filter p (y ∷ ys) x (suc i, low, at) visited =
    let there : Contains (filter p ys) x = in_filter p ys x (i, omega arith, at) visited in
    elim (p y) as (λ b. Contains (cond b (y ∷ filter p ys) (filter p ys)) x) [
      | true ↦ (suc there.0, omega (arith, there.1), there.2)
      | false ↦ there
    ]

pub filter_after_map : {X : Type 0} (p : ℕ → Bool) (f : X → ℕ) (xs : List X) → filter p (map f xs) ≡ map f (filter (λ x. p (f x)) xs)
filter_after_map p f [] = refl
filter_after_map p f (x ∷ xs) =
    let rest : filter p (map f xs) ≡ map f (filter (λ y. p (f y)) xs) = filter_after_map p f xs in
    elim (p (f x)) as (λ b. cond b (f x ∷ filter p (map f xs)) (filter p (map f xs)) ≡ map f (cond b (x ∷ filter (λ y. p (f y)) xs) (filter (λ y. p (f y)) xs))) [
      | true ↦ ap (λ ys. f x ∷ ys) rest
      | false ↦ rest
    ]

pub in_first : {X : Type 0} (xs ys : List X) (x : X) → Contains xs x → Contains (xs ++ ys) x
in_first [] ys x (i, low, at) = absurd (omega arith)
in_first (y ∷ xs) ys x (zero, low, at) = (0, omega arith, at)
in_first (y ∷ xs) ys x (suc i, low, at) = let there : Contains (xs ++ ys) x = in_first xs ys x (i, omega arith, at) in (suc there.0, omega (arith, there.1), there.2)

pub in_second : {X : Type 0} (xs ys : List X) (x : X) → Contains ys x → Contains (xs ++ ys) x
in_second [] ys x among = among
in_second (y ∷ xs) ys x among = let there : Contains (xs ++ ys) x = in_second xs ys x among in (suc there.0, omega (arith, there.1), there.2)

pub in_map : {X : Type 0} (f : X → ℕ) (xs : List X) (x : X) → Contains xs x → Contains (map f xs) (f x)
in_map f [] x (i, low, at) = absurd (omega arith)
in_map f (y ∷ xs) x (zero, low, at) = (0, omega arith, ap f at)
in_map f (y ∷ xs) x (suc i, low, at) = let there : Contains (map f xs) (f x) = in_map f xs x (i, omega arith, at) in (suc there.0, omega (arith, there.1), there.2)

pub all_map : {X Y : Type 0} (f : X → Y) (P : Y → Type 0) (xs : List X) → All (λ x. P (f x)) xs → All P (map f xs)
all_map f P [] all i d low = absurd (omega arith)
all_map f P (x ∷ xs) all zero d low = all zero x (omega arith)
all_map f P (x ∷ xs) all (suc i) d low = all_map f P xs (λ j e less. all (suc j) e (omega arith)) i d (omega arith)

pub map_alike : {X Y : Type 0} (f g : X → Y) (xs : List X) → All (λ x. f x ≡ g x) xs → map f xs ≡ map g xs
map_alike f g [] all = refl
map_alike f g (x ∷ xs) all = ap (λ y. y ∷ map f xs) (all 0 x (omega arith)) ∙ ap (λ ys. g x ∷ ys) (map_alike f g xs (λ i d low. all (suc i) d (omega arith)))

pub map_twice : (f : ℕ → ℕ) (g : ℕ → ℕ) (xs : List ℕ) → map g (map f xs) ≡ map (λ x. g (f x)) xs
map_twice f g [] = refl
map_twice f g (x ∷ xs) = ap (λ ys. g (f x) ∷ ys) (map_twice f g xs)

pub map_itself : (xs : List ℕ) → map (λ x. x) xs ≡ xs
map_itself [] = refl
map_itself (x ∷ xs) = ap (λ ys. x ∷ ys) (map_itself xs)

pub one_of : {X : Type 0} (P : X → Type 0) (x : X) → P x → All P (x ∷ [])
one_of P x p zero d low = p
one_of P x p (suc i) d low = absurd (omega arith)

pub none_of : {X : Type 0} (P : X → Type 0) (xs : List X) → xs ≡ [] → All P xs
none_of P [] e = λ i d low. absurd (omega arith)
none_of P (x ∷ xs) e = cc
