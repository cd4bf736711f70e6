-- What a table has after keys were admitted to it.
use Rattle.std.proofs.Common.{◌≡◌, List, [], ◌∷◌, ◌++◌, Contains, ◌⊎◌, inl, inr, refl, sym, ap, ◌∙◌, subst, append_assoc, append-nil}
use Rattle.req_table.specs.declared.Key.{Key}
use Rattle.req_table.specs.Settled.{Admits, IsDistinctOf}
use Rattle.req_table.proofs.Lists.{Has, has_of, contains_of, Has-append_left, Has-append_right, IsDistinct}
use Rattle.req_table.proofs.Admits.{Admits-append, Admits-distinct}

-- keys that are there already change nothing
pub Admits-known : (ys xs : List Key) → ((x : Key) → Has xs x → Has ys x) → Admits ys xs ys
Admits-known ys [] h = refl
Admits-known ys (x ∷ xs) h = inl (contains_of ys x (h x (inl refl)), Admits-known ys xs (λ z i. h z (inr i)))

-- a new key
pub Admits-new : (ys : List Key) (x : Key) → (Has ys x → ⊥) → Admits ys (x ∷ []) (ys ++ x ∷ [])
Admits-new ys x n = inr ((λ c. n (has_of ys x c)), refl)

-- what was there stays at the front
pub Admits-front : (ys xs zs : List Key) → Admits ys xs zs → (more : List Key) × (zs ≡ ys ++ more)
Admits-front ys [] zs a = ([], sym a ∙ sym (append-nil ys))
Admits-front ys (x ∷ xs) zs (inl a) = Admits-front ys xs zs a.1
Admits-front ys (x ∷ xs) zs (inr a) = let (more, e) = Admits-front (ys ++ x ∷ []) xs zs a.1 in (x ∷ more, e ∙ append_assoc ys (x ∷ []) more)

pub append_cancel : (xs ys zs : List Key) → xs ++ ys ≡ xs ++ zs → ys ≡ zs
append_cancel [] ys zs e = e
append_cancel (x ∷ xs) ys zs e = append_cancel xs ys zs (let r : xs ++ ys ≡ xs ++ zs = cc in r)

pub not_longer : (ys more : List Key) (x : Key) (rest : List Key) → ys ≡ (ys ++ more) ++ x ∷ rest → ⊥
not_longer [] [] x rest e = cc
not_longer [] (m ∷ more) x rest e = cc
not_longer (y ∷ ys) more x rest e = not_longer ys more x rest (let r : ys ≡ (ys ++ more) ++ x ∷ rest = cc in r)

-- The key after `row` in the table of xs is the first of xs that row does not have.
pub next_from : (ys more xs row : List Key) (x : Key) (rest : List Key) → ys ++ more ≡ row → Admits ys xs (row ++ x ∷ rest)
    → (before : List Key) × (after : List Key) × (xs ≡ before ++ x ∷ after) × ((y : Key) → Has before y → Has row y)
next_from ys more [] row x rest e a = absurd (not_longer ys more x rest (a ∙ ap (λ l. l ++ x ∷ rest) (sym e)))
next_from ys more (y ∷ xs) row x rest e (inl a) =
    let (before, after, split, known) = next_from ys more xs row x rest e a.1 in
    (y ∷ before, after, ap (λ l. y ∷ l) split, λ z h. elim h [ inl q ↦ subst (λ l. Has l z) e (Has-append_left ys more z (subst (λ k. Has ys k) q (has_of ys y a.0))) | inr i ↦ known z i ])
next_from ys [] (y ∷ xs) row x rest e (inr a) =
    let (m, f) = Admits-front (ys ++ y ∷ []) xs (row ++ x ∷ rest) a.1 in
    let row-is : row ≡ ys = sym e ∙ append-nil ys in
    let tails = append_cancel ys (x ∷ rest) (y ∷ m) (ap (λ l. l ++ x ∷ rest) (sym row-is) ∙ f ∙ append_assoc ys (y ∷ []) m) in
    ([], xs, ap (λ k. k ∷ xs) (let r : y ≡ x = cc in r), λ z h. absurd h)
next_from ys (m ∷ more) (y ∷ xs) row x rest e (inr a) =
    let (n, f) = Admits-front (ys ++ y ∷ []) xs (row ++ x ∷ rest) a.1 in
    let tails = append_cancel ys (m ∷ (more ++ x ∷ rest)) (y ∷ n) (sym (append_assoc ys (m ∷ more) (x ∷ rest)) ∙ ap (λ l. l ++ x ∷ rest) e ∙ f ∙ append_assoc ys (y ∷ []) n) in
    let same : m ≡ y = cc in
    let e' : (ys ++ y ∷ []) ++ more ≡ row = append_assoc ys (y ∷ []) more ∙ ap (λ k. ys ++ k ∷ more) (sym same) ∙ e in
    let (before, after, split, known) = next_from (ys ++ y ∷ []) more xs row x rest e' a.1 in
    (y ∷ before, after, ap (λ l. y ∷ l) split, λ z h. elim h [ inl q ↦ subst (λ l. Has l z) e (Has-append_right ys (m ∷ more) z (inl (same ∙ q))) | inr i ↦ known z i ])

-- one more admitted key
pub Admits-offer : (ys xs zs us : List Key) (x : Key) → Admits ys xs zs → (Contains zs x × (us ≡ zs)) ⊎ ((¬ Contains zs x) × (us ≡ zs ++ x ∷ [])) → Admits ys (xs ++ x ∷ []) us
Admits-offer ys xs zs us x a (inl h) = Admits-append ys xs zs (x ∷ []) us a (inl (h.0, sym h.1))
Admits-offer ys xs zs us x a (inr h) = Admits-append ys xs zs (x ∷ []) us a (inr (h.0, sym h.1))

-- the next key of a table is the first one that the keys before it are not
pub next_of : (xs row : List Key) (x : Key) (rest : List Key) → IsDistinctOf xs (row ++ x ∷ rest)
    → (before : List Key) × (after : List Key) × (xs ≡ before ++ x ∷ after) × ((y : Key) → Has before y → Has row y) × (Has row x → ⊥)
next_of xs row x rest a =
    let (before, after, split, known) = next_from [] row xs row x rest refl a in
    (before, after, split, known, apart row x rest (Admits-distinct [] xs (row ++ x ∷ rest) a tt))
  where
    apart : (row : List Key) (x : Key) (rest : List Key) → IsDistinct (row ++ x ∷ rest) → Has row x → ⊥
    apart [] x rest d h = h
    apart (y ∷ row) x rest d h = elim h [ inl e ↦ d.0 (subst (λ k. Has (row ++ x ∷ rest) k) (sym e) (Has-append_right row (x ∷ rest) x (inl refl))) | inr i ↦ apart row x rest d.1 i ]
