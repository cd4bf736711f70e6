-- A size has one number and one unit.
use Rattle.std.proofs.Common.{◌≡◌, ◌∙◌, inl, inr, ℕ, ◌*◌, ◌^◌, ◌≤◌, ◌<◌, List, [], ◌∷◌, ◌++◌, Option, Some, None, Ok, Err, refl, sym, ap, ap₂, subst, arith}
use Rattle.std.specs.Prelude.{MatchOption, SomeIff}
use Rattle.std.specs.Str.Parse.{IsNumeral, ParsesUnsigned, digits_value, without_leading_plus}
use Rattle.std.proofs.lemmas.Nat.{mul-le}
use Rattle.command_line.specs.Words.{IsUnit, IsInUnits, IsSize}

ends : (y : List ℕ) (b : ℕ) → [] ≡ y ++ b ∷ [] → ⊥
ends [] b e = cc
ends (d ∷ y) b e = cc

-- if the last bytes are the same, so is what comes before them
last : (x y : List ℕ) (a b : ℕ) → x ++ a ∷ [] ≡ y ++ b ∷ [] → (x ≡ y) × (a ≡ b)
last [] [] a b e = (refl, cc)
last [] (d ∷ y) a b e = let rest : [] ≡ y ++ b ∷ [] = cc in absurd (ends y b rest)
last (c ∷ x) [] a b e = let rest : [] ≡ x ++ a ∷ [] = cc in absurd (ends x a rest)
last (c ∷ x) (d ∷ y) a b e =
    let rest : x ++ a ∷ [] ≡ y ++ b ∷ [] = cc in
    let same = last x y a b rest in
    let first : c ≡ d = cc in
    (ap₂ (λ h t. h ∷ t) first same.0, same.1)

letters : (a b : ℕ) (x y u v : List ℕ) → u ≡ a ∷ [] → v ≡ b ∷ [] → x ++ u ≡ y ++ v → (x ≡ y) × (a ≡ b)
letters a b x y u v p q e = last x y a b (ap (λ t. x ++ t) (sym p) ∙ e ∙ ap (λ t. y ++ t) q)

one_unit : (u v : List ℕ) (a b : ℕ) (x y : List ℕ) → IsUnit u a → IsUnit v b → x ++ u ≡ y ++ v → (x ≡ y) × (a ≡ b)
one_unit u v a b x y (inl k) (inl l) e = ((letters 75 75 x y u v k.0 l.0 e).0, cc)
one_unit u v a b x y (inl k) (inr (inl l)) e = let no = (letters 75 77 x y u v k.0 l.0 e).1 in absurd (omega arith)
one_unit u v a b x y (inl k) (inr (inr l)) e = let no = (letters 75 71 x y u v k.0 l.0 e).1 in absurd (omega arith)
one_unit u v a b x y (inr (inl k)) (inl l) e = let no = (letters 77 75 x y u v k.0 l.0 e).1 in absurd (omega arith)
one_unit u v a b x y (inr (inl k)) (inr (inl l)) e = ((letters 77 77 x y u v k.0 l.0 e).0, k.1 ∙ sym l.1)
one_unit u v a b x y (inr (inl k)) (inr (inr l)) e = let no = (letters 77 71 x y u v k.0 l.0 e).1 in absurd (omega arith)
one_unit u v a b x y (inr (inr k)) (inl l) e = let no = (letters 71 75 x y u v k.0 l.0 e).1 in absurd (omega arith)
one_unit u v a b x y (inr (inr k)) (inr (inl l)) e = let no = (letters 71 77 x y u v k.0 l.0 e).1 in absurd (omega arith)
one_unit u v a b x y (inr (inr k)) (inr (inr l)) e = ((letters 71 71 x y u v k.0 l.0 e).0, k.1 ∙ sym l.1)

pub one_parting : (text x y : List ℕ) (a b : ℕ) → IsInUnits text x a → IsInUnits text y b → (x ≡ y) × (a ≡ b)
one_parting text x y a b (inl p) (inl q) = one_unit p.0 q.0 a b x y p.1 q.1 (sym p.2 ∙ q.2)
one_parting text x y a b (inl p) (inr q) = absurd (q.0 x p.0 a p.1 p.2)
one_parting text x y a b (inr p) (inl q) = absurd (p.0 y q.0 b q.1 q.2)
one_parting text x y a b (inr p) (inr q) = (p.1 ∙ sym q.1, p.2 ∙ sym q.2)

-- the size of a text that is cut into its number and its unit
pub parted : (text x : List ℕ) (a n : ℕ) → IsInUnits text x a → IsSize text n → n ≡ digits_value 10 (without_leading_plus x) * a
parted text x a n is size =
    let same = one_parting text size.0 x size.1 a size.2 is in
    size.4 ∙ ap₂ (λ (t : List ℕ) (k : ℕ). digits_value 10 (without_leading_plus t) * k) same.0 same.1

pub one_size : (text : List ℕ) (n : ℕ) (x unit : List ℕ) (a : ℕ) → IsSize text n → IsUnit unit a → text ≡ x ++ unit → n ≡ digits_value 10 (without_leading_plus x) * a
one_size text n x unit a size is parts = parted text x a n (inl (unit, is, parts)) size

pub some_bytes : (text x : List ℕ) (a : ℕ) → IsInUnits text x a → 1 ≤ a
some_bytes text x a (inl (u, (inl k), e)) = let is = k.1 in omega arith
some_bytes text x a (inl (u, (inr (inl k)), e)) = let is : a ≡ 1048576 = k.1 in omega arith
some_bytes text x a (inl (u, (inr (inr k)), e)) = let is : a ≡ 1073741824 = k.1 in omega arith
some_bytes text x a (inr p) = let is = p.2 in omega arith

-- a text has at most one size
pub same_size : (text : List ℕ) (m n : ℕ) → IsSize text m → IsSize text n → m ≡ n
same_size text m n a b = parted text b.0 b.1 m b.2 a ∙ sym b.4

-- a number that cannot be read is that of no size
pub unread : {E : Type 0} (text x : List ℕ) (a : ℕ) (e : E) → IsInUnits text x a → ParsesUnsigned 64 10 x (Err e) → (n : ℕ) → IsSize text n → n < 2 ^ 64 → ⊥
unread {E} text x a e is bad n size fits =
    let same = one_parting text size.0 x size.1 a size.2 is in
    let k = digits_value 10 (without_leading_plus x) in
    let whole : n ≡ k * a = parted text x a n is size in
    let most : k * 1 ≤ k * a = mul-le k 1 k a (omega arith) (some_bytes text x a is) in
    bad (subst (λ t. IsNumeral 10 (without_leading_plus t)) same.0 size.3, omega arith)

-- a number that is read is that of a size, if this fits in 64 bits
pub read : (E : Type 0) (text x : List ℕ) (a v : ℕ) (r : Option ℕ) → IsInUnits text x a → ParsesUnsigned {E = E} 64 10 x (Ok v) → SomeIff r (v * a < 2 ^ 64) (v * a)
    → MatchOption r ((n : ℕ) → IsSize text n → n < 2 ^ 64 → ⊥) (IsSize text)
read E text x a v (Some s) is ok some = (x, a, is, ok.0.0, some.1 ∙ ap (λ k. k * a) ok.1)
read E text x a v None is ok none = λ n size fits. none (subst (λ z. z < 2 ^ 64) (parted text x a n is size ∙ ap (λ k. k * a) (sym ok.1)) fits)
