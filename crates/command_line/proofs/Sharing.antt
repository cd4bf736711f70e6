-- A share has one number and one count.
use Rattle.std.proofs.Common.{◌≡◌, ◌∙◌, ℕ, zero, suc, ◌≤◌, ◌==◌, Bool, true, false, List, [], ◌∷◌, ◌++◌, Option, Some, None, drop, cond, refl, sym, ap₂, subst, arith}
use Rattle.std.specs.Str.Parse.{AllDigits, IsNumeral, without_leading_plus}
use Rattle.std.specs.Prelude.{MatchOption}
use Rattle.report_text.specs.declared.outcome.Share.{Share}
use Rattle.command_line.specs.Words.{HasNoSlash, IsDecimal, IsInRange, IsShare}

tail_has_none : (b : ℕ) (x : List ℕ) → HasNoSlash (b ∷ x) → HasNoSlash x
tail_has_none b x none i lt = none (suc i) (omega (arith, lt))

-- a text is cut at its first slash in one way
pub one_cut : (x y u v : List ℕ) → HasNoSlash x → HasNoSlash y → x ++ 47 ∷ u ≡ y ++ 47 ∷ v → (x ≡ y) × (u ≡ v)
one_cut [] [] u v p q e = (refl, cc)
one_cut [] (b ∷ y) u v p q e =
    let same : b ≡ 47 = cc in
    absurd (q 0 (omega arith) same)
one_cut (a ∷ x) [] u v p q e =
    let same : a ≡ 47 = cc in
    absurd (p 0 (omega arith) same)
one_cut (a ∷ x) (b ∷ y) u v p q e =
    let rest : x ++ 47 ∷ u ≡ y ++ 47 ∷ v = cc in
    let same = one_cut x y u v (tail_has_none a x p) (tail_has_none b y q) rest in
    let first : a ≡ b = cc in
    (ap₂ (λ h t. h ∷ t) first same.0, same.1)

-- no digit is a slash
digits : (ds : List ℕ) → AllDigits 10 ds → HasNoSlash ds
digits [] all i lt e = absurd (omega (arith, lt))
digits (d ∷ ds) all zero lt e =
    let no = subst (λ c. AllDigits 10 (c ∷ [])) e (all.0, tt) in
    absurd (omega (arith, no.0))
digits (d ∷ ds) all (suc i) lt e = digits ds all.1 i (omega (arith, lt)) e

-- and there is none in a number
pub number_has_none : (text : List ℕ) → IsNumeral 10 (without_leading_plus text) → HasNoSlash text
number_has_none [] is i lt e = absurd (omega (arith, lt))
number_has_none (b ∷ text) is i lt e = go (b == 43) refl is i lt e
  where
    go : (t : Bool) → (b == 43) ≡ t → IsNumeral 10 (drop (cond t 1 0) (b ∷ text)) → HasNoSlash (b ∷ text)
    go true plus num zero lt e = absurd (grind (arith))
    go true plus num (suc i) lt e = digits text num.1 i (omega (arith, lt)) e
    go false plus num i lt e = digits (b ∷ text) num.1 i lt e

-- a text with a slash has one
pub has_slash : (x u : List ℕ) → HasNoSlash (x ++ 47 ∷ u) → ⊥
has_slash [] u none = none 0 (omega arith) refl
has_slash (a ∷ x) u none = has_slash x u (tail_has_none a (x ++ 47 ∷ u) none)

pub unshared : (text : List ℕ) → HasNoSlash text → (s : Share) → IsShare text s → ⊥
unshared text none s is = has_slash is.number is.count (subst HasNoSlash is.parts none)

-- the number of a share is before its slash, and the count after it
pub of_split : (text x u : List ℕ) (s : Share) → HasNoSlash x → text ≡ x ++ 47 ∷ u → IsShare text s → IsDecimal x s.number × IsDecimal u s.of
of_split text x u s none parts is =
    let same = one_cut is.number x is.count u (number_has_none is.number is.is_number.0) none (sym is.parts ∙ parts) in
    (subst (λ t. IsDecimal t s.number) same.0 is.is_number, subst (λ t. IsDecimal t s.of) same.1 is.is_count)

-- ---- a text that is cut at its first slash

module _ (text x u : List ℕ) (parts : text ≡ x ++ 47 ∷ u) (first : HasNoSlash x) where
  pub no_number : ((n : ℕ) → IsDecimal x n → n ≤ 1000000 → ⊥) → (s : Share) → IsShare text s → ⊥
  no_number none s is =
      let below = is.range in
      none s.number (of_split text x u s first parts is).0 (omega (arith, below.1, below.2))

  pub no_count : ((n : ℕ) → IsDecimal u n → n ≤ 1000000 → ⊥) → (s : Share) → IsShare text s → ⊥
  no_count none s is = none s.of (of_split text x u s first parts is).1 is.range.2

  pub read : (n m : ℕ) → IsDecimal x n → IsDecimal u m → (r : Option Share) → MatchOption r (IsInRange n m → ⊥) (λ s. (s.number ≡ n) × (s.of ≡ m) × IsInRange n m)
      → MatchOption r ((s : Share) → IsShare text s → ⊥) (IsShare text)
  read n m a b None none = λ s is.
      let h = of_split text x u s first parts is in
      none (subst (λ k. IsInRange k m) (h.0.1 ∙ sym a.1) (subst (λ k. IsInRange s.number k) (h.1.1 ∙ sym b.1) is.range))
  read n m a b (Some s) made = record {
    number = x;
    count = u;
    parts = parts;
    is_number = subst (IsDecimal x) (sym made.0) a;
    is_count = subst (IsDecimal u) (sym made.1) b;
    range = subst (λ k. IsInRange k s.of) (sym made.0) (subst (λ k. IsInRange n k) (sym made.1) made.2);
  }
