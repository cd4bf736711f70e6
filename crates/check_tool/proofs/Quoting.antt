-- Lines of a text, and a file that is opened again.
use Rattle.std.proofs.Common.{◌≡◌, ◌≢◌, ◌∙◌, ℕ, zero, suc, ◌+◌, ◌-◌, ◌<◌, ◌≤◌, Bool, true, false, List, [], ◌∷◌, length, drop, get_or, refl, sym, ap, subst, cond, eqb, arith, lt-ltb, ◌++◌, map, take}
use Rattle.std.proofs.lemmas.List.{drop_all, drop_more}
use Rattle.std.specs.Prelude.{codes}
use Rattle.check_tool.specs.Quoting.{following, shown, excerpt}
use Rattle.check_tool.specs.Opening.{AreTried}

-- nothing follows the end of a text
pub following_none : (feeds : ℕ) → following feeds [] ≡ []
following_none zero = refl
following_none (suc feeds) = refl

-- one more byte
pub following_more : (feeds b : ℕ) (bs : List ℕ) → feeds ≢ 0 → following feeds (b ∷ bs) ≡ cond (eqb b 10) (following (feeds - 1) bs) (following feeds bs)
following_more zero b bs ne = absurd (ne refl)
following_more (suc feeds) b bs ne =
    let e : feeds ≡ suc feeds - 1 = omega arith in
    ap (λ n. cond (eqb b 10) (following n bs) (following (suc feeds) bs)) e

-- nothing is left after the end
pub following_end : (text : List ℕ) (feeds at : ℕ) → length text ≤ at → following feeds (drop at text) ≡ []
following_end text feeds at le = subst (λ t. following feeds t ≡ []) (sym (drop_all at text le)) (following_none feeds)

-- what is left after one more byte of a text
pub following_byte : (text : List ℕ) (feeds left at : ℕ) → following feeds text ≡ following left (drop at text) → left ≢ 0 → at < length text
    → following feeds text ≡ cond (eqb (get_or text at 0) 10) (following (left - 1) (drop (at + 1) text)) (following left (drop (at + 1) text))
following_byte text feeds left at is ne lt = is ∙ ap (following left) (drop_more text at 0 lt) ∙ following_more left (get_or text at 0) (drop (at + 1) text) ne

short_by : (t : Bool) (n : ℕ) (xs ys : List ℕ) → length xs ≤ n → length ys ≤ n → length (cond t xs ys) ≤ suc n
short_by true n xs ys h k = omega (arith, h)
short_by false n xs ys h k = omega (arith, k)

-- what follows some line feeds is no longer than the text
pub following_short : (feeds : ℕ) (text : List ℕ) → length (following feeds text) ≤ length text
following_short zero text = omega arith
following_short (suc feeds) [] = omega arith
following_short (suc feeds) (b ∷ bs) = short_by (eqb b 10) (length bs) (following feeds bs) (following (suc feeds) bs) (following_short feeds bs) (following_short (suc feeds) bs)

-- a line that is too long is shown cut
pub excerpt_cut : (bytes : List ℕ) → 100 < length bytes → map shown (take 100 bytes) ++ codes "... (cut)" ≡ excerpt bytes
excerpt_cut bytes lt = rw (lt-ltb 100 (length bytes) lt) refl

-- a path is tried once, whether its file was opened or not
pub tried_once : (path : List ℕ) (opened : Bool) → AreTried (path ∷ []) ((path, opened) ∷ [])
tried_once path true = (refl, tt)
tried_once path false = (refl, refl)
