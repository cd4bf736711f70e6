-- The bytes of a report, part after part.
use Rattle.std.proofs.Common.{◌≡◌, ◌∙◌, ap, sym, refl, ℕ, zero, suc, ◌+◌, ◌<◌, ◌≤◌, min, arith, Bool, true, false, List, [], ◌∷◌, ◌++◌, length, get_or, drop, append_assoc, add-one, drop-cons, Option, Some}
use Rattle.std.specs.Prelude.{slice_get}
use Rattle.report_text.specs.declared.assignment.Assignment.{Assignment}
use Rattle.report_text.specs.Lines.{variable_text, assignment_text}

-- what is at a place, if there is something
pub there : {A : Type 0} (xs : List A) (i : ℕ) (v d : A) → slice_get xs i ≡ Some v → get_or xs i d ≡ v
there [] i v d e = cc
there (x ∷ xs) zero v d e = cc
there (x ∷ xs) (suc i) v d e = there xs i v d e

-- a support bit, and those after it
pub first_support_bit : (ms : List Bool) (i : ℕ) → get_or (drop i ms) 0 true ≡ get_or ms i true
first_support_bit [] zero = refl
first_support_bit [] (suc i) = refl
first_support_bit (m ∷ ms) zero = refl
first_support_bit (m ∷ ms) (suc i) = first_support_bit ms i

pub other_support_bits : (ms : List Bool) (i : ℕ) → drop 1 (drop i ms) ≡ drop (suc i) ms
other_support_bits [] zero = refl
other_support_bits [] (suc i) = refl
other_support_bits (m ∷ ms) zero = refl
other_support_bits (m ∷ ms) (suc i) = other_support_bits ms i

-- a variable with its bit, and then the rest
pub assignment_next : (which : Option Assignment) (vs : List (List ℕ)) (bs ms : List Bool) (i : ℕ) (v : List ℕ) (m : Bool) → i < length vs → i < length bs → slice_get vs i ≡ Some v → m ≡ get_or ms i true →
    assignment_text which (drop i vs) (drop i bs) (drop i ms) ≡ variable_text which v (get_or bs i false) m ++ assignment_text which (drop (i + 1) vs) (drop (i + 1) bs) (drop (i + 1) ms)
assignment_next which vs bs ms i v m lv lb ev em = rw (em, add-one, drop-cons vs i v, drop-cons bs i false, there vs i v v ev, first_support_bit ms i, other_support_bits ms i) refl

no_bits : (which : Option Assignment) (vs : List (List ℕ)) (ms : List Bool) → assignment_text which vs [] ms ≡ []
no_bits which [] ms = refl
no_bits which (v ∷ vs) ms = refl

-- after the last variable, or the last bit, nothing follows
pub assignment_over : (which : Option Assignment) (vs : List (List ℕ)) (bs ms : List Bool) (i : ℕ) → min (length bs) (length vs) ≤ i → assignment_text which (drop i vs) (drop i bs) ms ≡ []
assignment_over which [] bs ms zero le = refl
assignment_over which [] bs ms (suc i) le = refl
assignment_over which (v ∷ vs) [] ms zero le = refl
assignment_over which (v ∷ vs) [] ms (suc i) le = no_bits which (drop i vs) ms
assignment_over which (v ∷ vs) (b ∷ bs) ms zero le = absurd (omega (arith, le))
assignment_over which (v ∷ vs) (b ∷ bs) ms (suc i) le = assignment_over which vs bs ms i (omega (arith, le))

-- a part that was appended no longer belongs to the rest
pub moved : {A : Type 0} (whole text more part rest all : List A) → text ++ all ≡ whole → all ≡ part ++ rest → more ≡ text ++ part → more ++ rest ≡ whole
moved whole text more part rest all done split added =
    ap (λ z. z ++ rest) added ∙ append_assoc text part rest ∙ ap (λ z. text ++ z) (sym split) ∙ done
