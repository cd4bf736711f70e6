-- Buses among the variables, and their numbers, part by part.
use Rattle.std.proofs.Common.{◌≡◌, ◌∙◌, ap, sym, refl, ℕ, suc, ◌+◌, ◌-◌, ◌<◌, arith, Bool, true, false, cond, List, [], ◌∷◌, ◌++◌, length, get_or, take, drop, add-one, drop-cons, Option, Some}
use Rattle.std.specs.Prelude.{slice_get, count_by}
use Rattle.std.specs.List.{position_from}
use Rattle.std.specs.Str.{bytes_eq}
use Rattle.std.proofs.lemmas.Iterator.Adapters.{position_from-zero}
use Rattle.std.proofs.lemmas.List.Sums.{count_by_more_yes, count_by_more_no}
use Rattle.net_bench.specs.Circuit.{find}
use Rattle.report_text.specs.Buses.{Bus, bit_name, places_from, put_before, hex_digit, hex_digits, nibble}
use Rattle.report_text.proofs.Wording.{there}

-- a variable, and those after it
pub next_of : (vs : List (List ℕ)) (i : ℕ) (v : List ℕ) → slice_get vs i ≡ Some v → i < length vs → drop i vs ≡ v ∷ drop (i + 1) vs
next_of vs i v e lt = rw (add-one, drop-cons vs i v, there vs i v v e) refl

-- ---- the place of a name

pub sought : (vs : List (List ℕ)) (n : List ℕ) → position_from (λ m. bytes_eq m n) 0 vs ≡ find vs n
sought vs n = sym (position_from-zero (λ m. bytes_eq m n) vs)

here : (vs : List (List ℕ)) (n v : List ℕ) (i : ℕ) (t : Bool) → slice_get vs i ≡ Some v → i < length vs → bytes_eq v n ≡ t
    → position_from (λ m. bytes_eq m n) i (drop i vs) ≡ cond t (Some i) (position_from (λ m. bytes_eq m n) (i + 1) (drop (i + 1) vs))
here vs n v i t e lt is =
    ap (position_from (λ m. bytes_eq m n) i) (next_of vs i v e lt)
    ∙ ap (λ b. cond b (Some i) (position_from (λ m. bytes_eq m n) (i + 1) (drop (i + 1) vs))) is

pub found_here : (vs : List (List ℕ)) (n v : List ℕ) (i : ℕ) → slice_get vs i ≡ Some v → i < length vs → bytes_eq v n ≡ true
    → position_from (λ m. bytes_eq m n) i (drop i vs) ≡ find vs n → Some i ≡ find vs n
found_here vs n v i e lt is before = sym (here vs n v i true e lt is) ∙ before

pub not_here : (vs : List (List ℕ)) (n v : List ℕ) (i : ℕ) → slice_get vs i ≡ Some v → i < length vs → bytes_eq v n ≡ false
    → position_from (λ m. bytes_eq m n) i (drop i vs) ≡ find vs n → position_from (λ m. bytes_eq m n) (i + 1) (drop (i + 1) vs) ≡ find vs n
not_here vs n v i e lt is before = sym (here vs n v i false e lt is) ∙ before

-- ---- counts

pub one_more : (p : List ℕ → Bool) (vs : List (List ℕ)) (i : ℕ) (v : List ℕ) (n : ℕ) → slice_get vs i ≡ Some v → i < length vs → p v ≡ true → n ≡ count_by p (take i vs) → n + 1 ≡ count_by p (take (i + 1) vs)
one_more p vs i v n e lt is before =
    let at : p (get_or vs i v) ≡ true = ap p (there vs i v v e) ∙ is in
    ap (λ k. k + 1) before ∙ sym (count_by_more_yes p vs i v lt at)

pub no_more : (p : List ℕ → Bool) (vs : List (List ℕ)) (i : ℕ) (v : List ℕ) (n : ℕ) → slice_get vs i ≡ Some v → i < length vs → p v ≡ false → n ≡ count_by p (take i vs) → n ≡ count_by p (take (i + 1) vs)
no_more p vs i v n e lt is before =
    let at : p (get_or vs i v) ≡ false = ap p (there vs i v v e) ∙ is in
    before ∙ sym (count_by_more_no p vs i v lt at)

-- ---- the places of bits

pub bit_next : (vs : List (List ℕ)) (base : List ℕ) (i : ℕ) (name : List ℕ) (found : Option ℕ) → i < length vs → name ≡ bit_name base i → found ≡ find vs name
    → places_from vs base (length vs - i) i ≡ put_before found (places_from vs base (length vs - (i + 1)) (i + 1))
bit_next vs base i name found lt is e =
    let more : length vs - i ≡ suc (length vs - (i + 1)) = omega arith in
    ap (λ k. places_from vs base k i) more
    ∙ ap (λ o. put_before o (places_from vs base (length vs - (i + 1)) (i + 1))) (sym (e ∙ ap (find vs) is))

-- ---- digits

pub digit_next : (b : Bus) (at : List Bool) (n done : ℕ) → done < n → hex_digits b at (n - done) ≡ (hex_digit (nibble b at (n - 1 - done)) ∷ []) ++ hex_digits b at (n - (done + 1))
digit_next b at n done lt =
    let more : n - done ≡ suc (n - (done + 1)) = omega arith in
    let same : n - (done + 1) ≡ n - 1 - done = omega arith in
    ap (hex_digits b at) more ∙ ap (λ k. hex_digit (nibble b at k) ∷ hex_digits b at (n - (done + 1))) same
