-- Names and name patterns.
use Rattle.std.proofs.Common.{◌≡◌, ◌∙◌, ℕ, List, [], ◌∷◌, length, Bool, true, false, refl, ap, ap₂}
use Rattle.std.specs.Prelude.{cond, ◌&&◌, ◌||◌, ◌==◌}
use Rattle.std.specs.List.{list_any}
use Rattle.compare_built.specs.NamePatterns.{begins_with, matches, rests}

or_false : (a b : Bool) → (a || b) ≡ false → (a ≡ false) × (b ≡ false)
or_false true b e = cc
or_false false b e = (refl, e)

and_none : (a b : Bool) → b ≡ false → (a && b) ≡ false
and_none true b e = e
and_none false b e = refl

-- ---- the ends of a name

-- if the whole name has a property, one of its ends has it
pub any_first : (f : List ℕ → Bool) (xs : List ℕ) → f xs ≡ true → list_any f (rests xs) ≡ true
any_first f [] h = ap (λ b. b || false) h
any_first f (x ∷ xs) h = ap (λ b. b || list_any f (rests xs)) h

-- if the whole name does not have it, one of its ends has it exactly if one of the shorter ends has
pub any_next : (f : List ℕ → Bool) (x : ℕ) (xs : List ℕ) → f (x ∷ xs) ≡ false → list_any f (rests (x ∷ xs)) ≡ list_any f (rests xs)
any_next f x xs h = ap (λ b. b || list_any f (rests xs)) h

pub none_first : (f : List ℕ → Bool) (xs : List ℕ) → list_any f (rests xs) ≡ false → f xs ≡ false
none_first f [] h = (or_false (f []) false h).0
none_first f (x ∷ xs) h = (or_false (f (x ∷ xs)) (list_any f (rests xs)) h).0

-- if the empty name does not have it, no end of the empty name has it
pub none_of_none : (f : List ℕ → Bool) → f [] ≡ false → list_any f (rests []) ≡ false
none_of_none f h = ap (λ b. b || false) h

-- if no end has it, no end of an end has it
none_twice : (f : List ℕ → Bool) (xs : List ℕ) → list_any f (rests xs) ≡ false → list_any (λ ys. list_any f (rests ys)) (rests xs) ≡ false
none_twice f [] h = ap (λ b. b || false) h
none_twice f (x ∷ xs) h = ap₂ (λ a b. a || b) h (none_twice f xs (or_false (f (x ∷ xs)) (list_any f (rests xs)) h).1)

any_same : (f g : List ℕ → Bool) (xss : List (List ℕ)) → ((ys : List ℕ) → f ys ≡ g ys) → list_any f xss ≡ list_any g xss
any_same f g [] same = refl
any_same f g (xs ∷ xss) same = ap₂ (λ a b. a || b) (same xs) (any_same f g xss same)

-- ---- a pattern that begins with a star

pub star_matches : (p : ℕ) (ps name : List ℕ) → (p == 42) ≡ true → matches (p ∷ ps) name ≡ list_any (matches ps) (rests name)
star_matches p ps name e = ap (λ b. cond b (list_any (matches ps) (rests name)) (begins_with p (matches ps) name)) e

pub star_short : (p : ℕ) (ps name : List ℕ) → (p == 42) ≡ true → list_any (matches ps) (rests name) ≡ false → list_any (matches (p ∷ ps)) (rests name) ≡ false
star_short p ps name e none =
    any_same (matches (p ∷ ps)) (λ ys. list_any (matches ps) (rests ys)) (rests name) (λ ys. star_matches p ps ys e) ∙ none_twice (matches ps) name none

-- ---- a pattern that begins with any other byte

pub byte_matches : (p : ℕ) (ps name : List ℕ) → (p == 42) ≡ false → matches (p ∷ ps) name ≡ begins_with p (matches ps) name
byte_matches p ps name e = ap (λ b. cond b (list_any (matches ps) (rests name)) (begins_with p (matches ps) name)) e

begins_short : (p : ℕ) (f : List ℕ → Bool) (c : ℕ) (cs : List ℕ) → list_any f (rests cs) ≡ false → list_any (begins_with p f) (rests (c ∷ cs)) ≡ false
begins_short p f c [] none = ap (λ b. b || false) (and_none (c == p) (f []) (none_first f [] none))
begins_short p f c (d ∷ ds) none =
    ap₂ (λ a b. a || b) (and_none (c == p) (f (d ∷ ds)) (none_first f (d ∷ ds) none)) (begins_short p f d ds (or_false (f (d ∷ ds)) (list_any f (rests ds)) none).1)

-- a name that is too short for the rest of a pattern is too short with one byte more of each
pub byte_short : (p : ℕ) (ps : List ℕ) (c : ℕ) (cs : List ℕ) → (p == 42) ≡ false → list_any (matches ps) (rests cs) ≡ false → list_any (matches (p ∷ ps)) (rests (c ∷ cs)) ≡ false
byte_short p ps c cs e none =
    any_same (matches (p ∷ ps)) (begins_with p (matches ps)) (rests (c ∷ cs)) (λ ys. byte_matches p ps ys e) ∙ begins_short p (matches ps) c cs none

-- the empty name is too short for one byte
pub empty_short : (p : ℕ) (ps : List ℕ) → (p == 42) ≡ false → list_any (matches (p ∷ ps)) (rests []) ≡ false
empty_short p ps e = none_of_none (matches (p ∷ ps)) (byte_matches p ps [] e)

-- the same of a name of length 0
pub none_of_short : (f : List ℕ → Bool) (xs : List ℕ) → length xs ≡ 0 → f xs ≡ false → list_any f (rests xs) ≡ false
none_of_short f [] e h = none_of_none f h
none_of_short f (x ∷ xs) e h = absurd (cc)
