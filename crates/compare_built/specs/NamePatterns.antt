-- Name patterns.
use Rattle.std.specs.Prelude.{◌≡◌, ◌==◌, ◌&&◌, ℕ, Bool, true, false, List, [], ◌∷◌, if◌then◌else◌}
use Rattle.std.specs.List.{list_any}
use Rattle.compare_built.specs.declared.name_pattern.Fit.{Fit}
use Rattle.compare_built.specs.declared.name_pattern.Fit.TheVariants.{Matches, Differs, TooShort}

-- the ends of a list: first the whole, and last the empty list
abbrev pub rests : List ℕ → List (List ℕ)
rests [] = [] ∷ []
rests (c ∷ cs) = (c ∷ cs) ∷ rests cs

-- the name begins with this byte, and this holds of what follows
abbrev pub begins_with : ℕ → (List ℕ → Bool) → List ℕ → Bool
begins_with p holds [] = false
begins_with p holds (c ∷ cs) = (c == p) && holds cs

-- The pattern matches the name. Each `*`, which is the byte 42, matches any run of bytes, also the empty one; any other
-- byte matches only itself.
abbrev pub matches : (pattern name : List ℕ) → Bool
matches [] [] = true
matches [] (c ∷ cs) = false
matches (p ∷ ps) name = if p == 42 then list_any (matches ps) (rests name) else begins_with p (matches ps) name

-- the result of comparing a name with a pattern; if it is TooShort, the pattern matches no end of the name
abbrev pub IsFit : (pattern name : List ℕ) → Fit → Type 0
IsFit pattern name Matches = matches pattern name ≡ true
IsFit pattern name Differs = matches pattern name ≡ false
IsFit pattern name TooShort = list_any (matches pattern) (rests name) ≡ false
