-- Lists by level in several parts: a level has those of all parts, one part after the other.
use Rattle.std.specs.Prelude.{ℕ, zero, suc, max, List, [], ◌∷◌, ◌++◌, Option, None, Some}
use Rattle.req_table.specs.Places.{row}

-- what a level has in all parts
abbrev pub level_over : {X : Type 0} → List (List (List X)) → ℕ → List X
level_over [] v = []
level_over (p ∷ ps) v = row p v ++ level_over ps v

-- what each of so many levels has in all parts
abbrev pub over_parts : {X : Type 0} → ℕ → List (List (List X)) → List (List X)
over_parts zero ps = []
over_parts (suc n) ps = over_parts n ps ++ level_over ps n ∷ []

-- the later of two levels, or the one that there is
abbrev pub later_of : Option ℕ → Option ℕ → Option ℕ
later_of None b = b
later_of (Some v) None = Some v
later_of (Some v) (Some w) = Some (max v w)
