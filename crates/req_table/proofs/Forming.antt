-- A table whose requests have eight bytes each: what it keeps, and what it does not have.
use Rattle.std.proofs.Common.{ℕ, Bool, true, false, List, [], ◌∷◌, All, Contains, Ok, Err, Result, sym, subst}
use Rattle.std.proofs.lemmas.List.Elements.{All-nil, All-cons, All-append, All-contains}
use Rattle.std.specs.declared.alloc.AllocError.{AllocError}
use Rattle.req_table.specs.declared.Key.{Key}
use Rattle.req_table.specs.Short.{IsShort}
use Rattle.req_table.specs.Forms.{IsAdmitted}

-- all still fit
pub kept : (k : Key) (old new : List Key) (r : Result (ℕ × Bool) AllocError) → All IsShort old → IsShort k
    → IsAdmitted k old r new → All IsShort new
kept k old new (Ok (p, true)) all fits h =
    subst (λ (z : List Key). All IsShort z) (sym h.0.1) (All-append IsShort old (k ∷ []) all (All-cons IsShort k [] fits (All-nil IsShort)))
kept k old new (Ok (p, false)) all fits h = subst (λ (z : List Key). All IsShort z) (sym h.0.1) all
kept k old new (Err e) all fits h = subst (λ (z : List Key). All IsShort z) (sym h.0) all

-- a request that does not fit is not in the table
pub absent_long : (k : Key) (keys : List Key) → All IsShort keys → (IsShort k → ⊥) → Contains keys k → ⊥
absent_long k keys all lacks there = lacks (All-contains IsShort keys k all there)
