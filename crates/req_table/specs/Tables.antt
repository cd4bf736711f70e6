-- Tables of keys, and records by level.
use Rattle.std.specs.Prelude.{◌≡◌, ℕ, Bool, true, false, List, [], ◌∷◌, ◌++◌, Contains, slice_index_or}
use Rattle.req_table.specs.declared.Key.{Key}
use Rattle.req_table.specs.declared.Record.{Record}

-- a key was offered to a table: it was new and is now the last, or it was there and the table is as before
abbrev pub AdmitsKey : List Key → Key → Bool → List Key → Type 0
AdmitsKey old k true new = (¬ Contains old k) × (new ≡ old ++ k ∷ [])
AdmitsKey old k false new = Contains old k × (new ≡ old)

-- the records of a level
abbrev pub row_at : List (List Record) → ℕ → List Record
row_at rows v = slice_index_or rows v []
