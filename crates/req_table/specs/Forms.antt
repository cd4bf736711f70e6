-- A table of requests, in its narrow or its wide form.
use Rattle.std.specs.Prelude.{◌≡◌, ℕ, ◌^◌, ◌<◌, Bool, List, length, slice_get, Some, All, Contains, Result, Ok, Err}
use Rattle.std.specs.declared.alloc.AllocError.{AllocError}
use Rattle.req_table.specs.declared.Key.{Key}
use Rattle.req_table.specs.declared.table.Keys.{Keys}
use Rattle.req_table.specs.declared.table.Keys.TheVariants.{Short, Long}
use Rattle.req_table.specs.Short.{IsShort}
use Rattle.req_table.specs.Tables.{AdmitsKey}

-- the requests of a table
abbrev pub keys_in : Keys → List Key
keys_in (Short s) = s.keys
keys_in (Long s) = s.keys

-- its requests have eight bytes each
abbrev pub AreShort : Keys → Type 0
AreShort (Short s) = Unit {0}
AreShort (Long s) = ⊥

-- if the requests have eight bytes each, all fit
abbrev pub AreFitting : Keys → Type 0
AreFitting (Short s) = All IsShort s.keys
AreFitting (Long s) = Unit {0}

-- the invariant of a table
abbrev pub IsValidTable : Keys → Type 0
IsValidTable ks = (length (keys_in ks) < 2 ^ 32) × AreFitting ks

-- a request was offered to a table: it is in the table at the place that was returned, and was added if it was new; or
-- memory was refused, and the table is as before
abbrev pub IsAdmitted : Key → List Key → Result (ℕ × Bool) AllocError → List Key → Type 0
IsAdmitted k old (Ok r) new = AdmitsKey old k r.1 new × (slice_get new r.0 ≡ Some k)
IsAdmitted k old (Err e) new = (new ≡ old) × (¬ Contains old k)

-- a request that does not fit is not in the table, which is as before
abbrev pub DoesNotFit : Key → Keys → Keys → Type 0
DoesNotFit k old new = AreShort old × (new ≡ old) × (¬ Contains (keys_in old) k)
