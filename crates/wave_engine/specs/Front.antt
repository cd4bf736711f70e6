-- What is handed over to the workers: the requests from a level on; and their answers, by level.
use Rattle.std.specs.Prelude.{◌≡◌, ℕ, ◌+◌, ◌-◌, ◌<◌, ◌≤◌, List, length, take, drop, slice_get, Some}
use Rattle.dd_store.specs.declared.reference.Ref.{Ref}
use Rattle.req_table.specs.declared.Key.{Key}
use Rattle.req_table.specs.Places.{row, IsAtPlace}
use Rattle.reduce_up.specs.AnswersByLevel.{joined}

-- the requests from level v on
abbrev pub keys_from : ℕ → List (List Key) → List Key
keys_from v tables = joined (drop v tables)

-- how many of them are of levels before w
abbrev pub count_before : ℕ → ℕ → List (List Key) → ℕ
count_before v w tables = length (joined (take (w - v) (drop v tables)))

-- `answers` is the part of `found` that begins at a place and has this length
pub record IsCopied (found : List Ref) (at number : ℕ) (answers : List Ref) : Type 0 where
  pub count : length answers ≡ number
  pub placed : (q : ℕ) (r : Ref) → slice_get answers q ≡ Some r → slice_get found (at + q) ≡ Some r

-- the levels from v on that are before u have their answers, which were found in this order
pub record ArePut (tables : List (List Key)) (v : ℕ) (found : List Ref) (u : ℕ) (answers : List (List Ref)) : Type 0 where
  pub levels : length answers ≡ length tables
  pub counts : (w : ℕ) → v ≤ w → w < u → length (row answers w) ≡ length (row tables w)
  pub placed : (w q : ℕ) (r : Ref) → v ≤ w → w < u → IsAtPlace answers w q r → slice_get found (count_before v w tables + q) ≡ Some r
