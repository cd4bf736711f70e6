-- Records by level, and their reduction from the last level up.
use Rattle.std.specs.Prelude.{◌≡◌, ℕ, ◌<◌, true, false, List, length, All}
use Rattle.req_table.specs.declared.Record.{Record}
use Rattle.dd_store.specs.Nodes.{Nodes}
use Rattle.req_table.specs.Keys.{IsKey, level_of, child_of}
use Rattle.req_table.specs.Tables.{row_at}
use Rattle.reduce_up.specs.Levels.{IsAsked}

-- a row for each level, of keys of the store at their level with their children, in which each child that is a request
-- has a record
pub record AreSplits (s : Nodes) (rows : List (List Record)) : Type 0 where
  pub levels : length rows ≡ s.levels
  pub keys : (v : ℕ) → v < s.levels → All (λ r. IsKey s r.key) (row_at rows v)
  pub placed : (v : ℕ) → v < s.levels → All (λ r. level_of s r.key ≡ v) (row_at rows v)
  pub low : (v : ℕ) → v < s.levels → All (λ r. r.low ≡ child_of s r.key false) (row_at rows v)
  pub high : (v : ℕ) → v < s.levels → All (λ r. r.high ≡ child_of s r.key true) (row_at rows v)
  pub low_asked : (v : ℕ) → v < s.levels → All (λ r. IsAsked rows r.low) (row_at rows v)
  pub high_asked : (v : ℕ) → v < s.levels → All (λ r. IsAsked rows r.high) (row_at rows v)
