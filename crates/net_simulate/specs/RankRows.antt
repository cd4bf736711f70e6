-- The gates of a netlist by rank.
use Rattle.std.specs.Prelude.{◌≡◌, ◌<◌, ◌+◌, ℕ, ◌==◌, List, [], filter, map, length, slice_index_or}
use Rattle.net_bench.specs.Circuit.{Net, rank_of, highest_rank}

-- the signals of the gates of a rank, in the order of the text
abbrev pub rank_row : Net → ℕ → List ℕ
rank_row n r = map (λ g. g.out) (filter (λ g. rank_of n g == r) n.gates)

-- there is a row for each rank, rank 1 first
pub record AreRows (n : Net) (rows : List (List ℕ)) : Type 0 where
  pub count : length rows ≡ highest_rank n
  pub each : (r : ℕ) → r < length rows → slice_index_or rows r [] ≡ rank_row n (r + 1)
