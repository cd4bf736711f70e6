-- What the ports of an expanded wave have put, and the records of each worker.
use Rattle.std.specs.Prelude.{◌≡◌, ℕ, ◌<◌, ◌==◌, cond, List, [], length, slice_index_or}
use Rattle.std.specs.List.{sum_by}
use Rattle.req_table.specs.declared.Record.{Record}
use Rattle.req_table.specs.Tables.{row_at}
use Rattle.req_table.specs.declared.Item.{Item}
use Rattle.lane_queue.specs.PortView.{PortView}
use Rattle.expand_work.specs.Parts.{sum_below, bundles_of}

-- One port for each of so many workers, by number.
pub record AreByNumber (workers : ℕ) (ports : List PortView) : Type 0 where
  pub long : length ports ≡ workers
  pub numbered : (i : ℕ) (d : PortView) → i < workers → (slice_index_or ports i d).number ≡ i

-- How many loads the ports have put on all lanes together.
abbrev pub put_by : List PortView → ℕ
put_by ports = sum_by (λ (p : PortView). sum_by (λ n. n) p.put) ports

-- How many bundles are sent between different workers, where `sent k s` is what s has sent to k, with n Ends.
abbrev pub bundles_between : ℕ → ℕ → (ℕ → ℕ → List Item) → ℕ
bundles_between workers n sent =
    sum_below workers (λ s. sum_below workers (λ k. cond (s == k) 0 (bundles_of n (sent k s))))

-- The records of worker k at level v, if each worker has its records by level.
abbrev pub row_of : List (List (List Record)) → ℕ → ℕ → List Record
row_of rows k v = row_at (slice_index_or rows k []) v
