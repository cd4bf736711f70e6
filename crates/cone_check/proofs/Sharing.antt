-- Workers that are shared by batches.
use Rattle.std.proofs.Common.{◌≡◌, ℕ, suc, ◌+◌, ◌*◌, ◌/◌, ◌%◌, ◌≤◌, List, All}
use Rattle.std.specs.Prelude.{min, sum}

-- The first batches, up to a place, have their workers.
pub record SharedSoFar (workers batches place : ℕ) (parts : List ℕ) : Type 0 where
  pub some : All (λ n. 1 ≤ n) parts
  pub even : All (λ n. n ≤ suc (workers / batches)) parts
  pub so_far : sum parts ≡ place * (workers / batches) + min place (workers % batches)
