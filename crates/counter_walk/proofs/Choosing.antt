-- Functions of the bits in declared order, divided by a variable.
use Rattle.std.proofs.Common.{ℕ, ◌<◌, Bool, false, cond, List, get_or}
use Rattle.dd_store.specs.Functions.{Agree}
use Rattle.counter_walk.specs.Lines.{IsIndependentOf}

-- a function is one of two by the bit of a variable, on which they do not depend
pub record IsChoice (n d : ℕ) (h lo hi : List Bool → Bool) : Type 0 where
  pub variable : d < n
  pub low : IsIndependentOf n d lo
  pub high : IsIndependentOf n d hi
  pub chosen : Agree n h (λ x. cond (get_or x d false) (hi x) (lo x))
