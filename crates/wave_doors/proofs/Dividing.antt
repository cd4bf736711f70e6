-- Pairs divided by the shards of their nodes.
use Rattle.std.proofs.Common.{◌≡◌, ℕ, List, [], length, arith}
use Rattle.std.proofs.lemmas.Option.{slice_get_within}
use Rattle.dd_store.specs.Graph.{Pair}
use Rattle.reduce_up.specs.Sharing.{AreDivided}
use Rattle.reduce_up.proofs.Noting.{nothing}

-- no pairs, in empty lists
pub none_divided : (lists : ℕ → List Pair) → ((s : ℕ) → length (lists s) ≡ 0) → AreDivided [] lists
none_divided lists e = record {
  all = λ p c n. absurd (nothing p c);
  only = λ s p w. absurd (let lt = slice_get_within (lists s) w.0 p w.1 in let z = e s in omega arith);
}
