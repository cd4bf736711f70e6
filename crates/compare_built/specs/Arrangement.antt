-- Two orders of the variables of the same netlists, and the places that the variables of the one have in the other.
use Rattle.std.specs.Prelude.{ℕ, List, Option, map}
use Rattle.net_bench.specs.Circuit.{Circuit}
use Rattle.net_names.specs.declared.order.Match.{Match}
use Rattle.net_names.specs.declared.order.Order.{Order}
use Rattle.net_order.specs.Order.{NamingModel, IsPairing, level_of}

-- these are two pairings of the same netlists, with this condition or none, which are matched in the same way
pub record ArePairings (how : Match) (a b : Circuit) (given : Option Circuit) (q p : NamingModel) : Type 0 where
  pub first_order : Order
  pub second_order : Order
  pub first : IsPairing how a b given first_order q
  pub second : IsPairing how a b given second_order p

-- for each of these names, its place among the others
abbrev pub places_among : (others names : List (List ℕ)) → List ℕ
places_among others names = map (level_of others) names
