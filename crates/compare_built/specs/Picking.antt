-- By which choices of an order pairs may be picked.
use Rattle.std.specs.Prelude.{◌≡◌, Bool, true, false}
use Rattle.compare_built.specs.declared.strategy.Strategy.{Strategy}
use Rattle.compare_built.specs.declared.strategy.Strategy.TheVariants.{One, Computed, Best, Auto, Cones, ConesByList, Merge}

-- whether each pair is judged by its cones, and nothing else is compared
abbrev pub takes_picks : Strategy → Bool
takes_picks (One o) = false
takes_picks (Computed c) = false
takes_picks Best = false
takes_picks Auto = false
takes_picks Cones = true
takes_picks (ConesByList names) = true
takes_picks Merge = false

-- each pair is judged by its cones, and nothing else is compared
abbrev pub TakesPicks : Strategy → Type 0
TakesPicks choice = takes_picks choice ≡ true
