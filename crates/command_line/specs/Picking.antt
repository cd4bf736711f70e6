-- By which choices of an order pairs may be picked.
use Rattle.std.specs.Prelude.{◌≡◌, Bool, true, false}
use Rattle.command_line.specs.declared.options.OrderChoice.{OrderChoice}
use Rattle.command_line.specs.declared.options.OrderChoice.TheVariants.{Named, Best, Auto, Cones, ConesByList, Merge, File, Extended}

-- whether each pair is judged by its cones, and nothing else is compared
unfoldable pub takes_picks : OrderChoice → Bool
takes_picks (Named name) = false
takes_picks Best = false
takes_picks Auto = false
takes_picks Cones = true
takes_picks (ConesByList path) = true
takes_picks Merge = false
takes_picks (File path) = false
takes_picks (Extended path) = false

-- each pair is judged by its cones, and nothing else is compared
abbrev pub TakesPicks : OrderChoice → Type 0
TakesPicks choice = takes_picks choice ≡ true
