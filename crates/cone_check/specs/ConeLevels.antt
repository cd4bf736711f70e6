-- The levels of the variables of cones.
use Rattle.std.specs.Prelude.{◌≡◌, ◌<◌, ◌||◌, ℕ, Bool, false, List, [], ◌++◌, filter, length, map, nat_eq, slice_index, slice_index_or, take, Option, Some, None}
use Rattle.std.specs.List.{list_any}
use Rattle.net_cone.specs.declared.cone.Cone.{Cone}
use Rattle.net_order.specs.Force.{numbers_below}
use Rattle.net_order.specs.Order.{NamingModel}
use Rattle.net_order.specs.declared.netlist_role.NetlistRole.{NetlistRole}
use Rattle.net_order.specs.declared.netlist_role.NetlistRole.TheVariants.{First, Second, Given}
use Rattle.cone_check.specs.declared.pair_cones.Cones.{Cones}
use Rattle.cone_check.specs.declared.pair_cones.ConeContext.{ConeContext}
use Rattle.cone_check.specs.ConeRounds.{levels_in}

-- the levels of a cone's variables, which are the first of its sources: as many as the cone has inputs
abbrev pub cone_levels : NetlistRole → NamingModel → Cone → List ℕ
cone_levels part p cone = map (slice_index (levels_in part p)) (take (length cone.net.inputs) cone.from.items)

-- those of the condition's cone, if there is a condition
abbrev pub given_levels : NamingModel → Option Cone → List ℕ
given_levels p None = []
given_levels p (Some cone) = cone_levels Given p cone

-- the levels of all variables of the cones of a pair and of the condition's cone
abbrev pub pair_levels : {H : Type 0} → ConeContext H → Cones → List ℕ
pair_levels context cones = cone_levels First context.naming.now cones.first ++ (cone_levels Second context.naming.now cones.second
    ++ given_levels context.naming.now context.given.now)

-- whether a number is in a list
abbrev pub is_among : List ℕ → ℕ → Bool
is_among levels l = list_any (nat_eq l) levels

-- the numbers below n that are in a list, each once and in rising order
abbrev pub among_below : ℕ → List ℕ → List ℕ
among_below n levels = filter (is_among levels) (numbers_below n)

-- The flags at these places are set, and the others are what they were.
pub record AreSetAt (levels : List ℕ) (old new : List Bool) : Type 0 where
  pub each : length new ≡ length old
  pub flags : (l : ℕ) → l < length old → slice_index_or new l false ≡ (slice_index_or old l false || is_among levels l)
