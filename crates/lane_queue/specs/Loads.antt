-- Loads, read as the items that they carry.
use Rattle.std.specs.Prelude.{ℕ, ◌<◌, List, [], ◌∷◌, ◌++◌, length, map, All}
use Rattle.req_table.specs.declared.Key.{Key}
use Rattle.req_table.specs.declared.Item.{Item}
use Rattle.req_table.specs.declared.Item.TheVariants.{Ask, End as item_end}
use Rattle.req_table.specs.Wave.{Scope}
use Rattle.req_table.specs.Lanes.{MayFollow}
use Rattle.lane_queue.specs.declared.load.Load.{Load}
use Rattle.lane_queue.specs.declared.load.Load.TheVariants.{Bundle, End}

-- the sender of a load
abbrev pub load_from : Load → ℕ
load_from (Bundle from asks) = from
load_from (End from level) = from

-- the item by which a sender asks for a key
abbrev pub ask_of : ℕ → ℕ × Key → Item
ask_of from ask = Ask from ask.0 ask.1

-- the items of a load: of a bundle one for each request
abbrev pub items_in : Load → List Item
items_in (Bundle from asks) = map (ask_of from) asks
items_in (End from level) = item_end from level ∷ []

-- the items of loads, one load after the other
abbrev pub flat : List Load → List Item
flat [] = []
flat (x ∷ xs) = items_in x ++ flat xs

-- the load has an item
abbrev pub IsNonEmpty : Load → Type 0
IsNonEmpty x = 0 < length (items_in x)

-- each item of the load may follow e Ends
abbrev pub MayFollowAll : Scope → ℕ → Load → Type 0
MayFollowAll w e x = All (MayFollow w e) (items_in x)
