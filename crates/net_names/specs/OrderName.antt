-- The orders that have names, and their words.
use Rattle.std.specs.Prelude.{ℕ, List, Option, Some, None, if◌then◌else◌, codes}
use Rattle.std.specs.Str.{bytes_eq}
use Rattle.net_names.specs.declared.order_name.OrderName.{OrderName}
use Rattle.net_names.specs.declared.order_name.OrderName.TheVariants.{Declared, Depth, Interleave, Index, Force, MsbFirst, Weights, ForceGroups}

-- The word of an order.
abbrev pub word_of_order : OrderName → List ℕ
word_of_order Declared = codes "declared"
word_of_order Depth = codes "depth"
word_of_order Interleave = codes "interleave"
word_of_order Index = codes "index"
word_of_order Force = codes "force"
word_of_order MsbFirst = codes "msb-first"
word_of_order Weights = codes "weights"
word_of_order ForceGroups = codes "force-groups"

-- The order that a word names.
abbrev pub order_of_word : List ℕ → Option OrderName
order_of_word w =
    if bytes_eq w (word_of_order Declared) then Some Declared else (
    if bytes_eq w (word_of_order Depth) then Some Depth else (
    if bytes_eq w (word_of_order Interleave) then Some Interleave else (
    if bytes_eq w (word_of_order Index) then Some Index else (
    if bytes_eq w (word_of_order Force) then Some Force else (
    if bytes_eq w (word_of_order MsbFirst) then Some MsbFirst else (
    if bytes_eq w (word_of_order Weights) then Some Weights else (
    if bytes_eq w (word_of_order ForceGroups) then Some ForceGroups else None)))))))
