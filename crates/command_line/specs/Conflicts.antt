-- Which two arguments a refusal names if some exclude each other.
use Rattle.std.specs.Prelude.{◌≡◌, ◌⊎◌, true, List, codes, IsSome, IsSomeAnd}
use Rattle.std.specs.Str.{bytes_eq}
use Rattle.clap.specs.Words.{Row, Text, first_of}
use Rattle.command_line.specs.Words.{GiveTwoOrders, GiveTwoPicks, GiveSearchWith, GivePicksWithFixedOrder, GiveWholeOrderFile, GiveUnusedMemory}
use Rattle.command_line.specs.Words.{GiveUnusedExtend, GiveExplainConflict, GiveUnusedVcd, GiveCausesConflict, IsGiven, flag_of}

-- if A holds, B does; if it does not, C does
abbrev pub IfHolds : (A B C : Type 0) → Type 0
IfHolds A B C = (A → B) × ((A → ⊥) → C)

-- the value of `--order` is this one
abbrev pub HasOrder : Text → List Row → Type 0
HasOrder name rows = IsSomeAnd (first_of (codes "order") rows) (λ word. bytes_eq word name ≡ true)

-- the flag is given
abbrev pub HasFlag : Text → List Row → Type 0
HasFlag id rows = flag_of (first_of id rows) ≡ true

-- the argument that picks pairs: the names if there are some, otherwise the share
abbrev pub IsPickingOption : List Row → Text → Type 0
IsPickingOption rows text = IfHolds (IsGiven (codes "only") rows) (text ≡ codes "--only <NAME>") (text ≡ codes "--share <K/N>")

-- the argument that asks for an order that has to be found: the order if it is one of the three, otherwise the one that
-- picks pairs
abbrev pub IsSearchOption : List Row → Text → Type 0
IsSearchOption rows text =
    IfHolds (HasOrder (codes "auto") rows) (text ≡ codes "--order auto")
    (IfHolds (HasOrder (codes "cones") rows) (text ≡ codes "--order cones")
    (IfHolds (HasOrder (codes "merge") rows) (text ≡ codes "--order merge") (IsPickingOption rows text)))

-- the argument that gives an order in which no pairs can be picked: a whole order file if there is one, otherwise the
-- order
abbrev pub IsFixedOrderOption : List Row → Text → Type 0
IsFixedOrderOption rows text =
    IfHolds (GiveWholeOrderFile rows) (text ≡ codes "'--order-file <F>' without '--extend'")
    (text ≡ codes "an order other than auto and cones")

-- the argument that does not use memory: an order or an order file if there is one, otherwise the one that makes the
-- declared order the default
abbrev pub IsMemoryConflict : List Row → Text → Type 0
IsMemoryConflict rows text =
    IfHolds (IsSome (first_of (codes "order") rows) ⊎ IsSome (first_of (codes "order-file") rows))
    (text ≡ codes "an order other than auto, cones and merge")
    (IfHolds (HasFlag (codes "print-order") rows)
    (text ≡ codes "'--print-order', which means --order declared if no order is named")
    (IfHolds (HasFlag (codes "sizes") rows)
    (text ≡ codes "'--sizes', which means --order declared if no order is named")
    (text ≡ codes "'--limit <N>', which means --order declared if no order is named; --order auto takes both")))

-- the argument with which there are no lines after the report, or no causes: an order to print if one is asked for,
-- otherwise a share if one is given, otherwise the form of the report
abbrev pub IsReportConflict : (form : Text) → List Row → Text → Type 0
IsReportConflict form rows text =
    IfHolds (HasFlag (codes "print-order") rows) (text ≡ codes "'--print-order'")
    (IfHolds (IsGiven (codes "share") rows) (text ≡ codes "'--share <K/N>'") (text ≡ form))

-- the two arguments of the first rule, in this order, that the matches break
abbrev pub IsFirstConflict : List Row → (one other : Text) → Type 0
IsFirstConflict rows one other =
    IfHolds (GiveTwoOrders rows) ((one ≡ codes "--order <ORDER>") × (other ≡ codes "'--order-file <F>'"))
    (IfHolds (GiveTwoPicks rows) ((one ≡ codes "--only <NAME>") × (other ≡ codes "'--share <K/N>'"))
    (IfHolds (GiveSearchWith (codes "sizes") rows) (IsSearchOption rows one × (other ≡ codes "'--sizes'"))
    (IfHolds (GiveSearchWith (codes "print-order") rows) (IsSearchOption rows one × (other ≡ codes "'--print-order'"))
    (IfHolds (GivePicksWithFixedOrder rows) (IsPickingOption rows one × IsFixedOrderOption rows other)
    (IfHolds (GiveUnusedMemory rows) ((one ≡ codes "--memory <SIZE>") × IsMemoryConflict rows other)
    (IfHolds (GiveUnusedExtend rows)
    ((one ≡ codes "--extend") × (other ≡ codes "an order other than that of '--order-file <F>'"))
    (IfHolds (GiveExplainConflict rows) ((one ≡ codes "--explain <NAME>") × IsReportConflict (codes "'--format json'") rows other)
    (IfHolds (GiveUnusedVcd rows) ((one ≡ codes "--vcd <FILE>") × (other ≡ codes "'--print-order'"))
    (IfHolds (GiveCausesConflict rows)
    ((one ≡ codes "--causes") × IsReportConflict (codes "a report other than that of '--format json'") rows other)
    ((one ≡ codes "--pairs <FILE>") × (other ≡ codes "'--match position'")))))))))))
