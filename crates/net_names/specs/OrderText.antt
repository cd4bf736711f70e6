-- Order files: names, and nothing else but blanks and comments.
use Rattle.std.specs.Prelude.{◌≡◌, ◌≢◌, ◌<◌, ◌≤◌, ℕ, nat_le, if◌then◌else◌, List, [], ◌∷◌, ◌++◌, map, length, Option, Some, None}
use Rattle.net_bench.specs.Text.{Token, Open, Close, Comma, Equals, Name, Unknown, End, Tokens, HasTokens}
use Rattle.net_bench.specs.Fault.{max_name, max_text}
use Rattle.net_names.specs.declared.order.OrderFault.{OrderFault}
use Rattle.net_names.specs.declared.order.OrderFault.TheVariants.{CountsDiffer, NotAPermutation, TooManyInputs, OutOfMemory, BadName}
use Rattle.net_names.specs.declared.order.OrderFault.TheVariants.{TooLong, Read}

-- The name that a token of an order file is: a name of at most 255 bytes.
abbrev pub listed_name : Token → Option (List ℕ)
listed_name (Name word) = if nat_le (length word.text) max_name then Some word.text else None
listed_name Open = None
listed_name Close = None
listed_name Comma = None
listed_name Equals = None
listed_name (Unknown byte) = None
listed_name End = None

-- The tokens are these names, in their order.
abbrev pub AreNames : Tokens → List (List ℕ) → Type 0
AreNames tokens names = map (λ t. listed_name t.1) tokens ≡ map (λ n. Some n) names

-- The order file that is written for these names: each on a line of its own.
abbrev pub order_text : List (List ℕ) → List ℕ
order_text [] = []
order_text (n ∷ ns) = n ++ (10 ∷ order_text ns)

-- The text is an order file of these names.
abbrev pub IsOrderText : List ℕ → List (List ℕ) → Type 0
IsOrderText text names = (length text ≤ max_text) × (tokens : Tokens) × (line : ℕ) × HasTokens text (tokens ++ (line, End) ∷ [])
    × AreNames tokens names

-- The first token of the text that is no name is on this line.
abbrev pub HasBadName : List ℕ → ℕ → Type 0
HasBadName text line =
    (length text ≤ max_text) × (before after : Tokens) × (names : List (List ℕ)) × (token : Token) ×
    HasTokens text (before ++ (line, token) ∷ after) × AreNames before names × (listed_name token ≡ None) × (token ≢ End)

-- Why a text is no order file. Refused memory and failed devices are left out.
abbrev pub IsBadText : List ℕ → OrderFault → Type 0
IsBadText text (BadName line) = HasBadName text line
IsBadText text TooLong = max_text < length text
IsBadText text Read = ⊥
IsBadText text OutOfMemory = ⊥
IsBadText text CountsDiffer = ⊥
IsBadText text (NotAPermutation place) = ⊥
IsBadText text TooManyInputs = ⊥

-- The fault is one of reading a file, and not one of pairing.
abbrev pub IsReadFault : OrderFault → Type 0
IsReadFault OutOfMemory = Unit {0}
IsReadFault (BadName line) = Unit {0}
IsReadFault TooLong = Unit {0}
IsReadFault Read = Unit {0}
IsReadFault CountsDiffer = ⊥
IsReadFault (NotAPermutation place) = ⊥
IsReadFault TooManyInputs = ⊥
