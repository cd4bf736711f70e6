-- What a file of pairs says: pairs of names, both names of a pair on one line, and nothing else.
use Rattle.std.specs.Prelude.{◌≡◌, ◌≢◌, ◌<◌, ◌≤◌, ◌⊎◌, ℕ, List, [], ◌∷◌, ◌++◌, map, flat_map, length, Option, Some, None}
use Rattle.net_bench.specs.Text.{Token, End, Tokens, HasTokens}
use Rattle.net_bench.specs.Fault.{max_text}
use Rattle.net_names.specs.OrderText.{listed_name}
use Rattle.net_rename.specs.declared.pair.NamePair.{NamePair}
use Rattle.net_rename.specs.declared.fault.PairsFault.{PairsFault}
use Rattle.net_rename.specs.declared.fault.PairsFault.TheVariants.{BadLine, TooLong, Read, UnknownFirst, UnknownSecond, Repeated, Taken, OutOfMemory}

-- what a token is in a file of pairs: its line, and the name that it is, if it is one
abbrev pub listed : ℕ × Token → ℕ × Option (List ℕ)
listed t = (t.0, listed_name t.1)

-- the two names of a pair, both on its line
abbrev pub names_of_pair : NamePair → List (ℕ × Option (List ℕ))
names_of_pair p = (p.line, Some p.first.items) ∷ (p.line, Some p.second.items) ∷ []

-- The tokens are the names of these pairs, in their order.
abbrev pub ArePairNames : Tokens → List NamePair → Type 0
ArePairNames tokens pairs = map listed tokens ≡ flat_map names_of_pair pairs

-- The text is a file of these pairs.
abbrev pub IsPairText : List ℕ → List NamePair → Type 0
IsPairText text pairs = (length text ≤ max_text) × (tokens : Tokens) × (line : ℕ) × HasTokens text (tokens ++ (line, End) ∷ [])
    × ArePairNames tokens pairs

-- After some pairs comes a token that is on this line, and with the next one no pair of names on one line.
abbrev pub HasBadLine : List ℕ → ℕ → Type 0
HasBadLine text line =
    (length text ≤ max_text) × (before after : Tokens) × (pairs : List NamePair) × (one two : ℕ × Token)
    × HasTokens text (before ++ one ∷ after) × ArePairNames before pairs × (one.0 ≡ line) × (one.1 ≢ End)
    × ((listed_name one.1 ≡ None) ⊎ ((rest : Tokens) × (after ≡ two ∷ rest) × ((two.0 ≢ line) ⊎ (listed_name two.1 ≡ None))))

-- Why a text is no file of pairs, apart from memory and devices.
abbrev pub IsBadPairText : List ℕ → PairsFault → Type 0
IsBadPairText text (BadLine line) = HasBadLine text line
IsBadPairText text TooLong = max_text < length text
IsBadPairText text Read = ⊥
IsBadPairText text OutOfMemory = ⊥
IsBadPairText text (UnknownFirst line) = ⊥
IsBadPairText text (UnknownSecond line) = ⊥
IsBadPairText text (Repeated line) = ⊥
IsBadPairText text (Taken line) = ⊥

-- a fault of reading, and none of what the names are
abbrev pub IsPairReadFault : PairsFault → Type 0
IsPairReadFault (BadLine line) = Unit {0}
IsPairReadFault TooLong = Unit {0}
IsPairReadFault Read = Unit {0}
IsPairReadFault OutOfMemory = Unit {0}
IsPairReadFault (UnknownFirst line) = ⊥
IsPairReadFault (UnknownSecond line) = ⊥
IsPairReadFault (Repeated line) = ⊥
IsPairReadFault (Taken line) = ⊥
