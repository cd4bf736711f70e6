-- The second netlist's text with the first netlist's names for what a list pairs.
use Rattle.std.specs.Prelude.{◌≡◌, ◌&&◌, ◌||◌, not, ℕ, Bool, true, false, IsTrue, List, [], ◌∷◌, ◌++◌, map, flat_map, Option, Some, None, All}
use Rattle.std.specs.Prelude.{if◌then◌else◌, slice_index_or, bytes_eq}
use Rattle.std.specs.List.{IsDistinct}
use Rattle.net_bench.specs.Circuit.{Circuit, find, is_name_in}
use Rattle.net_bench.specs.Pieces.{pieces_in, Between}
use Rattle.net_bench.specs.Text.{Piece, Blank, Comment, Mark, Run, Stray, bytes_of, Open, Close, Comma, Equals, Name, Unknown, End, Tokens, tokens_from}
use Rattle.net_order.specs.Order.{names_of, registers_of}
use Rattle.net_rename.specs.declared.pair.NamePair.{NamePair}
use Rattle.net_rename.specs.declared.fault.PairsFault.{PairsFault}
use Rattle.net_rename.specs.declared.fault.PairsFault.TheVariants.{BadLine, TooLong, Read, UnknownFirst, UnknownSecond, Repeated, Taken, OutOfMemory}

-- the first netlist's names of the pairs, in their order
abbrev pub firsts : List NamePair → List (List ℕ)
firsts pairs = map (λ p. p.first.items) pairs

-- the second netlist's
abbrev pub seconds : List NamePair → List (List ℕ)
seconds pairs = map (λ p. p.second.items) pairs

-- ---- the new names

-- the name at a place, or this one if there is no place
abbrev pub name_or : List (List ℕ) → Option ℕ → List ℕ → List ℕ
name_or names (Some i) n = slice_index_or names i []
name_or names None n = n

-- The name that a signal of the second netlist gets: the first name of the pair of which it is the second. A signal that has the first name of
-- a pair, and is in no pair, gets the second name in exchange. All others keep their names.
abbrev pub renamed : List NamePair → List ℕ → List ℕ
renamed pairs n = name_or (firsts pairs) (find (seconds pairs) n) (name_or (seconds pairs) (find (firsts pairs) n) n)

-- the first token is an opening parenthesis
abbrev pub is_open_first : Tokens → Bool
is_open_first [] = false
is_open_first ((line, Open) ∷ ts) = true
is_open_first ((line, Close) ∷ ts) = false
is_open_first ((line, Comma) ∷ ts) = false
is_open_first ((line, Equals) ∷ ts) = false
is_open_first ((line, Name word) ∷ ts) = false
is_open_first ((line, Unknown byte) ∷ ts) = false
is_open_first ((line, End) ∷ ts) = false

-- Each name of the pieces gets its new one. What a parenthesis follows is INPUT, OUTPUT or the keyword of a gate, and no name.
abbrev pub renamed_pieces : List NamePair → List Piece → List Piece
renamed_pieces pairs [] = []
renamed_pieces pairs (Run text ∷ ps) =
    Run (if is_open_first (tokens_from 1 ps) then text else renamed pairs text) ∷ renamed_pieces pairs ps
renamed_pieces pairs (Blank b ∷ ps) = Blank b ∷ renamed_pieces pairs ps
renamed_pieces pairs (Comment body ∷ ps) = Comment body ∷ renamed_pieces pairs ps
renamed_pieces pairs (Mark b ∷ ps) = Mark b ∷ renamed_pieces pairs ps
renamed_pieces pairs (Stray b ∷ ps) = Stray b ∷ renamed_pieces pairs ps

-- The text in which each name is the new one, and all else is as it is.
abbrev pub renamed_text : List NamePair → List ℕ → List ℕ
renamed_text pairs text = flat_map bytes_of (renamed_pieces pairs (pieces_in Between text))

-- ---- which pairs there may be

-- the circuit has an input, an output or a register of this name
abbrev pub is_port : Circuit → List ℕ → Bool
is_port c n = is_name_in (names_of c c.inputs) n || (is_name_in (names_of c c.outputs) n || is_name_in (names_of c (registers_of c)) n)

-- these names are those of the circuit's inputs, outputs and registers
abbrev pub ArePorts : Circuit → (names : List (List ℕ)) → Type 0
ArePorts c names = (n : List ℕ) → is_name_in names n ≡ is_port c n

-- The first name of a pair is free in the second netlist: that has no signal of this name, or one that gets another name. That is the second
-- signal of a pair, or a gate that is no output, which gets the second name in exchange, if no signal has got that.
abbrev pub is_free : Circuit → List NamePair → NamePair → Bool
is_free b pairs p =
    not (is_name_in b.names p.first.items) || (is_name_in (seconds pairs) p.first.items
    || (not (is_port b p.first.items) && not (is_name_in (firsts pairs) p.second.items)))

-- The pairs are of these netlists: each name is that of an input, an output or a register of its side and in its column once, and each first
-- name is free in the second netlist.
pub record ArePairsOf (a b : Circuit) (pairs : List NamePair) : Type 0 where
  pub first : All (λ p. IsTrue (is_port a p.first.items)) pairs
  pub second : All (λ p. IsTrue (is_port b p.second.items)) pairs
  pub firsts_once : IsDistinct bytes_eq (firsts pairs)
  pub seconds_once : IsDistinct bytes_eq (seconds pairs)
  pub free : All (λ p. IsTrue (is_free b pairs p)) pairs

-- no name is in a column of these pairs twice
abbrev pub AreOnce : List NamePair → Type 0
AreOnce pairs = IsDistinct bytes_eq (firsts pairs) × IsDistinct bytes_eq (seconds pairs)

-- nothing is wrong with a pair of these
abbrev pub IsRightPair : (a b : Circuit) → List NamePair → NamePair → Type 0
IsRightPair a b pairs p = IsTrue (is_port a p.first.items) × IsTrue (is_port b p.second.items) × IsTrue (is_free b pairs p)

-- this holds of the pair on this line, no name is in a column twice, and nothing is wrong with the pairs before that one
abbrev pub HasFirstOn : (a b : Circuit) → List NamePair → (line : ℕ) → (NamePair → Type 0) → Type 0
HasFirstOn a b pairs line P = (before after : List NamePair) × (p : NamePair) × (pairs ≡ before ++ p ∷ after) × (p.line ≡ line)
    × AreOnce pairs × All (IsRightPair a b pairs) before × P p

-- the name of the pair on this line is that of an earlier pair, and no pair before that one has such a name
abbrev pub HasRepeated : List NamePair → (line : ℕ) → Type 0
HasRepeated pairs line = (before after : List NamePair) × (p : NamePair) × (pairs ≡ before ++ p ∷ after) × (p.line ≡ line)
    × AreOnce before × IsTrue (is_name_in (firsts before) p.first.items || is_name_in (seconds before) p.second.items)

-- the first that is wrong with a pair of these, if anything is: its first name is looked at, then its second one, and then whether the first
-- one is free
abbrev pub IsPairFault : (a b : Circuit) → List NamePair → NamePair → Option PairsFault → Type 0
IsPairFault a b pairs p None = IsRightPair a b pairs p
IsPairFault a b pairs p (Some (UnknownFirst line)) = (p.line ≡ line) × (is_port a p.first.items ≡ false)
IsPairFault a b pairs p (Some (UnknownSecond line)) =
    (p.line ≡ line) × IsTrue (is_port a p.first.items) × (is_port b p.second.items ≡ false)
IsPairFault a b pairs p (Some (Taken line)) =
    (p.line ≡ line) × IsTrue (is_port a p.first.items) × IsTrue (is_port b p.second.items) × (is_free b pairs p ≡ false)
IsPairFault a b pairs p (Some (Repeated line)) = ⊥
IsPairFault a b pairs p (Some (BadLine line)) = ⊥
IsPairFault a b pairs p (Some TooLong) = ⊥
IsPairFault a b pairs p (Some Read) = ⊥
IsPairFault a b pairs p (Some OutOfMemory) = ⊥

-- Why these are no pairs of these netlists, apart from memory: the first name that is in its column twice, or if there is none, the first
-- that is wrong with the first pair of which something is.
abbrev pub AreBadPairs : (a b : Circuit) → List NamePair → PairsFault → Type 0
AreBadPairs a b pairs (UnknownFirst line) = HasFirstOn a b pairs line (λ p. is_port a p.first.items ≡ false)
AreBadPairs a b pairs (UnknownSecond line) =
    HasFirstOn a b pairs line (λ p. IsTrue (is_port a p.first.items) × (is_port b p.second.items ≡ false))
AreBadPairs a b pairs (Repeated line) = HasRepeated pairs line
AreBadPairs a b pairs (Taken line) =
    HasFirstOn a b pairs line (λ p. IsTrue (is_port a p.first.items) × IsTrue (is_port b p.second.items) × (is_free b pairs p ≡ false))
AreBadPairs a b pairs (BadLine line) = ⊥
AreBadPairs a b pairs TooLong = ⊥
AreBadPairs a b pairs Read = ⊥
AreBadPairs a b pairs OutOfMemory = ⊥
