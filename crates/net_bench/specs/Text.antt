-- A netlist text is a list of pieces: blanks, comments, the four punctuation marks, names, and bytes that no statement
-- has. Every text of bytes is one such list, and only one.
use Rattle.std.specs.Prelude.{◌≡◌, ℕ, ◌+◌, ◌<◌, Bool, not, ◌&&◌, ◌||◌, ◌==◌, nat_le, if◌then◌else◌, IsTrue, List, [], ◌∷◌, length, flat_map}
use Rattle.std.specs.List.{list_all}

-- space, tab, CR, LF
abbrev pub is_blank : ℕ → Bool
is_blank b = (b == 32) || (b == 9) || (b == 13) || (b == 10)

-- ( ) , =
abbrev pub is_mark : ℕ → Bool
is_mark b = (b == 40) || (b == 41) || (b == 44) || (b == 61)

-- a printable byte that is neither punctuation nor `#`
abbrev pub is_name_byte : ℕ → Bool
is_name_byte b = nat_le 33 b && nat_le b 126 && not (is_mark b) && not (b == 35)

-- a byte that no statement has outside a comment: neither blank nor printable
abbrev pub is_stray : ℕ → Bool
is_stray b = not (is_blank b) && not (nat_le 33 b && nat_le b 126)

-- a part of a text
pub data Piece : Type 0 where
  Blank : (byte : ℕ) → Piece
  Comment : (body : List ℕ) → Piece
  Mark : (byte : ℕ) → Piece
  Run : (text : List ℕ) → Piece
  Stray : (byte : ℕ) → Piece

-- the bytes of a piece
abbrev pub bytes_of : Piece → List ℕ
bytes_of (Blank b) = b ∷ []
bytes_of (Comment body) = 35 ∷ body
bytes_of (Mark b) = b ∷ []
bytes_of (Run text) = text
bytes_of (Stray b) = b ∷ []

-- the bytes are those of a piece of this form
abbrev pub IsPiece : Piece → Type 0
IsPiece (Blank b) = IsTrue (is_blank b)
IsPiece (Comment body) = IsTrue (list_all (λ b. not (b == 10)) body)
IsPiece (Mark b) = IsTrue (is_mark b)
IsPiece (Run text) = (0 < length text) × IsTrue (list_all is_name_byte text)
IsPiece (Stray b) = IsTrue (is_stray b)

-- a name is as long as it can be; a comment ends before the next LF, or at the end of the text
abbrev pub MayFollow : Piece → List Piece → Type 0
MayFollow (Run text) (Run more ∷ ps) = ⊥
MayFollow (Comment body) (Blank b ∷ ps) = b ≡ 10
MayFollow (Comment body) (Comment b ∷ ps) = ⊥
MayFollow (Comment body) (Mark b ∷ ps) = ⊥
MayFollow (Comment body) (Run b ∷ ps) = ⊥
MayFollow (Comment body) (Stray b ∷ ps) = ⊥
MayFollow p ps = Unit {0}

-- each piece has its form, and may come before the next one
abbrev pub ArePieces : List Piece → Type 0
ArePieces [] = Unit {0}
ArePieces (p ∷ ps) = IsPiece p × MayFollow p ps × ArePieces ps

-- ---- tokens

-- a name, and the line that it is on
pub record Word : Type 0 where
  pub line : ℕ
  pub text : List ℕ

-- what statements are made of, a byte that they do not have, and the end of the text
pub data Token : Type 0 where
  Open : Token
  Close : Token
  Comma : Token
  Equals : Token
  Name : (word : Word) → Token
  Unknown : (byte : ℕ) → Token
  End : Token

-- the token of a punctuation mark
abbrev pub mark_of : ℕ → Token
mark_of b = if b == 40 then Open else (if b == 41 then Close else (if b == 44 then Comma else Equals))

-- The tokens of the pieces, each with its line, if the first piece is on this line. The last token is the end of the text.
abbrev pub tokens_from : ℕ → List Piece → List (ℕ × Token)
tokens_from line [] = (line, End) ∷ []
tokens_from line (Blank b ∷ ps) = tokens_from (if b == 10 then line + 1 else line) ps
tokens_from line (Comment body ∷ ps) = tokens_from line ps
tokens_from line (Mark b ∷ ps) = (line, mark_of b) ∷ tokens_from line ps
tokens_from line (Run text ∷ ps) = (line, Name (record { line = line; text = text })) ∷ tokens_from line ps
tokens_from line (Stray b ∷ ps) = (line, Unknown b) ∷ tokens_from line ps

-- the text consists of pieces, and they have these tokens
abbrev pub HasTokens : List ℕ → List (ℕ × Token) → Type 0
HasTokens text ts = (ps : List Piece) × ArePieces ps × (text ≡ flat_map bytes_of ps) × (ts ≡ tokens_from 1 ps)

-- tokens with their lines
abbrev pub Tokens : Type 0
Tokens = List (ℕ × Token)
