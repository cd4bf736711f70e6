-- The pieces of a text, computed from its end, and the tokens that are left of a text.
use Rattle.std.specs.Prelude.{◌≡◌, ℕ, Bool, true, false, ◌==◌, if◌then◌else◌, List, [], ◌∷◌}
use Rattle.net_bench.specs.Text.{Piece, Blank, Comment, Mark, Run, Stray, is_blank, is_mark, is_name_byte, Token, tokens_from}

-- what kind of byte it is
pub data Class : Type 0 where
  Newline : Class
  Space : Class
  Hash : Class
  Punctuation : Class
  Letter : Class
  Other : Class

-- the kind of a byte
abbrev pub class_of : ℕ → Class
class_of b =
    if b == 10 then Newline else (
    if is_blank b then Space else (
    if b == 35 then Hash else (
    if is_mark b then Punctuation else (
    if is_name_byte b then Letter else Other))))

-- whether the text is within a comment
pub data Mode : Type 0 where
  Between : Mode
  InComment : Mode

-- one more byte at the front of the comment that begins the pieces
abbrev pub with_body : ℕ → List Piece → List Piece
with_body b [] = []
with_body b (Comment body ∷ ps) = Comment (b ∷ body) ∷ ps
with_body b (Blank c ∷ ps) = Blank c ∷ ps
with_body b (Mark c ∷ ps) = Mark c ∷ ps
with_body b (Run c ∷ ps) = Run c ∷ ps
with_body b (Stray c ∷ ps) = Stray c ∷ ps

-- one more byte at the front of the name that begins the pieces, or a name of its own
abbrev pub with_letter : ℕ → List Piece → List Piece
with_letter b [] = Run (b ∷ []) ∷ []
with_letter b (Run text ∷ ps) = Run (b ∷ text) ∷ ps
with_letter b (Blank c ∷ ps) = Run (b ∷ []) ∷ Blank c ∷ ps
with_letter b (Comment c ∷ ps) = Run (b ∷ []) ∷ Comment c ∷ ps
with_letter b (Mark c ∷ ps) = Run (b ∷ []) ∷ Mark c ∷ ps
with_letter b (Stray c ∷ ps) = Run (b ∷ []) ∷ Stray c ∷ ps

-- one more byte at the front of a text, whose rest is read in the mode that comes after the byte
abbrev pub with_byte : Mode → Class → ℕ → (Mode → List Piece) → List Piece
with_byte Between Newline b rest = Blank b ∷ rest Between
with_byte Between Space b rest = Blank b ∷ rest Between
with_byte Between Hash b rest = rest InComment
with_byte Between Punctuation b rest = Mark b ∷ rest Between
with_byte Between Letter b rest = with_letter b (rest Between)
with_byte Between Other b rest = Stray b ∷ rest Between
with_byte InComment Newline b rest = Comment [] ∷ Blank b ∷ rest Between
with_byte InComment Space b rest = with_body b (rest InComment)
with_byte InComment Hash b rest = with_body b (rest InComment)
with_byte InComment Punctuation b rest = with_body b (rest InComment)
with_byte InComment Letter b rest = with_body b (rest InComment)
with_byte InComment Other b rest = with_body b (rest InComment)

-- the pieces of a text, or of the rest of a text within a comment
unfoldable pub pieces_in : Mode → List ℕ → List Piece
pieces_in Between [] = []
pieces_in InComment [] = Comment [] ∷ []
pieces_in mode (b ∷ bs) = with_byte mode (class_of b) b (λ next. pieces_in next bs)

-- the tokens of a text, or of the rest of a text within a comment, from this line on
unfoldable pub tokens_in : Mode → ℕ → List ℕ → List (ℕ × Token)
tokens_in mode line text = tokens_from line (pieces_in mode text)

-- the tokens of a text from this line on
abbrev pub tokens_at : ℕ → List ℕ → List (ℕ × Token)
tokens_at line text = tokens_in Between line text

-- the mode by whether the text is within a comment
abbrev pub mode_of : Bool → Mode
mode_of true = InComment
mode_of false = Between

-- nothing is left, or the first byte of a token is at the front
abbrev pub StartsToken : List ℕ → Type 0
StartsToken [] = Unit {0}
StartsToken (b ∷ bs) = (is_blank b ≡ false) × ((b == 35) ≡ false)
