-- Excerpts of a text, as they are shown with a fault.
use Rattle.std.specs.Prelude.{ℕ, zero, suc, ◌+◌, ◌-◌, ◌||◌, true, false, List, [], ◌∷◌, ◌++◌, ◌==◌, map, fold, length, take, nat_lt}
use Rattle.std.specs.Prelude.{if◌then◌else◌, codes, decimal, Option, Some, None}
use Rattle.std.specs.Char.{is_ascii_graphic}
use Rattle.net_bench.specs.Text.{Open, Close, Comma, Equals, Name, Unknown, End, Tokens}
use Rattle.net_bench.specs.Pieces.{tokens_at}
use Rattle.check_tool.specs.declared.help.QuotedPart.{QuotedPart}
use Rattle.check_tool.specs.declared.help.QuotedPart.TheVariants.{Line, BrokenStatement, Listed}
use Rattle.check_tool.specs.declared.quote.Reading.{Reading}

-- the bytes after so many line feeds
abbrev pub following : ℕ → List ℕ → List ℕ
following zero text = text
following (suc feeds) [] = []
following (suc feeds) (b ∷ bs) = if b == 10 then following feeds bs else following (suc feeds) bs

-- the bytes before the first line feed
abbrev pub first_line : List ℕ → List ℕ
first_line [] = []
first_line (b ∷ bs) = if b == 10 then [] else b ∷ first_line bs

-- a line of a text, counted from 1
abbrev pub line_in : List ℕ → ℕ → List ℕ
line_in text line = first_line (following (line - 1) text)

-- the character that is shown for a byte: a blank for a tab or a carriage return, and ? for what is not printable ASCII
abbrev pub shown : ℕ → ℕ
shown b = if is_ascii_graphic b then b else (if b == 32 || b == 9 || b == 13 then 32 else 63)

-- at most 100 bytes of a line, with a note if it is cut
abbrev pub excerpt : List ℕ → List ℕ
excerpt bytes = map shown (take 100 bytes) ++ (if nat_lt 100 (length bytes) then codes "... (cut)" else [])

-- the excerpt of a line of a text
abbrev pub quotation : List ℕ → ℕ → List ℕ
quotation text line = excerpt (line_in text line)

-- ---- a parenthesis that is not closed

-- the state of a reading before the first byte
abbrev pub unread : Reading
unread = record { line = 1; in_comment = false; unclosed = None }

-- the state after one more byte; an opening parenthesis is the last one that is not closed until a closing one follows
abbrev pub read_byte : Reading → ℕ → Reading
read_byte r b =
    if b == 10 then record { line = r.line + 1; in_comment = false; unclosed = r.unclosed } else (
    if r.in_comment then r else (
    if b == 35 then record { line = r.line; in_comment = true; unclosed = r.unclosed } else (
    if b == 40 then record { line = r.line; in_comment = false; unclosed = Some r.line } else (
    if b == 41 then record { line = r.line; in_comment = false; unclosed = None } else r))))

-- the line of the last opening parenthesis of a text, outside comments, that no closing one follows
abbrev pub unclosed_in : List ℕ → Option ℕ
unclosed_in text = (fold read_byte unread text).unclosed

-- the bytes before a line
abbrev pub before_line : List ℕ → ℕ → List ℕ
before_line text line = take (length text - length (following (line - 1) text)) text

-- the excerpt for a line with a broken statement: if a parenthesis before it is not closed, the line of that
abbrev pub broken_remark : List ℕ → (line : ℕ) → Option ℕ → List ℕ
broken_remark text line None = quotation text line
broken_remark text line (Some unclosed) = codes "the ( of line " ++ (decimal unclosed ++ (codes " has no ): " ++ quotation text unclosed))

-- ---- a name of a list

-- the excerpt of the name after so many tokens, with its line, or that the list ends
abbrev pub name_remark : ℕ → Tokens → List ℕ
name_remark n [] = []
name_remark zero ((line, Name word) ∷ ts) = codes "line " ++ (decimal line ++ (codes ": " ++ excerpt word.text))
name_remark (suc n) ((line, Name word) ∷ ts) = name_remark n ts
name_remark n ((line, End) ∷ ts) = codes "the list ends before each variable has a place"
name_remark zero ((line, Open) ∷ ts) = []
name_remark (suc n) ((line, Open) ∷ ts) = name_remark n ts
name_remark zero ((line, Close) ∷ ts) = []
name_remark (suc n) ((line, Close) ∷ ts) = name_remark n ts
name_remark zero ((line, Comma) ∷ ts) = []
name_remark (suc n) ((line, Comma) ∷ ts) = name_remark n ts
name_remark zero ((line, Equals) ∷ ts) = []
name_remark (suc n) ((line, Equals) ∷ ts) = name_remark n ts
name_remark zero ((line, Unknown byte) ∷ ts) = []
name_remark (suc n) ((line, Unknown byte) ∷ ts) = name_remark n ts

-- ---- the part that a fault refers to

abbrev pub remark : QuotedPart → List ℕ → List ℕ
remark (Line line) text = quotation text line
remark (BrokenStatement line) text = broken_remark text line (unclosed_in (before_line text line))
remark (Listed place) text = name_remark (place - 1) (tokens_at 1 text)
