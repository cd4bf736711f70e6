-- The statements of a netlist text.
use Rattle.std.specs.Prelude.{true, false, ◌≡◌, ℕ, Bool, if◌then◌else◌, IsTrue, List, [], ◌∷◌, ◌++◌, map, flat_map, Option, Some, None}
use Rattle.std.specs.Prelude.{codes}
use Rattle.std.specs.Str.{str_eq_ignore_ascii_case}
use Rattle.net_bench.specs.declared.netlist.Kind.{Kind}
use Rattle.net_bench.specs.declared.netlist.Kind.TheVariants.{And, Nand, Or, Nor, Xor, Xnor, Not, Buff, Dff}
use Rattle.net_bench.specs.Text.{Word, Token, Open, Close, Comma, Equals, Name, End, HasTokens}

-- INPUT ( name ), OUTPUT ( name ), out = word ( first , .. )
pub data Statement : Type 0 where
  Input : (word name : Word) → Statement
  Output : (word name : Word) → Statement
  Gate : (out word first : Word) → (others : List Word) → Statement

-- the tokens of an operand after the first
abbrev pub after_comma : Word → List Token
after_comma w = Comma ∷ Name w ∷ []

-- a statement's tokens
abbrev pub spelled : Statement → List Token
spelled (Input word name) = Name word ∷ Open ∷ Name name ∷ Close ∷ []
spelled (Output word name) = Name word ∷ Open ∷ Name name ∷ Close ∷ []
spelled (Gate out word first others) = Name out ∷ Equals ∷ Name word ∷ Open ∷ Name first ∷ (flat_map after_comma others ++ Close ∷ [])

-- the words INPUT and OUTPUT, in either case
abbrev pub IsSpelledRight : Statement → Type 0
IsSpelledRight (Input word name) = IsTrue (str_eq_ignore_ascii_case word.text (codes "INPUT"))
IsSpelledRight (Output word name) = IsTrue (str_eq_ignore_ascii_case word.text (codes "OUTPUT"))
IsSpelledRight (Gate out word first others) = Unit {0}

-- each statement is spelled right
abbrev pub AreSpelledRight : List Statement → Type 0
AreSpelledRight [] = Unit {0}
AreSpelledRight (s ∷ ss) = IsSpelledRight s × AreSpelledRight ss

-- the tokens of the statements, and the end
abbrev pub spelling : List Statement → List Token
spelling ss = flat_map spelled ss ++ End ∷ []

-- the token without its line
abbrev pub token_of : ℕ × Token → Token
token_of t = t.1

-- the text reads as these statements
abbrev pub Reads : List ℕ → List Statement → Type 0
Reads text ss = (ts : List (ℕ × Token)) × HasTokens text ts × AreSpelledRight ss × (map token_of ts ≡ spelling ss)

-- ---- what a statement contains

-- the text is the word, in either case
abbrev pub is_word : List ℕ → List ℕ → Bool
is_word = str_eq_ignore_ascii_case

-- the kind that a gate word names
abbrev pub kind_of : List ℕ → Option Kind
kind_of w =
    if is_word w (codes "AND") then Some And else (
    if is_word w (codes "NAND") then Some Nand else (
    if is_word w (codes "OR") then Some Or else (
    if is_word w (codes "NOR") then Some Nor else (
    if is_word w (codes "XOR") then Some Xor else (
    if is_word w (codes "XNOR") then Some Xnor else (
    if is_word w (codes "NOT") then Some Not else (
    if is_word w (codes "BUFF") then Some Buff else (
    if is_word w (codes "BUF") then Some Buff else (
    if is_word w (codes "DFF") then Some Dff else None)))))))))

-- NOT, BUFF and DFF take one operand
abbrev pub takes_one : Kind → Bool
takes_one And = false
takes_one Nand = false
takes_one Or = false
takes_one Nor = false
takes_one Xor = false
takes_one Xnor = false
takes_one Not = true
takes_one Buff = true
takes_one Dff = true

-- the line of a statement's first token
abbrev pub line_of : Statement → ℕ
line_of (Input word name) = word.line
line_of (Output word name) = word.line
line_of (Gate out word first others) = out.line

-- the names of signals in the order in which a statement mentions them
abbrev pub interned : Statement → List (List ℕ)
interned (Input word name) = name.text ∷ []
interned (Output word name) = name.text ∷ []
interned (Gate out word first others) = out.text ∷ first.text ∷ map (λ w. w.text) others

-- the name of an INPUT
abbrev pub input_name : Statement → List (List ℕ)
input_name (Input word name) = name.text ∷ []
input_name (Output word name) = []
input_name (Gate out word first others) = []

-- the name of an OUTPUT
abbrev pub output_name : Statement → List (List ℕ)
output_name (Input word name) = []
output_name (Output word name) = name.text ∷ []
output_name (Gate out word first others) = []

-- the name that a gate or register defines
abbrev pub gate_name : Statement → List (List ℕ)
gate_name (Input word name) = []
gate_name (Output word name) = []
gate_name (Gate out word first others) = out.text ∷ []

-- the operands of a gate or register
abbrev pub operands : Statement → List Word
operands (Input word name) = []
operands (Output word name) = []
operands (Gate out word first others) = first ∷ others

-- the names that have to be defined somewhere in the text
abbrev pub uses : Statement → List Word
uses (Input word name) = []
uses (Output word name) = name ∷ []
uses (Gate out word first others) = first ∷ others

-- the names that the statement defines
abbrev pub defined : Statement → List (List ℕ)
defined s = input_name s ++ gate_name s
