-- The faulty places of a text, and which fault is answered: why a text is no netlist.
use Rattle.std.specs.Prelude.{◌≡◌, ℕ, ◌+◌, ◌<◌, ◌≤◌, Bool, false, ◌||◌, ◌⊎◌, IsTrue, List, [], ◌∷◌, ◌++◌, map, length, take, flat_map}
use Rattle.std.specs.Prelude.{slice_get, Option, Some, None, Contains}
use Rattle.std.specs.List.{list_any, list_all}
use Rattle.net_bench.specs.declared.netlist.Kind.{Kind}
use Rattle.net_bench.specs.declared.netlist.GateLine.{GateLine}
use Rattle.net_bench.specs.declared.fault.BenchFault.{BenchFault}
use Rattle.net_bench.specs.declared.fault.BenchFault.TheVariants.{TooLong, BadByte, BadStatement, UnknownGate, WrongOperands, Redefined}
use Rattle.net_bench.specs.declared.fault.BenchFault.TheVariants.{TooMany, Undefined, Cycle, Read, OutOfMemory}
use Rattle.net_bench.specs.Text.{Word, Token, Open, Comma, Equals, Name, Unknown, HasTokens}
use Rattle.net_bench.specs.Statement.{Statement, Input, Output, Gate, spelled, IsSpelledRight, AreSpelledRight, spelling, token_of, Reads}
use Rattle.net_bench.specs.Statement.{kind_of, takes_one, line_of, input_name, gate_name, uses, defined}
use Rattle.net_bench.specs.Circuit.{Circuit, is_name_in, circuit_of, distinct, IsEndless}

-- the most bytes of a text
abbrev pub max_text : ℕ
max_text = 67108864

-- the most bytes of a name
abbrev pub max_name : ℕ
max_name = 255

-- the most signals of a netlist
abbrev pub max_signals : ℕ
max_signals = 1000000

-- the most operands of all gates and registers together
abbrev pub max_operands : ℕ
max_operands = 4000000

-- the tokens from the first to the one at this place
abbrev pub up_to : List (ℕ × Token) → ℕ → List Token
up_to ts place = map token_of (take (place + 1) ts)

-- some list of right statements begins with these tokens
abbrev pub Begins : List Token → Type 0
Begins front = (ss : List Statement) × (more : List Token) × AreSpelledRight ss × (front ++ more ≡ spelling ss)

-- The names that the tokens mention as signals: after `(` and `,`, and to the left of `=` when it is read.
abbrev pub interned_in : List Token → List (List ℕ)
interned_in [] = []
interned_in (Open ∷ Name w ∷ ts) = w.text ∷ interned_in (Name w ∷ ts)
interned_in (Comma ∷ Name w ∷ ts) = w.text ∷ interned_in (Name w ∷ ts)
interned_in (Name w ∷ Equals ∷ ts) = w.text ∷ interned_in (Equals ∷ ts)
interned_in (t ∷ ts) = interned_in ts

-- The operands: in a gate the names after `(` and `,`. The `(` of a gate comes after `=` and the gate word.
abbrev pub operands_in : List Token → List Word
operands_in [] = []
operands_in (Equals ∷ Name g ∷ Open ∷ Name w ∷ ts) = w ∷ operands_in (Name w ∷ ts)
operands_in (Comma ∷ Name w ∷ ts) = w ∷ operands_in (Name w ∷ ts)
operands_in (t ∷ ts) = operands_in ts

-- What may be wrong at a place of a text.
pub data Cause : Type 0 where
  StrayByte : Cause
  LongName : Cause
  Misplaced : Cause
  NoGateWord : Cause
  OperandCount : Cause
  SecondDefinition : Cause
  LimitExceeded : Cause

-- which cause comes first if one place has several
abbrev pub order_of : Cause → ℕ
order_of StrayByte = 0
order_of LongName = 0
order_of Misplaced = 1
order_of NoGateWord = 2
order_of OperandCount = 3
order_of SecondDefinition = 4
order_of LimitExceeded = 5

-- the fault that is answered for a cause on this line
abbrev pub fault_of : Cause → ℕ → BenchFault
fault_of StrayByte line = BadByte line
fault_of LongName line = TooMany line
fault_of Misplaced line = BadStatement line
fault_of NoGateWord line = UnknownGate line
fault_of OperandCount line = WrongOperands line
fault_of SecondDefinition line = Redefined line
fault_of LimitExceeded line = TooMany line

-- a kind that takes one operand
abbrev pub is_one_operand_kind : Option Kind → Bool
is_one_operand_kind None = false
is_one_operand_kind (Some kind) = takes_one kind

-- whether a gate that takes one operand has more
abbrev pub has_wrong_operands : Statement → Bool
has_wrong_operands (Input word name) = false
has_wrong_operands (Output word name) = false
has_wrong_operands (Gate out word first []) = false
has_wrong_operands (Gate out word first (second ∷ others)) = is_one_operand_kind (kind_of word.text)

-- whether the name is one of the names
abbrev pub is_among : List ℕ → List (List ℕ) → Bool
is_among name names = is_name_in names name

-- whether the statement is a second definition: its signal has a gate or register before it, or it is a gate or
-- register whose signal has an INPUT before it
abbrev pub redefines : List Statement → Statement → Bool
redefines before s =
    list_any (λ n. is_among n (flat_map gate_name before)) (defined s) || list_any (λ n. is_among n (flat_map input_name before))
    (gate_name s)

-- the tokens up to this place are those of these whole statements, followed by these
abbrev pub IsAfterStatements : List Statement → List (ℕ × Token) → ℕ → List Token → Type 0
IsAfterStatements ss ts place last = AreSpelledRight ss × (up_to ts place ≡ flat_map spelled ss ++ last)

-- The place has a fault of this cause, which is reported with this line. Tokens before the place may be faulty too.
abbrev pub IsFaulty : List (ℕ × Token) → ℕ → Cause → ℕ → Type 0
IsFaulty ts place StrayByte line = (b : ℕ) × (slice_get ts place ≡ Some (line, Unknown b))
IsFaulty ts place LongName line = (w : Word) × (slice_get ts place ≡ Some (line, Name w)) × (max_name < length w.text)
IsFaulty ts place Misplaced line = (t : Token) × (slice_get ts place ≡ Some (line, t)) × (Begins (up_to ts place) → ⊥)
IsFaulty ts place NoGateWord line =
    (ss : List Statement) × (out word : Word) × IsAfterStatements ss ts place (Name out ∷ Equals ∷ Name word ∷ []) ×
    (line ≡ out.line) × (kind_of word.text ≡ None)
IsFaulty ts place OperandCount line =
    (ss : List Statement) × (s : Statement) × IsAfterStatements ss ts place (spelled s) × IsSpelledRight s ×
    (line ≡ line_of s) × IsTrue (has_wrong_operands s)
IsFaulty ts place SecondDefinition line =
    (ss : List Statement) × (s : Statement) × IsAfterStatements ss ts place (spelled s) × IsSpelledRight s ×
    (line ≡ line_of s) × IsTrue (redefines ss s)
IsFaulty ts place LimitExceeded line =
    (t : Token) × (slice_get ts place ≡ Some (line, t)) ×
    ((max_signals < length (distinct (interned_in (up_to ts place)))) ⊎ (max_operands < length (operands_in (up_to ts place))))

-- This is the first faulty place, and the first of the causes there.
pub record IsFirst (ts : List (ℕ × Token)) (place : ℕ) (cause : Cause) (line : ℕ) : Type 0 where
  pub in_bounds : place < length ts
  pub here : IsFaulty ts place cause line
  pub earlier : (p l : ℕ) (other : Cause) → p < place → IsFaulty ts p other l → ⊥
  pub same : (l : ℕ) (other : Cause) → IsFaulty ts place other l → order_of cause ≤ order_of other

-- no place has a fault
abbrev pub IsFaultless : List (ℕ × Token) → Type 0
IsFaultless ts = (place line : ℕ) (cause : Cause) → place < length ts → IsFaulty ts place cause line → ⊥

-- whether the word's name has an INPUT, a gate or a register
abbrev pub is_defined : List Statement → Word → Bool
is_defined ss w = is_among w.text (flat_map defined ss)

-- the first use of a name without a definition is on this line
abbrev pub FirstUndefined : List Statement → ℕ → Type 0
FirstUndefined ss line =
    (front back : List Word) × (w : Word) × (flat_map uses ss ≡ front ++ w ∷ back) ×
    IsTrue (list_all (is_defined ss) front) × (is_defined ss w ≡ false) × (line ≡ w.line)

-- the first gate that depends on a cycle, so that an endless chain of operands starts at it, is on this line
abbrev pub FirstEndless : Circuit → ℕ → Type 0
FirstEndless c line =
    (front back : List GateLine) × (g : GateLine) × (c.gates ≡ front ++ g ∷ back) ×
    ((h : GateLine) → Contains front h → IsEndless c h.out → ⊥) × IsEndless c g.out × (line ≡ g.line)

-- The text is a netlist of these statements.
pub record IsNetlistText (text : List ℕ) (ss : List Statement) : Type 0 where
  pub short : length text ≤ max_text
  pub reads : Reads text ss
  pub faultless : (ts : List (ℕ × Token)) → HasTokens text ts → IsFaultless ts
  pub defined : IsTrue (list_all (is_defined ss) (flat_map uses ss))
  pub acyclic : (s : ℕ) → IsEndless (circuit_of ss) s → ⊥

-- the text is refused because of the first fault at its first faulty place
abbrev pub IsFaultAtPlace : List ℕ → BenchFault → Type 0
IsFaultAtPlace text fault =
    (length text ≤ max_text) × (ts : List (ℕ × Token)) × HasTokens text ts ×
    (place line : ℕ) × (cause : Cause) × IsFirst ts place cause line × (fault ≡ fault_of cause line)

-- the statements of a text without a faulty place
abbrev pub ReadsWell : List ℕ → List Statement → Type 0
ReadsWell text ss = (length text ≤ max_text) × Reads text ss × ((ts : List (ℕ × Token)) → HasTokens text ts → IsFaultless ts)

-- The text is refused with this fault. (Refused memory and failed devices are left out: they do not follow from the text.)
abbrev pub IsRefused : List ℕ → BenchFault → Type 0
IsRefused text TooLong = max_text < length text
IsRefused text (Undefined line) = (ss : List Statement) × ReadsWell text ss × FirstUndefined ss line
IsRefused text (Cycle line) =
    (ss : List Statement) × ReadsWell text ss × IsTrue (list_all (is_defined ss) (flat_map uses ss)) × FirstEndless (circuit_of ss) line
IsRefused text Read = ⊥
IsRefused text OutOfMemory = ⊥
IsRefused text (BadByte line) = IsFaultAtPlace text (BadByte line)
IsRefused text (BadStatement line) = IsFaultAtPlace text (BadStatement line)
IsRefused text (UnknownGate line) = IsFaultAtPlace text (UnknownGate line)
IsRefused text (WrongOperands line) = IsFaultAtPlace text (WrongOperands line)
IsRefused text (Redefined line) = IsFaultAtPlace text (Redefined line)
IsRefused text (TooMany line) = IsFaultAtPlace text (TooMany line)

-- the text is a netlist of some statements, and this is what they make
abbrev pub MakesNetlist : List ℕ → Circuit → Type 0
MakesNetlist text c = (ss : List Statement) × IsNetlistText text ss × (c ≡ circuit_of ss)
