-- What the reader keeps beside its state: the signals that the tokens so far have mentioned, and what the whole
-- statements say of them, by number.
use Rattle.std.specs.Prelude.{◌≡◌, ◌⊎◌, ℕ, ◌+◌, ◌<◌, ◌≤◌, Bool, true, false, ◌||◌, if◌then◌else◌, List, [], ◌∷◌, ◌++◌, map, flat_map}
use Rattle.std.specs.Prelude.{filter, filter_map, fold, length, replicate, slice_get, slice_set, All, Option, Some, None, option_map}
use Rattle.std.specs.Prelude.{option_to_list}
use Rattle.net_bench.specs.declared.symbols.Symbol.{Symbol}
use Rattle.net_bench.specs.declared.netlist.Role.{Role}
use Rattle.net_bench.specs.declared.netlist.Role.TheVariants.{Undefined as undefined, Input as input, Gate as gate, Register as register}
use Rattle.net_bench.specs.declared.symbols.Use.{Use}
use Rattle.net_bench.specs.declared.symbols.SymbolTable.{SymbolTable}
use Rattle.net_bench.specs.declared.netlist.Kind.{Kind}
use Rattle.net_bench.specs.declared.netlist.GateLine.{GateLine}
use Rattle.net_bench.specs.declared.fault.BenchFault.{BenchFault}
use Rattle.net_bench.specs.declared.fault.BenchFault.TheVariants.{TooMany, OutOfMemory}
use Rattle.net_bench.specs.Text.{Word, Token, Name}
use Rattle.net_bench.specs.Statement.{Statement, Input, Output, Gate, interned, operands, uses, input_name, output_name, gate_name, kind_of}
use Rattle.net_bench.specs.Statement.{line_of}
use Rattle.net_bench.specs.Machine.{State, Between, First, Opened, Named, Defining, AtWord, Operands, AfterOperand, AfterComma, Finished}
use Rattle.net_bench.specs.Machine.{Failed, tokens_of, step, IsRight}
use Rattle.net_bench.specs.declared.syntax.PartialStatement.{PartialStatement}
use Rattle.net_bench.specs.ParsedStatement.{state_of}
use Rattle.net_bench.specs.Circuit.{is_name_in, with_name, distinct, find, number_of, gate_line, is_gate, is_register, is_register_kind}
use Rattle.net_bench.specs.Circuit.{Net, HasRole}
use Rattle.net_bench.specs.Sound.{has_kind}
use Rattle.net_bench.specs.Fault.{OperandCount, SecondDefinition, max_signals, max_operands, has_wrong_operands, redefines}
use Rattle.net_bench.specs.Judge.{FaultOnLine, first_of, tests, answered_fault}

-- ---- what a state's tokens have mentioned

-- the names of words
abbrev pub texts : List Word → List (List ℕ)
texts ws = map (λ w. w.text) ws

-- the names that the tokens up to this state have mentioned
abbrev pub interned_of : State → List (List ℕ)
interned_of (Between done) = flat_map interned done
interned_of (First done w) = flat_map interned done
interned_of (Opened done w) = flat_map interned done
interned_of (Named done w n) = flat_map interned done ++ n.text ∷ []
interned_of (Defining done out) = flat_map interned done ++ out.text ∷ []
interned_of (AtWord done out g) = flat_map interned done ++ out.text ∷ []
interned_of (Operands done out g) = flat_map interned done ++ out.text ∷ []
interned_of (AfterOperand done out g a others) = flat_map interned done ++ out.text ∷ a.text ∷ texts others
interned_of (AfterComma done out g a others) = flat_map interned done ++ out.text ∷ a.text ∷ texts others
interned_of (Finished done) = flat_map interned done
interned_of Failed = []

-- the operands among them
abbrev pub operands_of : State → List Word
operands_of (Between done) = flat_map operands done
operands_of (First done w) = flat_map operands done
operands_of (Opened done w) = flat_map operands done
operands_of (Named done w n) = flat_map operands done
operands_of (Defining done out) = flat_map operands done
operands_of (AtWord done out g) = flat_map operands done
operands_of (Operands done out g) = flat_map operands done
operands_of (AfterOperand done out g a others) = flat_map operands done ++ a ∷ others
operands_of (AfterComma done out g a others) = flat_map operands done ++ a ∷ others
operands_of (Finished done) = flat_map operands done
operands_of Failed = []

-- the names that the partial statement has mentioned
abbrev pub begun_words : State → List Word
begun_words (Between done) = []
begun_words (First done w) = []
begun_words (Opened done w) = []
begun_words (Named done w n) = n ∷ []
begun_words (Defining done out) = out ∷ []
begun_words (AtWord done out g) = out ∷ []
begun_words (Operands done out g) = out ∷ []
begun_words (AfterOperand done out g a others) = out ∷ a ∷ others
begun_words (AfterComma done out g a others) = out ∷ a ∷ others
begun_words (Finished done) = []
begun_words Failed = []

-- the name that the last token before this state has mentioned
abbrev pub newest : State → Token → List Word
newest (Defining done out) t = out ∷ []
newest (Named done w n) t = n ∷ []
newest (AfterOperand done out g a others) (Name b) = b ∷ []
newest s t = []

-- how many operands it has mentioned, 0 or 1
abbrev pub newest_operands : State → Token → ℕ
newest_operands (AfterOperand done out g a others) (Name b) = 1
newest_operands s t = 0

-- ---- what a statement says, by numbers

-- the word of the signal that a statement mentions first
abbrev pub subject : Statement → Word
subject (Input word name) = name
subject (Output word name) = name
subject (Gate out word first others) = out

-- the names that a statement mentions
abbrev pub interned_words : Statement → List Word
interned_words x = subject x ∷ operands x

-- the uses are these words, each with its number and its line
abbrev pub AreFound : List (List ℕ) → List Use → List Word → Type 0
AreFound names [] [] = Unit {0}
AreFound names (u ∷ us) (w ∷ ws) = (find names w.text ≡ Some u.signal) × (u.line ≡ w.line) × AreFound names us ws
AreFound names us ws = ⊥

-- the names have the same numbers in the later list
abbrev pub IsLater : List (List ℕ) → List (List ℕ) → Type 0
IsLater names later = (n : List ℕ) (i : ℕ) → find names n ≡ Some i → find later n ≡ Some i

-- whether an INPUT defines the signal
abbrev pub is_input_role : Role → Bool
is_input_role undefined = false
is_input_role input = true
is_input_role (gate p) = false
is_input_role (register p) = false

-- whether a gate or register defines the signal
abbrev pub is_driven_role : Role → Bool
is_driven_role undefined = false
is_driven_role input = false
is_driven_role (gate p) = true
is_driven_role (register p) = true

-- the role by the word of a gate or register, if the next gate comes to the place p and the next register to q
abbrev pub driven_role : Option Kind → ℕ → ℕ → Role
driven_role None p q = gate p
driven_role (Some kind) p q = if is_register_kind kind then register q else gate p

-- the symbol of a signal of which no whole statement says anything
abbrev pub blank : Symbol
blank = record { role = undefined; is_output = false }

-- the symbol is what the statements say of the name
pub record IsSymbol (done : List Statement) (n : List ℕ) (s : Symbol) : Type 0 where
  pub input : is_input_role s.role ≡ is_name_in (flat_map input_name done) n
  pub driven : is_driven_role s.role ≡ is_name_in (flat_map gate_name done) n
  pub output : s.is_output ≡ is_name_in (flat_map output_name done) n

-- each name has its symbol
abbrev pub AreSymbols : List Statement → List (List ℕ) → List Symbol → Type 0
AreSymbols done names symbols = (n : List ℕ) (i : ℕ) (s : Symbol) → find names n ≡ Some i → slice_get symbols i ≡ Some s → IsSymbol done n s

-- the first signal of the partial statement is that of the statement x, and its symbol is what the statements before x say of it
abbrev pub KnowsSubject : List Statement → List Use → List Symbol → Statement → Type 0
KnowsSubject done begun symbols x =
    (u : Use) (s : Symbol) → slice_get begun 0 ≡ Some u → slice_get symbols u.signal ≡ Some s → IsSymbol done (subject x).text s

-- the symbol of a statement's signal after it, by the places of the next gate and the next register
abbrev pub symbol_after : Statement → Symbol → ℕ → ℕ → Symbol
symbol_after (Input word name) s p q = record { role = input; is_output = s.is_output }
symbol_after (Output word name) s p q = record { role = s.role; is_output = true }
symbol_after (Gate out word first others) s p q = record { role = driven_role (kind_of word.text) p q; is_output = s.is_output }

-- the inputs that a statement adds
abbrev pub inputs_with : Statement → Use → Symbol → List ℕ
inputs_with (Input word name) u s = if is_input_role s.role then [] else u.signal ∷ []
inputs_with x u s = []

-- the outputs that a statement adds
abbrev pub outputs_with : Statement → Use → Symbol → List ℕ
outputs_with (Output word name) u s = if s.is_output then [] else u.signal ∷ []
outputs_with x u s = []

-- the gate or register that a statement adds
abbrev pub gate_line_with : Statement → Use → List Use → Option GateLine
gate_line_with (Gate out word first others) u us =
    option_map (λ kind. (let g : GateLine = record { out = u.signal; kind = kind; operands = map (λ v. v.signal) us; line = out.line } in
    g)) (kind_of word.text)
gate_line_with x u us = None

-- the uses that a statement adds
abbrev pub uses_with : Statement → Use → List Use → List Use
uses_with (Input word name) u us = []
uses_with (Output word name) u us = u ∷ []
uses_with (Gate out word first others) u us = us

-- a gate or register with this signal is at the place of the role
abbrev pub IsPlacedAt : List GateLine → List GateLine → ℕ → Role → Type 0
IsPlacedAt gates registers i undefined = Unit {0}
IsPlacedAt gates registers i input = Unit {0}
IsPlacedAt gates registers i (gate p) = (g : GateLine) × (slice_get gates p ≡ Some g) × (g.out ≡ i)
IsPlacedAt gates registers i (register p) = (g : GateLine) × (slice_get registers p ≡ Some g) × (g.out ≡ i)

-- this is true of each signal and the role in its symbol
abbrev pub ArePlaced : List GateLine → List GateLine → List Symbol → Type 0
ArePlaced gates registers symbols = (i : ℕ) (s : Symbol) → slice_get symbols i ≡ Some s → IsPlacedAt gates registers i s.role

-- the symbols have the roles of the netlist's signals
pub record AreRoles (n : Net) (symbols : List Symbol) : Type 0 where
  pub each : length symbols ≡ length n.names
  pub right : (i : ℕ) (s : Symbol) → slice_get symbols i ≡ Some s → HasRole n i s.role

-- ---- the symbol table

-- the inputs, outputs, gates and registers of the table are those of the statements, by the numbers that these names have
pub record AreParts (names : List (List ℕ)) (done : List Statement) (table : SymbolTable) : Type 0 where
  pub inputs : table.inputs.items ≡ map (number_of names) (distinct (flat_map input_name done))
  pub outputs : table.outputs.items ≡ map (number_of names) (distinct (flat_map output_name done))
  pub gates : table.gates.items ≡ filter is_gate (filter_map (gate_line names) done)
  pub registers : table.registers.items ≡ filter is_register (filter_map (gate_line names) done)

-- the table is that of this state, after these whole statements, and no limit is passed
pub record IsTableOf (done : List Statement) (s : State) (table : SymbolTable) : Type 0 where
  pub right : IsRight s
  pub names : table.names ≡ distinct (interned_of s)
  pub whole : (n : List ℕ) → is_name_in (flat_map interned done) n ≡ true → is_name_in table.names n ≡ true
  pub operands : table.operands ≡ length (operands_of s)
  pub begun : AreFound table.names table.begun.items (begun_words s)
  pub each : length table.symbols.items ≡ length table.names
  pub symbols : AreSymbols done table.names table.symbols.items
  pub uses : AreFound table.names table.uses.items (flat_map uses done)
  pub parts : (later : List (List ℕ)) → IsLater table.names later → AreParts later done table
  -- if each gate word names a kind, as in a text without a faulty place
  pub places : All (λ x. has_kind x ≡ true) done → ArePlaced table.gates.items table.registers.items table.symbols.items
  pub few : length table.names ≤ max_signals
  pub low : table.operands ≤ max_operands

-- the new table has the inputs, outputs, gates, registers and uses of the old one
pub record KeepsParts (old new : SymbolTable) : Type 0 where
  pub inputs : new.inputs.items ≡ old.inputs.items
  pub outputs : new.outputs.items ≡ old.outputs.items
  pub gates : new.gates.items ≡ old.gates.items
  pub registers : new.registers.items ≡ old.registers.items
  pub uses : new.uses.items ≡ old.uses.items

-- the new table has interned these words and has so many operands more, and no limit is passed
pub record InternsMore (old new : SymbolTable) (words : List Word) (more : ℕ) : Type 0 where
  pub names : new.names ≡ fold with_name old.names (texts words)
  pub operands : new.operands ≡ old.operands + more
  pub begun : (us : List Use) × (new.begun.items ≡ old.begun.items ++ us) × AreFound new.names us words
  pub each : length new.symbols.items ≡ length new.names
  pub symbols : (n : ℕ) × (new.symbols.items ≡ old.symbols.items ++ replicate n blank)
  pub parts : KeepsParts old new
  pub few : length (fold with_name old.names (texts words)) ≤ max_signals
  pub low : old.operands + more ≤ max_operands

-- with these words and so many operands more a limit is passed
abbrev pub IsOverLimit : SymbolTable → List Word → ℕ → Type 0
IsOverLimit old words operands = (max_signals < length (fold with_name old.names (texts words))) ⊎ (max_operands < old.operands + operands)

-- out of memory, or a limit is passed on this line
abbrev pub IsLimitFault : ℕ → SymbolTable → List Word → ℕ → BenchFault → Type 0
IsLimitFault line old words operands fault = (fault ≡ OutOfMemory) ⊎ ((fault ≡ TooMany line) × IsOverLimit old words operands)

-- the new table has in addition what the statement x says, whose signals are u and us, and the first of them had the symbol s
pub record Defines (x : Statement) (u : Use) (us : List Use) (s : Symbol) (old new : SymbolTable) : Type 0 where
  pub names : new.names ≡ old.names
  pub operands : new.operands ≡ old.operands
  pub begun : new.begun.items ≡ []
  pub symbols : new.symbols.items ≡ slice_set old.symbols.items u.signal
      (symbol_after x s (length old.gates.items) (length old.registers.items))
  pub uses : new.uses.items ≡ old.uses.items ++ uses_with x u us
  pub inputs : new.inputs.items ≡ old.inputs.items ++ inputs_with x u s
  pub outputs : new.outputs.items ≡ old.outputs.items ++ outputs_with x u s
  pub gates : new.gates.items ≡ old.gates.items ++ filter is_gate (option_to_list (gate_line_with x u us))
  pub registers : new.registers.items ≡ old.registers.items ++ filter is_register (option_to_list (gate_line_with x u us))

-- x is closed: the new table has what it says of the signals that the old one has noted of the partial statement
abbrev pub ClosesStatement : Statement → SymbolTable → SymbolTable → Type 0
ClosesStatement x old new =
    (u : Use) × (us : List Use) × (s : Symbol) × (old.begun.items ≡ u ∷ us) × (slice_get old.symbols.items u.signal ≡ Some s)
    × Defines x u us s old new

-- the fault of a whole statement after these, if it has one
abbrev pub statement_fault : List Statement → Statement → Option FaultOnLine
statement_fault done x =
    if has_wrong_operands x then Some (OperandCount, line_of x) else (
    if redefines done x then Some (SecondDefinition, line_of x) else None)

-- ---- uses without a definition

-- whether an INPUT, a gate or a register defines the signal
abbrev pub is_defined_role : Role → Bool
is_defined_role r = is_input_role r || is_driven_role r

-- whether there is a symbol, and its signal is defined
abbrev pub known_symbol : Option Symbol → Bool
known_symbol None = false
known_symbol (Some s) = is_defined_role s.role

-- the line of the first use of a signal without a definition
abbrev pub undefined_use : List Symbol → List Use → Option ℕ
undefined_use symbols [] = None
undefined_use symbols (u ∷ us) = if known_symbol (slice_get symbols u.signal) then undefined_use symbols us else Some u.line

-- ---- the judge, by states and tables

-- the judge's tests of a token in a state
abbrev pub token_tests : State → ℕ → Token → List (Option FaultOnLine)
token_tests s line t = tests s line t (tokens_of s ++ t ∷ [])

-- the fault is the first that the tests of a token have found
abbrev pub IsAnsweredFault : BenchFault → State → ℕ → Token → Type 0
IsAnsweredFault fault s line t = (f : FaultOnLine) × (first_of (token_tests s line t) ≡ Some f) × (fault ≡ answered_fault f)

-- the tests of a token have found nothing, and the part and the table are those of the next state
abbrev pub Continues : State → ℕ → Token → PartialStatement → SymbolTable → Type 0
Continues s line t p table =
    (first_of (token_tests s line t) ≡ None) × ((done : List Statement) × (state_of done p ≡ step s t)
    × IsTableOf done (state_of done p) table)
