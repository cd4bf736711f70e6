-- The first fault of a text, computed token by token from the reader's states. The definition of faulty places does not
-- mention it; laws in proofs/ show that both agree.
use Rattle.std.specs.Prelude.{ℕ, ◌+◌, Bool, ◌||◌, nat_lt, if◌then◌else◌, List, [], ◌∷◌, ◌++◌, flat_map, length}
use Rattle.std.specs.Prelude.{fold, Option, Some, None, Result, Ok, Err}
use Rattle.std.specs.List.{list_all, list_any}
use Rattle.net_bench.specs.declared.netlist.Kind.{Kind}
use Rattle.net_bench.specs.declared.netlist.GateLine.{GateLine}
use Rattle.net_bench.specs.declared.fault.BenchFault.{BenchFault}
use Rattle.net_bench.specs.declared.fault.BenchFault.TheVariants.{Undefined, Cycle}
use Rattle.net_bench.specs.Text.{Word, Token, Close, Name, Unknown, Tokens}
use Rattle.net_bench.specs.Pieces.{tokens_at}
use Rattle.net_bench.specs.Statement.{Statement, Gate, kind_of, line_of, uses}
use Rattle.net_bench.specs.Machine.{State, Between, Named, AtWord, AfterOperand, Finished, Failed, port, step}
use Rattle.net_bench.specs.Circuit.{circuit_of, distinct, variables_of}
use Rattle.net_bench.specs.Fault.{Cause, StrayByte, LongName, Misplaced, NoGateWord, OperandCount, SecondDefinition, LimitExceeded, fault_of}
use Rattle.net_bench.specs.Fault.{max_name, max_signals, max_operands, interned_in, operands_in, has_wrong_operands, redefines, is_defined}

-- a fault and its line
abbrev pub FaultOnLine : Type 0
FaultOnLine = Cause × ℕ

-- the fault as it is answered
abbrev pub answered_fault : FaultOnLine → BenchFault
answered_fault found = fault_of found.0 found.1

-- the token itself is faulty
abbrev pub lexical : ℕ → Token → Option FaultOnLine
lexical line (Unknown b) = Some (StrayByte, line)
lexical line (Name w) = if nat_lt max_name (length w.text) then Some (LongName, line) else None
lexical line t = None

-- no statement has the token at this place
abbrev pub syntactic : ℕ → State → Option FaultOnLine
syntactic line Failed = Some (Misplaced, line)
syntactic line s = None

-- a gate word that names no kind
abbrev pub without_kind : ℕ → Option Kind → Option FaultOnLine
without_kind line None = Some (NoGateWord, line)
without_kind line (Some kind) = None

-- the gate word at which the state is names no kind
abbrev pub gate_word : State → Option FaultOnLine
gate_word (AtWord done out g) = without_kind out.line (kind_of g.text)
gate_word s = None

-- the statement that the token closes, after those before it
abbrev pub closed : State → Token → Option (List Statement × Statement)
closed (Named done w n) Close = Some (done, port w n)
closed (AfterOperand done out g a others) Close = Some (done, Gate out g a others)
closed s t = None

-- the closed statement has too many operands
abbrev pub wrong_count : Option (List Statement × Statement) → Option FaultOnLine
wrong_count None = None
wrong_count (Some c) = if has_wrong_operands c.1 then Some (OperandCount, line_of c.1) else None

-- the closed statement is a second definition
abbrev pub second : Option (List Statement × Statement) → Option FaultOnLine
second None = None
second (Some c) = if redefines c.0 c.1 then Some (SecondDefinition, line_of c.1) else None

-- the tokens up to here have too many signals or operands
abbrev pub over_limit : ℕ → List Token → Option FaultOnLine
over_limit line front =
    if nat_lt max_signals (length (distinct (interned_in front))) || nat_lt max_operands (length (operands_in front)) then Some
    (LimitExceeded, line) else None

-- what is wrong at the token, by the causes in their order
abbrev pub tests : State → ℕ → Token → List Token → List (Option FaultOnLine)
tests s line t front =
    lexical line t ∷ syntactic line (step s t) ∷ gate_word (step s t) ∷ wrong_count (closed s t) ∷ second (closed s t)
    ∷ over_limit line front ∷ []

-- the first test that shows a fault
abbrev pub first_of : List (Option FaultOnLine) → Option FaultOnLine
first_of [] = None
first_of (Some found ∷ more) = Some found
first_of (None ∷ more) = first_of more

-- goes on if nothing was found
abbrev pub unless : Option FaultOnLine → (Unit {0} → Result State FaultOnLine) → Result State FaultOnLine
unless (Some found) next = Err found
unless None next = next tt

-- walks over the tokens with the reader's state and the tokens before, up to the first fault
unfoldable pub judge : State → List Token → Tokens → Result State FaultOnLine
judge s seen [] = Ok s
judge s seen (t ∷ ts) = unless (first_of (tests s t.0 t.1 (seen ++ t.1 ∷ []))) (λ _. judge (step s t.1) (seen ++ t.1 ∷ []) ts)

-- the statements of a run that has ended without a fault; otherwise none
abbrev pub finished : Result State FaultOnLine → List Statement
finished (Ok (Finished ss)) = ss
finished (Ok s) = []
finished (Err found) = []

-- the statements of a text; none if the judge finds a fault
unfoldable pub statements_in : List ℕ → List Statement
statements_in text = finished (judge (Between []) [] (tokens_at 1 text))

-- ---- the whole answer

-- the line of the first word that is not good
abbrev pub undefined_line : (Word → Bool) → List Word → Option ℕ
undefined_line good [] = None
undefined_line good (w ∷ ws) = if good w then undefined_line good ws else Some w.line

-- whether the number is among the numbers
abbrev pub is_member : ℕ → List ℕ → Bool
is_member n ns = list_any (λ m. Rattle.std.specs.Prelude.nat_eq n m) ns

-- the signals that are known, with that of the gate if all its operands are known
abbrev pub with_gate : List ℕ → GateLine → List ℕ
with_gate known g = if list_all (λ s. is_member s known) g.operands then known ++ g.out ∷ [] else known

-- what is known after as many passes over the gates as the first list is long
abbrev pub sweeps : {A : Type 0} → List A → List GateLine → List ℕ → List ℕ
sweeps [] gates known = known
sweeps (x ∷ xs) gates known = sweeps xs gates (fold with_gate known gates)

-- the line of the first gate that is not known
abbrev pub endless_line : List ℕ → List GateLine → Option ℕ
endless_line known [] = None
endless_line known (g ∷ gs) = if is_member g.out known then endless_line known gs else Some g.line

-- the statements, unless an endless chain was found
abbrev pub on_endless : List Statement → Option ℕ → Result (List Statement) BenchFault
on_endless ss (Some line) = Err (Cycle line)
on_endless ss None = Ok ss

-- looks for endless chains, unless an undefined use was found
abbrev pub on_undefined : List Statement → Option ℕ → Result (List Statement) BenchFault
on_undefined ss (Some line) = Err (Undefined line)
on_undefined ss None =
    let c = circuit_of ss in on_endless ss (endless_line (sweeps c.gates c.gates (variables_of c)) c.gates)

-- looks for undefined uses, unless the judge has found a fault
abbrev pub on_judged : Result State FaultOnLine → Result (List Statement) BenchFault
on_judged (Ok (Finished ss)) = on_undefined ss (undefined_line (is_defined ss) (flat_map uses ss))
on_judged (Ok s) = Ok []
on_judged (Err found) = Err (answered_fault found)

-- the statements of the text, or its fault
abbrev pub answer : List ℕ → Result (List Statement) BenchFault
answer text = on_judged (judge (Between []) [] (tokens_at 1 text))
