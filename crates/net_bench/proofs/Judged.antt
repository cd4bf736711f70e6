-- The judge's walk, a token at a time.
use Rattle.std.proofs.Common.{◌≡◌, ◌≢◌, ◌⊎◌, inl, inr, ℕ, ◌≤◌, List, [], ◌∷◌, ◌++◌, true, false, refl, sym, ap, ◌∙◌, subst, length, arith}
use Rattle.std.specs.Prelude.{Option, Some, None, Ok, Err, slice_get}
use Rattle.net_bench.specs.declared.symbols.SymbolTable.{SymbolTable}
use Rattle.net_bench.specs.declared.syntax.PartialStatement.{PartialStatement}
use Rattle.net_bench.specs.declared.syntax.PartialStatement.TheVariants.{Nothing as nothing, First as first_name, Opened as opened, Named as named, Defining as defining, AtWord as at_word, Operands as operands_open, AfterOperand as after_operand, AfterComma as comma_after}
use Rattle.net_bench.specs.declared.fault.BenchFault.{BenchFault}
use Rattle.net_bench.specs.declared.fault.BenchFault.TheVariants.{BadStatement, OutOfMemory}
use Rattle.net_bench.specs.declared.scan.Token.{Token as Scanned}
use Rattle.net_bench.specs.declared.scan.Token.TheVariants.{Open as open_paren, Close as close_paren, Comma as comma, Equals as equals, Name as name, Unknown as unknown, End as end}
use Rattle.net_bench.specs.Scan.{seen, Takes}
use Rattle.net_bench.specs.Text.{Token, End, Tokens}
use Rattle.net_bench.specs.Statement.{Statement}
use Rattle.net_bench.specs.Machine.{State, Between, Finished, Failed, step, tokens_of}
use Rattle.net_bench.specs.ParsedStatement.{state_of}
use Rattle.net_bench.specs.Fault.{max_signals, max_operands}
use Rattle.net_bench.specs.Judge.{FaultOnLine, answered_fault, lexical, syntactic, over_limit, tests, first_of, unless, judge, finished, statements_in}
use Rattle.net_bench.specs.Pieces.{tokens_at}
use Rattle.net_bench.specs.declared.symbols.Symbol.{Symbol}
use Rattle.net_bench.specs.Symbols.{AreFound, IsTableOf, token_tests, IsAnsweredFault}
use Rattle.net_bench.proofs.Machine.{go}
use Rattle.net_bench.proofs.Answering.{skip, roomy, answers_misplaced}

-- ---- one step

judge_on : (s : State) (seen : List Token) (line : ℕ) (t : Token) (ts : Tokens) → first_of (tests s line t (seen ++ t ∷ [])) ≡ None →
    judge s seen ((line, t) ∷ ts) ≡ judge (step s t) (seen ++ t ∷ []) ts
unfolding judge
judge_on s seen line t ts e = ap (λ o. unless o (λ _. judge (step s t) (seen ++ t ∷ []) ts)) e

judge_off : (s : State) (seen : List Token) (line : ℕ) (t : Token) (ts : Tokens) (f : FaultOnLine) → first_of (tests s line t (seen ++ t ∷ [])) ≡ Some f →
    judge s seen ((line, t) ∷ ts) ≡ Err f
unfolding judge
judge_off s seen line t ts f e = ap (λ o. unless o (λ _. judge (step s t) (seen ++ t ∷ []) ts)) e

judge_end : (s : State) (seen : List Token) → judge s seen [] ≡ Ok s
unfolding judge
judge_end s seen = refl

none_first : (o : Option FaultOnLine) (os : List (Option FaultOnLine)) → first_of (o ∷ os) ≡ None → (o ≡ None) × (first_of os ≡ None)
none_first None os e = (refl, e)
none_first (Some f) os e = cc

placed_well : (line : ℕ) (s : State) → syntactic line s ≡ None → s ≢ Failed
placed_well line Failed e f = cc
placed_well line s e f = cc

-- after a token without a fault
pub continues : (done : List Statement) (s : State) (line : ℕ) (t : Token) (ts : Tokens) (table : SymbolTable) → IsTableOf done s table → first_of (token_tests s line t) ≡ None →
    judge s (tokens_of s) ((line, t) ∷ ts) ≡ judge (step s t) (tokens_of (step s t)) ts
continues done s line t ts table h e =
    let other : step s t ≢ Failed = placed_well line (step s t) (none_first (syntactic line (step s t)) _ (none_first (lexical line t) _ e).1).0 in
    judge_on s (tokens_of s) line t ts e ∙ ap (λ front. judge (step s t) front ts) (sym (go s t other h.right).1)

-- ---- what the walk has found

-- the fault is the judge's
abbrev pub IsAnswer : Tokens → BenchFault → Type 0
IsAnswer all fault = (found : FaultOnLine) × (judge (Between []) [] all ≡ Err found) × (fault ≡ answered_fault found)

pub stops : (all : Tokens) (s : State) (line : ℕ) (t : Token) (ts left : Tokens) (fault : BenchFault) → left ≡ (line, t) ∷ ts →
    judge s (tokens_of s) left ≡ judge (Between []) [] all →
    (fault ≡ OutOfMemory) ⊎ IsAnsweredFault fault s line t → (fault ≡ OutOfMemory) ⊎ IsAnswer all fault
stops all s line t ts left fault is same (inl e) = inl e
stops all s line t ts left fault is same (inr (f, e, tells)) =
    inr (f, sym same ∙ ap (judge s (tokens_of s)) is ∙ judge_off s (tokens_of s) line t ts f e, tells)

pub goes_to : (all : Tokens) (done : List Statement) (s next : State) (line : ℕ) (t : Token) (ts left : Tokens) (table : SymbolTable) → left ≡ (line, t) ∷ ts →
    judge s (tokens_of s) left ≡ judge (Between []) [] all → IsTableOf done s table → first_of (token_tests s line t) ≡ None → next ≡ step s t →
    judge next (tokens_of next) ts ≡ judge (Between []) [] all
goes_to all done s next line t ts left table is same h e at =
    ap (λ z. judge z (tokens_of z) ts) at ∙ sym (continues done s line t ts table h e) ∙ sym (ap (judge s (tokens_of s)) is) ∙ same

-- ---- the end of the text

finished_live : (done : List Statement) → Finished done ≢ Failed
finished_live done e = cc

clean_end : (done : List Statement) (line : ℕ) (table : SymbolTable) → IsTableOf done (Between done) table → first_of (token_tests (Between done) line End) ≡ None
clean_end done line table h =
    skip (over_limit line (tokens_of (Between done) ++ End ∷ [])) []
    (roomy (Between done) line End h.right (λ e. finished_live done e)
    (subst (λ (ns : List (List ℕ)). length ns ≤ max_signals) h.names h.few) (subst (λ n. n ≤ max_operands) h.operands h.low))

pub finishes : (all : Tokens) (done : List Statement) (line : ℕ) (left : Tokens) (table : SymbolTable) → left ≡ (line, End) ∷ [] →
    judge (Between done) (tokens_of (Between done)) left ≡ judge (Between []) [] all → IsTableOf done (Between done) table →
    judge (Between []) [] all ≡ Ok (Finished done)
finishes all done line left table is same h =
    sym same ∙ ap (judge (Between done) (tokens_of (Between done))) is ∙ continues done (Between done) line End [] table h (clean_end done line table h) ∙
    judge_end (Finished done) (tokens_of (Finished done))

broken_end : (done : List Statement) (p : PartialStatement) → (p ≡ nothing → ⊥) → step (state_of done p) End ≡ Failed
broken_end done nothing other = absurd (other refl)
broken_end done (first_name w) other = refl
broken_end done (opened w) other = refl
broken_end done (named w n) other = refl
broken_end done (defining out) other = refl
broken_end done (at_word out w) other = refl
broken_end done (operands_open out w) other = refl
broken_end done (after_operand g) other = refl
broken_end done (comma_after g) other = refl

pub breaks : (all : Tokens) (done : List Statement) (p : PartialStatement) (line : ℕ) (left : Tokens) → left ≡ (line, End) ∷ [] → (p ≡ nothing → ⊥) →
    judge (state_of done p) (tokens_of (state_of done p)) left ≡ judge (Between []) [] all → (BadStatement line ≡ OutOfMemory) ⊎ IsAnswer all (BadStatement line)
breaks all done p line left is other same =
    stops all (state_of done p) line End [] left (BadStatement line) is same (inr (answers_misplaced (state_of done p) line End refl (broken_end done p other)))

-- ---- what the scanner returns

pub one_taken : (old new : Tokens) (line : ℕ) (t : Scanned) → (t ≡ end → ⊥) → Takes old line (seen line t) new → old ≡ (line, seen line t) ∷ new
one_taken old new line open_paren other h = h
one_taken old new line close_paren other h = h
one_taken old new line comma other h = h
one_taken old new line equals other h = h
one_taken old new line (name text) other h = h
one_taken old new line (unknown b) other h = h
one_taken old new line end other h = absurd (other refl)

pub end_taken : (old new : Tokens) (line : ℕ) (t : Scanned) → t ≡ end → Takes old line (seen line t) new → old ≡ (line, End) ∷ []
end_taken old new line end e h = h.0
end_taken old new line t e h = cc

-- ---- the whole text

pub ends_with : (text : List ℕ) (done : List Statement) → judge (Between []) [] (tokens_at 1 text) ≡ Ok (Finished done) → judge (Between []) [] (tokens_at 1 text) ≡ Ok (Finished (statements_in text))
unfolding statements_in
ends_with text done e = e ∙ ap (λ r. Ok (Finished (finished r))) (sym e)

pub table_whole : (text : List ℕ) (done : List Statement) (table : SymbolTable) → judge (Between []) [] (tokens_at 1 text) ≡ Ok (Finished done) → IsTableOf done (Between done) table →
    IsTableOf (statements_in text) (Between (statements_in text)) table
unfolding statements_in
table_whole text done table e h = subst (λ ss. IsTableOf ss (Between ss) table) (sym (ap finished e)) h

-- the table before the first token
pub begins : (table : SymbolTable) → table.names ≡ [] → table.symbols.items ≡ [] → table.inputs.items ≡ [] → table.outputs.items ≡ [] → table.gates.items ≡ [] →
    table.registers.items ≡ [] → table.uses.items ≡ [] → table.begun.items ≡ [] → table.operands ≡ 0 → IsTableOf [] (Between []) table
begins table names symbols inputs outputs gates registers uses begun operands = record {
  right = tt;
  names = names;
  whole = λ n e. absurd (false_true e);
  operands = operands;
  begun = subst (λ us. AreFound table.names us []) (sym begun) tt;
  each = ap length symbols ∙ sym (ap length names);
  symbols = λ n i s e there. absurd (none_there i s (subst (λ ss. slice_get ss i ≡ Some s) symbols there));
  uses = subst (λ us. AreFound table.names us []) (sym uses) tt;
  places = λ kinds i s there. absurd (none_there i s (subst (λ ss. slice_get ss i ≡ Some s) symbols there));
  parts = λ later l. record { inputs = inputs; outputs = outputs; gates = gates; registers = registers };
  few = subst (λ (ns : List (List ℕ)). length ns ≤ max_signals) (sym names) (omega arith);
  low = subst (λ n. n ≤ max_operands) (sym operands) (omega arith);
}
  where
    false_true : false ≡ true → ⊥
    false_true e = cc

    none_there : (i : ℕ) (s : Symbol) → slice_get [] i ≡ Some s → ⊥
    none_there i s e = cc
