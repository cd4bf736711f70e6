-- The judge's tests of a token, by states and by the symbol table.
use Rattle.std.proofs.Common.{◌≡◌, ◌≢◌, ◌⊎◌, inl, inr, ℕ, ◌+◌, ◌<◌, ◌≤◌, List, [], ◌∷◌, ◌++◌, Bool, true, false, refl, sym, ap, ◌∙◌, subst, length, length-set, arith}
use Rattle.std.specs.Prelude.{◌||◌, if◌then◌else◌, nat_lt, flat_map, filter, filter_map, fold, slice_get, slice_set, All, option_to_list, Option, Some, None, option_map}
use Rattle.std.proofs.lemmas.List.Sums.{fold-append}
use Rattle.net_bench.specs.declared.symbols.SymbolTable.{SymbolTable}
use Rattle.net_bench.specs.declared.syntax.PartialStatement.{PartialStatement}
use Rattle.net_bench.specs.declared.syntax.PartialStatement.TheVariants.{Nothing as nothing}
use Rattle.net_bench.specs.declared.netlist.GateLine.{GateLine}
use Rattle.net_bench.specs.declared.fault.BenchFault.{BenchFault}
use Rattle.net_bench.specs.declared.fault.BenchFault.TheVariants.{BadStatement, TooMany}
use Rattle.net_bench.specs.Statement.{Statement, interned, uses, operands, line_of}
use Rattle.net_bench.specs.declared.symbols.Use.{Use}
use Rattle.net_bench.specs.declared.symbols.Symbol.{Symbol}
use Rattle.net_bench.specs.Text.{Token}
use Rattle.net_bench.specs.Machine.{State, Between, Failed, step, tokens_of, IsRight}
use Rattle.net_bench.specs.ParsedStatement.{state_of}
use Rattle.net_bench.specs.Circuit.{is_name_in, with_name, distinct, find, number_of, gate_line, is_gate, is_register}
use Rattle.net_bench.specs.Fault.{Cause, Misplaced, OperandCount, SecondDefinition, LimitExceeded, max_signals, max_operands, interned_in, operands_in, has_wrong_operands, redefines}
use Rattle.net_bench.specs.Judge.{FaultOnLine, answered_fault, lexical, syntactic, gate_word, closed, wrong_count, second, over_limit, first_of}
use Rattle.net_bench.specs.Symbols.{interned_of, operands_of, texts, begun_words, interned_words, subject, newest, newest_operands, AreFound, AreParts, IsLater, IsTableOf, KnowsSubject, InternsMore, ClosesStatement, IsOverLimit, statement_fault, symbol_after, uses_with, token_tests, IsAnsweredFault, Continues, Defines, IsSymbol, AreSymbols, inputs_with, outputs_with, gate_line_with, ArePlaced}
use Rattle.net_bench.specs.Sound.{has_kind}
use Rattle.std.proofs.lemmas.Option.{slice_get_within}
use Rattle.net_bench.proofs.Machine.{Goes, go}
use Rattle.net_bench.proofs.Numbers.{in_distinct}
use Rattle.net_bench.proofs.Found.{found_later, found_append, found_inside, found_some, later_fold, number_found}
use Rattle.net_bench.proofs.Parts.{whole_more, symbols_more, symbols_after, inputs_after, outputs_after, lines_after, uses_found, places_more, places_after, all_front, all_last}
use Rattle.net_bench.proofs.Interning.{interned_tokens, operands_tokens, interned_step, operands_step, begun_step, begun_closed, newest_same, newest_operands_same, live, one_more}

-- the fault is the one that was found
abbrev Says : BenchFault → Option FaultOnLine → Type 0
Says fault found = (f : FaultOnLine) × (found ≡ Some f) × (fault ≡ answered_fault f)

abbrev found : Cause → ℕ → FaultOnLine
found cause line = (cause, line)

-- ---- the first of the tests

pub skip : (o : Option FaultOnLine) (os : List (Option FaultOnLine)) → o ≡ None → first_of (o ∷ os) ≡ first_of os
skip o os e = ap (λ x. first_of (x ∷ os)) e

stop : (o : Option FaultOnLine) (os : List (Option FaultOnLine)) (f : FaultOnLine) → o ≡ Some f → first_of (o ∷ os) ≡ Some f
stop o os f e = ap (λ x. first_of (x ∷ os)) e

nothing_answered : (o : Option FaultOnLine) → None ≡ option_map answered_fault o → o ≡ None
nothing_answered None e = refl
nothing_answered (Some f) e = cc

something_answered : (o : Option FaultOnLine) (fault : BenchFault) → Some fault ≡ option_map answered_fault o → Says fault o
something_answered None fault e = cc
something_answered (Some f) fault e = (f, refl, cc)

abbrev Goes_on : State → Token → Type 0
Goes_on s t = step s t ≢ Failed

well_placed : (line : ℕ) (s : State) → s ≢ Failed → syntactic line s ≡ None
well_placed line Failed other = absurd (other refl)
well_placed line s other = refl

-- a fault at the token itself
pub answers_lexical : (s : State) (line : ℕ) (t : Token) (fault : BenchFault) → Some fault ≡ option_map answered_fault (lexical line t) → IsAnsweredFault fault s line t
answers_lexical s line t fault e = let f : Says fault (lexical line t) = something_answered (lexical line t) fault e in (f.0, stop (lexical line t) _ f.0 f.1, f.2)

-- the token is misplaced
pub answers_misplaced : (s : State) (line : ℕ) (t : Token) → lexical line t ≡ None → step s t ≡ Failed → IsAnsweredFault (BadStatement line) s line t
answers_misplaced s line t none e =
    let f : FaultOnLine = found Misplaced line in
    (f, skip (lexical line t) _ none ∙ stop (syntactic line (step s t)) _ f (ap (syntactic line) e), refl)

pub answers_broken : (s : State) (line : ℕ) (t : Token) (fault : BenchFault) → None ≡ option_map answered_fault (lexical line t) →
    (fault ≡ BadStatement line) × (step s t ≡ Failed) → IsAnsweredFault fault s line t
answers_broken s line t fault good h =
    let f : IsAnsweredFault (BadStatement line) s line t = answers_misplaced s line t (nothing_answered (lexical line t) good) h.1 in
    (f.0, f.1, h.0 ∙ f.2)

-- the first two tests find nothing
two_pass : (s : State) (line : ℕ) (t : Token) → lexical line t ≡ None → step s t ≢ Failed → first_of (token_tests s line t) ≡
    first_of (gate_word (step s t) ∷ wrong_count (closed s t) ∷ second (closed s t) ∷ over_limit line (tokens_of s ++ t ∷ []) ∷ [])
two_pass s line t none other = skip (lexical line t) _ none ∙ skip (syntactic line (step s t)) _ (well_placed line (step s t) other)

-- a gate word that names no kind
answers_word : (s : State) (line : ℕ) (t : Token) (fault : BenchFault) → lexical line t ≡ None → step s t ≢ Failed →
    Some fault ≡ option_map answered_fault (gate_word (step s t)) → IsAnsweredFault fault s line t
answers_word s line t fault none other e =
    let f : Says fault (gate_word (step s t)) = something_answered (gate_word (step s t)) fault e in
    (f.0, two_pass s line t none other ∙ stop (gate_word (step s t)) _ f.0 f.1, f.2)

pub answers_gate_word : (done : List Statement) (s : State) (line : ℕ) (t : Token) (p : PartialStatement) (fault : BenchFault) → None ≡ option_map answered_fault (lexical line t) → state_of done p ≡ step s t →
    Some fault ≡ option_map answered_fault (gate_word (state_of done p)) → IsAnsweredFault fault s line t
answers_gate_word done s line t p fault good at e =
    answers_word s line t fault (nothing_answered (lexical line t) good) (λ f. live done p (at ∙ f)) (e ∙ ap (λ z. option_map answered_fault (gate_word z)) at)

-- ---- a statement that is closed

abbrev pair_of : List Statement → Statement → Option (List Statement × Statement)
pair_of done s = Some (done, s)

first_wrong : (w r : Bool) (line : ℕ) (rest : List (Option FaultOnLine)) (fault : BenchFault) →
    Some fault ≡ option_map answered_fault (if w then Some (found OperandCount line) else (if r then Some (found SecondDefinition line) else None)) →
    Says fault (first_of ((if w then Some (found OperandCount line) else None) ∷ (if r then Some (found SecondDefinition line) else None) ∷ rest))
first_wrong true r line rest fault e = ((found OperandCount line), refl, cc)
first_wrong false true line rest fault e = ((found SecondDefinition line), refl, cc)
first_wrong false false line rest fault e = cc

none_wrong : (w r : Bool) (line : ℕ) (rest : List (Option FaultOnLine)) →
    (if w then Some (found OperandCount line) else (if r then Some (found SecondDefinition line) else None)) ≡ None →
    first_of ((if w then Some (found OperandCount line) else None) ∷ (if r then Some (found SecondDefinition line) else None) ∷ rest) ≡ first_of rest
none_wrong true r line rest e = cc
none_wrong false true line rest e = cc
none_wrong false false line rest e = refl

no_word : (s : State) (done : List Statement) → Between done ≡ s → gate_word s ≡ None
no_word s done e = ap gate_word (sym e)

-- the two tests of a statement
of_statement : (s : State) (line : ℕ) (t : Token) (done all : List Statement) (x : Statement) → lexical line t ≡ None → Between all ≡ step s t → pair_of done x ≡ closed s t →
    first_of (token_tests s line t) ≡ first_of (wrong_count (pair_of done x) ∷ second (pair_of done x) ∷ over_limit line (tokens_of s ++ t ∷ []) ∷ [])
of_statement s line t done all x none at is =
    two_pass s line t none (λ f. not_failed (at ∙ f)) ∙ skip (gate_word (step s t)) _ (no_word (step s t) all at) ∙
    ap (λ o. first_of (wrong_count o ∷ second o ∷ over_limit line (tokens_of s ++ t ∷ []) ∷ [])) (sym is)
  where
    not_failed : Between all ≡ Failed → ⊥
    not_failed e = cc

pub answers_statement : (s : State) (line : ℕ) (t : Token) (done all : List Statement) (x : Statement) (fault : BenchFault) →
    lexical line t ≡ None → Between all ≡ step s t → pair_of done x ≡ closed s t → Some fault ≡ option_map answered_fault (statement_fault done x) → IsAnsweredFault fault s line t
answers_statement s line t done all x fault none at is e =
    let f : Says fault (first_of (wrong_count (pair_of done x) ∷ second (pair_of done x) ∷ over_limit line (tokens_of s ++ t ∷ []) ∷ [])) =
    first_wrong (has_wrong_operands x) (redefines done x) (line_of x) (over_limit line (tokens_of s ++ t ∷ []) ∷ []) fault e in
    (f.0, of_statement s line t done all x none at is ∙ f.1, f.2)

-- ---- the limits

lt_false : (a b : ℕ) → b ≤ a → nat_lt a b ≡ false
lt_false a b h = grind arith

lt_true : (a b : ℕ) → a < b → nat_lt a b ≡ true
lt_true a b h = grind arith

within : (a b : Bool) (line : ℕ) → a ≡ false → b ≡ false → (if a || b then Some (found LimitExceeded line) else None) ≡ None
within true b line e f = cc
within false true line e f = cc
within false false line e f = refl

beyond_left : (a b : Bool) (line : ℕ) → a ≡ true → (if a || b then Some (found LimitExceeded line) else None) ≡ Some (found LimitExceeded line)
beyond_left true b line e = refl
beyond_left false b line e = cc

beyond_right : (a b : Bool) (line : ℕ) → b ≡ true → (if a || b then Some (found LimitExceeded line) else None) ≡ Some (found LimitExceeded line)
beyond_right true b line e = refl
beyond_right false true line e = refl
beyond_right false false line e = cc

-- the names that the tokens up to here mention
names_front : (s : State) (t : Token) → IsRight s → step s t ≢ Failed → interned_in (tokens_of s ++ t ∷ []) ≡ interned_of (step s t)
names_front s t right other = let next : Goes s t (step s t) = go s t other right in ap interned_in (sym next.1) ∙ interned_tokens (step s t)

operands_front : (s : State) (t : Token) → IsRight s → step s t ≢ Failed → operands_in (tokens_of s ++ t ∷ []) ≡ operands_of (step s t)
operands_front s t right other = let next : Goes s t (step s t) = go s t other right in ap operands_in (sym next.1) ∙ operands_tokens (step s t)

pub roomy : (s : State) (line : ℕ) (t : Token) → IsRight s → step s t ≢ Failed → length (distinct (interned_of (step s t))) ≤ max_signals → length (operands_of (step s t)) ≤ max_operands →
    over_limit line (tokens_of s ++ t ∷ []) ≡ None
roomy s line t right other few low =
    within (nat_lt max_signals (length (distinct (interned_in (tokens_of s ++ t ∷ []))))) (nat_lt max_operands (length (operands_in (tokens_of s ++ t ∷ [])))) line
    (ap (λ ns. nat_lt max_signals (length (distinct ns))) (names_front s t right other) ∙ lt_false max_signals (length (distinct (interned_of (step s t)))) few)
    (ap (λ ws. nat_lt max_operands (length ws)) (operands_front s t right other) ∙ lt_false max_operands (length (operands_of (step s t))) low)

abbrev IsCrowd : State → Type 0
IsCrowd s = (max_signals < length (distinct (interned_of s))) ⊎ (max_operands < length (operands_of s))

full : (s : State) (line : ℕ) (t : Token) → IsRight s → step s t ≢ Failed → IsCrowd (step s t) → over_limit line (tokens_of s ++ t ∷ []) ≡ Some (found LimitExceeded line)
full s line t right other (inl many) =
    beyond_left (nat_lt max_signals (length (distinct (interned_in (tokens_of s ++ t ∷ []))))) (nat_lt max_operands (length (operands_in (tokens_of s ++ t ∷ [])))) line
    (ap (λ ns. nat_lt max_signals (length (distinct ns))) (names_front s t right other) ∙ lt_true max_signals (length (distinct (interned_of (step s t)))) many)
full s line t right other (inr many) =
    beyond_right (nat_lt max_signals (length (distinct (interned_in (tokens_of s ++ t ∷ []))))) (nat_lt max_operands (length (operands_in (tokens_of s ++ t ∷ [])))) line
    (ap (λ ws. nat_lt max_operands (length ws)) (operands_front s t right other) ∙ lt_true max_operands (length (operands_of (step s t))) many)

-- the table's names and operands after one more token
names_after : (done : List Statement) (s : State) (t : Token) (table : SymbolTable) → IsTableOf done s table → step s t ≢ Failed →
    fold with_name table.names (texts (newest (step s t) t)) ≡ distinct (interned_of (step s t))
names_after done s t table h other =
    ap (λ ns. fold with_name ns (texts (newest (step s t) t))) h.names ∙ sym (fold-append with_name [] (interned_of s) (texts (newest (step s t) t))) ∙
    ap distinct (sym (interned_step s t other))

operands_after : (done : List Statement) (s : State) (t : Token) (table : SymbolTable) → IsTableOf done s table → step s t ≢ Failed →
    table.operands + newest_operands (step s t) t ≡ length (operands_of (step s t))
operands_after done s t table h other = ap (λ n. n + newest_operands (step s t) t) h.operands ∙ sym (operands_step s t other)

-- ---- a token that does not close a statement

-- what is known there: the partial statement is that of the next state, and no statement is closed
record Part_at (done : List Statement) (s : State) (line : ℕ) (t : Token) (p : PartialStatement) (table : SymbolTable) : Type 0 where
  before : IsTableOf done s table
  lexical_ok : lexical line t ≡ None
  at : state_of done p ≡ step s t
  open_still : None ≡ closed s t
  word_ok : gate_word (step s t) ≡ None

goes_on : (done : List Statement) (s : State) (t : Token) (p : PartialStatement) → state_of done p ≡ step s t → step s t ≢ Failed
goes_on done s t p at f = live done p (at ∙ f)

to_over_limit : {done : List Statement} {s : State} {line : ℕ} {t : Token} {p : PartialStatement} {table : SymbolTable} → Part_at done s line t p table →
    first_of (token_tests s line t) ≡ first_of (over_limit line (tokens_of s ++ t ∷ []) ∷ [])
to_over_limit {done} {s} {line} {t} {p} {table} h =
    two_pass s line t h.lexical_ok (goes_on done s t p h.at) ∙ skip (gate_word (step s t)) _ h.word_ok ∙
    ap (λ o. first_of (wrong_count o ∷ second o ∷ over_limit line (tokens_of s ++ t ∷ []) ∷ [])) (sym h.open_still)

new_names : (done : List Statement) (s : State) (t : Token) (p : PartialStatement) → state_of done p ≡ step s t → newest (state_of [] p) t ≡ newest (step s t) t
new_names done s t p at = sym (newest_same done p t) ∙ ap (λ z. newest z t) at

new_operands : (done : List Statement) (s : State) (t : Token) (p : PartialStatement) → state_of done p ≡ step s t → newest_operands (state_of [] p) t ≡ newest_operands (step s t) t
new_operands done s t p at = sym (newest_operands_same done p t) ∙ ap (λ z. newest_operands z t) at

over_is : {done : List Statement} {s : State} {line : ℕ} {t : Token} {p : PartialStatement} {table : SymbolTable} → Part_at done s line t p table →
    IsOverLimit table (newest (state_of [] p) t) (newest_operands (state_of [] p) t) → IsCrowd (step s t)
over_is {done} {s} {line} {t} {p} {table} h (inl many) =
    inl (subst (λ (ns : List (List ℕ)). max_signals < length ns) (ap (λ ws. fold with_name table.names (texts ws)) (new_names done s t p h.at) ∙ names_after done s t table h.before (goes_on done s t p h.at)) many)
over_is {done} {s} {line} {t} {p} {table} h (inr many) =
    inr (subst (λ n. max_operands < n) (ap (λ n. table.operands + n) (new_operands done s t p h.at) ∙ operands_after done s t table h.before (goes_on done s t p h.at)) many)

answers_over : {done : List Statement} {s : State} {line : ℕ} {t : Token} {p : PartialStatement} {table : SymbolTable} → Part_at done s line t p table → (fault : BenchFault) → fault ≡ TooMany line →
    IsOverLimit table (newest (state_of [] p) t) (newest_operands (state_of [] p) t) → IsAnsweredFault fault s line t
answers_over {done} {s} {line} {t} {p} {table} h fault is over =
    let f : FaultOnLine = found LimitExceeded line in
    (f, to_over_limit h ∙ stop (over_limit line (tokens_of s ++ t ∷ [])) [] f (full s line t h.before.right (goes_on done s t p h.at) (over_is h over)), is)

module _ (done : List Statement) (s : State) (line : ℕ) (t : Token) (p : PartialStatement) (old : SymbolTable) (before : IsTableOf done s old)
    (good : None ≡ option_map answered_fault (lexical line t)) (at : state_of done p ≡ step s t) (open_still : None ≡ closed s t)
    (known : None ≡ option_map answered_fault (gate_word (state_of done p))) where
  here : Part_at done s line t p old
  here = record {
    before = before;
    lexical_ok = nothing_answered (lexical line t) good;
    at = at;
    open_still = open_still;
    word_ok = ap gate_word (sym at) ∙ nothing_answered (gate_word (state_of done p)) known;
  }

  pub answers_limit : (fault : BenchFault) → (fault ≡ TooMany line) × IsOverLimit old (newest (state_of [] p) t) (newest_operands (state_of [] p) t) → IsAnsweredFault fault s line t
  answers_limit fault h = answers_over here fault h.0 h.1

  names_now : (new : SymbolTable) → InternsMore old new (newest (state_of [] p) t) (newest_operands (state_of [] p) t) → new.names ≡ distinct (interned_of (step s t))
  names_now new h = h.names ∙ ap (λ ws. fold with_name old.names (texts ws)) (new_names done s t p at) ∙ names_after done s t old before (goes_on done s t p at)

  operands_now : (new : SymbolTable) → InternsMore old new (newest (state_of [] p) t) (newest_operands (state_of [] p) t) → new.operands ≡ length (operands_of (step s t))
  operands_now new h = h.operands ∙ ap (λ n. old.operands + n) (new_operands done s t p at) ∙ operands_after done s t old before (goes_on done s t p at)

  few_now : (new : SymbolTable) → InternsMore old new (newest (state_of [] p) t) (newest_operands (state_of [] p) t) → length new.names ≤ max_signals
  few_now new h = subst (λ (ns : List (List ℕ)). length ns ≤ max_signals) (sym h.names) h.few

  low_now : (new : SymbolTable) → InternsMore old new (newest (state_of [] p) t) (newest_operands (state_of [] p) t) → new.operands ≤ max_operands
  low_now new h = subst (λ n. n ≤ max_operands) (sym h.operands) h.low

  clean_part : (new : SymbolTable) → InternsMore old new (newest (state_of [] p) t) (newest_operands (state_of [] p) t) → first_of (token_tests s line t) ≡ None
  clean_part new h =
      to_over_limit here ∙ skip (over_limit line (tokens_of s ++ t ∷ [])) []
      (roomy s line t before.right (goes_on done s t p at)
      (subst (λ (ns : List (List ℕ)). length ns ≤ max_signals) (names_now new h) (few_now new h)) (subst (λ n. n ≤ max_operands) (operands_now new h) (low_now new h)))

  later_now : (new : SymbolTable) → InternsMore old new (newest (state_of [] p) t) (newest_operands (state_of [] p) t) → IsLater old.names new.names
  later_now new h = subst (IsLater old.names) (sym h.names) (later_fold (texts (newest (state_of [] p) t)) old.names)

  begun_now : (new : SymbolTable) → InternsMore old new (newest (state_of [] p) t) (newest_operands (state_of [] p) t) → AreFound new.names new.begun.items (begun_words (step s t))
  begun_now new h =
      let all : AreFound new.names (old.begun.items ++ h.begun.0) (begun_words s ++ newest (state_of [] p) t) =
      found_append new.names old.begun.items h.begun.0 (begun_words s) (newest (state_of [] p) t)
      (found_later old.names new.names (later_now new h) old.begun.items (begun_words s) before.begun) h.begun.2 in
      let words : begun_words s ++ newest (state_of [] p) t ≡ begun_words (step s t) =
      ap (λ ws. begun_words s ++ ws) (new_names done s t p at) ∙ sym (begun_step s t (sym open_still) (goes_on done s t p at)) in
      subst (λ us. AreFound new.names us (begun_words (step s t))) (sym h.begun.1) (subst (AreFound new.names (old.begun.items ++ h.begun.0)) words all)

  parts_now : (new : SymbolTable) → InternsMore old new (newest (state_of [] p) t) (newest_operands (state_of [] p) t) → (later : List (List ℕ)) → IsLater new.names later → AreParts later done new
  parts_now new h later l =
      let were : AreParts later done old = before.parts later (λ n i e. l n i (later_now new h n i e)) in
      record {
        inputs = h.parts.inputs ∙ were.inputs;
        outputs = h.parts.outputs ∙ were.outputs;
        gates = h.parts.gates ∙ were.gates;
        registers = h.parts.registers ∙ were.registers;
      }

  table_part : (new : SymbolTable) → InternsMore old new (newest (state_of [] p) t) (newest_operands (state_of [] p) t) → IsTableOf done (state_of done p) new
  table_part new h =
      subst (λ z. IsTableOf done z new) (sym at) (record {
        right = (go s t (goes_on done s t p at) before.right).0;
        names = names_now new h;
        whole = λ n e. subst (λ ns. is_name_in ns n ≡ true) (sym h.names)
            (whole_more done old.names (texts (newest (state_of [] p) t)) old.symbols.items new.symbols.items h.symbols.0 before.whole before.each before.symbols h.symbols.1 n e);
        operands = operands_now new h;
        begun = begun_now new h;
        each = h.each;
        symbols = λ n i x e there.
            symbols_more done old.names (texts (newest (state_of [] p) t)) old.symbols.items new.symbols.items h.symbols.0 before.whole before.each before.symbols h.symbols.1 n i x
            (subst (λ ns. find ns n ≡ Some i) h.names e) there;
        uses = subst (λ us. AreFound new.names us (flat_map uses done)) (sym h.parts.uses) (found_later old.names new.names (later_now new h) old.uses.items (flat_map uses done) before.uses);
        parts = parts_now new h;
        places = λ kinds. subst (λ gs. ArePlaced gs new.registers.items new.symbols.items) (sym h.parts.gates)
            (subst (λ rs. ArePlaced old.gates.items rs new.symbols.items) (sym h.parts.registers)
            (places_more old.gates.items old.registers.items old.symbols.items new.symbols.items h.symbols.0 h.symbols.1 (before.places kinds)));
        few = few_now new h;
        low = low_now new h;
      })

  pub goes_part : (new : SymbolTable) → InternsMore old new (newest (state_of [] p) t) (newest_operands (state_of [] p) t) → Continues s line t p new
  goes_part new h = (clean_part new h, (done, at, table_part new h))

-- ---- a token that closes a statement

-- what is known of the signals of the statement
module _ (done : List Statement) (s : State) (t : Token) (x : Statement) (old : SymbolTable) (before : IsTableOf done s old) (is : pair_of done x ≡ closed s t) where
  found_begun : AreFound old.names old.begun.items (interned_words x)
  found_begun = subst (AreFound old.names old.begun.items) (begun_closed s t (done, x) (sym is)) before.begun

  pub begun_some : 0 < length old.begun.items
  begun_some = found_some old.names old.begun.items (subject x) (operands x) found_begun

  pub begun_inside : All (λ u. u.signal < length old.symbols.items) old.begun.items
  begun_inside = subst (λ n. All (λ (u : Use). u.signal < n) old.begun.items) (sym before.each) (found_inside old.names old.begun.items (interned_words x) found_begun)

  first_is : (us : List Use) (u : Use) → AreFound old.names us (interned_words x) → slice_get us 0 ≡ Some u → find old.names (subject x).text ≡ Some u.signal
  first_is [] u h e = absurd h
  first_is (v ∷ us) u h e = let same : v ≡ u = cc in subst (λ (w : Use). find old.names (subject x).text ≡ Some w.signal) same h.0

  pub knows : KnowsSubject done old.begun.items old.symbols.items x
  knows u y here at = before.symbols (subject x).text u.signal y (first_is old.begun.items u found_begun here) at

no_second : (w r : Bool) (f g : FaultOnLine) → (if w then Some f else (if r then Some g else None)) ≡ None → r ≡ false
no_second true r f g e = cc
no_second false true f g e = cc
no_second false false f g e = refl

module _ (done : List Statement) (s : State) (line : ℕ) (t : Token) (x : Statement) (old : SymbolTable) (before : IsTableOf done s old)
    (good : None ≡ option_map answered_fault (lexical line t)) (at : Between (done ++ x ∷ []) ≡ step s t) (is : pair_of done x ≡ closed s t) where
  pub answers_close : (fault : BenchFault) → (KnowsSubject done old.begun.items old.symbols.items x → Some fault ≡ option_map answered_fault (statement_fault done x)) → IsAnsweredFault fault s line t
  answers_close fault e = answers_statement s line t done (done ++ x ∷ []) x fault (nothing_answered (lexical line t) good) at is (e (knows done s t x old before is))

  between_live : Between (done ++ x ∷ []) ≡ Failed → ⊥
  between_live e = cc

  alive : step s t ≢ Failed
  alive f = between_live (at ∙ f)

  names_stay : old.names ≡ distinct (interned_of (step s t))
  names_stay = ap (λ z. fold with_name old.names (texts (newest z t))) at ∙ names_after done s t old before alive

  none_less : (n : ℕ) → n ≡ n + 0
  none_less n = omega arith

  operands_stay : old.operands ≡ length (operands_of (step s t))
  operands_stay = none_less old.operands ∙ ap (λ z. old.operands + newest_operands z t) at ∙ operands_after done s t old before alive

  clean_close : statement_fault done x ≡ None → first_of (token_tests s line t) ≡ None
  clean_close e =
      of_statement s line t done (done ++ x ∷ []) x (nothing_answered (lexical line t) good) at is ∙
      none_wrong (has_wrong_operands x) (redefines done x) (line_of x) (over_limit line (tokens_of s ++ t ∷ []) ∷ []) e ∙
      skip (over_limit line (tokens_of s ++ t ∷ [])) []
      (roomy s line t before.right alive
      (subst (λ (ns : List (List ℕ)). length ns ≤ max_signals) names_stay before.few) (subst (λ n. n ≤ max_operands) operands_stay before.low))

  names_whole : old.names ≡ distinct (flat_map interned (done ++ x ∷ []))
  names_whole = names_stay ∙ ap (λ z. distinct (interned_of z)) (sym at)

  module _ (new : SymbolTable) (clean : statement_fault done x ≡ None) (u : Use) (us : List Use) (y : Symbol) (first : old.begun.items ≡ u ∷ us)
      (there : slice_get old.symbols.items u.signal ≡ Some y) (h : Defines x u us y old new) where
    once : redefines done x ≡ false
    once = no_second (has_wrong_operands x) (redefines done x) _ _ clean

    words_found : AreFound old.names (u ∷ us) (interned_words x)
    words_found = subst (λ vs. AreFound old.names vs (interned_words x)) first (found_begun done s t x old before is)

    symbol_is : IsSymbol done (subject x).text y
    symbol_is = before.symbols (subject x).text u.signal y words_found.0 there

    number_is : (later : List (List ℕ)) → IsLater old.names later → number_of later (subject x).text ≡ u.signal
    number_is later l = number_found later (subject x).text u.signal (l (subject x).text u.signal words_found.0)

    lines_are : (kept : GateLine → Bool) (later : List (List ℕ)) → IsLater old.names later → (were now : List GateLine) → were ≡ filter kept (filter_map (gate_line later) done) →
        now ≡ were ++ filter kept (option_to_list (gate_line_with x u us)) → now ≡ filter kept (filter_map (gate_line later) (done ++ x ∷ []))
    lines_are kept later l were now e f =
        f ∙ ap (λ gs. gs ++ filter kept (option_to_list (gate_line_with x u us))) e ∙
        lines_after kept later done x u us (found_later old.names later l (u ∷ us) (interned_words x) words_found)

    parts_are : (later : List (List ℕ)) → IsLater new.names later → AreParts later (done ++ x ∷ []) new
    parts_are later after =
        let l : IsLater old.names later = subst (λ ns. IsLater ns later) h.names after in
        let were : AreParts later done old = before.parts later l in
        record {
          inputs = h.inputs ∙ ap (λ is. is ++ inputs_with x u y) were.inputs ∙ inputs_after later done x u us y symbol_is (number_is later l);
          outputs = h.outputs ∙ ap (λ os. os ++ outputs_with x u y) were.outputs ∙ outputs_after later done x u us y symbol_is (number_is later l);
          gates = lines_are is_gate later l old.gates.items new.gates.items were.gates h.gates;
          registers = lines_are is_register later l old.registers.items new.registers.items were.registers h.registers;
        }

    table_close : IsTableOf (done ++ x ∷ []) (Between (done ++ x ∷ [])) new
    table_close = record {
      right = subst IsRight (sym at) (go s t alive before.right).0;
      names = h.names ∙ names_whole;
      whole = λ n e. ap (λ ns. is_name_in ns n) (h.names ∙ names_whole) ∙ in_distinct (flat_map interned (done ++ x ∷ [])) n ∙ e;
      operands = h.operands ∙ operands_stay ∙ ap (λ z. length (operands_of z)) (sym at);
      begun = subst (λ us. AreFound new.names us []) (sym h.begun) tt;
      each = ap length h.symbols ∙ length-set old.symbols.items u.signal (symbol_after x y (length old.gates.items) (length old.registers.items)) ∙ before.each ∙ ap length (sym h.names);
      symbols = subst (AreSymbols (done ++ x ∷ []) new.names) (sym h.symbols)
          (subst (λ ns. AreSymbols (done ++ x ∷ []) ns (slice_set old.symbols.items u.signal (symbol_after x y (length old.gates.items) (length old.registers.items)))) (sym h.names)
          (symbols_after done old.names old.symbols.items x u.signal y (length old.gates.items) (length old.registers.items) before.each before.symbols words_found.0 there once));
      uses = subst (λ ns. AreFound ns new.uses.items (flat_map uses (done ++ x ∷ []))) (sym h.names)
          (subst (λ us. AreFound old.names us (flat_map uses (done ++ x ∷ []))) (sym h.uses)
          (subst (AreFound old.names (old.uses.items ++ uses_with x u us)) (sym (one_more uses done x (uses x) refl))
          (found_append old.names old.uses.items (uses_with x u us) (flat_map uses done) (uses x) before.uses (uses_found old.names x u us words_found))));
      parts = parts_are;
      places = λ kinds. subst (λ gs. ArePlaced gs new.registers.items new.symbols.items) (sym h.gates)
          (subst (λ rs. ArePlaced (old.gates.items ++ filter is_gate (option_to_list (gate_line_with x u us))) rs new.symbols.items) (sym h.registers)
          (subst (ArePlaced (old.gates.items ++ filter is_gate (option_to_list (gate_line_with x u us))) (old.registers.items ++ filter is_register (option_to_list (gate_line_with x u us)))) (sym h.symbols)
          (places_after old.gates.items old.registers.items old.symbols.items x u us y (slice_get_within old.symbols.items u.signal y there) there
          (all_last (λ z. has_kind z ≡ true) done x kinds) (before.places (all_front (λ z. has_kind z ≡ true) done (x ∷ []) kinds)))));
      few = subst (λ (ns : List (List ℕ)). length ns ≤ max_signals) (sym h.names) before.few;
      low = subst (λ n. n ≤ max_operands) (sym h.operands) before.low;
    }

  pub goes_close : (new : SymbolTable) → (KnowsSubject done old.begun.items old.symbols.items x → statement_fault done x ≡ None) → ClosesStatement x old new → Continues s line t nothing new
  goes_close new e h =
      let clean : statement_fault done x ≡ None = e (knows done s t x old before is) in
      (clean_close clean, (done ++ x ∷ [], at, table_close new clean h.0 h.1 h.2 h.3 h.4 h.5))
