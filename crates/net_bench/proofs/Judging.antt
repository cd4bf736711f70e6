-- The judge finds the first fault.
use Rattle.std.proofs.Common.{◌≡◌, ◌≢◌, ◌⊎◌, inl, inr, ℕ, ◌+◌, ◌<◌, ◌≤◌, List, [], ◌∷◌, ◌++◌, Bool, true, false, refl, sym, ap, ◌∙◌, subst, append_assoc, append-nil, arith, length, length-append, take, zero, suc, add-one}
use Rattle.std.specs.Prelude.{◌||◌, if◌then◌else◌, flat_map, map, slice_get, Option, Some, None, Result, Ok, Err, nat_lt}
use Rattle.std.proofs.lemmas.List.Sums.{fold-append}
use Rattle.std.proofs.lemmas.Bool.{cases_lt}
use Rattle.std.proofs.lemmas.List.{map-append}
use Rattle.net_bench.specs.declared.netlist.Kind.{Kind}
use Rattle.net_bench.specs.Text.{Word, Token, Open, Close, Equals, Name, Unknown, End, Tokens}
use Rattle.net_bench.specs.Statement.{Statement, Gate, spelled, token_of, kind_of, line_of, IsSpelledRight, AreSpelledRight}
use Rattle.net_bench.specs.Machine.{State, Between, First, Opened, Named, Defining, AtWord, Operands, AfterOperand, AfterComma, Finished, Failed, is_port_word, port, step, run, tokens_of, IsRight}
use Rattle.net_bench.specs.Circuit.{distinct}
use Rattle.net_bench.specs.Fault.{Cause, StrayByte, LongName, Misplaced, NoGateWord, OperandCount, SecondDefinition, LimitExceeded, order_of, max_name, max_signals, max_operands, interned_in, operands_in, has_wrong_operands, redefines, up_to, Begins, IsAfterStatements, IsFaulty, IsFirst, IsFaultless}
use Rattle.net_bench.specs.Judge.{FaultOnLine, lexical, syntactic, without_kind, gate_word, closed, wrong_count, second, over_limit, tests, first_of, unless, judge}
use Rattle.net_bench.proofs.Machine.{run_all, run_one, Goes, go, can_begin, cannot_begin, spelled_snoc}

-- ---- one place of a text

-- the machine is in the state s before the token at a place
record At (ts : Tokens) (place line : ℕ) (t : Token) (s : State) (front : List Token) : Type 0 where
  here : slice_get ts place ≡ Some (line, t)
  whole : up_to ts place ≡ front
  before : IsRight s
  reached : run (Between []) front ≡ step s t
  front_is : front ≡ tokens_of s ++ t ∷ []

test_true : {X : Type 0} (b : Bool) (x y : X) → b ≡ true → (if b then x else y) ≡ x
test_true true x y e = refl
test_true false x y e = cc

test_some : {X : Type 0} (b : Bool) (x y : X) → (if b then Some x else None) ≡ Some y → (b ≡ true) × (x ≡ y)
test_some true x y e = (refl, cc)
test_some false x y e = cc

-- the test that finds a cause at a token
abbrev Shows : State → ℕ → Token → List Token → Cause → ℕ → Type 0
Shows s line t front cause l = slice_get (tests s line t front) (order_of cause) ≡ Some (Some (cause, l))

some_of : {X : Type 0} (x y : X) → Some x ≡ Some y → x ≡ y
some_of x y e = cc

-- after whole statements the machine is between statements, and after a gate word it is at that word
after_statement : (ss : List Statement) (x : Statement) → AreSpelledRight ss → IsSpelledRight x → run (Between []) (flat_map spelled ss ++ spelled x) ≡ Between (ss ++ x ∷ [])
after_statement ss x h k = run_all [] ss (spelled x) h ∙ ap (run (Between ss)) (sym (append-nil (spelled x))) ∙ run_one ss x [] k

-- the statement that is closed
option_port : (done : List Statement) (w : Word) (t : Bool) (all : List Statement) → (if t then Opened done w else Failed) ≡ Between all → ⊥
option_port done w true all e = cc
option_port done w false all e = cc

snoc_same : (xs ys : List Statement) (x y : Statement) → xs ++ x ∷ [] ≡ ys ++ y ∷ [] → (xs ≡ ys) × (x ≡ y)
snoc_same [] [] x y e = (refl, cc)
snoc_same [] (b ∷ []) x y e = cc
snoc_same [] (b ∷ c ∷ ys) x y e = cc
snoc_same (a ∷ []) [] x y e = cc
snoc_same (a ∷ b ∷ xs) [] x y e = cc
snoc_same (a ∷ xs) (b ∷ ys) x y e =
    let first : a ≡ b = cc in
    let rest : xs ++ x ∷ [] ≡ ys ++ y ∷ [] = cc in
    let both : (xs ≡ ys) × (x ≡ y) = snoc_same xs ys x y rest in
    (cc (both.0, first), both.1)

abbrev pair_of : List Statement → Statement → Option (List Statement × Statement)
pair_of ss x = Some (ss, x)

pair_same : (xs ys : List Statement) (x y : Statement) → (xs ≡ ys) × (x ≡ y) → pair_of xs x ≡ pair_of ys y
pair_same xs ys x y e = ap (λ zs. pair_of zs x) e.0 ∙ ap (λ z. pair_of ys z) e.1

between_same : (xs ys : List Statement) → Between xs ≡ Between ys → xs ≡ ys
between_same xs ys e = cc

closed_is : (s : State) (t : Token) (ss : List Statement) (x : Statement) → step s t ≡ Between (ss ++ x ∷ []) → closed s t ≡ Some (ss, x)
closed_is (Named done w n) Close ss x e = pair_same done ss (port w n) x (snoc_same done ss (port w n) x (between_same _ _ e))
closed_is (AfterOperand done out g a others) Close ss x e =
    pair_same done ss (Gate out g a others) x (snoc_same done ss (Gate out g a others) x (between_same _ _ e))
closed_is (First done w) Open ss x e = absurd (option_port done w (is_port_word w) (ss ++ x ∷ []) e)
closed_is (Between done) (Name w) ss x e = cc
closed_is (Opened done w) (Name n) ss x e = cc
closed_is (Defining done w) (Name n) ss x e = cc
closed_is (AtWord done w n) Open ss x e = cc
closed_is (Operands done w n) (Name a) ss x e = cc
closed_is (AfterComma done w n a others) (Name b) ss x e = cc
closed_is (Finished done) End ss x e = cc
closed_is Failed End ss x e = cc
closed_is s t ss x e = cc

closed_steps : (s : State) (t : Token) (c : List Statement × Statement) → closed s t ≡ Some c → step s t ≡ Between (c.0 ++ c.1 ∷ [])
closed_steps (Named done w n) Close c e = ap (λ p. Between (p.0 ++ p.1 ∷ [])) (some_of _ _ e)
closed_steps (AfterOperand done out g a others) Close c e = ap (λ p. Between (p.0 ++ p.1 ∷ [])) (some_of _ _ e)
closed_steps (Between done) (Name w) c e = cc
closed_steps (Opened done w) (Name n) c e = cc
closed_steps (Defining done w) (Name n) c e = cc
closed_steps (AtWord done w n) Open c e = cc
closed_steps (Operands done w n) (Name a) c e = cc
closed_steps (AfterComma done w n a others) (Name b) c e = cc
closed_steps (Finished done) End c e = cc
closed_steps Failed End c e = cc
closed_steps s t c e = cc

-- the words INPUT and OUTPUT of the last statement are right too
right_parts : (ss : List Statement) (x : Statement) → AreSpelledRight (ss ++ x ∷ []) → AreSpelledRight ss × IsSpelledRight x
right_parts [] x h = (tt, h.0)
right_parts (s ∷ ss) x h = let rest : AreSpelledRight ss × IsSpelledRight x = right_parts ss x h.1 in ((h.0, rest.0), rest.1)

-- ---- a faulty place shows in the tests

abbrev placed : ℕ → Token → ℕ × Token
placed line t = (line, t)

first_of_pair : (x y : ℕ) (t u : Token) → placed x t ≡ placed y u → (x ≡ y) × (t ≡ u)
first_of_pair x y t u e = (ap (λ p. p.0) e, ap (λ p. p.1) e)

same_place : {ts : Tokens} {place line : ℕ} {t : Token} {s : State} {front : List Token} → At ts place line t s front →
    (l : ℕ) (u : Token) → slice_get ts place ≡ Some (l, u) → (line ≡ l) × (t ≡ u)
same_place at l u e = first_of_pair _ _ _ _ (some_of _ _ (sym at.here ∙ e))

not_none : (b : Bool) (x : FaultOnLine) → b ≡ true → (if b then Some x else None) ≡ Some x
not_none true x e = refl
not_none false x e = cc

lt_test : (a b : ℕ) → a < b → nat_lt a b ≡ true
lt_test a b h = grind arith

-- if no statements begin like this, the machine has failed
is_failed : (s : State) → (s ≡ Failed) ⊎ (s ≢ Failed)
is_failed Failed = inl refl
is_failed (Between done) = inr (λ e. cc)
is_failed (First done w) = inr (λ e. cc)
is_failed (Opened done w) = inr (λ e. cc)
is_failed (Named done w n) = inr (λ e. cc)
is_failed (Defining done out) = inr (λ e. cc)
is_failed (AtWord done out g) = inr (λ e. cc)
is_failed (Operands done out g) = inr (λ e. cc)
is_failed (AfterOperand done out g a others) = inr (λ e. cc)
is_failed (AfterComma done out g a others) = inr (λ e. cc)
is_failed (Finished done) = inr (λ e. cc)

failing : (front : List Token) → (Begins front → ⊥) → run (Between []) front ≡ Failed
failing front h = elim (is_failed (run (Between []) front)) [ inl e ↦ e | inr other ↦ absurd (h (can_begin front other)) ]

word_state : {ts : Tokens} {place line : ℕ} {t : Token} {s : State} {front : List Token} → At ts place line t s front →
    (ss : List Statement) (out word : Word) → IsAfterStatements ss ts place (Name out ∷ Equals ∷ Name word ∷ []) → step s t ≡ AtWord ss out word
word_state at ss out word h =
    sym at.reached ∙ ap (run (Between [])) (sym at.whole ∙ h.1) ∙ run_all [] ss (Name out ∷ Equals ∷ Name word ∷ []) h.0

statement_closed : {ts : Tokens} {place line : ℕ} {t : Token} {s : State} {front : List Token} → At ts place line t s front →
    (ss : List Statement) (x : Statement) → IsAfterStatements ss ts place (spelled x) → IsSpelledRight x → closed s t ≡ Some (ss, x)
statement_closed {t = t} {s = s} at ss x h right =
    closed_is s t ss x (sym at.reached ∙ ap (run (Between [])) (sym at.whole ∙ h.1) ∙ after_statement ss x h.0 right)

abbrev IsCrowded : List Token → Type 0
IsCrowded front = (max_signals < length (distinct (interned_in front))) ⊎ (max_operands < length (operands_in front))

abbrev is_over_limit : List Token → Bool
is_over_limit front = nat_lt max_signals (length (distinct (interned_in front))) || nat_lt max_operands (length (operands_in front))

or_true : (a b : Bool) → (a ≡ true) ⊎ (b ≡ true) → (a || b) ≡ true
or_true true b h = refl
or_true false b (inl e) = cc
or_true false b (inr e) = e

over_limit_test : (front : List Token) → IsCrowded front → is_over_limit front ≡ true
over_limit_test front (inl h) = or_true _ _ (inl (lt_test max_signals (length (distinct (interned_in front))) h))
over_limit_test front (inr h) = or_true _ _ (inr (lt_test max_operands (length (operands_in front)) h))

shows : (ts : Tokens) (place line : ℕ) (t : Token) (s : State) (front : List Token) → At ts place line t s front →
    (cause : Cause) (l : ℕ) → IsFaulty ts place cause l → Shows s line t front cause l
shows ts place line t s front at StrayByte l h =
    let same : (line ≡ l) × (t ≡ Unknown h.0) = same_place at l (Unknown h.0) h.1 in
    ap Some (ap (λ u. lexical line u) same.1 ∙ ap (λ n. Some (StrayByte, n)) same.0)
shows ts place line t s front at LongName l h =
    let same : (line ≡ l) × (t ≡ Name h.0) = same_place at l (Name h.0) h.1 in
    ap Some (ap (λ u. lexical line u) same.1 ∙ not_none (nat_lt max_name (length h.0.text)) (LongName, line) (lt_test max_name (length h.0.text) h.2) ∙ ap (λ n. Some (LongName, n)) same.0)
shows ts place line t s front at Misplaced l h =
    let same : (line ≡ l) × (t ≡ h.0) = same_place at l h.0 h.1 in
    let fails : step s t ≡ Failed = sym at.reached ∙ failing front (λ b. h.2 (subst Begins (sym at.whole) b)) in
    ap Some (ap (syntactic line) fails ∙ ap (λ n. Some (Misplaced, n)) same.0)
shows ts place line t s front at NoGateWord l (ss, out, word, stands, on, none) =
    ap Some (ap gate_word (word_state at ss out word stands) ∙ ap (without_kind out.line) none ∙ ap (λ n. Some (NoGateWord, n)) (sym on))
shows ts place line t s front at OperandCount l (ss, x, stands, right, on, wrong) =
    ap Some (ap wrong_count (statement_closed at ss x stands right) ∙ not_none (has_wrong_operands x) (OperandCount, line_of x) wrong ∙ ap (λ n. Some (OperandCount, n)) (sym on))
shows ts place line t s front at SecondDefinition l (ss, x, stands, right, on, again) =
    ap Some (ap second (statement_closed at ss x stands right) ∙ not_none (redefines ss x) (SecondDefinition, line_of x) again ∙ ap (λ n. Some (SecondDefinition, n)) (sym on))
shows ts place line t s front at LimitExceeded l h =
    let same : (line ≡ l) × (t ≡ h.0) = same_place at l h.0 h.1 in
    ap Some (not_none (is_over_limit front) (LimitExceeded, line) (over_limit_test front (subst IsCrowded at.whole h.2)) ∙ ap (λ n. Some (LimitExceeded, n)) same.0)

-- ---- what the tests show is a fault of the place

abbrev Is : Tokens → ℕ → ℕ → FaultOnLine → Type 0
Is ts place k f = (order_of f.0 ≡ k) × IsFaulty ts place f.0 f.1

apart_word : (done : List Statement) (out g : Word) → AtWord done out g ≡ Failed → ⊥
apart_word done out g e = cc

apart_between : (done : List Statement) → Between done ≡ Failed → ⊥
apart_between done e = cc

lt_of' : (a b : ℕ) → nat_lt a b ≡ true → a < b
lt_of' a b h = grind arith

true_or : (a b : Bool) → (a || b) ≡ true → (a ≡ true) ⊎ (b ≡ true)
true_or true b h = inl refl
true_or false b h = inr h

over_limit_is : (front : List Token) → is_over_limit front ≡ true → IsCrowded front
over_limit_is front h =
    elim (true_or (nat_lt max_signals (length (distinct (interned_in front)))) (nat_lt max_operands (length (operands_in front))) h) [
      | inl a ↦ inl (lt_of' max_signals (length (distinct (interned_in front))) a)
      | inr a ↦ inr (lt_of' max_operands (length (operands_in front)) a)
    ]

abbrev found : Cause → ℕ → FaultOnLine
found c l = (c, l)

syntactic_is : (line : ℕ) (x : State) (f : FaultOnLine) → syntactic line x ≡ Some f → (x ≡ Failed) × (found Misplaced line ≡ f)
syntactic_is line Failed f e = (refl, some_of _ _ e)
syntactic_is line (Between done) f e = cc
syntactic_is line (First done w) f e = cc
syntactic_is line (Opened done w) f e = cc
syntactic_is line (Named done w n) f e = cc
syntactic_is line (Defining done out) f e = cc
syntactic_is line (AtWord done out g) f e = cc
syntactic_is line (Operands done out g) f e = cc
syntactic_is line (AfterOperand done out g a others) f e = cc
syntactic_is line (AfterComma done out g a others) f e = cc
syntactic_is line (Finished done) f e = cc

abbrev IsNoWord : Word → Word → FaultOnLine → Type 0
IsNoWord out g f = (found NoGateWord out.line ≡ f) × (kind_of g.text ≡ None)

kind_found : (line : ℕ) (k : Option Kind) (f : FaultOnLine) → without_kind line k ≡ Some f → (k ≡ None) × (found NoGateWord line ≡ f)
kind_found line None f e = (refl, some_of _ _ e)
kind_found line (Some k) f e = cc

word_is : (out g : Word) (f : FaultOnLine) → without_kind out.line (kind_of g.text) ≡ Some f → IsNoWord out g f
word_is out g f e = let k : (kind_of g.text ≡ None) × (found NoGateWord out.line ≡ f) = kind_found out.line (kind_of g.text) f e in (k.1, k.0)

abbrev IsWordFault : State → FaultOnLine → Type 0
IsWordFault x f = (done : List Statement) × (out g : Word) × (x ≡ AtWord done out g) × IsNoWord out g f

gate_word_is : (x : State) (f : FaultOnLine) → gate_word x ≡ Some f → IsWordFault x f
gate_word_is (AtWord done out g) f e = (done, out, g, refl, word_is out g f e)
gate_word_is Failed f e = cc
gate_word_is (Between done) f e = cc
gate_word_is (First done w) f e = cc
gate_word_is (Opened done w) f e = cc
gate_word_is (Named done w n) f e = cc
gate_word_is (Defining done out) f e = cc
gate_word_is (Operands done out g) f e = cc
gate_word_is (AfterOperand done out g a others) f e = cc
gate_word_is (AfterComma done out g a others) f e = cc
gate_word_is (Finished done) f e = cc

abbrev Closes : Option (List Statement × Statement) → (List Statement × Statement → Type 0) → Type 0
Closes o P = (c : List Statement × Statement) × (o ≡ Some c) × P c

wrong_count_is : (o : Option (List Statement × Statement)) (f : FaultOnLine) → wrong_count o ≡ Some f → Closes o (λ c. (has_wrong_operands c.1 ≡ true) × (found OperandCount (line_of c.1) ≡ f))
wrong_count_is None f e = cc
wrong_count_is (Some c) f e = (c, refl, test_some (has_wrong_operands c.1) (found OperandCount (line_of c.1)) f e)

second_is : (o : Option (List Statement × Statement)) (f : FaultOnLine) → second o ≡ Some f → Closes o (λ c. (redefines c.0 c.1 ≡ true) × (found SecondDefinition (line_of c.1) ≡ f))
second_is None f e = cc
second_is (Some c) f e = (c, refl, test_some (redefines c.0 c.1) (found SecondDefinition (line_of c.1)) f e)

module _ (ts : Tokens) (place line : ℕ) (t : Token) (s : State) (front : List Token) (at : At ts place line t s front) where
  -- what the tokens up to here are, if the machine goes on
  on : step s t ≢ Failed → Goes s t (step s t)
  on other = go s t other at.before

  stands_at_word : (done : List Statement) (out g : Word) → step s t ≡ AtWord done out g → IsAfterStatements done ts place (Name out ∷ Equals ∷ Name g ∷ [])
  stands_at_word done out g e =
      let continues : Goes s t (step s t) = on (λ f. apart_word done out g (sym e ∙ f)) in
      (subst IsRight e continues.0, at.whole ∙ at.front_is ∙ sym continues.1 ∙ ap tokens_of e)

  stands_closed : (c : List Statement × Statement) → closed s t ≡ Some c → IsAfterStatements c.0 ts place (spelled c.1) × IsSpelledRight c.1
  stands_closed c e =
      let next : step s t ≡ Between (c.0 ++ c.1 ∷ []) = closed_steps s t c e in
      let continues : Goes s t (step s t) = on (λ f. apart_between (c.0 ++ c.1 ∷ []) (sym next ∙ f)) in
      let right : AreSpelledRight c.0 × IsSpelledRight c.1 = right_parts c.0 c.1 (subst IsRight next continues.0) in
      ((right.0, at.whole ∙ at.front_is ∙ sym continues.1 ∙ ap tokens_of next ∙ spelled_snoc c.0 c.1), right.1)

  lexical_shows : (u : Token) (f : FaultOnLine) → t ≡ u → lexical line u ≡ Some f → Is ts place 0 f
  lexical_shows (Unknown b) f e h = subst (Is ts place 0) (some_of _ _ h) (refl, (b, at.here ∙ ap (λ u. Some (placed line u)) e))
  lexical_shows (Name w) f e h =
      let long : (nat_lt max_name (length w.text) ≡ true) × (found LongName line ≡ f) = test_some (nat_lt max_name (length w.text)) (found LongName line) f h in
      subst (Is ts place 0) long.1 (refl, (w, at.here ∙ ap (λ u. Some (placed line u)) e, lt_of' max_name (length w.text) long.0))
  lexical_shows u f e h = cc

  syntactic_shows : (f : FaultOnLine) → syntactic line (step s t) ≡ Some f → Is ts place 1 f
  syntactic_shows f h =
      let k : (step s t ≡ Failed) × (found Misplaced line ≡ f) = syntactic_is line (step s t) f h in
      subst (Is ts place 1) k.1 (refl, (t, at.here, λ b. cannot_begin front (at.reached ∙ k.0) (subst Begins at.whole b)))

  word_shows : (f : FaultOnLine) → gate_word (step s t) ≡ Some f → Is ts place 2 f
  word_shows f h =
      let k : IsWordFault (step s t) f = gate_word_is (step s t) f h in
      subst (Is ts place 2) k.4.0 (refl, (k.0, k.1, k.2, stands_at_word k.0 k.1 k.2 k.3, refl, k.4.1))

  count_shows : (f : FaultOnLine) → wrong_count (closed s t) ≡ Some f → Is ts place 3 f
  count_shows f h =
      let k : Closes (closed s t) (λ c. (has_wrong_operands c.1 ≡ true) × (found OperandCount (line_of c.1) ≡ f)) = wrong_count_is (closed s t) f h in
      let stands : IsAfterStatements k.0.0 ts place (spelled k.0.1) × IsSpelledRight k.0.1 = stands_closed k.0 k.1 in
      subst (Is ts place 3) k.2.1 (refl, (k.0.0, k.0.1, stands.0, stands.1, refl, k.2.0))

  second_shows : (f : FaultOnLine) → second (closed s t) ≡ Some f → Is ts place 4 f
  second_shows f h =
      let k : Closes (closed s t) (λ c. (redefines c.0 c.1 ≡ true) × (found SecondDefinition (line_of c.1) ≡ f)) = second_is (closed s t) f h in
      let stands : IsAfterStatements k.0.0 ts place (spelled k.0.1) × IsSpelledRight k.0.1 = stands_closed k.0 k.1 in
      subst (Is ts place 4) k.2.1 (refl, (k.0.0, k.0.1, stands.0, stands.1, refl, k.2.0))

  over_limit_shows : (f : FaultOnLine) → over_limit line front ≡ Some f → Is ts place 5 f
  over_limit_shows f h =
      let k : (is_over_limit front ≡ true) × (found LimitExceeded line ≡ f) = test_some (is_over_limit front) (found LimitExceeded line) f h in
      subst (Is ts place 5) k.1 (refl, (t, at.here, subst IsCrowded (sym at.whole) (over_limit_is front k.0)))

  each : (k : ℕ) (f : FaultOnLine) → slice_get (tests s line t front) k ≡ Some (Some f) → Is ts place k f
  each zero f h = lexical_shows t f refl (some_of _ _ h)
  each (suc zero) f h = syntactic_shows f (some_of _ _ h)
  each (suc (suc zero)) f h = word_shows f (some_of _ _ h)
  each (suc (suc (suc zero))) f h = count_shows f (some_of _ _ h)
  each (suc (suc (suc (suc zero)))) f h = second_shows f (some_of _ _ h)
  each (suc (suc (suc (suc (suc zero))))) f h = over_limit_shows f (some_of _ _ h)
  each (suc (suc (suc (suc (suc (suc k)))))) f h = cc

-- ---- the first of the tests

abbrev IsFirstTest : List (Option FaultOnLine) → FaultOnLine → Type 0
IsFirstTest os f = (k : ℕ) × (slice_get os k ≡ Some (Some f)) × ((j : ℕ) → j < k → slice_get os j ≡ Some None)

none_before : (os : List (Option FaultOnLine)) (k : ℕ) → ((j : ℕ) → j < k → slice_get os j ≡ Some None) → (j : ℕ) → j < suc k → slice_get (None ∷ os) j ≡ Some None
none_before os k h zero lt = refl
none_before os k h (suc j) lt = h j (omega arith)

first_is : (os : List (Option FaultOnLine)) (f : FaultOnLine) → first_of os ≡ Some f → IsFirstTest os f
first_is [] f e = cc
first_is (Some g ∷ os) f e = (0, ap Some e, λ j h. absurd (omega arith))
first_is (None ∷ os) f e =
    let k : IsFirstTest os f = first_is os f e in
    (suc k.0, k.1, λ j h. none_before os k.0 k.2 j h)

none_is : (os : List (Option FaultOnLine)) → first_of os ≡ None → (j : ℕ) (f : FaultOnLine) → slice_get os j ≡ Some (Some f) → ⊥
none_is [] e j f h = cc
none_is (Some g ∷ os) e j f h = cc
none_is (None ∷ os) e zero f h = cc
none_is (None ∷ os) e (suc j) f h = none_is os e j f h

-- ---- the judge

abbrev Clean : Tokens → ℕ → Type 0
Clean ts n = (p l : ℕ) (cause : Cause) → p < n → IsFaulty ts p cause l → ⊥

at_length : (before rest : Tokens) (x : ℕ × Token) → slice_get (before ++ x ∷ rest) (length before) ≡ Some x
at_length [] rest x = refl
at_length (y ∷ before) rest x = at_length before rest x

take_length : (before rest : Tokens) (x : ℕ × Token) → map token_of (take (suc (length before)) (before ++ x ∷ rest)) ≡ map token_of before ++ x.1 ∷ []
take_length [] rest x = refl
take_length (y ∷ before) rest x = ap (λ ts. y.1 ∷ ts) (take_length before rest x)

-- the judge has come to this place without a fault
record Come (ts before rest : Tokens) (s : State) : Type 0 where
  split : ts ≡ before ++ rest
  state : run (Between []) (map token_of before) ≡ s
  right : IsRight s
  parsed : tokens_of s ≡ map token_of before
  clean : Clean ts (length before)

at_place : (ts before rest : Tokens) (x : ℕ × Token) (s : State) → Come ts before (x ∷ rest) s → At ts (length before) x.0 x.1 s (map token_of before ++ x.1 ∷ [])
at_place ts before rest x s h = record {
  here = rw h.split (at_length before rest x);
  whole = rw (h.split, add-one) (take_length before rest x);
  before = h.right;
  reached = fold-append step (Between []) (map token_of before) (x.1 ∷ []) ∙ ap (λ z. step z x.1) h.state;
  front_is = ap (λ z. z ++ x.1 ∷ []) (sym h.parsed);
}

-- the tests at this place
abbrev tests_at : Tokens → ℕ × Token → State → List (Option FaultOnLine)
tests_at before x s = tests s x.0 x.1 (map token_of before ++ x.1 ∷ [])

not_failed : (before : Tokens) (x : ℕ × Token) (s : State) → first_of (tests_at before x s) ≡ None → step s x.1 ≢ Failed
not_failed before x s e f =
    none_is (tests_at before x s) e 1 (found Misplaced x.0) (ap (λ z. Some (syntactic x.0 z)) f)

up_to_here : (p n : ℕ) → p < n + 1 → (p < n) ⊎ (p ≡ n)
up_to_here p n h = elim (cases_lt p n) [ inl a ↦ inl a | inr a ↦ inr (omega arith) ]

clean_here : (ts before rest : Tokens) (x : ℕ × Token) (s : State) → Come ts before (x ∷ rest) s → first_of (tests_at before x s) ≡ None →
    (p l : ℕ) (cause : Cause) → p < length before + 1 → IsFaulty ts p cause l → ⊥
clean_here ts before rest x s h none p l cause lt faulty =
    elim (up_to_here p (length before) lt) [
      | inl a ↦ h.clean p l cause a faulty
      | inr a ↦ none_is (tests_at before x s) none (order_of cause) (found cause l)
          (shows ts (length before) x.0 x.1 s (map token_of before ++ x.1 ∷ []) (at_place ts before rest x s h) cause l (subst (λ q. IsFaulty ts q cause l) a faulty))
    ]

come_on : (ts before rest : Tokens) (x : ℕ × Token) (s : State) → Come ts before (x ∷ rest) s → first_of (tests_at before x s) ≡ None →
    Come ts (before ++ x ∷ []) rest (step s x.1)
come_on ts before rest x s h none =
    let continues : Goes s x.1 (step s x.1) = go s x.1 (not_failed before x s none) h.right in
    record {
      split = h.split ∙ sym (append_assoc before (x ∷ []) rest);
      state = ap (run (Between [])) (map-append token_of before (x ∷ [])) ∙ fold-append step (Between []) (map token_of before) (x.1 ∷ []) ∙ ap (λ z. step z x.1) h.state;
      right = continues.0;
      parsed = continues.1 ∙ ap (λ z. z ++ x.1 ∷ []) h.parsed ∙ sym (map-append token_of before (x ∷ []));
      clean = λ p l cause lt faulty. clean_here ts before rest x s h none p l cause (rw length-append at lt) faulty;
    }

none_some : (g : FaultOnLine) → None ≡ Some g → ⊥
none_some g e = cc

not_before : (os : List (Option FaultOnLine)) (k j : ℕ) (g : FaultOnLine) → ((i : ℕ) → i < k → slice_get os i ≡ Some None) → slice_get os j ≡ Some (Some g) → (n : ℕ) → n ≡ k → n ≤ j
not_before os k j g none is n e =
    elim (cases_lt j k) [ inl a ↦ absurd (none_some g (some_of _ _ (sym (none j a) ∙ is))) | inr a ↦ omega arith ]

-- ---- what the judge answers

-- the first fault of the text
abbrev pub FirstFault : Tokens → FaultOnLine → Type 0
FirstFault ts f = (place : ℕ) × IsFirst ts place f.0 f.1

within : (ts before rest : Tokens) (x : ℕ × Token) → ts ≡ before ++ x ∷ rest → length before < length ts
within ts before rest x e = omega (arith, ap length e, length-append before (x ∷ rest))

first_fault : (ts before rest : Tokens) (x : ℕ × Token) (s : State) → Come ts before (x ∷ rest) s → (f : FaultOnLine) → first_of (tests_at before x s) ≡ Some f → FirstFault ts f
first_fault ts before rest x s h f e =
    let at : At ts (length before) x.0 x.1 s (map token_of before ++ x.1 ∷ []) = at_place ts before rest x s h in
    let k : IsFirstTest (tests_at before x s) f = first_is (tests_at before x s) f e in
    let is : Is ts (length before) k.0 f = each ts (length before) x.0 x.1 s (map token_of before ++ x.1 ∷ []) at k.0 f k.1 in (
      length before,
      record {
        in_bounds = within ts before rest x h.split;
        here = is.1;
        earlier = λ p l other lt faulty. h.clean p l other lt faulty;
        same = λ l other faulty. not_before (tests_at before x s) k.0 (order_of other) (found other l) k.2
            (shows ts (length before) x.0 x.1 s (map token_of before ++ x.1 ∷ []) at other l faulty) (order_of f.0) is.0;
      },
    )

-- what the judge's answer says of the text
abbrev Says : Tokens → Result State FaultOnLine → Type 0
Says ts (Err f) = FirstFault ts f
Says ts (Ok s) = Come ts ts [] s

come_end : (ts before : Tokens) (s : State) → Come ts before [] s → Come ts ts [] s
come_end ts before s h =
    let same : before ≡ ts = sym (h.split ∙ append-nil before) in
    subst (λ b. Come ts b [] s) same h

seen_snoc : (before : Tokens) (x : ℕ × Token) → map token_of (before ++ x ∷ []) ≡ map token_of before ++ x.1 ∷ []
seen_snoc before x = map-append token_of before (x ∷ [])

says : (ts before rest : Tokens) (s : State) → Come ts before rest s → Says ts (judge s (map token_of before) rest)
unfolding judge
says ts before [] s h = come_end ts before s h
says ts before (x ∷ rest) s h =
    elim (first_of (tests_at before x s)) as (λ o. first_of (tests_at before x s) ≡ o →
    Says ts (unless o (λ _. judge (step s x.1) (map token_of before ++ x.1 ∷ []) rest))) [
      | Some f ↦ λ e. first_fault ts before rest x s h f e
      | None ↦ λ e. subst (λ seen. Says ts (judge (step s x.1) seen rest)) (seen_snoc before x)
          (says ts (before ++ x ∷ []) rest (step s x.1) (come_on ts before rest x s h e))
    ] refl

-- the judge's fault is the first of the text, and without one no place is faulty
judged : (ts : Tokens) → Says ts (judge (Between []) [] ts)
judged ts = says ts [] ts (Between []) (record { split = refl; state = refl; right = tt; parsed = refl; clean = λ p l cause lt faulty. absurd (omega arith) })

pub first_found : (ts : Tokens) (f : FaultOnLine) → judge (Between []) [] ts ≡ Err f → FirstFault ts f
first_found ts f e = subst (Says ts) e (judged ts)

pub none_found : (ts : Tokens) (s : State) → judge (Between []) [] ts ≡ Ok s → IsFaultless ts × (run (Between []) (map token_of ts) ≡ s)
none_found ts s e =
    let h : Come ts ts [] s = subst (Says ts) e (judged ts) in
    (λ place l cause lt. h.clean place l cause lt, h.state)
