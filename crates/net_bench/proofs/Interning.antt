-- What the tokens that lead to a state have mentioned.
use Rattle.std.proofs.Common.{◌≡◌, ◌≢◌, ℕ, ◌+◌, List, [], ◌∷◌, ◌++◌, Bool, true, false, refl, sym, ap, ◌∙◌, subst, append_assoc, append-nil, length, length-append, arith}
use Rattle.std.specs.Prelude.{flat_map, if◌then◌else◌, Some, None}
use Rattle.std.proofs.lemmas.List.{map-append}
use Rattle.std.proofs.lemmas.Grind.{flat_map-append}
use Rattle.net_bench.specs.declared.syntax.PartialStatement.{PartialStatement}
use Rattle.net_bench.specs.declared.syntax.PartialStatement.TheVariants.{Nothing as nothing, First as first_name, Opened as opened, Named as named, Defining as defining, AtWord as at_word, Operands as operands_open, AfterOperand as after_operand, AfterComma as comma_after}
use Rattle.net_bench.specs.Text.{Word, Token, Open, Close, Comma, Equals, Name, End}
use Rattle.net_bench.specs.Statement.{Statement, Input, Output, Gate, spelled, after_comma, interned, operands}
use Rattle.net_bench.specs.Machine.{State, Between, First, Opened, Named, Defining, AtWord, Operands, AfterOperand, AfterComma, Finished, Failed, is_port_word, is_input_word, port, step, tokens_of}
use Rattle.net_bench.specs.ParsedStatement.{state_of}
use Rattle.net_bench.specs.Fault.{interned_in, operands_in}
use Rattle.net_bench.specs.Symbols.{interned_of, operands_of, texts, begun_words, interned_words, newest, newest_operands}
use Rattle.net_bench.specs.Judge.{closed}
use Rattle.net_bench.proofs.Machine.{either_true, opens}

-- ---- the names of whole statements

others_interned : (w : Word) (others : List Word) (rest : List Token) → ((v : Word) → interned_in (Name v ∷ rest) ≡ interned_in rest) →
    interned_in (Name w ∷ (flat_map after_comma others ++ rest)) ≡ texts others ++ interned_in rest
others_interned w [] rest h = h w
others_interned w (b ∷ others) rest h = ap (λ ns. b.text ∷ ns) (others_interned b others rest h)

interned_spelled : (s : Statement) (rest : List Token) → interned_in (spelled s ++ rest) ≡ interned s ++ interned_in rest
interned_spelled (Input word name) rest = refl
interned_spelled (Output word name) rest = refl
interned_spelled (Gate out word first others) rest =
    ap (λ z. out.text ∷ first.text ∷ interned_in (Name first ∷ z)) (append_assoc (flat_map after_comma others) (Close ∷ []) rest) ∙
    ap (λ ns. out.text ∷ first.text ∷ ns) (others_interned first others (Close ∷ rest) (λ v. refl))

pub interned_all : (ss : List Statement) (rest : List Token) → interned_in (flat_map spelled ss ++ rest) ≡ flat_map interned ss ++ interned_in rest
interned_all [] rest = refl
interned_all (s ∷ ss) rest =
    ap interned_in (append_assoc (spelled s) (flat_map spelled ss) rest) ∙ interned_spelled s (flat_map spelled ss ++ rest) ∙
    ap (λ ns. interned s ++ ns) (interned_all ss rest) ∙ sym (append_assoc (interned s) (flat_map interned ss) (interned_in rest))

-- the tokens that lead to a state mention its names
pub interned_tokens : (s : State) → interned_in (tokens_of s) ≡ interned_of s
interned_tokens (Between done) = ap interned_in (sym (append-nil (flat_map spelled done))) ∙ interned_all done [] ∙ append-nil (flat_map interned done)
interned_tokens (First done w) = interned_all done (Name w ∷ []) ∙ append-nil (flat_map interned done)
interned_tokens (Opened done w) = interned_all done (Name w ∷ Open ∷ []) ∙ append-nil (flat_map interned done)
interned_tokens (Named done w n) = interned_all done (Name w ∷ Open ∷ Name n ∷ [])
interned_tokens (Defining done out) = interned_all done (Name out ∷ Equals ∷ [])
interned_tokens (AtWord done out g) = interned_all done (Name out ∷ Equals ∷ Name g ∷ [])
interned_tokens (Operands done out g) = interned_all done (Name out ∷ Equals ∷ Name g ∷ Open ∷ [])
interned_tokens (AfterOperand done out g a others) =
    interned_all done (Name out ∷ Equals ∷ Name g ∷ Open ∷ Name a ∷ flat_map after_comma others) ∙
    ap (λ ns. flat_map interned done ++ out.text ∷ a.text ∷ ns)
    (ap (λ z. interned_in (Name a ∷ z)) (sym (append-nil (flat_map after_comma others))) ∙ others_interned a others [] (λ v. refl) ∙ append-nil (texts others))
interned_tokens (AfterComma done out g a others) =
    interned_all done (Name out ∷ Equals ∷ Name g ∷ Open ∷ Name a ∷ (flat_map after_comma others ++ Comma ∷ [])) ∙
    ap (λ ns. flat_map interned done ++ out.text ∷ a.text ∷ ns) (others_interned a others (Comma ∷ []) (λ v. refl) ∙ append-nil (texts others))
interned_tokens (Finished done) = interned_all done (End ∷ []) ∙ append-nil (flat_map interned done)
interned_tokens Failed = refl

-- ---- and the operands

others_operands : (others : List Word) (rest : List Token) → operands_in (flat_map after_comma others ++ rest) ≡ others ++ operands_in rest
others_operands [] rest = refl
others_operands (b ∷ others) rest = ap (λ ws. b ∷ ws) (others_operands others rest)

operands_spelled : (s : Statement) (rest : List Token) → operands_in (spelled s ++ rest) ≡ operands s ++ operands_in rest
operands_spelled (Input word name) rest = refl
operands_spelled (Output word name) rest = refl
operands_spelled (Gate out word first others) rest =
    ap (λ z. first ∷ operands_in z) (append_assoc (flat_map after_comma others) (Close ∷ []) rest) ∙ ap (λ ws. first ∷ ws) (others_operands others (Close ∷ rest))

operands_all : (ss : List Statement) (rest : List Token) → operands_in (flat_map spelled ss ++ rest) ≡ flat_map operands ss ++ operands_in rest
operands_all [] rest = refl
operands_all (s ∷ ss) rest =
    ap operands_in (append_assoc (spelled s) (flat_map spelled ss) rest) ∙ operands_spelled s (flat_map spelled ss ++ rest) ∙
    ap (λ ws. operands s ++ ws) (operands_all ss rest) ∙ sym (append_assoc (operands s) (flat_map operands ss) (operands_in rest))

pub operands_tokens : (s : State) → operands_in (tokens_of s) ≡ operands_of s
operands_tokens (Between done) = ap operands_in (sym (append-nil (flat_map spelled done))) ∙ operands_all done [] ∙ append-nil (flat_map operands done)
operands_tokens (First done w) = operands_all done (Name w ∷ []) ∙ append-nil (flat_map operands done)
operands_tokens (Opened done w) = operands_all done (Name w ∷ Open ∷ []) ∙ append-nil (flat_map operands done)
operands_tokens (Named done w n) = operands_all done (Name w ∷ Open ∷ Name n ∷ []) ∙ append-nil (flat_map operands done)
operands_tokens (Defining done out) = operands_all done (Name out ∷ Equals ∷ []) ∙ append-nil (flat_map operands done)
operands_tokens (AtWord done out g) = operands_all done (Name out ∷ Equals ∷ Name g ∷ []) ∙ append-nil (flat_map operands done)
operands_tokens (Operands done out g) = operands_all done (Name out ∷ Equals ∷ Name g ∷ Open ∷ []) ∙ append-nil (flat_map operands done)
operands_tokens (AfterOperand done out g a others) =
    operands_all done (Name out ∷ Equals ∷ Name g ∷ Open ∷ Name a ∷ flat_map after_comma others) ∙
    ap (λ ws. flat_map operands done ++ a ∷ ws) (ap operands_in (sym (append-nil (flat_map after_comma others))) ∙ others_operands others [] ∙ append-nil others)
operands_tokens (AfterComma done out g a others) =
    operands_all done (Name out ∷ Equals ∷ Name g ∷ Open ∷ Name a ∷ (flat_map after_comma others ++ Comma ∷ [])) ∙
    ap (λ ws. flat_map operands done ++ a ∷ ws) (others_operands others (Comma ∷ []) ∙ append-nil others)
operands_tokens (Finished done) = operands_all done (End ∷ []) ∙ append-nil (flat_map operands done)
operands_tokens Failed = refl

-- ---- one more token

pub one_more : {X : Type 0} (f : Statement → List X) (done : List Statement) (s : Statement) (xs : List X) → f s ≡ xs → flat_map f (done ++ s ∷ []) ≡ flat_map f done ++ xs
one_more f done s xs e = flat_map-append f done (s ∷ []) ∙ ap (λ l. flat_map f done ++ l) (append-nil (f s) ∙ e)

port_interned : (w n : Word) (i : Bool) → interned (if i then Input w n else Output w n) ≡ n.text ∷ []
port_interned w n true = refl
port_interned w n false = refl

port_operands : (w n : Word) (i : Bool) → operands (if i then Input w n else Output w n) ≡ []
port_operands w n true = refl
port_operands w n false = refl

pub interned_step : (s : State) (t : Token) → step s t ≢ Failed → interned_of (step s t) ≡ interned_of s ++ texts (newest (step s t) t)
interned_step (Between done) (Name w) other = sym (append-nil (flat_map interned done))
interned_step (Between done) End other = sym (append-nil (flat_map interned done))
interned_step (First done w) Equals other = refl
interned_step (First done w) Open other =
    subst (λ z. interned_of z ≡ flat_map interned done ++ texts (newest z Open)) (sym (either_true (is_port_word w) (Opened done w) Failed (opens done w (is_port_word w) other)))
    (sym (append-nil (flat_map interned done)))
interned_step (Opened done w) (Name n) other = refl
interned_step (Named done w n) Close other =
    one_more interned done (port w n) (n.text ∷ []) (port_interned w n (is_input_word w)) ∙ sym (append-nil (flat_map interned done ++ n.text ∷ []))
interned_step (Defining done out) (Name g) other = sym (append-nil (flat_map interned done ++ out.text ∷ []))
interned_step (AtWord done out g) Open other = sym (append-nil (flat_map interned done ++ out.text ∷ []))
interned_step (Operands done out g) (Name a) other = sym (append_assoc (flat_map interned done) (out.text ∷ []) (a.text ∷ []))
interned_step (AfterOperand done out g a others) Comma other = sym (append-nil (flat_map interned done ++ out.text ∷ a.text ∷ texts others))
interned_step (AfterOperand done out g a others) Close other =
    one_more interned done (Gate out g a others) (out.text ∷ a.text ∷ texts others) refl ∙ sym (append-nil (flat_map interned done ++ out.text ∷ a.text ∷ texts others))
interned_step (AfterComma done out g a others) (Name b) other =
    ap (λ ns. flat_map interned done ++ out.text ∷ a.text ∷ ns) (map-append (λ w. w.text) others (b ∷ [])) ∙
    sym (append_assoc (flat_map interned done) (out.text ∷ a.text ∷ texts others) (b.text ∷ []))
interned_step s t other = absurd (other refl)

none_more : (n : ℕ) → n ≡ n + 0
none_more n = omega arith

pub operands_step : (s : State) (t : Token) → step s t ≢ Failed → length (operands_of (step s t)) ≡ length (operands_of s) + newest_operands (step s t) t
operands_step (Between done) (Name w) other = none_more (length (flat_map operands done))
operands_step (Between done) End other = none_more (length (flat_map operands done))
operands_step (First done w) Equals other = none_more (length (flat_map operands done))
operands_step (First done w) Open other =
    subst (λ z. length (operands_of z) ≡ length (flat_map operands done) + newest_operands z Open) (sym (either_true (is_port_word w) (Opened done w) Failed (opens done w (is_port_word w) other)))
    (none_more (length (flat_map operands done)))
operands_step (Opened done w) (Name n) other = none_more (length (flat_map operands done))
operands_step (Named done w n) Close other =
    ap length (one_more operands done (port w n) [] (port_operands w n (is_input_word w)) ∙ append-nil (flat_map operands done)) ∙ none_more (length (flat_map operands done))
operands_step (Defining done out) (Name g) other = none_more (length (flat_map operands done))
operands_step (AtWord done out g) Open other = none_more (length (flat_map operands done))
operands_step (Operands done out g) (Name a) other = length-append (flat_map operands done) (a ∷ [])
operands_step (AfterOperand done out g a others) Comma other = none_more (length (flat_map operands done ++ a ∷ others))
operands_step (AfterOperand done out g a others) Close other =
    ap length (one_more operands done (Gate out g a others) (a ∷ others) refl) ∙ none_more (length (flat_map operands done ++ a ∷ others))
operands_step (AfterComma done out g a others) (Name b) other =
    ap length (sym (append_assoc (flat_map operands done) (a ∷ others) (b ∷ []))) ∙ length-append (flat_map operands done ++ a ∷ others) (b ∷ [])
operands_step s t other = absurd (other refl)

-- ---- what was mentioned last follows from the partial statement

pub newest_same : (done : List Statement) (p : PartialStatement) (t : Token) → newest (state_of done p) t ≡ newest (state_of [] p) t
newest_same done nothing t = refl
newest_same done (first_name word) t = refl
newest_same done (opened word) t = refl
newest_same done (named word name) t = refl
newest_same done (defining out) t = refl
newest_same done (at_word out word) t = refl
newest_same done (operands_open out word) t = refl
newest_same done (after_operand g) (Name b) = refl
newest_same done (after_operand g) t = refl
newest_same done (comma_after g) t = refl

pub newest_operands_same : (done : List Statement) (p : PartialStatement) (t : Token) → newest_operands (state_of done p) t ≡ newest_operands (state_of [] p) t
newest_operands_same done nothing t = refl
newest_operands_same done (first_name word) t = refl
newest_operands_same done (opened word) t = refl
newest_operands_same done (named word name) t = refl
newest_operands_same done (defining out) t = refl
newest_operands_same done (at_word out word) t = refl
newest_operands_same done (operands_open out word) t = refl
newest_operands_same done (after_operand g) (Name b) = refl
newest_operands_same done (after_operand g) t = refl
newest_operands_same done (comma_after g) t = refl

pub live : (done : List Statement) (p : PartialStatement) → state_of done p ≢ Failed
live done nothing e = cc
live done (first_name word) e = cc
live done (opened word) e = cc
live done (named word name) e = cc
live done (defining out) e = cc
live done (at_word out word) e = cc
live done (operands_open out word) e = cc
live done (after_operand g) e = cc
live done (comma_after g) e = cc

-- ---- the words that the partial statement has mentioned

pub begun_step : (s : State) (t : Token) → closed s t ≡ None → step s t ≢ Failed → begun_words (step s t) ≡ begun_words s ++ newest (step s t) t
begun_step (Between done) (Name w) still other = refl
begun_step (Between done) End still other = refl
begun_step (First done w) Equals still other = refl
begun_step (First done w) Open still other =
    subst (λ z. begun_words z ≡ newest z Open) (sym (either_true (is_port_word w) (Opened done w) Failed (opens done w (is_port_word w) other))) refl
begun_step (Opened done w) (Name n) still other = refl
begun_step (Named done w n) Close still other = cc
begun_step (Defining done out) (Name g) still other = refl
begun_step (AtWord done out g) Open still other = refl
begun_step (Operands done out g) (Name a) still other = refl
begun_step (AfterOperand done out g a others) Comma still other = sym (append-nil (out ∷ a ∷ others))
begun_step (AfterOperand done out g a others) Close still other = cc
begun_step (AfterComma done out g a others) (Name b) still other = refl
begun_step s t still other = absurd (other refl)

port_words : (w n : Word) (i : Bool) → n ∷ [] ≡ interned_words (if i then Input w n else Output w n)
port_words w n true = refl
port_words w n false = refl

some_pair : (p q : List Statement × Statement) → Some p ≡ Some q → p.1 ≡ q.1
some_pair p q e = cc

-- a statement that is closed mentions them
pub begun_closed : (s : State) (t : Token) (c : List Statement × Statement) → closed s t ≡ Some c → begun_words s ≡ interned_words c.1
begun_closed (Named done w n) Close c e = port_words w n (is_input_word w) ∙ ap interned_words (some_pair (done, port w n) c e)
begun_closed (AfterOperand done out g a others) Close c e = ap interned_words (some_pair (done, Gate out g a others) c e)
begun_closed (Between done) (Name w) c e = cc
begun_closed (Opened done w) (Name n) c e = cc
begun_closed (Defining done w) (Name n) c e = cc
begun_closed (AtWord done w n) Open c e = cc
begun_closed (Operands done w n) (Name a) c e = cc
begun_closed (AfterComma done w n a others) (Name b) c e = cc
begun_closed (Finished done) End c e = cc
begun_closed Failed End c e = cc
begun_closed s t c e = cc
