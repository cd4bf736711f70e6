-- What the symbol table says of signals after one more statement.
use Rattle.std.proofs.Common.{◌≡◌, ◌⊎◌, inl, inr, ℕ, zero, suc, ◌<◌, ◌≤◌, List, [], ◌∷◌, ◌++◌, Bool, true, false, refl, sym, ap, ◌∙◌, subst, map, length, arith, append-nil}
use Rattle.std.specs.Prelude.{cond, ◌||◌, if◌then◌else◌, bytes_eq, flat_map, filter, filter_map, fold, replicate, slice_get, slice_set, Option, Some, None, option_to_list, option_map, is_some, not, All}
use Rattle.std.proofs.lemmas.List.{map-append}
use Rattle.std.proofs.lemmas.List.Folds.{list_any-append}
use Rattle.std.proofs.lemmas.List.Sums.{fold-append}
use Rattle.std.proofs.lemmas.List.Elements.{filter_map-append, filter-append}
use Rattle.net_bench.specs.declared.netlist.Kind.{Kind}
use Rattle.net_bench.specs.declared.netlist.GateLine.{GateLine}
use Rattle.net_bench.specs.declared.symbols.Use.{Use}
use Rattle.net_bench.specs.declared.symbols.Symbol.{Symbol}
use Rattle.net_bench.specs.declared.netlist.Role.{Role}
use Rattle.net_bench.specs.declared.netlist.Role.TheVariants.{Undefined as undefined, Input as input, Gate as gate, Register as register}
use Rattle.net_bench.specs.Statement.{Statement, Input, Output, Gate, interned, uses, input_name, output_name, gate_name, kind_of}
use Rattle.net_bench.specs.Circuit.{is_gate, is_register, is_name_in, with_name, distinct, find, number_of, gate_line, is_register_kind}
use Rattle.net_bench.specs.Fault.{redefines}
use Rattle.net_bench.specs.Symbols.{AreFound, AreSymbols, IsSymbol, blank, interned_words, subject, symbol_after, inputs_with, outputs_with, gate_line_with, uses_with, is_input_role, is_driven_role, driven_role, IsPlacedAt, ArePlaced}
use Rattle.net_bench.specs.Sound.{has_kind}
use Rattle.slot_table.proofs.Places.{slice_get-push, slice_get-append}
use Rattle.std.proofs.lemmas.Bool.{cases_lt}
use Rattle.std.proofs.lemmas.List.Elements.{All-nil, All-cons, All-head, All-tail}
use Rattle.net_bench.proofs.Numbers.{in_distinct, in_fold, or_left, or_right, or_cases, same_name, name_itself}
use Rattle.net_bench.proofs.Interning.{one_more}
use Rattle.net_bench.proofs.Found.{found_low, found_of, one_name, one_number, later_fold, new_after, line_is}

or_false : (a : Bool) → (a || false) ≡ a
or_false true = refl
or_false false = refl

or_true : (a : Bool) → (a || true) ≡ true
or_true true = refl
or_true false = refl

-- ---- a name that no statement has mentioned

-- the names of which the statements say something are among those that they mention
among : (f : Statement → List (List ℕ)) (n : List ℕ) → ((s : Statement) → is_name_in (f s) n ≡ true → is_name_in (interned s) n ≡ true) →
    (ss : List Statement) → is_name_in (flat_map f ss) n ≡ true → is_name_in (flat_map interned ss) n ≡ true
among f n h [] e = e
among f n h (s ∷ ss) e =
    list_any-append (λ m. bytes_eq m n) (interned s) (flat_map interned ss) ∙
    elim (or_cases (is_name_in (f s) n) (is_name_in (flat_map f ss) n) (sym (list_any-append (λ m. bytes_eq m n) (f s) (flat_map f ss)) ∙ e)) [
      | inl a ↦ or_left (is_name_in (interned s) n) (is_name_in (flat_map interned ss) n) (h s a)
      | inr b ↦ or_right (is_name_in (interned s) n) (is_name_in (flat_map interned ss) n) (among f n h ss b)
    ]

input_interned : (n : List ℕ) (s : Statement) → is_name_in (input_name s) n ≡ true → is_name_in (interned s) n ≡ true
input_interned n (Input word name) e = e
input_interned n (Output word name) e = cc
input_interned n (Gate out word first others) e = cc

output_interned : (n : List ℕ) (s : Statement) → is_name_in (output_name s) n ≡ true → is_name_in (interned s) n ≡ true
output_interned n (Input word name) e = cc
output_interned n (Output word name) e = e
output_interned n (Gate out word first others) e = cc

gate_interned : (n : List ℕ) (s : Statement) → is_name_in (gate_name s) n ≡ true → is_name_in (interned s) n ≡ true
gate_interned n (Input word name) e = cc
gate_interned n (Output word name) e = cc
gate_interned n (Gate out word first others) e =
    or_left (bytes_eq out.text n) (is_name_in (first.text ∷ map (λ w. w.text) others) n) (sym (or_false (bytes_eq out.text n)) ∙ e)

not_true : (b : Bool) → (b ≡ true → ⊥) → false ≡ b
not_true true h = absurd (h refl)
not_true false h = refl

true_false : true ≡ false → ⊥
true_false e = cc

blank_symbol : (done : List Statement) (n : List ℕ) → is_name_in (flat_map interned done) n ≡ false → IsSymbol done n blank
blank_symbol done n none = record {
  input = not_true (is_name_in (flat_map input_name done) n) (λ e. true_false (sym (among input_name n (input_interned n) done e) ∙ none));
  driven = not_true (is_name_in (flat_map gate_name done) n) (λ e. true_false (sym (among gate_name n (gate_interned n) done e) ∙ none));
  output = not_true (is_name_in (flat_map output_name done) n) (λ e. true_false (sym (among output_name n (output_interned n) done e) ∙ none));
}

-- ---- symbols of more names

slice_front : {X : Type 0} (xs ys : List X) (i : ℕ) (x : X) → i < length xs → slice_get (xs ++ ys) i ≡ Some x → slice_get xs i ≡ Some x
slice_front [] ys i x low e = absurd (omega arith)
slice_front (z ∷ xs) ys zero x low e = e
slice_front (z ∷ xs) ys (suc i) x low e = slice_front xs ys i x (omega arith) e

slice_back : {X : Type 0} (xs : List X) (k : ℕ) (b : X) (i : ℕ) (x : X) → length xs ≤ i → slice_get (xs ++ replicate k b) i ≡ Some x → x ≡ b
slice_back [] zero b i x high e = cc
slice_back [] (suc k) b zero x high e = cc
slice_back [] (suc k) b (suc i) x high e = slice_back [] k b i x (omega arith) e
slice_back (z ∷ xs) k b zero x high e = absurd (omega arith)
slice_back (z ∷ xs) k b (suc i) x high e = slice_back xs k b i x (omega arith) e

module _ (done : List Statement) (names xs : List (List ℕ)) (symbols more : List Symbol) (k : ℕ)
    (whole : (n : List ℕ) → is_name_in (flat_map interned done) n ≡ true → is_name_in names n ≡ true)
    (each : length symbols ≡ length names) (were : AreSymbols done names symbols) (are : more ≡ symbols ++ replicate k blank) where
  pub whole_more : (n : List ℕ) → is_name_in (flat_map interned done) n ≡ true → is_name_in (fold with_name names xs) n ≡ true
  whole_more n e = in_fold xs names n ∙ or_left (is_name_in names n) (is_name_in xs n) (whole n e)

  symbol_more : (n : List ℕ) (i : ℕ) (s : Symbol) (b : Bool) → is_name_in names n ≡ b → find (fold with_name names xs) n ≡ Some i → slice_get (symbols ++ replicate k blank) i ≡ Some s → IsSymbol done n s
  symbol_more n i s true there e at =
      let (j, f) = found_of names n there in
      let same : j ≡ i = one_number (fold with_name names xs) n j i (later_fold xs names n j f) e in
      let low : j < length symbols = subst (λ l. j < l) (sym each) (found_low names n j f) in
      were n j s f (slice_front symbols (replicate k blank) j s low (subst (λ l. slice_get (symbols ++ replicate k blank) l ≡ Some s) (sym same) at))
  symbol_more n i s false new e at =
      let high : length symbols ≤ i = subst (λ l. l ≤ i) (sym each) (new_after xs names n i e new) in
      subst (IsSymbol done n) (sym (slice_back symbols k blank i s high at))
      (blank_symbol done n (sym (not_true (is_name_in (flat_map interned done) n) (λ c. true_false (sym (whole n c) ∙ new)))))

  pub symbols_more : AreSymbols done (fold with_name names xs) more
  symbols_more n i s e at = symbol_more n i s (is_name_in names n) refl e (subst (λ ss. slice_get ss i ≡ Some s) are at)

-- ---- symbols after one more statement

said_more : (f : Statement → List (List ℕ)) (done : List Statement) (x : Statement) (n : List ℕ) →
    is_name_in (flat_map f (done ++ x ∷ [])) n ≡ (is_name_in (flat_map f done) n || is_name_in (f x) n)
said_more f done x n = ap (λ ns. is_name_in ns n) (one_more f done x (f x) refl) ∙ list_any-append (λ m. bytes_eq m n) (flat_map f done) (f x)

-- the symbol of another name is unchanged
input_other : (x : Statement) (n : List ℕ) → bytes_eq (subject x).text n ≡ false → is_name_in (input_name x) n ≡ false
input_other (Input word name) n e = or_false (bytes_eq name.text n) ∙ e
input_other (Output word name) n e = refl
input_other (Gate out word first others) n e = refl

output_other : (x : Statement) (n : List ℕ) → bytes_eq (subject x).text n ≡ false → is_name_in (output_name x) n ≡ false
output_other (Input word name) n e = refl
output_other (Output word name) n e = or_false (bytes_eq name.text n) ∙ e
output_other (Gate out word first others) n e = refl

gate_other : (x : Statement) (n : List ℕ) → bytes_eq (subject x).text n ≡ false → is_name_in (gate_name x) n ≡ false
gate_other (Input word name) n e = refl
gate_other (Output word name) n e = refl
gate_other (Gate out word first others) n e = or_false (bytes_eq out.text n) ∙ e

stays : (f : Statement → List (List ℕ)) (done : List Statement) (x : Statement) (n : List ℕ) (b : Bool) → is_name_in (f x) n ≡ false →
    b ≡ is_name_in (flat_map f done) n → b ≡ is_name_in (flat_map f (done ++ x ∷ [])) n
stays f done x n b none e = e ∙ sym (said_more f done x n ∙ ap (λ c. is_name_in (flat_map f done) n || c) none ∙ or_false (is_name_in (flat_map f done) n))

other_symbol : (done : List Statement) (x : Statement) (n : List ℕ) (s : Symbol) → bytes_eq (subject x).text n ≡ false → IsSymbol done n s → IsSymbol (done ++ x ∷ []) n s
other_symbol done x n s e h = record {
  input = stays input_name done x n (is_input_role s.role) (input_other x n e) h.input;
  driven = stays gate_name done x n (is_driven_role s.role) (gate_other x n e) h.driven;
  output = stays output_name done x n s.is_output (output_other x n e) h.output;
}

-- the symbol of the statement's own name
comes : (f : Statement → List (List ℕ)) (done : List Statement) (x : Statement) (n : List ℕ) → is_name_in (f x) n ≡ true → true ≡ is_name_in (flat_map f (done ++ x ∷ [])) n
comes f done x n there = sym (said_more f done x n ∙ ap (λ c. is_name_in (flat_map f done) n || c) there ∙ or_true (is_name_in (flat_map f done) n))

own : (n : List ℕ) → (bytes_eq n n || false) ≡ true
own n = or_false (bytes_eq n n) ∙ name_itself n

first_false : (a b : Bool) → (a || b) ≡ false → a ≡ false
first_false true b e = cc
first_false false b e = refl

second_false : (a b : Bool) → (a || b) ≡ false → b ≡ false
second_false true b e = cc
second_false false b e = e

is_driven : (o : Option Kind) (p q : ℕ) → true ≡ is_driven_role (driven_role o p q)
is_driven None p q = refl
is_driven (Some kind) p q = elim (is_register_kind kind) as (λ b. true ≡ is_driven_role (if b then register q else gate p)) [ true ↦ refl | false ↦ refl ]

no_input : (o : Option Kind) (p q : ℕ) → false ≡ is_input_role (driven_role o p q)
no_input None p q = refl
no_input (Some kind) p q = elim (is_register_kind kind) as (λ b. false ≡ is_input_role (if b then register q else gate p)) [ true ↦ refl | false ↦ refl ]

own_symbol : (done : List Statement) (x : Statement) (s : Symbol) (p q : ℕ) → redefines done x ≡ false → IsSymbol done (subject x).text s →
    IsSymbol (done ++ x ∷ []) (subject x).text (symbol_after x s p q)
own_symbol done (Input word name) s p q once h = record {
  input = comes input_name done (Input word name) name.text (own name.text);
  driven = stays gate_name done (Input word name) name.text false refl
      (sym (first_false (is_name_in (flat_map gate_name done) name.text) false (first_false (is_name_in (flat_map gate_name done) name.text || false) false once)));
  output = stays output_name done (Input word name) name.text s.is_output refl h.output;
}
own_symbol done (Output word name) s p q once h = record {
  input = stays input_name done (Output word name) name.text (is_input_role s.role) refl h.input;
  driven = stays gate_name done (Output word name) name.text (is_driven_role s.role) refl h.driven;
  output = comes output_name done (Output word name) name.text (own name.text);
}
own_symbol done (Gate out word first others) s p q once h = record {
  input = sym (no_input (kind_of word.text) p q) ∙ stays input_name done (Gate out word first others) out.text false refl
      (sym (first_false (is_name_in (flat_map input_name done) out.text) false (second_false (is_name_in (flat_map gate_name done) out.text || false) (is_name_in (flat_map input_name done) out.text || false) once)));
  driven = sym (is_driven (kind_of word.text) p q) ∙ comes gate_name done (Gate out word first others) out.text (own out.text);
  output = stays output_name done (Gate out word first others) out.text s.is_output refl h.output;
}

not_equal : (names : List (List ℕ)) (m n : List ℕ) (i k : ℕ) (b : Bool) → find names m ≡ Some k → find names n ≡ Some i → (i ≡ k → ⊥) → bytes_eq m n ≡ b → b ≡ false
not_equal names m n i k false e f other is = refl
not_equal names m n i k true e f other is = absurd (other (one_number names n i k f (subst (λ z. find names z ≡ Some k) (same_name m n is) e)))

slice_get-set_same : {X : Type 0} (xs : List X) (i : ℕ) (v x : X) → i < length xs → slice_get (slice_set xs i v) i ≡ Some x → x ≡ v
slice_get-set_same [] i v x low e = absurd (omega arith)
slice_get-set_same (z ∷ xs) zero v x low e = cc
slice_get-set_same (z ∷ xs) (suc i) v x low e = slice_get-set_same xs i v x (omega arith) e

slice_get-set_other : {X : Type 0} (xs : List X) (k i : ℕ) (v x : X) → (i ≡ k → ⊥) → slice_get (slice_set xs k v) i ≡ Some x → slice_get xs i ≡ Some x
slice_get-set_other [] k i v x other e = e
slice_get-set_other (z ∷ xs) zero zero v x other e = absurd (other refl)
slice_get-set_other (z ∷ xs) zero (suc i) v x other e = e
slice_get-set_other (z ∷ xs) (suc k) zero v x other e = e
slice_get-set_other (z ∷ xs) (suc k) (suc i) v x other e = slice_get-set_other xs k i v x (λ same. other (ap suc same)) e

differ : (i k : ℕ) → (i ≡ k) ⊎ (i ≡ k → ⊥)
differ zero zero = inl refl
differ zero (suc k) = inr (λ e. cc)
differ (suc i) zero = inr (λ e. cc)
differ (suc i) (suc k) = elim (differ i k) [ inl e ↦ inl (ap suc e) | inr h ↦ inr (λ e. h (omega (arith, e))) ]

pub symbols_after : (done : List Statement) (names : List (List ℕ)) (symbols : List Symbol) (x : Statement) (k : ℕ) (s : Symbol) (p q : ℕ) → length symbols ≡ length names →
    AreSymbols done names symbols → find names (subject x).text ≡ Some k → slice_get symbols k ≡ Some s → redefines done x ≡ false →
    AreSymbols (done ++ x ∷ []) names (slice_set symbols k (symbol_after x s p q))
symbols_after done names symbols x k s p q each were here at once n i t e there =
    elim (differ i k) [
      | inl same ↦
          let is : t ≡ symbol_after x s p q = slice_get-set_same symbols k (symbol_after x s p q) t (subst (λ l. k < l) (sym each) (found_low names (subject x).text k here))
          (subst (λ j. slice_get (slice_set symbols k (symbol_after x s p q)) j ≡ Some t) same there) in
          let name : (subject x).text ≡ n = one_name names (subject x).text n k here (subst (λ j. find names n ≡ Some j) same e) in
          subst (λ m. IsSymbol (done ++ x ∷ []) m t) name
          (subst (IsSymbol (done ++ x ∷ []) (subject x).text) (sym is) (own_symbol done x s p q once (were (subject x).text k s here at)))
      | inr other ↦
          other_symbol done x n t (not_equal names (subject x).text n i k (bytes_eq (subject x).text n) here e other refl)
          (were n i t e (slice_get-set_other symbols k i (symbol_after x s p q) t other there))
    ]

-- ---- the parts of the netlist

defined_more : (f : Statement → List (List ℕ)) (done : List Statement) (x : Statement) → distinct (flat_map f (done ++ x ∷ [])) ≡ fold with_name (distinct (flat_map f done)) (f x)
defined_more f done x = ap distinct (one_more f done x (f x) refl) ∙ fold-append with_name [] (flat_map f done) (f x)

one_with : (names : List (List ℕ)) (f : List ℕ → ℕ) (n : List ℕ) (i : ℕ) (b : Bool) → is_name_in names n ≡ b → f n ≡ i →
    map f names ++ (if b then [] else i ∷ []) ≡ map f (with_name names n)
one_with names f n i true e at = append-nil (map f names) ∙ ap (λ c. map f (cond c names (names ++ n ∷ []))) (sym e)
one_with names f n i false e at =
    ap (λ j. map f names ++ j ∷ []) (sym at) ∙ sym (map-append f names (n ∷ [])) ∙ ap (λ c. map f (cond c names (names ++ n ∷ []))) (sym e)

module _ (later : List (List ℕ)) (done : List Statement) (x : Statement) (u : Use) (us : List Use) (s : Symbol)
    (is : IsSymbol done (subject x).text s) (at : number_of later (subject x).text ≡ u.signal) where
  pub inputs_after : map (number_of later) (distinct (flat_map input_name done)) ++ inputs_with x u s ≡ map (number_of later) (distinct (flat_map input_name (done ++ x ∷ [])))
  inputs_after = by_statement x is at ∙ ap (map (number_of later)) (sym (defined_more input_name done x))
    where
      by_statement : (x : Statement) → IsSymbol done (subject x).text s → number_of later (subject x).text ≡ u.signal →
          map (number_of later) (distinct (flat_map input_name done)) ++ inputs_with x u s ≡ map (number_of later) (fold with_name (distinct (flat_map input_name done)) (input_name x))
      by_statement (Input word name) is at =
          one_with (distinct (flat_map input_name done)) (number_of later) name.text u.signal (is_input_role s.role) (in_distinct (flat_map input_name done) name.text ∙ sym is.input) at
      by_statement (Output word name) is at = append-nil (map (number_of later) (distinct (flat_map input_name done)))
      by_statement (Gate out word first others) is at = append-nil (map (number_of later) (distinct (flat_map input_name done)))

  pub outputs_after : map (number_of later) (distinct (flat_map output_name done)) ++ outputs_with x u s ≡ map (number_of later) (distinct (flat_map output_name (done ++ x ∷ [])))
  outputs_after = by_statement x is at ∙ ap (map (number_of later)) (sym (defined_more output_name done x))
    where
      by_statement : (x : Statement) → IsSymbol done (subject x).text s → number_of later (subject x).text ≡ u.signal →
          map (number_of later) (distinct (flat_map output_name done)) ++ outputs_with x u s ≡ map (number_of later) (fold with_name (distinct (flat_map output_name done)) (output_name x))
      by_statement (Input word name) is at = append-nil (map (number_of later) (distinct (flat_map output_name done)))
      by_statement (Output word name) is at =
          one_with (distinct (flat_map output_name done)) (number_of later) name.text u.signal s.is_output (in_distinct (flat_map output_name done) name.text ∙ sym is.output) at
      by_statement (Gate out word first others) is at = append-nil (map (number_of later) (distinct (flat_map output_name done)))

filter_one : {Y Z : Type 0} (g : Y → Option Z) (y : Y) (o : Option Z) → g y ≡ o → filter_map g (y ∷ []) ≡ option_to_list o
filter_one g y None e = ap (λ p. Rattle.std.specs.List.cons_option p []) e
filter_one g y (Some z) e = ap (λ p. Rattle.std.specs.List.cons_option p []) e

-- the kept lines of one more statement
pub lines_after : (kept : GateLine → Bool) (later : List (List ℕ)) (done : List Statement) (x : Statement) (u : Use) (us : List Use) → AreFound later (u ∷ us) (interned_words x) →
    filter kept (filter_map (gate_line later) done) ++ filter kept (option_to_list (gate_line_with x u us)) ≡ filter kept (filter_map (gate_line later) (done ++ x ∷ []))
lines_after kept later done x u us h =
    sym (filter-append kept (filter_map (gate_line later) done) (option_to_list (gate_line_with x u us))) ∙
    ap (λ ls. filter kept (filter_map (gate_line later) done ++ ls)) (ap option_to_list (line_is later x u us h) ∙ sym (filter_one (gate_line later) x (gate_line later x) refl)) ∙
    ap (filter kept) (sym (filter_map-append (gate_line later) done (x ∷ [])))

-- the uses of a statement
pub uses_found : (names : List (List ℕ)) (x : Statement) (u : Use) (us : List Use) → AreFound names (u ∷ us) (interned_words x) → AreFound names (uses_with x u us) (uses x)
uses_found names (Input word name) u us h = tt
uses_found names (Output word name) u [] h = (h.0, h.1, tt)
uses_found names (Output word name) u (v ∷ us) h = absurd h.2
uses_found names (Gate out word first others) u us h = h.2

-- ---- the places of gates and registers

place_stays : (gates registers more lines : List GateLine) (i : ℕ) (r : Role) → IsPlacedAt gates registers i r → IsPlacedAt (gates ++ more) (registers ++ lines) i r
place_stays gates registers more lines i undefined h = tt
place_stays gates registers more lines i input h = tt
place_stays gates registers more lines i (gate p) (g, at, out) = (g, slice_get-append gates more p g at, out)
place_stays gates registers more lines i (register p) (g, at, out) = (g, slice_get-append registers lines p g at, out)

-- the symbols of more names
pub places_more : (gates registers : List GateLine) (symbols more : List Symbol) (k : ℕ) → more ≡ symbols ++ replicate k blank → ArePlaced gates registers symbols → ArePlaced gates registers more
places_more gates registers symbols more k e h i s at =
    let there : slice_get (symbols ++ replicate k blank) i ≡ Some s = subst (λ ss. slice_get ss i ≡ Some s) e at in
    elim (cases_lt i (length symbols)) [
      | inl low ↦ h i s (slice_front symbols (replicate k blank) i s low there)
      | inr high ↦ subst (λ (y : Symbol). IsPlacedAt gates registers i y.role) (sym (slice_back symbols k blank i s high there)) tt
    ]

-- the role of a gate or register is its place in the list to which it is appended
driven_place : (gates registers : List GateLine) (g : GateLine) (i : ℕ) → g.out ≡ i →
    IsPlacedAt (gates ++ filter is_gate (g ∷ [])) (registers ++ filter is_register (g ∷ [])) i (if is_register_kind g.kind then register (length registers) else gate (length gates))
driven_place gates registers g i out =
    elim (is_register_kind g.kind) as (λ b. IsPlacedAt (gates ++ cond (not b) (g ∷ []) []) (registers ++ cond b (g ∷ []) []) i (if b then register (length registers) else gate (length gates))) [
      | true ↦ (g, slice_get-push registers g, out)
      | false ↦ (g, slice_get-push gates g, out)
    ]

some_kind : (k : Option Kind) → is_some k ≡ true → (kind : Kind) × (k ≡ Some kind)
some_kind None e = cc
some_kind (Some kind) e = (kind, refl)

abbrev line_by : ℕ → ℕ → List ℕ → Option Kind → Option GateLine
line_by out line operands o = option_map (λ kind. (let g : GateLine = record { out = out; kind = kind; operands = operands; line = line } in g)) o

own_place : (gates registers : List GateLine) (x : Statement) (u : Use) (us : List Use) (s : Symbol) → has_kind x ≡ true → IsPlacedAt gates registers u.signal s.role →
    IsPlacedAt (gates ++ filter is_gate (option_to_list (gate_line_with x u us))) (registers ++ filter is_register (option_to_list (gate_line_with x u us))) u.signal
    (symbol_after x s (length gates) (length registers)).role
own_place gates registers (Input word name) u us s good h = tt
own_place gates registers (Output word name) u us s good h = place_stays gates registers [] [] u.signal s.role h
own_place gates registers (Gate out word first others) u us s good h =
    let (kind, e) = some_kind (kind_of word.text) good in
    subst (λ o. IsPlacedAt (gates ++ filter is_gate (option_to_list (line_by u.signal out.line (map (λ v. v.signal) us) o)))
    (registers ++ filter is_register (option_to_list (line_by u.signal out.line (map (λ v. v.signal) us) o))) u.signal (driven_role o (length gates) (length registers))) (sym e)
    (driven_place gates registers (record { out = u.signal; kind = kind; operands = map (λ v. v.signal) us; line = out.line }) u.signal refl)

pub places_after : (gates registers : List GateLine) (symbols : List Symbol) (x : Statement) (u : Use) (us : List Use) (s : Symbol) → u.signal < length symbols → slice_get symbols u.signal ≡ Some s →
    has_kind x ≡ true → ArePlaced gates registers symbols →
    ArePlaced (gates ++ filter is_gate (option_to_list (gate_line_with x u us))) (registers ++ filter is_register (option_to_list (gate_line_with x u us)))
    (slice_set symbols u.signal (symbol_after x s (length gates) (length registers)))
places_after gates registers symbols x u us s low here good h i t at =
    elim (differ i u.signal) [
      | inl same ↦
          let is : t ≡ symbol_after x s (length gates) (length registers) =
          slice_get-set_same symbols u.signal (symbol_after x s (length gates) (length registers)) t low
          (subst (λ j. slice_get (slice_set symbols u.signal (symbol_after x s (length gates) (length registers))) j ≡ Some t) same at) in
          subst (λ j. IsPlacedAt (gates ++ filter is_gate (option_to_list (gate_line_with x u us))) (registers ++ filter is_register (option_to_list (gate_line_with x u us))) j t.role) (sym same)
          (subst (λ (y : Symbol). IsPlacedAt (gates ++ filter is_gate (option_to_list (gate_line_with x u us))) (registers ++ filter is_register (option_to_list (gate_line_with x u us))) u.signal y.role) (sym is)
          (own_place gates registers x u us s good (h u.signal s here)))
      | inr other ↦
          place_stays gates registers (filter is_gate (option_to_list (gate_line_with x u us))) (filter is_register (option_to_list (gate_line_with x u us))) i t.role
          (h i t (slice_get-set_other symbols u.signal i (symbol_after x s (length gates) (length registers)) t other at))
    ]

-- each of the first, and the last
pub all_front : {X : Type 0} (P : X → Type 0) (xs ys : List X) → All P (xs ++ ys) → All P xs
all_front P [] ys h = All-nil P
all_front P (x ∷ xs) ys h = All-cons P x xs (All-head P x (xs ++ ys) h) (all_front P xs ys (All-tail P x (xs ++ ys) h))

pub all_last : {X : Type 0} (P : X → Type 0) (xs : List X) (x : X) → All P (xs ++ x ∷ []) → P x
all_last P [] x h = All-head P x [] h
all_last P (y ∷ xs) x h = all_last P xs x (All-tail P y (xs ++ x ∷ []) h)
