-- What clap's parse of the command finds, and its faults.
use Rattle.std.proofs.Common.{◌≡◌, ◌∙◌, inl, inr, ap, sym, refl, ℕ, true, List, [], Option, Some, None, arith, ◌<◌, ◌≤◌, ◌^◌, Result, Ok, Err}
use Rattle.std.specs.Prelude.{find, min, max, unwrap_or, option_and_then, option_map}
use Rattle.std.specs.Str.{bytes_eq}
use Rattle.std.specs.Str.Parse.{ParsesUnsigned, digits_value, without_leading_plus}
use Rattle.clap.specs.Words.{App, Row, HasMatchesOf, IsUnsignedIn, ReadsOne, first_of, first_value, found_of, fault_of, is_simple, is_simple_and_free, kind_of, all_of, matched_of, matches_of, raw_values, rows_of}
use Rattle.clap.specs.Facts.{Entry}
use Rattle.clap.specs.Kinds.{HasKind}
use Rattle.clap.specs.Walk.{row_of}
use Rattle.clap.specs.declared.builder.value_parser.ValueParser.{ValueParser}
use Rattle.clap.specs.declared.error.Error.{Error}
use Rattle.clap.specs.declared.error.kind.ErrorKind.{ErrorKind}
use Rattle.clap.specs.declared.error.kind.ErrorKind.TheVariants.{OutOfMemory as NoMemory}
use Rattle.clap.specs.declared.parser.matches.ArgMatches.{ArgMatches}
use Rattle.clap.specs.declared.parser.matches.Found.{Found}
use Rattle.clap.proofs.OnLiterals.{clap_on_literals}
use Rattle.clap.proofs.WalkLemmas.{find_row, first_value-rows, raw_values-rows}
use Rattle.command_line.specs.declared.reading.Refused.{Refused}
use Rattle.command_line.specs.declared.reading.Refused.TheVariants.{Help, Mistake, OutOfMemory}
use Rattle.command_line.specs.declared.options.OrderChoice.{OrderChoice}
use Rattle.command_line.specs.Words.{tool_app, IsTool, IsNumberIn, default_limit, IsLimit, IsSeconds, AreMatches, IsReportedAs, IsRefusal}

tool_is_simple : (matching order format assignment difference : Option ValueParser) → is_simple (tool_app matching order format assignment difference) ≡ true
unfolding clap_on_literals
tool_is_simple matching order format assignment difference = refl

-- no argument has a rule about another
tool_is_free : (matching order format assignment difference : Option ValueParser) → is_simple_and_free (tool_app matching order format assignment difference) ≡ true
unfolding clap_on_literals
tool_is_free matching order format assignment difference = refl

pub is_free : (a : App) → IsTool a → is_simple_and_free a ≡ true
is_free a t = ap is_simple_and_free t.10 ∙ tool_is_free t.0 t.1 t.2 t.3 t.4

pub found : (a : App) (words : List (List ℕ)) (m : ArgMatches) → IsTool a → fault_of a words ≡ [] → HasMatchesOf a words m → AreMatches words (rows_of (found_of m))
found a words m t none h =
    (t.0, t.1, t.2, t.3, t.4, t.5, t.6, t.7, t.8, t.9, ap (λ x. fault_of x words) (sym t.10) ∙ none, (h (ap is_simple t.10 ∙ tool_is_simple t.0 t.1 t.2 t.3 t.4)).0 ∙ ap (λ x. matches_of x words) t.10)

-- want of memory is reported as such
starved : (kind : ErrorKind) (r : Refused) → kind ≡ NoMemory → IsReportedAs kind r → r ≡ OutOfMemory
starved kind (Help text) e (inl f) = cc
starved kind (Help text) e (inr f) = let is = f.0 in cc
starved kind (Mistake text) e t = absurd (t.2 e)
starved kind OutOfMemory e t = refl

pub refused : (a : App) (words : List (List ℕ)) (e : Error) (r : Refused) → IsTool a → HasKind (fault_of a words) e → IsReportedAs (kind_of e) r → IsRefusal words r
refused a words e r t (inl none) reported = inr (inr (inr (starved (kind_of e) r none reported)))
refused a words e r t (inr among) reported = inl (fault_of a words, kind_of e, (t.0, t.1, t.2, t.3, t.4, t.5, t.6, t.7, t.8, t.9, ap (λ x. fault_of x words) t.10), among, reported)

-- the number of a text is read, if it is in a range that fits
pub number_read : {E : Type 0} (G : List ℕ → Result ℕ E → Type 0) (k low high : ℕ) (word : Option (List ℕ)) (r : Option ℕ) (d n : ℕ) → ((t : List ℕ) → word ≡ Some t → ReadsOne G t r) → ((u : List ℕ) (x : Result ℕ E) → G u x → ParsesUnsigned k 10 u x)
    → high < 2 ^ k → n ≡ max low (min (unwrap_or r d) high) → IsNumberIn low high word n
number_read {E} G k low high None r d n read only fits is = tt
number_read {E} G k low high (Some t) r d n read only fits is = by r (read t refl) is
  where
    by : (r : Option ℕ) → ReadsOne G t r → n ≡ max low (min (unwrap_or r d) high) → IsUnsignedIn low high t → n ≡ digits_value 10 (without_leading_plus t)
    by (Some v) h e range =
        let same : v ≡ digits_value 10 (without_leading_plus t) = (only t (Ok v) h).1 in
        let above = range.2 in
        let below = range.3 in
        omega arith
    by None h e range = let below = range.3 in absurd (only t (Err h.0) h.1 (range.0, omega arith))

-- the same for a limit, which is the default if there is no text
pub limit_read : {E : Type 0} (G : List ℕ → Result ℕ E → Type 0) (choice : OrderChoice) (word : Option (List ℕ)) (r : Option ℕ) (d n : ℕ) → (word ≡ None → r ≡ None) → ((t : List ℕ) → word ≡ Some t → ReadsOne G t r)
    → ((u : List ℕ) (x : Result ℕ E) → G u x → ParsesUnsigned 64 10 u x) → d ≡ default_limit choice → 1 ≤ d → d ≤ 4294967295 → n ≡ max 1 (min (unwrap_or r d) 4294967295) → IsLimit word choice n
limit_read {E} G choice (Some t) r d n none read only is_default some few is = number_read G 64 1 4294967295 (Some t) r d n read only (omega arith) is
limit_read {E} G choice None r d n none read only is_default some few is =
    let same : unwrap_or r d ≡ d = ap (λ o. unwrap_or o d) (none refl) in
    let n_is : n ≡ d = omega arith in
    n_is ∙ is_default

-- and for the seconds after which a run stops
pub seconds_read : {E : Type 0} (G : List ℕ → Result ℕ E → Type 0) (word : Option (List ℕ)) (r : Option ℕ) → (word ≡ None → r ≡ None) → ((t : List ℕ) → word ≡ Some t → ReadsOne G t r)
    → ((u : List ℕ) (x : Result ℕ E) → G u x → ParsesUnsigned 64 10 u x) → IsSeconds word r
seconds_read {E} G None r none read only = none refl
seconds_read {E} G (Some t) r none read only = by r (read t refl)
  where
    by : (r : Option ℕ) → ReadsOne G t r → IsUnsignedIn 1 4294967295 t → r ≡ Some (digits_value 10 (without_leading_plus t))
    by (Some v) h range = ap Some (only t (Ok v) h).1
    by None h range = let below = range.3 in absurd (only t (Err h.0) h.1 (range.0, omega arith))

-- the source of an argument's row is that of its entry
pub source_row : (f : Found) (id : List ℕ) → option_and_then (λ a. a.source) (matched_of f id) ≡ option_and_then (λ (r : Row). r.source) (find (λ r. bytes_eq r.id id) (rows_of f))
source_row f id = go (find (λ (e : Entry). bytes_eq e.0.now id) f.entries.items) ∙ ap (option_and_then (λ (r : Row). r.source)) (sym (find_row f.entries.items id))
  where
    go : (o : Option Entry) → option_and_then (λ a. a.source) (option_map (λ e. e.1) o) ≡ option_and_then (λ (r : Row). r.source) (option_map row_of o)
    go None = refl
    go (Some e) = refl

-- the first value of an argument is that of its row
pub word_row : (f : Found) (id : List ℕ) → first_value f id ≡ first_of id (rows_of f)
word_row f id = first_value-rows f id

-- the values of an argument are those of its row
pub names_row : (f : Found) (id : List ℕ) → option_map raw_values (matched_of f id) ≡ all_of id (rows_of f)
names_row f id = raw_values-rows f id
