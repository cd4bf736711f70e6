-- The tokens of a report as JSON, part by part.
use Rattle.std.proofs.Common.{◌≡◌, ◌∙◌, ap, sym, append_assoc, Result, Ok, Err, true, refl, ℕ, zero, suc, ◌+◌, ◌<◌, ◌≤◌, min, arith, Bool, false, List, [], ◌∷◌, ◌++◌, length, get_or, drop, add-one, drop-cons, Option, Some}
use Rattle.std.specs.Prelude.{◌≢◌, codes, decimal, slice_get, if◌then◌else◌}
use Rattle.std.specs.Str.{IsUtf8, is_utf8}
use Rattle.std.proofs.lemmas.Str.{IsUtf8-from_is_utf8, is_utf8-from_IsUtf8}
use Rattle.json.specs.Token.{Token, key, number, string}
use Rattle.json.specs.Written.{Writes, Written}
use Rattle.report_text.specs.declared.assignment.Assignment.{Assignment}
use Rattle.report_text.specs.Json.{Adds, assignment_tokens, variable_tokens, names_tokens, shown, undecided_tokens}
use Rattle.report_text.proofs.Wording.{first_support_bit, other_support_bits, there}

-- a variable with its bit, and then the rest
pub assignment_next : (which : Option Assignment) (vs : List (List ℕ)) (bs ms : List Bool) (i : ℕ) (v : List ℕ) (m : Bool) → i < length vs → i < length bs → slice_get vs i ≡ Some v → m ≡ get_or ms i true →
    assignment_tokens which (drop i vs) (drop i bs) (drop i ms) ≡ variable_tokens which v (get_or bs i false) m ++ assignment_tokens which (drop (i + 1) vs) (drop (i + 1) bs) (drop (i + 1) ms)
assignment_next which vs bs ms i v m lv lb ev em = rw (em, add-one, drop-cons vs i v, drop-cons bs i false, there vs i v v ev, first_support_bit ms i, other_support_bits ms i) refl

no_bits : (which : Option Assignment) (vs : List (List ℕ)) (ms : List Bool) → assignment_tokens which vs [] ms ≡ []
no_bits which [] ms = refl
no_bits which (v ∷ vs) ms = refl

-- after the last variable, or the last bit, nothing follows
pub assignment_over : (which : Option Assignment) (vs : List (List ℕ)) (bs ms : List Bool) (i : ℕ) → min (length bs) (length vs) ≤ i → assignment_tokens which (drop i vs) (drop i bs) ms ≡ []
assignment_over which [] bs ms zero le = refl
assignment_over which [] bs ms (suc i) le = refl
assignment_over which (v ∷ vs) [] ms zero le = refl
assignment_over which (v ∷ vs) [] ms (suc i) le = no_bits which (drop i vs) ms
assignment_over which (v ∷ vs) (b ∷ bs) ms zero le = absurd (omega (arith, le))
assignment_over which (v ∷ vs) (b ∷ bs) ms (suc i) le = assignment_over which vs bs ms i (omega (arith, le))

-- a variable, and then the rest
pub names_next : (vs : List (List ℕ)) (i : ℕ) (v n : List ℕ) → i < length vs → slice_get vs i ≡ Some v → n ≡ shown v → names_tokens (drop i vs) ≡ (string n ∷ []) ++ names_tokens (drop (i + 1) vs)
names_next vs i v n lt e is = rw (is, add-one, drop-cons vs i v, there vs i v v e) refl

-- nothing follows the last
pub names_over : (vs : List (List ℕ)) (i : ℕ) → length vs ≤ i → names_tokens (drop i vs) ≡ []
names_over [] zero le = refl
names_over [] (suc i) le = refl
names_over (v ∷ vs) zero le = absurd (omega (arith, le))
names_over (v ∷ vs) (suc i) le = names_over vs i (omega (arith, le))

-- a name that is UTF-8 is shown as it is
pub shown_whole : (name : List ℕ) → IsUtf8 name → shown name ≡ name
shown_whole name is = rw (is_utf8-from_IsUtf8 name is) refl

-- bytes that are no UTF-8 are shown as nothing
pub shown_none : (name : List ℕ) → (IsUtf8 name → ⊥) → shown name ≡ []
shown_none name not_one = by (is_utf8 name) (λ e. not_one (IsUtf8-from_is_utf8 name e))
  where
    by : (b : Bool) → (b ≡ true → ⊥) → if b then name else [] ≡ []
    by true n = absurd (n refl)
    by false n = refl

-- some tokens, and then others
pub both : (a b c : Written) (xs ys : List Token) → (b.before ≡ a.before) × (b.tokens ≡ a.tokens ++ xs) → (c.before ≡ b.before) × (c.tokens ≡ b.tokens ++ ys) → (c.before ≡ a.before) × (c.tokens ≡ a.tokens ++ (xs ++ ys))
both a b c xs ys first second = (second.0 ∙ first.0, second.1 ∙ ap (λ z. z ++ ys) first.1 ∙ append_assoc a.tokens xs ys)

pub adds_more : {E : Type 0} (r : Result (Unit {0}) E) (a b c : Written) (xs ys all : List Token) → all ≡ xs ++ ys → (b.before ≡ a.before) × (b.tokens ≡ a.tokens ++ xs) → Adds r b c ys → Adds r a c all
adds_more (Ok u) a b c xs ys all whole first second =
    let more = both a b c xs ys first second in
    (more.0, more.1 ∙ ap (λ z. a.tokens ++ z) (sym whole))
adds_more (Err e) a b c xs ys all whole first second = tt

-- one more token
pub written : {E : Type 0} (r : Result (Unit {0}) E) (a b : Written) (t : Token) → Writes r a b t → Adds r a b (t ∷ [])
written (Ok u) a b t w = (w.room.0, w.ok)
written (Err e) a b t w = tt

-- some pairs are undecided
pub some_undecided : (n : ℕ) → n ≢ 0 → undecided_tokens n ≡ key (codes "undecided") ∷ number (decimal n) ∷ []
some_undecided zero some = absurd (some refl)
some_undecided (suc n) some = refl
