-- The circuit of sound statements.
use Rattle.std.proofs.Common.{◌≡◌, ◌≢◌, ◌⊎◌, inl, inr, ℕ, zero, suc, ◌<◌, ◌≤◌, List, [], ◌∷◌, Bool, true, false, refl, sym, ap, ◌∙◌, subst, IsTrue, map, length, get_or, take, arith}
use Rattle.std.specs.Prelude.{cond, ◌++◌, bytes_eq, flat_map, filter, filter_map, Contains, All, Option, Some, None, option_map, is_some, not}
use Rattle.std.specs.List.{list_any, list_all}
use Rattle.std.proofs.lemmas.List.{get_or-take, get_or_default}
use Rattle.std.proofs.lemmas.List.Folds.{list_any-append, list_all-append}
use Rattle.std.proofs.lemmas.Bool.{cases_lt}
use Rattle.net_bench.specs.declared.netlist.Kind.{Kind}
use Rattle.net_bench.specs.declared.netlist.Kind.TheVariants.{Dff}
use Rattle.net_bench.specs.declared.netlist.GateLine.{GateLine}
use Rattle.net_bench.specs.Text.{Word}
use Rattle.net_bench.specs.Statement.{Statement, Input, Output, Gate, kind_of, takes_one, interned, input_name, output_name, gate_name, uses, defined}
use Rattle.net_bench.specs.Circuit.{is_name_in, distinct, number_of, names_of, gate_with, gate_line, is_register_kind, is_register, is_gate, circuit_of, AreRanks, HaveNoRepeats, IsNet}
use Rattle.net_bench.specs.Fault.{redefines, is_among, has_wrong_operands, is_one_operand_kind, is_defined}
use Rattle.net_bench.specs.Heights.{HasOneGateEach}
use Rattle.net_bench.specs.Sound.{IsSound, has_kind}
use Rattle.net_bench.proofs.Numbers.{or_left, or_right, or_cases, in_distinct, contained_in, number_low, number_at, numbers_differ, name_itself, same_name, apart_distinct}
use Rattle.net_bench.proofs.Heights.{both_true}

-- ---- names of statements

abbrev Names : Type 0
Names = Statement → List (List ℕ)

in_one : (f : Names) (ss : List Statement) (s : Statement) (n : List ℕ) → Contains ss s → is_name_in (f s) n ≡ true → is_name_in (flat_map f ss) n ≡ true
in_one f [] s n (k, low, at) h = absurd (omega arith)
in_one f (t ∷ ss) s n (zero, low, at) h =
    list_any-append (λ m. bytes_eq m n) (f t) (flat_map f ss) ∙ or_left (is_name_in (f t) n) (is_name_in (flat_map f ss) n) (ap (λ u. is_name_in (f u) n) at ∙ h)
in_one f (t ∷ ss) s n (suc k, low, at) h =
    list_any-append (λ m. bytes_eq m n) (f t) (flat_map f ss) ∙ or_right (is_name_in (f t) n) (is_name_in (flat_map f ss) n) (in_one f ss s n (k, omega arith, at) h)

abbrev Holder : Names → List Statement → List ℕ → Type 0
Holder f ss n = (s : Statement) × Contains ss s × (is_name_in (f s) n ≡ true)

later : (f : Names) (t : Statement) (ss : List Statement) (n : List ℕ) → Holder f ss n → Holder f (t ∷ ss) n
later f t ss n (s, (k, low, at), h) = (s, (suc k, omega arith, at), h)

holder : (f : Names) (ss : List Statement) (n : List ℕ) → is_name_in (flat_map f ss) n ≡ true → Holder f ss n
holder f [] n h = cc
holder f (t ∷ ss) n h =
    elim (or_cases (is_name_in (f t) n) (is_name_in (flat_map f ss) n) (sym (list_any-append (λ m. bytes_eq m n) (f t) (flat_map f ss)) ∙ h)) [
      | inl e ↦ (t, (0, omega arith, refl), e)
      | inr e ↦ later f t ss n (holder f ss n e)
    ]

abbrev IsWithin : Names → Names → Type 0
IsWithin f g = (s : Statement) (n : List ℕ) → is_name_in (f s) n ≡ true → is_name_in (g s) n ≡ true

within : (f g : Names) (ss : List Statement) (n : List ℕ) → IsWithin f g → is_name_in (flat_map f ss) n ≡ true → is_name_in (flat_map g ss) n ≡ true
within f g ss n h e = let s : Holder f ss n = holder f ss n e in in_one g ss s.0 n s.1 (h s.0 n s.2)

nothing : (n : List ℕ) (X : Type 0) → is_name_in [] n ≡ true → X
nothing n X e = cc

inputs_interned : IsWithin input_name interned
inputs_interned (Input word name) n e = e
inputs_interned (Output word name) n e = nothing n _ e
inputs_interned (Gate out word first others) n e = nothing n _ e

outputs_interned : IsWithin output_name interned
outputs_interned (Input word name) n e = nothing n _ e
outputs_interned (Output word name) n e = e
outputs_interned (Gate out word first others) n e = nothing n _ e

gates_interned : IsWithin gate_name interned
gates_interned (Input word name) n e = nothing n _ e
gates_interned (Output word name) n e = nothing n _ e
gates_interned (Gate out word first others) n e = elim (or_cases (bytes_eq out.text n) false e) [ inl h ↦ or_left (bytes_eq out.text n) _ h | inr h ↦ cc ]

pub in_names : (f : Names) (ss : List Statement) (n : List ℕ) → IsWithin f interned → is_name_in (flat_map f ss) n ≡ true → is_name_in (names_of ss) n ≡ true
in_names f ss n h e = in_distinct (flat_map interned ss) n ∙ within f interned ss n h e

-- ---- where an element of a filter comes from

abbrev Origin : {X Y : Type 0} → (X → Option Y) → List X → Y → Type 0
Origin {X} {Y} h xs y = (p : ℕ) × (p < length xs) × ((d : X) → h (get_or xs p d) ≡ Some y)

abbrev Pair : {X Y : Type 0} → (X → Option Y) → List X → Y → Y → Type 0
Pair {X} {Y} h xs y z = (p q : ℕ) × (p < q) × (q < length xs) × ((d : X) → h (get_or xs p d) ≡ Some y) × ((d : X) → h (get_or xs q d) ≡ Some z)

on_origin : {X Y : Type 0} (h : X → Option Y) (x : X) (xs : List X) (y : Y) → Origin h xs y → Origin h (x ∷ xs) y
on_origin h x xs y (p, low, at) = (suc p, omega arith, (λ d. at d))

on_pair : {X Y : Type 0} (h : X → Option Y) (x : X) (xs : List X) (y z : Y) → Pair h xs y z → Pair h (x ∷ xs) y z
on_pair h x xs y z (p, q, lt, low, at, there) = (suc p, suc q, omega arith, omega arith, (λ d. at d), (λ d. there d))

first_pair : {X Y : Type 0} (h : X → Option Y) (x : X) (xs : List X) (y z : Y) → h x ≡ Some y → Origin h xs z → Pair h (x ∷ xs) y z
first_pair h x xs y z e (q, low, there) = (0, suc q, omega arith, omega arith, (λ d. e), (λ d. there d))

kept_origin : {X Y : Type 0} (h : X → Option Y) (x : X) (xs : List X) (o : Option Y) → h x ≡ o → ((i : ℕ) (e : Y) → i < length (filter_map h xs) → Origin h xs (get_or (filter_map h xs) i e)) →
    (i : ℕ) (e : Y) → i < length (Rattle.std.specs.List.cons_option o (filter_map h xs)) → Origin h (x ∷ xs) (get_or (Rattle.std.specs.List.cons_option o (filter_map h xs)) i e)
kept_origin h x xs None is more i e low = on_origin h x xs _ (more i e low)
kept_origin h x xs (Some y) is more zero e low = (0, omega arith, (λ d. is))
kept_origin h x xs (Some y) is more (suc i) e low = on_origin h x xs _ (more i e (omega arith))

pub origin : {X Y : Type 0} (h : X → Option Y) (xs : List X) (i : ℕ) (e : Y) → i < length (filter_map h xs) → Origin h xs (get_or (filter_map h xs) i e)
origin h [] i e low = absurd (omega arith)
origin h (x ∷ xs) i e low = kept_origin h x xs (h x) refl (origin h xs) i e low

kept_pair : {X Y : Type 0} (h : X → Option Y) (x : X) (xs : List X) (o : Option Y) → h x ≡ o →
    ((i j : ℕ) (e : Y) → i < j → j < length (filter_map h xs) → Pair h xs (get_or (filter_map h xs) i e) (get_or (filter_map h xs) j e)) →
    (i j : ℕ) (e : Y) → i < j → j < length (Rattle.std.specs.List.cons_option o (filter_map h xs)) →
    Pair h (x ∷ xs) (get_or (Rattle.std.specs.List.cons_option o (filter_map h xs)) i e) (get_or (Rattle.std.specs.List.cons_option o (filter_map h xs)) j e)
kept_pair h x xs None is more i j e lt low = on_pair h x xs _ _ (more i j e lt low)
kept_pair h x xs (Some y) is more i zero e lt low = absurd (omega arith)
kept_pair h x xs (Some y) is more zero (suc j) e lt low = first_pair h x xs y _ is (origin h xs j e (omega arith))
kept_pair h x xs (Some y) is more (suc i) (suc j) e lt low = on_pair h x xs _ _ (more i j e (omega arith) (omega arith))

pub pair : {X Y : Type 0} (h : X → Option Y) (xs : List X) (i j : ℕ) (e : Y) → i < j → j < length (filter_map h xs) → Pair h xs (get_or (filter_map h xs) i e) (get_or (filter_map h xs) j e)
pair h [] i j e lt low = absurd (omega arith)
pair h (x ∷ xs) i j e lt low = kept_pair h x xs (h x) refl (pair h xs) i j e lt low

-- ---- what a gate's statement is

abbrev IsOf : List (List ℕ) → Statement → GateLine → Type 0
IsOf names (Input word name) g = ⊥
IsOf names (Output word name) g = ⊥
IsOf names (Gate out word first others) g = (kind : Kind) × (kind_of word.text ≡ Some kind) × (g ≡ gate_with names out kind (first ∷ others))

mapped : (names : List (List ℕ)) (out word first : Word) (others : List Word) (o : Option Kind) (g : GateLine) → kind_of word.text ≡ o →
    option_map (λ kind. gate_with names out kind (first ∷ others)) o ≡ Some g → IsOf names (Gate out word first others) g
mapped names out word first others None g is e = cc
mapped names out word first others (Some kind) g is e = (kind, is, sym (cc))

pub is_of : (names : List (List ℕ)) (s : Statement) (g : GateLine) → gate_line names s ≡ Some g → IsOf names s g
is_of names (Input word name) g e = cc
is_of names (Output word name) g e = cc
is_of names (Gate out word first others) g e = mapped names out word first others (kind_of word.text) g refl e

-- the statement's name, and its number
pub out_of : (names : List (List ℕ)) (s : Statement) (g : GateLine) → IsOf names s g → (n : List ℕ) × (g.out ≡ number_of names n) × (gate_name s ≡ n ∷ [])
out_of names (Input word name) g h = absurd h
out_of names (Output word name) g h = absurd h
out_of names (Gate out word first others) g (kind, is, e) = (out.text, ap (λ x. x.out) e, refl)

-- ---- operands

is_in_texts : (ws : List Word) (k : ℕ) (d : Word) → k < length ws → is_name_in (map (λ w. w.text) ws) (get_or ws k d).text ≡ true
is_in_texts [] k d low = absurd (omega arith)
is_in_texts (w ∷ ws) zero d low = or_left (bytes_eq w.text w.text) _ (name_itself w.text)
is_in_texts (w ∷ ws) (suc k) d low = or_right (bytes_eq w.text (get_or ws k d).text) _ (is_in_texts ws k d (omega arith))

at_map : {X Y : Type 0} (f : X → Y) (xs : List X) (k : ℕ) (d : X) (e : Y) → k < length (map f xs) → (k < length xs) × (get_or (map f xs) k e ≡ f (get_or xs k d))
at_map f [] k d e low = absurd (omega arith)
at_map f (x ∷ xs) zero d e low = (omega arith, refl)
at_map f (x ∷ xs) (suc k) d e low = let more : (k < length xs) × (get_or (map f xs) k e ≡ f (get_or xs k d)) = at_map f xs k d e (omega arith) in (omega arith, more.1)

blank_word : Word
blank_word = record { line = 0; text = [] }

blank : Statement
blank = Input (record { line = 0; text = [] }) (record { line = 0; text = [] })

operands_interned : (names : List (List ℕ)) (s : Statement) (g : GateLine) → IsOf names s g → ((n : List ℕ) → is_name_in (interned s) n ≡ true → is_name_in names n ≡ true) → All (λ t. t < length names) g.operands
operands_interned names (Input word name) g h all = absurd h
operands_interned names (Output word name) g h all = absurd h
operands_interned names (Gate out word first others) g (kind, is, e) all =
    subst (λ (ts : List ℕ). All (λ t. t < length names) ts) (sym (ap (λ x. x.operands) e))
    (λ k d low.
    let w : Word = get_or (first ∷ others) k blank_word in
    let m : (k < length (first ∷ others)) × (get_or (map (λ v. number_of names v.text) (first ∷ others)) k d ≡ number_of names (get_or (first ∷ others) k blank_word).text) =
    at_map (λ (v : Word). number_of names v.text) (first ∷ others) k blank_word d low in
    let there : is_name_in names (get_or (first ∷ others) k blank_word).text ≡ true =
    all (get_or (first ∷ others) k blank_word).text (or_right (bytes_eq out.text _) _ (is_in_texts (first ∷ others) k blank_word m.0)) in
    subst (λ i. i < length names) (sym m.1) (number_low names (get_or (first ∷ others) k blank_word).text there))

has_operand : (names : List (List ℕ)) (s : Statement) (g : GateLine) → IsOf names s g → 0 < length g.operands
has_operand names (Input word name) g h = absurd h
has_operand names (Output word name) g h = absurd h
has_operand names (Gate out word first others) g (kind, is, e) = subst (λ (ts : List ℕ). 0 < length ts) (sym (ap (λ x. x.operands) e)) (omega arith)

one_operand : (names : List (List ℕ)) (s : Statement) (g : GateLine) → IsOf names s g → has_wrong_operands s ≡ false → IsTrue (takes_one g.kind) → length g.operands ≡ 1
one_operand names (Input word name) g h good one = absurd h
one_operand names (Output word name) g h good one = absurd h
one_operand names (Gate out word first []) g (kind, is, e) good one = ap (λ x. length x.operands) e
one_operand names (Gate out word first (second ∷ others)) g (kind, is, e) good one =
    let here : is_one_operand_kind (kind_of word.text) ≡ true = ap is_one_operand_kind is ∙ ap takes_one (sym (ap (λ x. x.kind) e)) ∙ one in
    let bad : has_wrong_operands (Gate out word first (second ∷ others)) ≡ true = here in
    cc

-- ---- order of statements

abbrev Before : List Statement → ℕ → Statement → Type 0
Before ss q s = Contains (take q ss) s

take_low : (ss : List Statement) (p q : ℕ) → p < q → q ≤ length ss → p < length (take q ss)
take_low ss p q lt low = let e : length (take q ss) ≡ Rattle.std.specs.Prelude.min q (length ss) = Rattle.std.proofs.Math.ListN.length-take q ss in omega arith

before : (ss : List Statement) (p q : ℕ) → p < q → q < length ss → Contains (take q ss) (get_or ss p blank)
before ss p q lt low =
    (p, take_low ss p q lt (omega arith), get_or-take q ss p (get_or ss p blank) lt ∙ get_or_default ss p (get_or ss p blank) blank (omega arith))

single : (f : Names) (s : Statement) (n : List ℕ) → f s ≡ n ∷ [] → is_name_in (f s) n ≡ true
single f s n e = ap (λ l. is_name_in l n) e ∙ or_left (bytes_eq n n) false (name_itself n)

any_single : (p : List ℕ → Bool) (xs : List (List ℕ)) (n : List ℕ) → is_name_in xs n ≡ true → p n ≡ true → list_any p xs ≡ true
any_single p [] n e h = cc
any_single p (x ∷ xs) n e h =
    elim (or_cases (bytes_eq x n) (is_name_in xs n) e) [
      | inl f ↦ or_left (p x) (list_any p xs) (ap p (same_name x n f) ∙ h)
      | inr f ↦ or_right (p x) (list_any p xs) (any_single p xs n f h)
    ]

-- the statement is a second definition of the name of a gate before it
again_gate : (front : List Statement) (s t : Statement) (n : List ℕ) → Contains front s → is_name_in (gate_name s) n ≡ true → is_name_in (defined t) n ≡ true → redefines front t ≡ true
again_gate front s t n among has here =
    or_left _ _ (any_single (λ m. is_among m (flat_map gate_name front)) (defined t) n here (in_one gate_name front s n among has))

-- the gate's name is the name of an INPUT before it
again_input : (front : List Statement) (s t : Statement) (n : List ℕ) → Contains front s → is_name_in (input_name s) n ≡ true → is_name_in (gate_name t) n ≡ true → redefines front t ≡ true
again_input front s t n among has here =
    or_right _ _ (any_single (λ m. is_among m (flat_map input_name front)) (gate_name t) n here (in_one input_name front s n among has))

defined_gate : (t : Statement) (n : List ℕ) → is_name_in (gate_name t) n ≡ true → is_name_in (defined t) n ≡ true
defined_gate t n h = list_any-append (λ m. bytes_eq m n) (input_name t) (gate_name t) ∙ or_right _ _ h

defined_input : (t : Statement) (n : List ℕ) → is_name_in (input_name t) n ≡ true → is_name_in (defined t) n ≡ true
defined_input t n h = list_any-append (λ m. bytes_eq m n) (input_name t) (gate_name t) ∙ or_left _ _ h

no_input : (names : List (List ℕ)) (s : Statement) (g : GateLine) (n : List ℕ) → IsOf names s g → is_name_in (input_name s) n ≡ true → ⊥
no_input names (Input word name) g n h e = h
no_input names (Output word name) g n h e = h
no_input names (Gate out word first others) g n h e = cc

-- ---- uses

all_of_flat : {X Y : Type 0} (p : Y → Bool) (f : X → List Y) (xs : List X) (x : X) → list_all p (flat_map f xs) ≡ true → Contains xs x → list_all p (f x) ≡ true
all_of_flat p f [] x e (k, low, at) = absurd (omega arith)
all_of_flat p f (y ∷ ys) x e (zero, low, at) = ap (λ z. list_all p (f z)) (sym at) ∙ (both_true (list_all p (f y)) _ (sym (list_all-append p (f y) (flat_map f ys)) ∙ e)).0
all_of_flat p f (y ∷ ys) x e (suc k, low, at) = all_of_flat p f ys x (both_true (list_all p (f y)) _ (sym (list_all-append p (f y) (flat_map f ys)) ∙ e)).1 (k, omega arith, at)

all_texts : (names : List (List ℕ)) (ws : List Word) (n : List ℕ) → list_all (λ w. is_name_in names w.text) ws ≡ true → is_name_in (map (λ w. w.text) ws) n ≡ true → is_name_in names n ≡ true
all_texts names [] n all e = cc
all_texts names (w ∷ ws) n all e =
    elim (or_cases (bytes_eq w.text n) (is_name_in (map (λ v. v.text) ws) n) e) [
      | inl f ↦ ap (is_name_in names) (sym (same_name w.text n f)) ∙ (both_true _ _ all).0
      | inr f ↦ all_texts names ws n (both_true _ _ all).1 f
    ]

-- each name that a statement mentions is defined, if its uses are
interned_defined : (names : List (List ℕ)) (t : Statement) (n : List ℕ) → ((m : List ℕ) → is_name_in (defined t) m ≡ true → is_name_in names m ≡ true) →
    list_all (λ w. is_name_in names w.text) (uses t) ≡ true → is_name_in (interned t) n ≡ true → is_name_in names n ≡ true
interned_defined names (Input word name) n own all e = own n e
interned_defined names (Output word name) n own all e = all_texts names (name ∷ []) n all e
interned_defined names (Gate out word first others) n own all e =
    elim (or_cases (bytes_eq out.text n) (is_name_in (map (λ v. v.text) (first ∷ others)) n) e) [
      | inl f ↦ own n (or_left (bytes_eq out.text n) _ f)
      | inr f ↦ all_texts names (first ∷ others) n all f
    ]

pub contains_map : {X Y : Type 0} (f : X → Y) (xs : List X) (k : ℕ) (x : X) → k < length xs → get_or xs k x ≡ x → Contains (map f xs) (f x)
contains_map f [] k x low at = absurd (omega arith)
contains_map f (y ∷ ys) zero x low at = (0, omega arith, ap f at)
contains_map f (y ∷ ys) (suc k) x low at = let more : Contains (map f ys) (f x) = contains_map f ys k x (omega arith) at in (suc more.0, omega arith, more.2)

kept_one : {Y : Type 0} (o : Option Y) (ys : List Y) (y : Y) → Contains ys y → Contains (Rattle.std.specs.List.cons_option o ys) y
kept_one None ys y m = m
kept_one (Some z) ys y (k, low, at) = (suc k, omega arith, at)

this_one : {Y : Type 0} (o : Option Y) (ys : List Y) (y : Y) → o ≡ Some y → Contains (Rattle.std.specs.List.cons_option o ys) y
this_one None ys y e = cc
this_one (Some z) ys y e = (0, omega arith, cc)

contains_filtered : {X Y : Type 0} (h : X → Option Y) (xs : List X) (k : ℕ) (x : X) (y : Y) → k < length xs → get_or xs k x ≡ x → h x ≡ Some y → Contains (filter_map h xs) y
contains_filtered h [] k x y low at e = absurd (omega arith)
contains_filtered h (z ∷ zs) zero x y low at e = this_one (h z) (filter_map h zs) y (ap h at ∙ e)
contains_filtered h (z ∷ zs) (suc k) x y low at e = kept_one (h z) (filter_map h zs) y (contains_filtered h zs k x y (omega arith) at e)

-- the gate of a statement whose word has a kind
abbrev GateOf : List (List ℕ) → Statement → List ℕ → Type 0
GateOf names t n = (g : GateLine) × (gate_line names t ≡ Some g) × (g.out ≡ number_of names n)

with_kind : (names : List (List ℕ)) (out word first : Word) (others : List Word) (o : Option Kind) → kind_of word.text ≡ o → is_some o ≡ true → GateOf names (Gate out word first others) out.text
with_kind names out word first others None is e = cc
with_kind names out word first others (Some kind) is e =
    (gate_with names out kind (first ∷ others), ap (λ o. option_map (λ k. gate_with names out k (first ∷ others)) o) is, refl)

gate_of : (names : List (List ℕ)) (t : Statement) (n : List ℕ) → has_kind t ≡ true → is_name_in (gate_name t) n ≡ true → GateOf names t n
gate_of names (Input word name) n h e = cc
gate_of names (Output word name) n h e = cc
gate_of names (Gate out word first others) n h e =
    elim (or_cases (bytes_eq out.text n) false e) [
      | inl f ↦ subst (GateOf names (Gate out word first others)) (same_name out.text n f) (with_kind names out word first others (kind_of word.text) refl h)
      | inr f ↦ cc
    ]

pub number_back : (xs : List (List ℕ)) (s : ℕ) → s < length (distinct xs) → number_of (distinct xs) (get_or (distinct xs) s []) ≡ s
number_back xs s low =
    let n : List ℕ = get_or (distinct xs) s [] in
    let there : is_name_in (distinct xs) (get_or (distinct xs) s []) ≡ true = contained_in (distinct xs) (get_or (distinct xs) s []) (s, low, get_or_default (distinct xs) s _ [] low) in
    let in_bounds : number_of (distinct xs) (get_or (distinct xs) s []) < length (distinct xs) = number_low (distinct xs) (get_or (distinct xs) s []) there in
    let at : get_or (distinct xs) (number_of (distinct xs) (get_or (distinct xs) s [])) [] ≡ get_or (distinct xs) s [] = number_at (distinct xs) (get_or (distinct xs) s []) [] there in
    elim (cases_lt (number_of (distinct xs) (get_or (distinct xs) s [])) s) [
      | inl lt ↦ absurd (apart_distinct xs (number_of (distinct xs) (get_or (distinct xs) s [])) s lt low at)
      | inr le ↦ elim (cases_lt s (number_of (distinct xs) (get_or (distinct xs) s []))) [
        | inl lt ↦ absurd (apart_distinct xs s (number_of (distinct xs) (get_or (distinct xs) s [])) lt in_bounds (sym at))
        | inr ge ↦ omega arith
      ]
    ]

-- ---- what a test keeps of a list

abbrev Kept : {X : Type 0} → (X → Bool) → List X → X → Type 0
Kept {X} t xs y = (p : ℕ) × (p < length xs) × ((d : X) → get_or xs p d ≡ y) × (t y ≡ true)

abbrev KeptTwo : {X : Type 0} → List X → X → X → Type 0
KeptTwo {X} xs y z = (p q : ℕ) × (p < q) × (q < length xs) × ((d : X) → get_or xs p d ≡ y) × ((d : X) → get_or xs q d ≡ z)

on_kept : {X : Type 0} (t : X → Bool) (x : X) (xs : List X) (y : X) → Kept t xs y → Kept t (x ∷ xs) y
on_kept t x xs y (p, low, at, is) = (suc p, omega arith, (λ d. at d), is)

on_two : {X : Type 0} (x : X) (xs : List X) (y z : X) → KeptTwo xs y z → KeptTwo (x ∷ xs) y z
on_two x xs y z (p, q, lt, low, at, there) = (suc p, suc q, omega arith, omega arith, (λ d. at d), (λ d. there d))

first_two : {X : Type 0} (t : X → Bool) (x : X) (xs : List X) (z : X) → Kept t xs z → KeptTwo (x ∷ xs) x z
first_two t x xs z (q, low, there, is) = (0, suc q, omega arith, omega arith, (λ d. refl), (λ d. there d))

kept_from : {X : Type 0} (t : X → Bool) (x : X) (xs : List X) (b : Bool) → t x ≡ b → ((i : ℕ) (e : X) → i < length (filter t xs) → Kept t xs (get_or (filter t xs) i e)) →
    (i : ℕ) (e : X) → i < length (cond b (x ∷ filter t xs) (filter t xs)) → Kept t (x ∷ xs) (get_or (cond b (x ∷ filter t xs) (filter t xs)) i e)
kept_from t x xs false is more i e low = on_kept t x xs _ (more i e low)
kept_from t x xs true is more zero e low = (0, omega arith, (λ d. refl), is)
kept_from t x xs true is more (suc i) e low = on_kept t x xs _ (more i e (omega arith))

kept_at : {X : Type 0} (t : X → Bool) (xs : List X) (i : ℕ) (e : X) → i < length (filter t xs) → Kept t xs (get_or (filter t xs) i e)
kept_at t [] i e low = absurd (omega arith)
kept_at t (x ∷ xs) i e low = kept_from t x xs (t x) refl (kept_at t xs) i e low

two_from : {X : Type 0} (t : X → Bool) (x : X) (xs : List X) (b : Bool) →
    ((i j : ℕ) (e : X) → i < j → j < length (filter t xs) → KeptTwo xs (get_or (filter t xs) i e) (get_or (filter t xs) j e)) →
    (i j : ℕ) (e : X) → i < j → j < length (cond b (x ∷ filter t xs) (filter t xs)) → KeptTwo (x ∷ xs) (get_or (cond b (x ∷ filter t xs) (filter t xs)) i e) (get_or (cond b (x ∷ filter t xs) (filter t xs)) j e)
two_from t x xs false more i j e lt low = on_two x xs _ _ (more i j e lt low)
two_from t x xs true more i zero e lt low = absurd (omega arith)
two_from t x xs true more zero (suc j) e lt low = first_two t x xs _ (kept_at t xs j e (omega arith))
two_from t x xs true more (suc i) (suc j) e lt low = on_two x xs _ _ (more i j e (omega arith) (omega arith))

kept_two : {X : Type 0} (t : X → Bool) (xs : List X) (i j : ℕ) (e : X) → i < j → j < length (filter t xs) → KeptTwo xs (get_or (filter t xs) i e) (get_or (filter t xs) j e)
kept_two t [] i j e lt low = absurd (omega arith)
kept_two t (x ∷ xs) i j e lt low = two_from t x xs (t x) (kept_two t xs) i j e lt low

all_kept : {X : Type 0} (P : X → Type 0) (t : X → Bool) (xs : List X) → All P xs → All P (filter t xs)
all_kept P t xs all i e low = let o : Kept t xs (get_or (filter t xs) i e) = kept_at t xs i e low in subst P (o.2 e) (all o.0 e o.1)

all_true : {X : Type 0} (t : X → Bool) (xs : List X) → All (λ x. IsTrue (t x)) (filter t xs)
all_true t xs i e low = (kept_at t xs i e low).3

kept_once : (t : GateLine → Bool) (gs : List GateLine) → HasOneGateEach gs → HasOneGateEach (filter t gs)
kept_once t gs once i j e lt low same =
    let two : KeptTwo gs (get_or (filter t gs) i e) (get_or (filter t gs) j e) = kept_two t gs i j e lt low in
    once two.0 two.1 e two.2 two.3 (ap (λ (g : GateLine). g.out) (two.4 e) ∙ same ∙ sym (ap (λ (g : GateLine). g.out) (two.5 e)))

kept_this : {X : Type 0} (b : Bool) (ys : List X) (x y : X) → x ≡ y → b ≡ true → Contains (cond b (x ∷ ys) ys) y
kept_this true ys x y e is = (0, omega arith, e)
kept_this false ys x y e is = cc

kept_later : {X : Type 0} (b : Bool) (ys : List X) (x y : X) → Contains ys y → Contains (cond b (x ∷ ys) ys) y
kept_later true ys x y (k, low, at) = (suc k, omega arith, at)
kept_later false ys x y m = m

contains_kept : {X : Type 0} (t : X → Bool) (xs : List X) (y : X) (k : ℕ) → k < length xs → get_or xs k y ≡ y → t y ≡ true → Contains (filter t xs) y
contains_kept t [] y k low at is = absurd (omega arith)
contains_kept t (x ∷ xs) y zero low at is = kept_this (t x) (filter t xs) x y at (ap t at ∙ is)
contains_kept t (x ∷ xs) y (suc k) low at is = kept_later (t x) (filter t xs) x y (contains_kept t xs y k (omega arith) at is)

-- ---- appended lists

all_append : {X : Type 0} (P : X → Type 0) (xs ys : List X) → All P xs → All P ys → All P (xs ++ ys)
all_append P [] ys a b k d low = b k d low
all_append P (x ∷ xs) ys a b zero d low = a 0 d (omega arith)
all_append P (x ∷ xs) ys a b (suc k) d low = all_append P xs ys (λ i e lt. a (suc i) e (omega arith)) b k d (omega arith)

all_map : {X Y : Type 0} (P : Y → Type 0) (f : X → Y) (xs : List X) → All (λ x. P (f x)) xs → All P (map f xs)
all_map P f [] a k d low = absurd (omega arith)
all_map P f (x ∷ xs) a zero d low = a 0 x (omega arith)
all_map P f (x ∷ xs) a (suc k) d low = all_map P f xs (λ i e lt. a (suc i) e (omega arith)) k d (omega arith)

pub in_front : (xs ys : List ℕ) (s : ℕ) → Contains xs s → Contains (xs ++ ys) s
in_front [] ys s (k, low, at) = absurd (omega arith)
in_front (x ∷ xs) ys s (zero, low, at) = (0, omega arith, at)
in_front (x ∷ xs) ys s (suc k, low, at) = let m : Contains (xs ++ ys) s = in_front xs ys s (k, omega arith, at) in (suc m.0, omega (arith, m.1), m.2)

pub in_back : (xs ys : List ℕ) (s : ℕ) → Contains ys s → Contains (xs ++ ys) s
in_back [] ys s m = m
in_back (x ∷ xs) ys s m = let more : Contains (xs ++ ys) s = in_back xs ys s m in (suc more.0, omega (arith, more.1), more.2)

once_append : (xs ys : List ℕ) → HaveNoRepeats xs → HaveNoRepeats ys → All (λ x. All (λ y. y ≢ x) ys) xs → HaveNoRepeats (xs ++ ys)
once_append [] ys a b c i j lt low e = b i j lt low e
once_append (x ∷ xs) ys a b c i zero lt low e = absurd (omega arith)
once_append (x ∷ xs) ys a b c zero (suc j) lt low e =
    all_append (λ y. y ≢ x) xs ys (λ k d in_bounds f. a 0 (suc k) (omega arith) (omega arith) (sym f ∙ get_or_default xs k d 0 in_bounds)) (c 0 x (omega arith)) j 0 (omega arith) (sym e)
once_append (x ∷ xs) ys a b c (suc i) (suc j) lt low e =
    once_append xs ys (λ k l before in_bounds f. a (suc k) (suc l) (omega arith) (omega arith) f) b (λ k d in_bounds. c (suc k) d (omega arith)) i j (omega arith) (omega arith) e

blank_line : GateLine
blank_line = record { out = 0; kind = Dff; operands = []; line = 0 }

once_map : (gs : List GateLine) → HasOneGateEach gs → HaveNoRepeats (map (λ g. g.out) gs)
once_map gs once i j lt low e =
    let second : (j < length gs) × (get_or (map (λ (g : GateLine). g.out) gs) j 0 ≡ (get_or gs j blank_line).out) = at_map (λ (g : GateLine). g.out) gs j blank_line 0 low in
    let first : (i < length gs) × (get_or (map (λ (g : GateLine). g.out) gs) i 0 ≡ (get_or gs i blank_line).out) = at_map (λ (g : GateLine). g.out) gs i blank_line 0 (omega arith) in
    once i j blank_line lt second.0 (sym first.1 ∙ e ∙ second.1)

-- ---- registers

not_both : (b : Bool) → b ≡ true → not b ≡ true → ⊥
not_both true e f = cc
not_both false e f = cc

register_takes_one : (k : Kind) → is_register_kind k ≡ true → takes_one k ≡ true
register_takes_one Dff e = refl
register_takes_one k e = cc

module _ (ss : List Statement) (sound : IsSound ss) where
  abbrev names : List (List ℕ)
  names = names_of ss

  -- gates and registers together
  abbrev lines : List GateLine
  lines = filter_map (gate_line names) ss

  never : (q : ℕ) (X : Type 0) → q < length ss → redefines (take q ss) (get_or ss q blank) ≡ true → X
  never q X low h = let e : redefines (take q ss) (get_or ss q blank) ≡ false = sound.once q blank low in cc

  abbrev Out : ℕ → GateLine → Type 0
  Out p g = (n : List ℕ) × (g.out ≡ number_of names n) × (is_name_in (gate_name (get_or ss p blank)) n ≡ true) × (is_name_in names n ≡ true) × IsOf names (get_or ss p blank) g

  out_at : (p : ℕ) (g : GateLine) → p < length ss → gate_line names (get_or ss p blank) ≡ Some g → Out p g
  out_at p g low e =
      let s : Statement = get_or ss p blank in
      let is : IsOf names (get_or ss p blank) g = is_of names (get_or ss p blank) g e in
      let o : (n : List ℕ) × (g.out ≡ number_of names n) × (gate_name (get_or ss p blank) ≡ n ∷ []) = out_of names (get_or ss p blank) g is in
      let here : is_name_in (gate_name (get_or ss p blank)) o.0 ≡ true = single gate_name (get_or ss p blank) o.0 o.2 in
      (o.0, o.1, here, in_names gate_name ss o.0 gates_interned (in_one gate_name ss (get_or ss p blank) o.0 (p, low, get_or_default ss p (get_or ss p blank) blank low) here), is)

  one_line : HasOneGateEach lines
  one_line i j d lt low e =
      let two : Pair (gate_line names) ss (get_or lines i d) (get_or lines j d) = pair (gate_line names) ss i j d lt low in
      let first : Out two.0 (get_or lines i d) = out_at two.0 (get_or lines i d) (omega arith) (two.4 blank) in
      let second : Out two.1 (get_or lines j d) = out_at two.1 (get_or lines j d) two.3 (two.5 blank) in
      let same : first.0 ≡ second.0 = numbers_differ names first.0 second.0 first.3 second.3 (sym first.1 ∙ e ∙ second.1) in
      never two.1 ⊥ two.3 (again_gate (take two.1 ss) (get_or ss two.0 blank) (get_or ss two.1 blank) second.0 (before ss two.0 two.1 two.2 two.3)
      (subst (λ n. is_name_in (gate_name (get_or ss two.0 blank)) n ≡ true) same first.2) (defined_gate (get_or ss two.1 blank) second.0 second.2))

  -- the statement of an INPUT is not that of a gate, neither before nor after it
  conflict : (r p : ℕ) (m : List ℕ) (g : GateLine) → r < length ss → p < length ss → is_name_in (input_name (get_or ss r blank)) m ≡ true →
      is_name_in (gate_name (get_or ss p blank)) m ≡ true → IsOf names (get_or ss p blank) g → ⊥
  conflict r p m g in_bounds there input gate is =
      elim (cases_lt p r) [
        | inl lt ↦ never r ⊥ in_bounds (again_gate (take r ss) (get_or ss p blank) (get_or ss r blank) m (before ss p r lt in_bounds) gate (defined_input (get_or ss r blank) m input))
        | inr le ↦ elim (cases_lt r p) [
          | inl lt ↦ never p ⊥ there (again_input (take p ss) (get_or ss r blank) (get_or ss p blank) m (before ss r p lt there) input gate)
          | inr ge ↦ let same : r ≡ p = omega arith in
              no_input names (get_or ss p blank) g m is (subst (λ k. is_name_in (input_name (get_or ss k blank)) m ≡ true) same input)
        ]
      ]

  abbrev input_names : List (List ℕ)
  input_names = distinct (flat_map input_name ss)

  abbrev inputs : List ℕ
  inputs = map (number_of names) input_names

  in_list : (f : Names) (k : ℕ) → IsWithin f interned → k < length (distinct (flat_map f ss)) →
      (is_name_in (flat_map f ss) (get_or (distinct (flat_map f ss)) k []) ≡ true) × (is_name_in names (get_or (distinct (flat_map f ss)) k []) ≡ true)
  in_list f k h low =
      let m : List ℕ = get_or (distinct (flat_map f ss)) k [] in
      let there : is_name_in (distinct (flat_map f ss)) (get_or (distinct (flat_map f ss)) k []) ≡ true =
      contained_in (distinct (flat_map f ss)) (get_or (distinct (flat_map f ss)) k []) (k, low, get_or_default (distinct (flat_map f ss)) k _ [] low) in
      let here : is_name_in (flat_map f ss) (get_or (distinct (flat_map f ss)) k []) ≡ true = sym (in_distinct (flat_map f ss) (get_or (distinct (flat_map f ss)) k [])) ∙ there in
      (here, in_names f ss (get_or (distinct (flat_map f ss)) k []) h here)

  numbers_inside : (f : Names) → IsWithin f interned → All (λ i. i < length names) (map (number_of names) (distinct (flat_map f ss)))
  numbers_inside f h k d low =
      let at : (k < length (distinct (flat_map f ss))) × (get_or (map (number_of names) (distinct (flat_map f ss))) k d ≡ number_of names (get_or (distinct (flat_map f ss)) k [])) =
      at_map (number_of names) (distinct (flat_map f ss)) k [] d low in
      subst (λ i. i < length names) (sym at.1) (number_low names (get_or (distinct (flat_map f ss)) k []) (in_list f k h at.0).1)

  inputs_inside : All (λ i. i < length names) inputs
  inputs_inside = numbers_inside input_name inputs_interned

  pub outputs_inside : All (λ i. i < length names) (map (number_of names) (distinct (flat_map output_name ss)))
  outputs_inside = numbers_inside output_name outputs_interned

  -- two names of the list have two numbers
  numbers_once : (f : Names) → IsWithin f interned → HaveNoRepeats (map (number_of names) (distinct (flat_map f ss)))
  numbers_once f h i j lt low e =
      let second : (j < length (distinct (flat_map f ss))) × (get_or (map (number_of names) (distinct (flat_map f ss))) j 0 ≡ number_of names (get_or (distinct (flat_map f ss)) j [])) =
      at_map (number_of names) (distinct (flat_map f ss)) j [] 0 low in
      let first : (i < length (distinct (flat_map f ss))) × (get_or (map (number_of names) (distinct (flat_map f ss))) i 0 ≡ number_of names (get_or (distinct (flat_map f ss)) i [])) =
      at_map (number_of names) (distinct (flat_map f ss)) i [] 0 (omega arith) in
      apart_distinct (flat_map f ss) i j lt second.0
      (numbers_differ names (get_or (distinct (flat_map f ss)) i []) (get_or (distinct (flat_map f ss)) j []) (in_list f i h first.0).1 (in_list f j h second.0).1
      (sym first.1 ∙ e ∙ second.1))

  abbrev Origin' : GateLine → Type 0
  Origin' g = (p : ℕ) × (p < length ss) × Out p g

  line_at : (k : ℕ) (d : GateLine) → k < length lines → Origin' (get_or lines k d)
  line_at k d low =
      let o : Origin (gate_line names) ss (get_or lines k d) = origin (gate_line names) ss k d low in
      (o.0, o.1, out_at o.0 (get_or lines k d) o.1 (o.2 blank))

  lines_outs_inside : All (λ g. g.out < length names) lines
  lines_outs_inside k d low =
      let o : Origin' (get_or lines k d) = line_at k d low in
      subst (λ i. i < length names) (sym o.2.1) (number_low names o.2.0 o.2.3)

  counted_inside : (p : ℕ) (n : List ℕ) → p < length ss → is_name_in (interned (get_or ss p blank)) n ≡ true → is_name_in names n ≡ true
  counted_inside p n low h = in_names interned ss n (λ s m e. e) (in_one interned ss (get_or ss p blank) n (p, low, get_or_default ss p (get_or ss p blank) blank low) h)

  lines_operands_inside : All (λ g. All (λ s. s < length names) g.operands) lines
  lines_operands_inside k d low =
      let o : Origin' (get_or lines k d) = line_at k d low in
      operands_interned names (get_or ss o.0 blank) (get_or lines k d) o.2.4 (λ n h. counted_inside o.0 n o.1 h)

  lines_operands_some : All (λ g. 0 < length g.operands) lines
  lines_operands_some k d low = let o : Origin' (get_or lines k d) = line_at k d low in has_operand names (get_or ss o.0 blank) (get_or lines k d) o.2.4

  lines_operands_one : All (λ g. IsTrue (takes_one g.kind) → length g.operands ≡ 1) lines
  lines_operands_one k d low =
      let o : Origin' (get_or lines k d) = line_at k d low in
      one_operand names (get_or ss o.0 blank) (get_or lines k d) o.2.4 (sound.counts o.0 blank o.1)

  lines_apart : All (λ i. All (λ g. g.out ≢ i) lines) inputs
  lines_apart j i low k d in_bounds e =
      let at : (j < length input_names) × (get_or inputs j i ≡ number_of names (get_or input_names j [])) = at_map (number_of names) input_names j [] i low in
      let m : (is_name_in (flat_map input_name ss) (get_or input_names j []) ≡ true) × (is_name_in names (get_or input_names j []) ≡ true) = in_list input_name j inputs_interned at.0 in
      let h : Holder input_name ss (get_or input_names j []) = holder input_name ss (get_or input_names j []) m.0 in
      let o : Origin' (get_or lines k d) = line_at k d in_bounds in
      let same : o.2.0 ≡ get_or input_names j [] = numbers_differ names o.2.0 (get_or input_names j []) o.2.3 m.1 (sym o.2.1 ∙ e ∙ at.1) in
      let stands : get_or ss h.1.0 blank ≡ h.0 = get_or_default ss h.1.0 blank h.0 h.1.1 ∙ h.1.2 in
      conflict h.1.0 o.0 (get_or input_names j []) (get_or lines k d) h.1.1 o.1
      (ap (λ s. is_name_in (input_name s) (get_or input_names j [])) stands ∙ h.2)
      (ap (λ n. is_name_in (gate_name (get_or ss o.0 blank)) n) (sym same) ∙ o.2.2) o.2.4

  -- ---- gates, registers, variables

  abbrev pub gates : List GateLine
  gates = filter is_gate lines

  abbrev pub registers : List GateLine
  registers = filter is_register lines

  abbrev pub variables : List ℕ
  variables = inputs ++ map (λ g. g.out) registers

  pub one_gate : HasOneGateEach gates
  one_gate = kept_once is_gate lines one_line

  pub outs_inside : All (λ g. g.out < length names) gates
  outs_inside = all_kept (λ g. g.out < length names) is_gate lines lines_outs_inside

  pub operands_inside : All (λ g. All (λ s. s < length names) g.operands) gates
  operands_inside = all_kept (λ g. All (λ s. s < length names) g.operands) is_gate lines lines_operands_inside

  pub operands_some : All (λ g. 0 < length g.operands) gates
  operands_some = all_kept (λ g. 0 < length g.operands) is_gate lines lines_operands_some

  operands_one : All (λ g. IsTrue (takes_one g.kind) → length g.operands ≡ 1) gates
  operands_one = all_kept (λ g. IsTrue (takes_one g.kind) → length g.operands ≡ 1) is_gate lines lines_operands_one

  next_inside : All (λ g. All (λ s. s < length names) g.operands) registers
  next_inside = all_kept (λ g. All (λ s. s < length names) g.operands) is_register lines lines_operands_inside

  next_one : All (λ g. length g.operands ≡ 1) registers
  next_one k d low =
      let o : Kept is_register lines (get_or registers k d) = kept_at is_register lines k d low in
      subst (λ (g : GateLine). length g.operands ≡ 1) (o.2 d)
      (lines_operands_one o.0 d o.1 (register_takes_one (get_or lines o.0 d).kind (ap is_register (o.2 d) ∙ o.3)))

  pub variables_inside : All (λ i. i < length names) variables
  variables_inside =
      all_append (λ i. i < length names) inputs (map (λ g. g.out) registers) inputs_inside
      (all_map (λ i. i < length names) (λ (g : GateLine). g.out) registers (all_kept (λ g. g.out < length names) is_register lines lines_outs_inside))

  -- a register and a gate have different signals
  two_signals : (r p : ℕ) (d : GateLine) → r < length lines → p < length lines → is_register (get_or lines r d) ≡ true → is_gate (get_or lines p d) ≡ true →
      (get_or lines p d).out ≢ (get_or lines r d).out
  two_signals r p d in_bounds there register gate e =
      elim (cases_lt p r) [
        | inl lt ↦ one_line p r d lt in_bounds e
        | inr le ↦ elim (cases_lt r p) [
          | inl lt ↦ one_line r p d lt there (sym e)
          | inr ge ↦ let same : r ≡ p = omega arith in
              let other : not (is_register (get_or lines r d)) ≡ true = ap (λ k. is_gate (get_or lines k d)) same ∙ gate in
              not_both (is_register (get_or lines r d)) register other
        ]
      ]

  registers_apart : All (λ g. All (λ h. h.out ≢ g.out) gates) registers
  registers_apart k d low j e in_bounds =
      let o : Kept is_register lines (get_or registers k d) = kept_at is_register lines k d low in
      let p : Kept is_gate lines (get_or gates j e) = kept_at is_gate lines j e in_bounds in
      (λ same. two_signals o.0 p.0 d o.1 p.1 (ap is_register (o.2 d) ∙ o.3) (ap is_gate (p.2 d) ∙ p.3)
      (ap (λ (g : GateLine). g.out) (p.2 d) ∙ same ∙ sym (ap (λ (g : GateLine). g.out) (o.2 d))))

  pub apart : All (λ i. All (λ g. g.out ≢ i) gates) variables
  apart =
      all_append (λ i. All (λ (g : GateLine). g.out ≢ i) gates) inputs (map (λ g. g.out) registers)
      (λ k d low. all_kept (λ (g : GateLine). g.out ≢ get_or inputs k d) is_gate lines (lines_apart k d low))
      (all_map (λ i. All (λ (g : GateLine). g.out ≢ i) gates) (λ (g : GateLine). g.out) registers registers_apart)

  -- no variable is there twice: an input is no register
  pub variables_once : HaveNoRepeats variables
  variables_once =
      once_append inputs (map (λ g. g.out) registers) (numbers_once input_name inputs_interned)
      (once_map registers (kept_once is_register lines one_line))
      (λ k d low.
      all_map (λ s. s ≢ get_or inputs k d) (λ (g : GateLine). g.out) registers
      (all_kept (λ (g : GateLine). g.out ≢ get_or inputs k d) is_register lines (lines_apart k d low)))

  -- ---- if each use is defined, each signal is a variable or has a gate

  abbrev Signal' : ℕ → Type 0
  Signal' s = Contains variables s ⊎ ((g : GateLine) × Contains gates g × (g.out ≡ s))

  module _ (all : IsTrue (list_all (is_defined ss) (flat_map uses ss))) where
    pub name_defined : (n : List ℕ) → is_name_in names n ≡ true → is_name_in (flat_map defined ss) n ≡ true
    name_defined n h =
        let t : Holder interned ss n = holder interned ss n (sym (in_distinct (flat_map interned ss) n) ∙ h) in
        interned_defined (flat_map defined ss) t.0 n (λ m e. in_one defined ss t.0 m t.1 e) (all_of_flat (is_defined ss) uses ss t.0 all t.1) t.2

    -- the signal of a line is a variable or a gate's, by the line's kind
    driven_by : (s : ℕ) (g : GateLine) → Contains lines g → g.out ≡ s → (b : Bool) → is_register g ≡ b → Signal' s
    driven_by s g among out true e =
        let m : Contains registers g = contains_kept is_register lines g among.0 among.1 among.2 e in
        inl (in_back inputs (map (λ g. g.out) registers) s (subst (Contains (map (λ g. g.out) registers)) out (contains_map (λ (h : GateLine). h.out) registers m.0 g m.1 m.2)))
    driven_by s g among out false e = inr (g, contains_kept is_gate lines g among.0 among.1 among.2 (ap not e), out)

    drive : (s : ℕ) (n : List ℕ) → number_of names n ≡ s → (t : Statement) → Contains ss t → is_name_in (defined t) n ≡ true → Signal' s
    drive s n is t among e =
        elim (or_cases (is_name_in (input_name t) n) (is_name_in (gate_name t) n) (sym (list_any-append (λ m. bytes_eq m n) (input_name t) (gate_name t)) ∙ e)) [
          | inl f ↦
              let there : is_name_in input_names n ≡ true = in_distinct (flat_map input_name ss) n ∙ in_one input_name ss t n among f in
              inl (in_front inputs (map (λ g. g.out) registers) s
              (subst (Contains inputs) is (contains_map (number_of names) input_names (number_of input_names n) n (number_low input_names n there) (number_at input_names n n there))))
          | inr f ↦
              let kind : has_kind t ≡ true = subst (λ u. has_kind u ≡ true) among.2 (sound.kinds among.0 t among.1) in
              let g : GateOf names t n = gate_of names t n kind f in
              driven_by s g.0 (contains_filtered (gate_line names) ss among.0 t g.0 among.1 among.2 g.1) (g.2 ∙ is) (is_register g.0) refl
        ]

    pub driven : (s : ℕ) → s < length names → Signal' s
    driven s low =
        let n : List ℕ = get_or names s [] in
        let there : is_name_in names (get_or names s []) ≡ true = contained_in names (get_or names s []) (s, low, get_or_default names s _ [] low) in
        let t : Holder defined ss (get_or names s []) = holder defined ss (get_or names s []) (name_defined (get_or names s []) there) in
        drive s (get_or names s []) (number_back (flat_map interned ss) s low) t.0 t.1 t.2

    pub net : (ranks : List ℕ) → AreRanks (circuit_of ss) ranks →
        IsNet (record { names = names; inputs = inputs; outputs = map (number_of names) (distinct (flat_map output_name ss)); gates = gates; registers = registers; ranks = ranks })
    net ranks ranked = record {
      names = apart_distinct (flat_map interned ss);
      few = sound.signals;
      variables = variables_inside;
      outs = outs_inside;
      apart = apart;
      one_gate = one_gate;
      defined = driven;
      outputs = outputs_inside;
      variables_once = variables_once;
      outputs_once = numbers_once output_name outputs_interned;
      gates = all_true is_gate lines;
      registers = all_true is_register lines;
      next = (λ k d low. (next_inside k d low, next_one k d low));
      operands = (λ k d low. (operands_inside k d low, operands_some k d low, operands_one k d low));
      ranks = ranked;
    }
