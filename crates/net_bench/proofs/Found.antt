-- Signals of words, as the list of names grows.
use Rattle.std.proofs.Common.{◌≡◌, inl, inr, ℕ, ◌<◌, ◌≤◌, List, [], ◌∷◌, ◌++◌, Bool, true, false, refl, sym, ap, ◌∙◌, subst, map, length, get_or, arith, append_assoc, append-nil}
use Rattle.std.specs.Prelude.{cond, bytes_eq, fold, option_map, Option, Some, None, unwrap_or, All}
use Rattle.std.proofs.lemmas.List.Elements.{All-nil, All-cons}
use Rattle.std.proofs.lemmas.Bool.{cases_lt}
use Rattle.std.proofs.lemmas.List.Folds.{list_any_at}
use Rattle.std.proofs.Math.ListN.{get_or-append}
use Rattle.net_bench.specs.declared.netlist.Kind.{Kind}
use Rattle.net_bench.specs.declared.netlist.GateLine.{GateLine}
use Rattle.net_bench.specs.declared.symbols.Use.{Use}
use Rattle.net_bench.specs.Text.{Word}
use Rattle.net_bench.specs.Statement.{Statement, Input, Output, Gate, kind_of}
use Rattle.net_bench.specs.Circuit.{is_name_in, with_name, find, number_of, gate_line, gate_with}
use Rattle.net_bench.specs.Symbols.{AreFound, IsLater, interned_words, gate_line_with}
use Rattle.net_bench.proofs.Numbers.{same_name, name_itself, number_low, number_at}
use Rattle.net_bench.proofs.Places.{passes, place_other}

-- ---- the number of a name that is there

pub is_there : (names : List (List ℕ)) (n : List ℕ) (i : ℕ) → find names n ≡ Some i → is_name_in names n ≡ true
is_there names n i e = passes (λ m. bytes_eq m n) names i e

pub number_found : (names : List (List ℕ)) (n : List ℕ) (i : ℕ) → find names n ≡ Some i → number_of names n ≡ i
number_found names n i e = ap (λ o. unwrap_or o 0) e

pub found_low : (names : List (List ℕ)) (n : List ℕ) (i : ℕ) → find names n ≡ Some i → i < length names
found_low names n i e = subst (λ k. k < length names) (number_found names n i e) (number_low names n (is_there names n i e))

pub found_at : (names : List (List ℕ)) (n : List ℕ) (i : ℕ) → find names n ≡ Some i → get_or names i [] ≡ n
found_at names n i e = ap (λ k. get_or names k []) (sym (number_found names n i e)) ∙ number_at names n [] (is_there names n i e)

pub one_name : (names : List (List ℕ)) (m n : List ℕ) (i : ℕ) → find names m ≡ Some i → find names n ≡ Some i → m ≡ n
one_name names m n i e f = sym (found_at names m i e) ∙ found_at names n i f

some_inside : {X : Type 0} (x y : X) → Some x ≡ Some y → x ≡ y
some_inside x y e = cc

pub one_number : (names : List (List ℕ)) (n : List ℕ) (i j : ℕ) → find names n ≡ Some i → find names n ≡ Some j → i ≡ j
one_number names n i j e f = some_inside i j (sym e ∙ f)

-- ---- more names

apart : (names : List (List ℕ)) (x n : List ℕ) (i : ℕ) (b : Bool) → is_name_in names x ≡ false → find names n ≡ Some i → bytes_eq x n ≡ b → b ≡ false
apart names x n i false new e is = refl
apart names x n i true new e is = let there : is_name_in names x ≡ true = ap (is_name_in names) (same_name x n is) ∙ is_there names n i e in cc

later_with : (names : List (List ℕ)) (x : List ℕ) → IsLater names (with_name names x)
later_with names x n i e =
    elim (is_name_in names x) as (λ b. is_name_in names x ≡ b → find (cond b names (names ++ x ∷ [])) n ≡ Some i) [
      | true ↦ λ h. e
      | false ↦ λ h. place_other (λ m. bytes_eq m n) names x (apart names x n i (bytes_eq x n) h e refl) ∙ e
    ] refl

pub later_fold : (xs names : List (List ℕ)) → IsLater names (fold with_name names xs)
later_fold [] names n i e = e
later_fold (x ∷ xs) names n i e = later_fold xs (with_name names x) n i (later_with names x n i e)

with_front : (names : List (List ℕ)) (x : List ℕ) → (more : List (List ℕ)) × (with_name names x ≡ names ++ more)
with_front names x =
    elim (is_name_in names x) as (λ b. (more : List (List ℕ)) × (cond b names (names ++ x ∷ []) ≡ names ++ more)) [
      | true ↦ ([], sym (append-nil names))
      | false ↦ (x ∷ [], refl)
    ]

fold_front : (xs names : List (List ℕ)) → (more : List (List ℕ)) × (fold with_name names xs ≡ names ++ more)
fold_front [] names = ([], sym (append-nil names))
fold_front (x ∷ xs) names =
    let (one, e) = with_front names x in
    let (more, f) = fold_front xs (with_name names x) in
    (one ++ more, f ∙ ap (λ ns. ns ++ more) e ∙ append_assoc names one more)

in_front : (names more : List (List ℕ)) (n : List ℕ) (i : ℕ) → find (names ++ more) n ≡ Some i → i < length names → is_name_in names n ≡ true
in_front names more n i e low =
    list_any_at (λ m. bytes_eq m n) names i [] low (ap (λ m. bytes_eq m n) (sym (get_or-append names more [] i low) ∙ found_at (names ++ more) n i e) ∙ name_itself n)

-- a name that is new comes after the others
pub new_after : (xs names : List (List ℕ)) (n : List ℕ) (i : ℕ) → find (fold with_name names xs) n ≡ Some i → is_name_in names n ≡ false → length names ≤ i
new_after xs names n i e new =
    let (more, f) = fold_front xs names in
    elim (cases_lt i (length names)) [
      | inl low ↦ let there : is_name_in names n ≡ true = in_front names more n i (subst (λ ns. find ns n ≡ Some i) f e) low in cc
      | inr high ↦ high
    ]

-- a name that is there has a number
pub found_of : (names : List (List ℕ)) (n : List ℕ) → is_name_in names n ≡ true → (i : ℕ) × (find names n ≡ Some i)
found_of names n h = some_of (find names n) refl
  where
    some_of : (o : Option ℕ) → find names n ≡ o → (i : ℕ) × (find names n ≡ Some i)
    some_of (Some i) e = (i, e)
    some_of None e = let none : is_name_in names n ≡ false = Rattle.net_bench.proofs.Places.passes_none (λ m. bytes_eq m n) names e in cc

-- ---- the signals of words

pub found_later : (names later : List (List ℕ)) → IsLater names later → (us : List Use) (ws : List Word) → AreFound names us ws → AreFound later us ws
found_later names later l [] [] h = tt
found_later names later l (u ∷ us) (w ∷ ws) h = (l w.text u.signal h.0, h.1, found_later names later l us ws h.2)
found_later names later l [] (w ∷ ws) h = absurd h
found_later names later l (u ∷ us) [] h = absurd h

pub found_append : (names : List (List ℕ)) (us vs : List Use) (ws xs : List Word) → AreFound names us ws → AreFound names vs xs → AreFound names (us ++ vs) (ws ++ xs)
found_append names [] vs [] xs h k = k
found_append names (u ∷ us) vs (w ∷ ws) xs h k = (h.0, h.1, found_append names us vs ws xs h.2 k)
found_append names [] vs (w ∷ ws) xs h k = absurd h
found_append names (u ∷ us) vs [] xs h k = absurd h

pub found_inside : (names : List (List ℕ)) (us : List Use) (ws : List Word) → AreFound names us ws → All (λ u. u.signal < length names) us
found_inside names [] [] h = All-nil (λ u. u.signal < length names)
found_inside names (u ∷ us) (w ∷ ws) h = All-cons (λ u. u.signal < length names) u us (found_low names w.text u.signal h.0) (found_inside names us ws h.2)
found_inside names [] (w ∷ ws) h = absurd h
found_inside names (u ∷ us) [] h = absurd h

pub found_some : (names : List (List ℕ)) (us : List Use) (w : Word) (ws : List Word) → AreFound names us (w ∷ ws) → 0 < length us
found_some names [] w ws h = absurd h
found_some names (u ∷ us) w ws h = omega arith

found_numbers : (names : List (List ℕ)) (us : List Use) (ws : List Word) → AreFound names us ws → map (λ u. u.signal) us ≡ map (λ w. number_of names w.text) ws
found_numbers names [] [] h = refl
found_numbers names (u ∷ us) (w ∷ ws) h = rw (sym (number_found names w.text u.signal h.0), found_numbers names us ws h.2) refl
found_numbers names [] (w ∷ ws) h = absurd h
found_numbers names (u ∷ us) [] h = absurd h

-- the line of a gate or register, by its signals
gate_same : (out number line : ℕ) (kind : Kind) (some others : List ℕ) → out ≡ number → some ≡ others →
    (let g : GateLine = record { out = out; kind = kind; operands = some; line = line } in g) ≡ record { out = number; kind = kind; operands = others; line = line }
gate_same out number line kind some others e f = cc

pub line_is : (names : List (List ℕ)) (x : Statement) (u : Use) (us : List Use) → AreFound names (u ∷ us) (interned_words x) → gate_line_with x u us ≡ gate_line names x
line_is names (Input word name) u us h = refl
line_is names (Output word name) u us h = refl
line_is names (Gate out word first others) u us h =
    elim (kind_of word.text) as (λ o. option_map (λ kind. (let g : GateLine = record { out = u.signal; kind = kind; operands = map (λ v. v.signal) us; line = out.line } in g)) o ≡
    option_map (λ kind. gate_with names out kind (first ∷ others)) o) [
      | None ↦ refl
      | Some kind ↦ ap Some (gate_same u.signal (number_of names out.text) out.line kind (map (λ v. v.signal) us) (map (λ w. number_of names w.text) (first ∷ others))
          (sym (number_found names out.text u.signal h.0)) (found_numbers names us (first ∷ others) h.2))
    ]
