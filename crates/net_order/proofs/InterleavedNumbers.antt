-- A netlist is interleaved with an order: what the walks below its outputs add.
use Rattle.std.proofs.Common.{◌≡◌, ℕ, ◌+◌, ◌<◌, ◌≤◌, ◌⊎◌, inl, inr, List, [], ◌∷◌, ◌++◌, true, false, refl, sym, ap, ◌∙◌, subst, length, map, drop, arith, get_or, All, length-append}
use Rattle.std.specs.Prelude.{cond, ◌||◌, ◌==◌, fold, None}
use Rattle.std.proofs.lemmas.List.{drop_more}
use Rattle.net_bench.proofs.Numbers.{or_left, or_right, or_cases, number_low}
use Rattle.net_bench.specs.Circuit.{Circuit, variables_of}
use Rattle.net_order.specs.declared.walk.OperandOrder.TheVariants.{ByRank}
use Rattle.net_order.specs.Order.{HasLevels, NamedNetlistModel, below, is_member, level_of, met_below, named, interleave_walk, interleave_below, interleave_netlist, interleave_side, with_number, interleaved_numbers, falling, rank_of, roots}
use Rattle.net_order.specs.Tables.{AreKnown, IsKnown}
use Rattle.net_order.specs.Walk.{IsSubset}
use Rattle.net_order.proofs.Members.{all_of, at_inputs, equal_numbers, member_head, met_below_inputs, no_true}
use Rattle.net_order.proofs.Walking.{in_append}
use Rattle.net_order.proofs.Interleaving.{none_left, interleave_from, interleave_has, interleave_keeps, interleave_nothing}

-- ---- what has been found

same_number : (x : ℕ) → (x == x) ≡ true
same_number x = grind arith

one_has : (found : List ℕ) (s : ℕ) → is_member s (with_number found s) ≡ true
one_has found s =
    elim (is_member s found) as (λ b. is_member s found ≡ b → is_member s (cond b found (found ++ s ∷ [])) ≡ true) [
      | true ↦ λ e. e
      | false ↦ λ e. in_append s found (s ∷ []) ∙ or_right (is_member s found) ((s == s) || false) (or_left (s == s) false (same_number s))
    ] refl

one_keeps : (found : List ℕ) (s x : ℕ) → is_member x found ≡ true → is_member x (with_number found s) ≡ true
one_keeps found s x e =
    elim (is_member s found) as (λ b. is_member x (cond b found (found ++ s ∷ [])) ≡ true) [
      | true ↦ e
      | false ↦ in_append x found (s ∷ []) ∙ or_left (is_member x found) ((s == x) || false) e
    ]

one_from : (found : List ℕ) (s x : ℕ) → is_member x (with_number found s) ≡ true → (is_member x found ≡ true) ⊎ (s ≡ x)
one_from found s x =
    elim (is_member s found) as (λ b. is_member x (cond b found (found ++ s ∷ [])) ≡ true → (is_member x found ≡ true) ⊎ (s ≡ x)) [
      | true ↦ λ e. inl e
      | false ↦ λ e. elim (or_cases (is_member x found) ((s == x) || false) (sym (in_append x found (s ∷ [])) ∙ e)) [
        | inl there ↦ inl there
        | inr here ↦ elim (or_cases (s == x) false here) [ inl same ↦ inr (equal_numbers s x same) | inr none ↦ absurd (no_true none) ]
      ]
    ]

fold_keeps : (xs found : List ℕ) (x : ℕ) → is_member x found ≡ true → is_member x (fold with_number found xs) ≡ true
fold_keeps [] found x e = e
fold_keeps (y ∷ xs) found x e = fold_keeps xs (with_number found y) x (one_keeps found y x e)

fold_has : (xs found : List ℕ) (x : ℕ) → is_member x xs ≡ true → is_member x (fold with_number found xs) ≡ true
fold_has [] found x e = absurd (no_true e)
fold_has (y ∷ xs) found x e = elim (or_cases (y == x) (is_member x xs) e) [
  | inl same ↦ fold_keeps xs (with_number found y) x (subst (λ z. is_member z (with_number found y) ≡ true) (equal_numbers y x same) (one_has found y))
  | inr more ↦ fold_has xs (with_number found y) x more
]

fold_from : (xs found : List ℕ) (x : ℕ) → is_member x (fold with_number found xs) ≡ true → (is_member x found ≡ true) ⊎ (is_member x xs ≡ true)
fold_from [] found x e = inl e
fold_from (y ∷ xs) found x e = elim (fold_from xs (with_number found y) x e) [
  | inl there ↦ elim (one_from found y x there) [
    | inl before ↦ inl before
    | inr same ↦ inr (or_left (y == x) (is_member x xs) (ap (λ z. y == z) (sym same) ∙ same_number y))
  ]
  | inr more ↦ inr (or_right (y == x) (is_member x xs) more)
]

one_longer : (found : List ℕ) (y : ℕ) → length found ≤ length (with_number found y)
one_longer found y =
    elim (is_member y found) as (λ b. length found ≤ length (cond b found (found ++ y ∷ []))) [
      | true ↦ omega arith
      | false ↦ omega (arith, length-append found (y ∷ []))
    ]

fold_longer : (xs found : List ℕ) → length found ≤ length (fold with_number found xs)
fold_longer [] found = omega arith
fold_longer (y ∷ xs) found = omega (arith, one_longer found y, fold_longer xs (with_number found y))

-- if nothing was added, all was there
no_growth : (xs found : List ℕ) → length (fold with_number found xs) ≤ length found → IsSubset xs found
no_growth [] found h x e = absurd (no_true e)
no_growth (y ∷ xs) found h x e =
    elim (is_member y found) as (λ b. is_member y found ≡ b → length (fold with_number (cond b found (found ++ y ∷ [])) xs) ≤ length found → IsSubset (y ∷ xs) found) [
      | true ↦ λ there few z k. elim (or_cases (y == z) (is_member z xs) k) [
        | inl same ↦ subst (λ w. is_member w found ≡ true) (equal_numbers y z same) there
        | inr more ↦ no_growth xs found few z more
      ]
      | false ↦ λ out few z k. absurd (omega (arith, few, fold_longer xs (found ++ y ∷ []), length-append found (y ∷ [])))
    ] refl h x e

mapped : (f : ℕ → ℕ) (xs : List ℕ) (y : ℕ) → is_member y (map f xs) ≡ true → (x : ℕ) × (is_member x xs ≡ true) × (f x ≡ y)
mapped f [] y e = absurd (no_true e)
mapped f (x ∷ xs) y e = elim (or_cases (f x == y) (is_member y (map f xs)) e) [
  | inl same ↦ (x, member_head x xs, equal_numbers (f x) y same)
  | inr more ↦ let rest = mapped f xs y more in (rest.0, or_right (x == rest.0) (is_member rest.0 xs) rest.1, rest.2)
]

map_has : (f : ℕ → ℕ) (xs : List ℕ) (x : ℕ) → is_member x xs ≡ true → is_member (f x) (map f xs) ≡ true
map_has f [] x e = absurd (no_true e)
map_has f (y ∷ xs) x e = elim (or_cases (y == x) (is_member x xs) e) [
  | inl same ↦ or_left (f y == f x) (is_member (f x) (map f xs)) (ap (λ z. f z == f x) (equal_numbers y x same) ∙ same_number (f x))
  | inr more ↦ or_right (f y == f x) (is_member (f x) (map f xs)) (map_has f xs x more)
]

map_same : (f g : ℕ → ℕ) (xs : List ℕ) → ((x : ℕ) → is_member x xs ≡ true → f x ≡ g x) → map f xs ≡ map g xs
map_same f g [] h = refl
map_same f g (x ∷ xs) h = ap (λ y. y ∷ map f xs) (h x (member_head x xs)) ∙ ap (λ ys. g x ∷ ys) (map_same f g xs (λ y e. h y (or_right (x == y) (is_member y xs) e)))

-- ---- one walk after the other

-- the variables of what has been found are in the order
abbrev pub AreIn : (ℕ → ℕ) → List ℕ → List ℕ → Type 0
AreIn variable found order = (s : ℕ) → is_member s found ≡ true → is_member (variable s) order ≡ true

pub none_in : (variable : ℕ → ℕ) (order found : List ℕ) → found ≡ [] → AreIn variable found order
none_in variable order found e s k = absurd (no_true (subst (λ xs. is_member s xs ≡ true) e k))

module _ (c : Circuit) (variable : ℕ → ℕ) where
  -- a walk that finds nothing new changes nothing
  still : (order found now : List ℕ) (s : ℕ) → AreIn variable found order → now ≡ fold with_number found (below ByRank c s) → length now ≤ length found → order ≡ interleave_below c variable order s
  still order found now s held is_now few =
      let all : IsSubset (below ByRank c s) found = no_growth (below ByRank c s) found (subst (λ xs. length xs ≤ length found) is_now few) in
      sym (interleave_nothing (map variable (met_below ByRank c s)) order None
      (λ y e.
      let m = mapped variable (met_below ByRank c s) y e in
      elim (fold_from (below ByRank c s) [] m.0 m.1) [
        | inl none ↦ absurd (no_true none)
        | inr there ↦ subst (λ z. is_member z order ≡ true) m.2 (held m.0 (all m.0 there))
      ]))

  pub still_in : (order found now : List ℕ) (s : ℕ) → AreIn variable found order → now ≡ fold with_number found (below ByRank c s) → length now ≤ length found → AreIn variable now order
  still_in order found now s held is_now few m e =
      let all : IsSubset (below ByRank c s) found = no_growth (below ByRank c s) found (subst (λ xs. length xs ≤ length found) is_now few) in
      elim (fold_from (below ByRank c s) found m (subst (λ xs. is_member m xs ≡ true) is_now e)) [ inl before ↦ held m before | inr new ↦ held m (all m new) ]

  pub more_in : (order new found now : List ℕ) (s : ℕ) → AreIn variable found order → now ≡ fold with_number found (below ByRank c s) → new ≡ interleave_below c variable order s → AreIn variable now new
  more_in order new found now s held is_now is_new m e =
      subst (λ xs. is_member (variable m) xs ≡ true) (sym is_new)
      (elim (fold_from (below ByRank c s) found m (subst (λ xs. is_member m xs ≡ true) is_now e)) [
        | inl before ↦ interleave_keeps (map variable (met_below ByRank c s)) order None (variable m) (held m before)
        | inr there ↦ interleave_has (map variable (met_below ByRank c s)) order None (variable m) (map_has variable (met_below ByRank c s) m (fold_has (below ByRank c s) [] m there))
      ])

  pub next : (outs order new total : List ℕ) (i s : ℕ) → i < length outs → s ≡ get_or outs i s → new ≡ interleave_below c variable order s → fold (interleave_below c variable) order (drop i outs) ≡ total →
      fold (interleave_below c variable) new (drop (i + 1) outs) ≡ total
  next outs order new total i s low at is_new e =
      ap (λ o. fold (interleave_below c variable) o (drop (i + 1) outs)) is_new ∙
      sym (ap (fold (interleave_below c variable) order) (drop_more outs i s low ∙ ap (λ x. x ∷ drop (i + 1) outs) (sym at))) ∙ e

  pub next_still : (outs order found now total : List ℕ) (i s : ℕ) → i < length outs → s ≡ get_or outs i s → AreIn variable found order → now ≡ fold with_number found (below ByRank c s) → length now ≤ length found →
      fold (interleave_below c variable) order (drop i outs) ≡ total → fold (interleave_below c variable) order (drop (i + 1) outs) ≡ total
  next_still outs order found now total i s low at held is_now few e = next outs order order total i s low at (still order found now s held is_now few) e

  met_variable : (order : List ℕ) (s x : ℕ) → is_member x (interleave_below c variable order s) ≡ true → (is_member x order ≡ true) ⊎ ((m : ℕ) × (is_member m (variables_of c) ≡ true) × (variable m ≡ x))
  met_variable order s x e = elim (interleave_from (map variable (met_below ByRank c s)) order None x e) [
    | inl before ↦ inl before
    | inr new ↦ let m = mapped variable (met_below ByRank c s) x new in inr (m.0, met_below_inputs ByRank c s m.0 m.1, m.2)
  ]

  netlist_from : (outs order : List ℕ) (x : ℕ) → is_member x (fold (interleave_below c variable) order outs) ≡ true → (is_member x order ≡ true) ⊎ ((m : ℕ) × (is_member m (variables_of c) ≡ true) × (variable m ≡ x))
  netlist_from [] order x e = inl e
  netlist_from (s ∷ outs) order x e = elim (netlist_from outs (interleave_below c variable order s) x e) [
    | inl there ↦ met_variable order s x there
    | inr new ↦ inr new
  ]

outputs_same : (c : Circuit) (f g : ℕ → ℕ) → ((s : ℕ) → is_member s (variables_of c) ≡ true → f s ≡ g s) → (outs order : List ℕ) → fold (interleave_below c f) order outs ≡ fold (interleave_below c g) order outs
outputs_same c f g h [] order = refl
outputs_same c f g h (s ∷ outs) order =
    ap (λ vs. fold (interleave_below c f) (interleave_walk order None vs) outs) (map_same f g (met_below ByRank c s) (λ x e. h x (met_below_inputs ByRank c s x e))) ∙
    outputs_same c f g h outs (interleave_below c g order s)

-- only the variables of a netlist's variables matter, not those of other signals
pub netlist_same : (c : Circuit) (f g : ℕ → ℕ) → ((s : ℕ) → is_member s (variables_of c) ≡ true → f s ≡ g s) → (order : List ℕ) → interleave_netlist c f order ≡ interleave_netlist c g order
netlist_same c f g h order = outputs_same c f g h (falling (rank_of c) (roots c)) order

-- ---- what is true of variables

pub all_met : (P : ℕ → Type 0) (c : Circuit) (s : ℕ) (xs : List ℕ) → All P (variables_of c) → xs ≡ met_below ByRank c s → All P xs
all_met P c s xs h e = subst (All P) (sym e) (all_of P (met_below ByRank c s) (λ x k. at_inputs P (variables_of c) h x (met_below_inputs ByRank c s x k)))

-- ---- sides, one after the other

module _ (names : List (List ℕ)) where
  -- each number of the order is one of a name
  abbrev pub AreLow : List ℕ → Type 0
  AreLow order = (x : ℕ) → is_member x order ≡ true → x < length names

  side_low : (side : NamedNetlistModel) (order : List ℕ) → IsKnown names side → AreLow order → AreLow (interleave_side names order side)
  side_low side order known low x e = elim (netlist_from side.net (λ s. level_of names (named side s)) (falling (rank_of side.net) (roots side.net)) order x e) [
    | inl before ↦ low x before
    | inr (m, input, is) ↦ subst (λ y. y < length names) is (number_low names (named side m) (known m input))
  ]

  sides_low : (sides : List NamedNetlistModel) (order : List ℕ) → AreKnown names sides → AreLow order → AreLow (fold (interleave_side names) order sides)
  sides_low [] order known low = low
  sides_low (side ∷ sides) order known low = sides_low sides (interleave_side names order side) known.1 (side_low side order known.0 low)

  pub interleaved_low : (sides : List NamedNetlistModel) → AreKnown names sides → AreLow (interleaved_numbers names sides)
  interleaved_low sides known = sides_low sides [] known (λ x e. absurd (no_true e))

  -- the levels of a side are numbers of names
  pub levels_low : (side : NamedNetlistModel) (levels : List ℕ) (c : Circuit) (count : ℕ) → c ≡ side.net → HasLevels names side levels → IsKnown names side → count ≡ length names → All (λ s. get_or levels s 0 < count) (variables_of c)
  levels_low side levels c count is has known same =
      subst (λ (d : Circuit). All (λ s. get_or levels s 0 < count) (variables_of d)) (sym is)
      (all_of (λ s. get_or levels s 0 < count) (variables_of side.net)
      (λ s e. subst (λ k. k < count) (sym (at_inputs (λ x. get_or levels x 0 ≡ level_of names (named side x)) (variables_of side.net) has s e))
      (subst (λ k. level_of names (named side s) < k) (sym same) (number_low names (named side s) (known s e)))))

  -- a side is interleaved by the levels of its variables
  pub side_interleaved : (side : NamedNetlistModel) (levels : List ℕ) (c : Circuit) (order new : List ℕ) → c ≡ side.net → HasLevels names side levels → new ≡ interleave_netlist c (λ s. get_or levels s 0) order → new ≡ interleave_side names order side
  side_interleaved side levels c order new is has e =
      e ∙ ap (λ (d : Circuit). interleave_netlist d (λ s. get_or levels s 0) order) is ∙
      netlist_same side.net (λ s. get_or levels s 0) (λ s. level_of names (named side s)) (at_inputs (λ x. get_or levels x 0 ≡ level_of names (named side x)) (variables_of side.net) has) order

  pub next_side : (sides : List NamedNetlistModel) (order new total : List ℕ) (i : ℕ) (side : NamedNetlistModel) → i < length sides → side ≡ get_or sides i side → new ≡ interleave_side names order side →
      fold (interleave_side names) order (drop i sides) ≡ total → fold (interleave_side names) new (drop (i + 1) sides) ≡ total
  next_side sides order new total i side low at is_new e =
      ap (λ o. fold (interleave_side names) o (drop (i + 1) sides)) is_new ∙
      sym (ap (fold (interleave_side names) order) (drop_more sides i side low ∙ ap (λ x. x ∷ drop (i + 1) sides) (sym at))) ∙ e

  pub all_interleaved : (sides : List NamedNetlistModel) (order total : List ℕ) (i : ℕ) → length sides ≤ i → fold (interleave_side names) order (drop i sides) ≡ total → order ≡ total
  all_interleaved sides order total i high e = ap (fold (interleave_side names) order) (sym (none_left sides i high)) ∙ e
