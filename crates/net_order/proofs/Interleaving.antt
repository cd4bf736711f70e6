-- Interleaved orders: what a walk adds to an order.
use Rattle.std.proofs.Common.{◌≡◌, ℕ, zero, suc, ◌+◌, ◌<◌, ◌≤◌, ◌⊎◌, inl, inr, List, [], ◌∷◌, ◌++◌, Bool, true, false, refl, sym, ap, ◌∙◌, subst, length, map, take, drop, arith, append_assoc, get_or, set, All}
use Rattle.std.specs.Prelude.{cond, ◌||◌, ◌==◌, insert, Option, Some, None}
use Rattle.std.proofs.lemmas.Bool.{cases_eq}
use Rattle.std.proofs.lemmas.List.{take_more, take_all, drop_more, length-set, get_or-set_other, get_or-set_same}
use Rattle.net_bench.proofs.Numbers.{or_left, or_right, or_cases}
use Rattle.net_order.specs.Order.{is_member, put_after, interleave_walk, with_variable}
use Rattle.net_order.specs.Tables.{AreMembershipFlags}
use Rattle.net_order.proofs.Members.{equal_numbers, member_head, no_true}
use Rattle.net_order.proofs.Walking.{same_visit}

-- ---- right after a variable

-- what is before the place does not change
abbrev pub Behind : ℕ → List ℕ → ℕ → Type 0
Behind last order i = (v : ℕ) → take i order ++ put_after (Some last) v (drop i order) ≡ put_after (Some last) v order

other_first : (last v x : ℕ) (xs : List ℕ) → (x == last) ≡ false → put_after (Some last) v (x ∷ xs) ≡ x ∷ put_after (Some last) v xs
other_first last v x xs e = ap (λ b. cond b (x ∷ v ∷ xs) (x ∷ put_after (Some last) v xs)) e

this_first : (last v x : ℕ) (xs : List ℕ) → (x == last) ≡ true → put_after (Some last) v (x ∷ xs) ≡ x ∷ v ∷ xs
this_first last v x xs e = ap (λ b. cond b (x ∷ v ∷ xs) (x ∷ put_after (Some last) v xs)) e

pub after_more : (last : ℕ) (order : List ℕ) (i x : ℕ) → i < length order → x ≡ get_or order i x → (x == last) ≡ false → Behind last order i → Behind last order (i + 1)
after_more last order i x low at other h v =
    let here : drop i order ≡ x ∷ drop (i + 1) order = drop_more order i x low ∙ ap (λ y. y ∷ drop (i + 1) order) (sym at) in
    let front : take (i + 1) order ≡ take i order ++ x ∷ [] = take_more order i x low ∙ ap (λ y. take i order ++ y ∷ []) (sym at) in
    ap (λ xs. xs ++ put_after (Some last) v (drop (i + 1) order)) front ∙ append_assoc (take i order) (x ∷ []) (put_after (Some last) v (drop (i + 1) order)) ∙
    ap (λ xs. take i order ++ xs) (sym (other_first last v x (drop (i + 1) order) other) ∙ ap (put_after (Some last) v) (sym here)) ∙ h v

pub after_here : (last : ℕ) (order : List ℕ) (i x : ℕ) → i < length order → x ≡ get_or order i x → (x == last) ≡ true → Behind last order i → (v : ℕ) → insert order (i + 1) v ≡ put_after (Some last) v order
after_here last order i x low at this h v =
    let here : drop i order ≡ x ∷ drop (i + 1) order = drop_more order i x low ∙ ap (λ y. y ∷ drop (i + 1) order) (sym at) in
    let front : take (i + 1) order ≡ take i order ++ x ∷ [] = take_more order i x low ∙ ap (λ y. take i order ++ y ∷ []) (sym at) in
    ap (λ xs. xs ++ v ∷ drop (i + 1) order) front ∙ append_assoc (take i order) (x ∷ []) (v ∷ drop (i + 1) order) ∙
    ap (λ xs. take i order ++ xs) (sym (this_first last v x (drop (i + 1) order) this) ∙ ap (put_after (Some last) v) (sym here)) ∙ h v

pub none_left : {X : Type 0} (xs : List X) (i : ℕ) → length xs ≤ i → drop i xs ≡ []
none_left [] zero h = refl
none_left [] (suc i) h = refl
none_left (x ∷ xs) zero h = absurd (omega (arith, h))
none_left (x ∷ xs) (suc i) h = none_left xs i (omega (arith, h))

pub after_end : (last : ℕ) (order : List ℕ) (i n : ℕ) → n ≡ length order → n ≤ i → Behind last order i → (v : ℕ) → insert order n v ≡ put_after (Some last) v order
after_end last order i n is_n high h v =
    let all : take n order ≡ take i order = take_all n order (omega arith) ∙ sym (take_all i order (omega arith)) in
    let rest : drop n order ≡ [] = none_left order n (omega arith) in
    let gone : drop i order ≡ [] = none_left order i (omega arith) in
    ap (λ xs. xs ++ v ∷ drop n order) all ∙ ap (λ xs. take i order ++ v ∷ xs) rest ∙ ap (λ xs. take i order ++ put_after (Some last) v xs) (sym gone) ∙ h v

-- ---- what is in an order

swapped : (a b c : Bool) → (a || (b || c)) ≡ (b || (a || c))
swapped true true c = refl
swapped true false c = refl
swapped false true c = refl
swapped false false c = refl

pub put_member : (w : ℕ) (last : Option ℕ) (v : ℕ) (order : List ℕ) → is_member w (put_after last v order) ≡ ((v == w) || is_member w order)
put_member w None v order = refl
put_member w (Some last) v [] = refl
put_member w (Some last) v (x ∷ order) =
    elim (x == last) as (λ b. is_member w (cond b (x ∷ v ∷ order) (x ∷ put_after (Some last) v order)) ≡ ((v == w) || ((x == w) || is_member w order))) [
      | true ↦ swapped (x == w) (v == w) (is_member w order)
      | false ↦ ap (λ b. (x == w) || b) (put_member w (Some last) v order) ∙ swapped (x == w) (v == w) (is_member w order)
    ]

-- an order with a variable that it may have had already
abbrev pub grown : List ℕ → Option ℕ → ℕ → List ℕ
grown order last v = cond (is_member v order) order (put_after last v order)

grown_keeps : (order : List ℕ) (last : Option ℕ) (v x : ℕ) → is_member x order ≡ true → is_member x (grown order last v) ≡ true
grown_keeps order last v x e =
    elim (is_member v order) as (λ b. is_member x (cond b order (put_after last v order)) ≡ true) [
      | true ↦ e
      | false ↦ put_member x last v order ∙ or_right (v == x) (is_member x order) e
    ]

same_number : (x : ℕ) → (x == x) ≡ true
same_number x = grind arith

grown_has : (order : List ℕ) (last : Option ℕ) (v : ℕ) → is_member v (grown order last v) ≡ true
grown_has order last v =
    elim (is_member v order) as (λ b. is_member v order ≡ b → is_member v (cond b order (put_after last v order)) ≡ true) [
      | true ↦ λ e. e
      | false ↦ λ e. put_member v last v order ∙ or_left (v == v) (is_member v order) (same_number v)
    ] refl

grown_from : (order : List ℕ) (last : Option ℕ) (v x : ℕ) → is_member x (grown order last v) ≡ true → (v ≡ x) ⊎ (is_member x order ≡ true)
grown_from order last v x =
    elim (is_member v order) as (λ b. is_member x (cond b order (put_after last v order)) ≡ true → (v ≡ x) ⊎ (is_member x order ≡ true)) [
      | true ↦ λ e. inr e
      | false ↦ λ e. elim (or_cases (v == x) (is_member x order) (sym (put_member x last v order) ∙ e)) [ inl same ↦ inl (equal_numbers v x same) | inr there ↦ inr there ]
    ]

pub interleave_keeps : (vs : List ℕ) (order : List ℕ) (last : Option ℕ) (x : ℕ) → is_member x order ≡ true → is_member x (interleave_walk order last vs) ≡ true
interleave_keeps [] order last x e = e
interleave_keeps (v ∷ vs) order last x e = interleave_keeps vs (grown order last v) (Some v) x (grown_keeps order last v x e)

pub interleave_has : (vs : List ℕ) (order : List ℕ) (last : Option ℕ) (x : ℕ) → is_member x vs ≡ true → is_member x (interleave_walk order last vs) ≡ true
interleave_has [] order last x e = absurd (no_true e)
interleave_has (v ∷ vs) order last x e = elim (or_cases (v == x) (is_member x vs) e) [
  | inl same ↦ interleave_keeps vs (grown order last v) (Some v) x (subst (λ y. is_member y (grown order last v) ≡ true) (equal_numbers v x same) (grown_has order last v))
  | inr more ↦ interleave_has vs (grown order last v) (Some v) x more
]

pub interleave_from : (vs : List ℕ) (order : List ℕ) (last : Option ℕ) (x : ℕ) → is_member x (interleave_walk order last vs) ≡ true → (is_member x order ≡ true) ⊎ (is_member x vs ≡ true)
interleave_from [] order last x e = inl e
interleave_from (v ∷ vs) order last x e = elim (interleave_from vs (grown order last v) (Some v) x e) [
  | inl there ↦ elim (grown_from order last v x there) [
    | inl same ↦ inr (or_left (v == x) (is_member x vs) (ap (λ y. v == y) (sym same) ∙ same_number v))
    | inr before ↦ inl before
  ]
  | inr more ↦ inr (or_right (v == x) (is_member x vs) more)
]

-- a walk that meets nothing new changes nothing
pub interleave_nothing : (vs : List ℕ) (order : List ℕ) (last : Option ℕ) → ((x : ℕ) → is_member x vs ≡ true → is_member x order ≡ true) → interleave_walk order last vs ≡ order
interleave_nothing [] order last h = refl
interleave_nothing (v ∷ vs) order last h =
    ap (λ b. interleave_walk (cond b order (put_after last v order)) (Some v) vs) (h v (member_head v vs)) ∙
    interleave_nothing vs order (Some v) (λ x e. h x (or_right (v == x) (is_member x vs) e))

-- ---- one variable of a walk

pub added_there : (order : List ℕ) (last : Option ℕ) (v : ℕ) → is_member v order ≡ true → order ≡ with_variable last v order
added_there order last v e = ap (λ b. cond b order (put_after last v order)) (sym e)

pub added_new : (order new : List ℕ) (last : Option ℕ) (v : ℕ) → is_member v order ≡ false → new ≡ put_after last v order → new ≡ with_variable last v order
added_new order new last v e is_new = is_new ∙ ap (λ b. cond b order (put_after last v order)) (sym e)

new_visit : (seen : List Bool) (v w : ℕ) (b : Bool) → v < length seen → get_or seen w false ≡ b → get_or (set seen v true) w false ≡ ((v == w) || b)
new_visit seen v w b low e = elim (cases_eq w v) [
  | inl same ↦
      let yes : (v == w) ≡ true = ap (λ y. v == y) same ∙ same_number v in
      ap (λ y. get_or (set seen v true) y false) same ∙ get_or-set_same seen v true false low ∙ ap (λ c. c || b) (sym yes)
  | inr ne ↦
      let no : (v == w) ≡ false = other_number v w (λ f. ne (sym f)) in
      get_or-set_other seen v w true false ne ∙ e ∙ ap (λ c. c || b) (sym no)
]
  where
    other_number : (x y : ℕ) → (x ≡ y → ⊥) → (x == y) ≡ false
    other_number x y h = grind arith

pub visited_new : (seen : List Bool) (order new : List ℕ) (last : Option ℕ) (v : ℕ) → AreMembershipFlags seen order → v < length seen → new ≡ put_after last v order → AreMembershipFlags (set seen v true) new
visited_new seen order new last v m low is_new =
    subst (AreMembershipFlags (set seen v true)) (sym is_new) (record {
      low = λ w e. elim (or_cases (v == w) (is_member w order) (sym (put_member w last v order) ∙ e)) [
        | inl same ↦ subst (λ n. w < n) (sym (length-set seen v true)) (subst (λ y. y < length seen) (equal_numbers v w same) low)
        | inr there ↦ subst (λ n. w < n) (sym (length-set seen v true)) (m.low w there)
      ];
      each = λ w h. new_visit seen v w (is_member w order) low (m.each w (subst (λ n. w < n) (length-set seen v true) h)) ∙ sym (put_member w last v order);
    })

-- ---- the rest of a walk

module _ (variable : ℕ → ℕ) (met : List ℕ) (i s v : ℕ) (low : i < length met) (at : s ≡ get_or met i s) (is_v : v ≡ variable s) where
  rest_is : map variable (drop i met) ≡ v ∷ map variable (drop (i + 1) met)
  rest_is = ap (map variable) (drop_more met i s low ∙ ap (λ x. x ∷ drop (i + 1) met) (sym at)) ∙ ap (λ x. x ∷ map variable (drop (i + 1) met)) (sym is_v)

  pub rest_more : (order new total : List ℕ) (last : Option ℕ) → new ≡ with_variable last v order → interleave_walk order last (map variable (drop i met)) ≡ total → interleave_walk new (Some v) (map variable (drop (i + 1) met)) ≡ total
  rest_more order new total last is_new h = ap (λ xs. interleave_walk xs (Some v) (map variable (drop (i + 1) met))) is_new ∙ ap (interleave_walk order last) (sym rest_is) ∙ h

-- the variable that is met is one of the numbers that have flags
pub met_low : (variable : ℕ → ℕ) (count : ℕ) (met : List ℕ) (i s v : ℕ) → i < length met → s ≡ get_or met i s → v ≡ variable s → All (λ x. variable x < count) met → v < count
met_low variable count met i s v low at is_v h = subst (λ x. x < count) (sym is_v) (subst (λ x. variable x < count) (sym at) (h i s low))

pub seen_of : (seen : List Bool) (order : List ℕ) (v : ℕ) (r : Bool) → AreMembershipFlags seen order → v < length seen → r ≡ get_or seen v r → is_member v order ≡ r
seen_of seen order v r m low at = sym (m.each v low) ∙ sym (at ∙ same_visit seen v r false low)
