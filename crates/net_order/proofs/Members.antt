-- Members of lists, and the variables that walks meet.
use Rattle.std.proofs.Common.{◌≡◌, ℕ, zero, suc, ◌<◌, inl, inr, List, [], ◌∷◌, ◌++◌, Bool, true, false, refl, sym, ap, ◌∙◌, subst, length, map, arith, get_or, All, IsTrue}
use Rattle.std.specs.Prelude.{cond, ◌||◌, ◌==◌, flat_map, fold, bytes_eq, Contains}
use Rattle.std.proofs.lemmas.List.Folds.{list_any-append}
use Rattle.net_bench.specs.Circuit.{Circuit, Net, IsNet, circuit, is_name_in, distinct, variables_of}
use Rattle.net_bench.proofs.Numbers.{name_itself, in_distinct, or_left, or_right, or_cases}
use Rattle.net_order.specs.declared.walk.OperandOrder.{OperandOrder}
use Rattle.net_order.specs.declared.walk.OperandOrder.TheVariants.{Written}
use Rattle.net_order.specs.Order.{is_member, leaves, below, with_number, met, met_below, roots, walk_operands}
use Rattle.net_order.specs.Walk.{IsSubset}
use Rattle.net_order.proofs.Walking.{in_append}
use Rattle.net_order.proofs.Leaves.{member_at}
use Rattle.net_order.proofs.Different.{AmongNames}

-- ---- what walks meet are variables

pub no_true : false ≡ true → ⊥
no_true e = cc

pub joined_among : (xs ys zs : List ℕ) → IsSubset xs zs → IsSubset ys zs → IsSubset (xs ++ ys) zs
joined_among xs ys zs h k x e = elim (or_cases (is_member x xs) (is_member x ys) (sym (in_append x xs ys) ∙ e)) [ inl l ↦ h x l | inr r ↦ k x r ]

flat_among : (f : ℕ → List ℕ) (xs zs : List ℕ) → ((x : ℕ) → IsSubset (f x) zs) → IsSubset (flat_map f xs) zs
flat_among f [] zs h x e = absurd (no_true e)
flat_among f (y ∷ xs) zs h x e = joined_among (f y) (flat_map f xs) zs (h y) (flat_among f xs zs h) x e

either_list : (b : Bool) (xs ys zs : List ℕ) → (b ≡ true → IsSubset xs zs) → IsSubset ys zs → IsSubset (cond b xs ys) zs
either_list true xs ys zs h k = h refl
either_list false xs ys zs h k = k

pub equal_numbers : (x y : ℕ) → (x == y) ≡ true → x ≡ y
equal_numbers x y e = grind arith

pub itself : (s : ℕ) (zs : List ℕ) → is_member s zs ≡ true → IsSubset (s ∷ []) zs
itself s zs h x e = elim (or_cases (s == x) false e) [
  | inl same ↦ ap (λ t. is_member t zs) (sym (equal_numbers s x same)) ∙ h
  | inr none ↦ absurd (no_true none)
]

leaves_inputs : (operand_order : OperandOrder) (c : Circuit) (depth s : ℕ) → IsSubset (leaves operand_order c depth s) (variables_of c)
leaves_inputs operand_order c zero s = either_list (is_member s (variables_of c)) (s ∷ []) [] (variables_of c) (itself s (variables_of c)) (λ x e. absurd (no_true e))
leaves_inputs operand_order c (suc depth) s =
    either_list (is_member s (variables_of c)) (s ∷ []) (flat_map (leaves operand_order c depth) (walk_operands operand_order c s)) (variables_of c) (itself s (variables_of c))
    (flat_among (leaves operand_order c depth) (walk_operands operand_order c s) (variables_of c) (leaves_inputs operand_order c depth))

pub with_among : (found zs : List ℕ) (s : ℕ) → IsSubset found zs → is_member s zs ≡ true → IsSubset (with_number found s) zs
with_among found zs s h e = either_list (is_member s found) found (found ++ s ∷ []) zs (λ k. h) (joined_among found (s ∷ []) zs h (itself s zs e))

pub member_head : (x : ℕ) (xs : List ℕ) → is_member x (x ∷ xs) ≡ true
member_head x xs = let same : (x == x) ≡ true = grind arith in or_left (x == x) (is_member x xs) same

pub fold_among : (xs found zs : List ℕ) → IsSubset found zs → IsSubset xs zs → IsSubset (fold with_number found xs) zs
fold_among [] found zs h k = h
fold_among (x ∷ xs) found zs h k =
    fold_among xs (with_number found x) zs (with_among found zs x h (k x (member_head x xs))) (λ y e. k y (or_right (x == y) (is_member y xs) e))

pub met_inputs : (c : Circuit) → IsSubset (met c) (variables_of c)
met_inputs c =
    fold_among (flat_map (below Written c) (roots c)) [] (variables_of c) (λ x e. absurd (no_true e)) (flat_among (below Written c) (roots c) (variables_of c) (leaves_inputs Written c (length c.gates)))

pub below_inputs : (operand_order : OperandOrder) (c : Circuit) (s : ℕ) → IsSubset (below operand_order c s) (variables_of c)
below_inputs operand_order c s = leaves_inputs operand_order c (length c.gates) s

pub met_below_inputs : (operand_order : OperandOrder) (c : Circuit) (s : ℕ) → IsSubset (met_below operand_order c s) (variables_of c)
met_below_inputs operand_order c s = fold_among (below operand_order c s) [] (variables_of c) (λ x e. absurd (no_true e)) (below_inputs operand_order c s)

pub at_place : (xs : List ℕ) (i d : ℕ) → i < length xs → is_member (get_or xs i d) xs ≡ true
at_place [] i d low = absurd (omega arith)
at_place (x ∷ xs) zero d low = member_head x xs
at_place (x ∷ xs) (suc i) d low = or_right (x == get_or xs i d) (is_member (get_or xs i d) xs) (at_place xs i d (omega arith))

module _ (n : Net) (sound : IsNet n) (xs : List ℕ) (e : xs ≡ met (circuit n)) where
  pub met_members : All (λ s. IsTrue (is_member s (variables_of (circuit n)))) xs
  met_members i d low = met_inputs (circuit n) (get_or xs i d) (subst (λ ys. is_member (get_or xs i d) ys ≡ true) e (at_place xs i d low))

  pub met_low : All (λ s. s < length n.names) xs
  met_low i d low = let at = member_at (get_or xs i d) (variables_of (circuit n)) (met_members i d low) in rw at.2 at (sound.variables at.0 (get_or xs i d) at.1)

-- ---- names of numbers

pub named_member : (f : ℕ → List ℕ) (xs : List ℕ) (s : ℕ) → is_member s xs ≡ true → is_name_in (map f xs) (f s) ≡ true
named_member f [] s e = absurd (no_true e)
named_member f (x ∷ xs) s e = elim (or_cases (x == s) (is_member s xs) e) [
  | inl same ↦ or_left (bytes_eq (f x) (f s)) (is_name_in (map f xs) (f s)) (ap (λ t. bytes_eq (f t) (f s)) (equal_numbers x s same) ∙ name_itself (f s))
  | inr more ↦ or_right (bytes_eq (f x) (f s)) (is_name_in (map f xs) (f s)) (named_member f xs s more)
]

pub in_joined : (xs ys : List (List ℕ)) (n : List ℕ) → is_name_in (xs ++ ys) n ≡ (is_name_in xs n || is_name_in ys n)
in_joined xs ys n = list_any-append (λ m. bytes_eq m n) xs ys

pub joined_names : (xs ys zs : List (List ℕ)) → AmongNames xs zs → AmongNames ys zs → AmongNames (xs ++ ys) zs
joined_names xs ys zs h k n e = elim (or_cases (is_name_in xs n) (is_name_in ys n) (sym (in_joined xs ys n) ∙ e)) [ inl l ↦ h n l | inr r ↦ k n r ]

pub left_names : (xs ys zs : List (List ℕ)) → AmongNames xs ys → AmongNames xs (ys ++ zs)
left_names xs ys zs h n e = in_joined ys zs n ∙ or_left (is_name_in ys n) (is_name_in zs n) (h n e)

pub right_names : (xs ys zs : List (List ℕ)) → AmongNames xs zs → AmongNames xs (ys ++ zs)
right_names xs ys zs h n e = in_joined ys zs n ∙ or_right (is_name_in ys n) (is_name_in zs n) (h n e)

-- each name once makes no difference
pub distinct_names : (xs ys : List (List ℕ)) → AmongNames xs ys → AmongNames (distinct xs) (distinct ys)
distinct_names xs ys h n e = in_distinct ys n ∙ h n (sym (in_distinct xs n) ∙ e)

pub contains_member : (xs : List ℕ) (s : ℕ) → Contains xs s → is_member s xs ≡ true
contains_member [] s (i, low, at) = absurd (omega arith)
contains_member (x ∷ xs) s (zero, low, at) = ap (λ y. y == s || is_member s xs) at ∙ member_head s xs
contains_member (x ∷ xs) s (suc i, low, at) = or_right (x == s) (is_member s xs) (contains_member xs s (i, omega arith, at))

-- ---- what is true of members

pub at_inputs : (P : ℕ → Type 0) (inputs : List ℕ) → All P inputs → (s : ℕ) → is_member s inputs ≡ true → P s
at_inputs P inputs h s e = let at = member_at s inputs e in subst P at.2 (h at.0 s at.1)

pub all_of : (P : ℕ → Type 0) (xs : List ℕ) → ((s : ℕ) → is_member s xs ≡ true → P s) → All P xs
all_of P xs h i d low = h (get_or xs i d) (at_place xs i d low)

-- an item of a list that is these signals is one of them
pub item_member : (xs items : List ℕ) (i s : ℕ) → items ≡ xs → i < length items → s ≡ get_or items i s → is_member s xs ≡ true
item_member xs items i s e low at = subst (λ ys. is_member s ys ≡ true) e (subst (λ t. is_member t items ≡ true) (sym at) (at_place items i s low))
