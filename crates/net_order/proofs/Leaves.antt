-- The leaves below a signal are those of its operands.
use Rattle.std.proofs.Common.{◌≡◌, ℕ, zero, suc, ◌+◌, ◌<◌, ◌≤◌, List, [], ◌∷◌, ◌++◌, Bool, true, false, refl, sym, ap, ◌∙◌, subst, length, arith, add-one, ◌⊎◌, inl, inr, All}
use Rattle.std.specs.Prelude.{cond, ◌||◌, ◌==◌, flat_map, find, Option, Some, None, Contains, slice_index, slice_index_or}
use Rattle.net_bench.specs.declared.netlist.GateLine.{GateLine}
use Rattle.net_bench.specs.Circuit.{Circuit, Feeds, AreRanks, Net, IsNet, circuit, variables_of}
use Rattle.net_bench.proofs.Chains.{lower}
use Rattle.std.specs.List.{sum_by}
use Rattle.std.proofs.lemmas.List.Sums.{sum_by-cons}
use Rattle.net_order.specs.declared.walk.OperandOrder.{OperandOrder}
use Rattle.net_order.specs.declared.walk.OperandOrder.TheVariants.{Written, ByRank}
use Rattle.net_order.specs.Order.{is_member, leaves, below, operands_of, gate_operands, in_walk_order, walk_operands, rank_of}
use Rattle.net_order.specs.Walk.{steps_within, steps_below}
use Rattle.net_order.proofs.Ranks.{deep}
use Rattle.net_order.proofs.Falling.{falling_contains}

deeper : (x : ℕ) (xs : List ℕ) (s : ℕ) (among : Contains xs s) → slice_index_or (x ∷ xs) (among.0 + 1) s ≡ s
deeper x xs s among = rw add-one among.2

pub flat_map_same : (f g : ℕ → List ℕ) (xs : List ℕ) → ((x : ℕ) → Contains xs x → f x ≡ g x) → flat_map f xs ≡ flat_map g xs
flat_map_same f g [] h = refl
flat_map_same f g (x ∷ xs) h =
    ap (λ ys. ys ++ flat_map f xs) (h x (0, omega arith, refl)) ∙
    ap (λ ys. g x ++ ys) (flat_map_same f g xs (λ s among. h s (among.0 + 1, omega arith, deeper x xs s among)))

sum_by_same : (f g : ℕ → ℕ) (xs : List ℕ) → ((x : ℕ) → Contains xs x → f x ≡ g x) → sum_by f xs ≡ sum_by g xs
sum_by_same f g [] h = refl
sum_by_same f g (x ∷ xs) h =
    sum_by-cons f x xs ∙ ap (λ k. k + sum_by f xs) (h x (0, omega arith, refl)) ∙
    ap (λ k. g x + k) (sum_by_same f g xs (λ s among. h s (among.0 + 1, omega arith, deeper x xs s among))) ∙ sym (sum_by-cons g x xs)

empty : (xs : List ℕ) → ((x : ℕ) → Contains xs x → ⊥) → xs ≡ []
empty [] h = refl
empty (x ∷ xs) h = absurd (h x (0, omega arith, refl))

-- A value that is computed from a signal's operands down to a bound on depth: `value depth s`. If no rank is greater
-- than the bound, a greater bound gives the same value.
module _ (c : Circuit) (ranks : List ℕ) (ranked : AreRanks c ranks) (steps : ℕ → List ℕ) (feeds : (s o : ℕ) → Contains (steps s) o → Feeds c o s) (A : Type 0) (value : ℕ → ℕ → A) (at_input : ℕ → A) (at_gate : (ℕ → A) → List ℕ → A)
    (same : (f g : ℕ → A) (xs : List ℕ) → ((x : ℕ) → Contains xs x → f x ≡ g x) → at_gate f xs ≡ at_gate g xs)
    (start : (s : ℕ) → value zero s ≡ cond (is_member s (variables_of c)) (at_input s) (at_gate (value zero) []))
    (step : (depth s : ℕ) → value (suc depth) s ≡ cond (is_member s (variables_of c)) (at_input s) (at_gate (value depth) (steps s))) where
  lower_rank : (s o : ℕ) → Contains (steps s) o → slice_index ranks o < slice_index ranks s
  lower_rank s o among = lower c ranks ranked o s (feeds s o among)

  -- from the rank on, the bound makes no difference
  stable : (depth s : ℕ) → slice_index ranks s ≤ depth → value depth s ≡ value (suc depth) s
  stable zero s h =
      let none : steps s ≡ [] = empty (steps s) (λ o among. let low : slice_index ranks o < slice_index ranks s = lower_rank s o among in absurd (omega arith)) in
      start s ∙ ap (λ xs. cond (is_member s (variables_of c)) (at_input s) (at_gate (value zero) xs)) (sym none) ∙ sym (step zero s)
  stable (suc depth) s h =
      step depth s ∙
      ap (cond (is_member s (variables_of c)) (at_input s))
      (same (value depth) (value (suc depth)) (steps s)
      (λ o among. let low : slice_index ranks o < slice_index ranks s = lower_rank s o among in stable depth o (omega arith))) ∙
      sym (step (suc depth) s)

  -- if no rank is greater than the bound, a gate's value is that of its operands, with the same bound
  pub unfolds : (bound s : ℕ) → slice_index ranks s ≤ bound → is_member s (variables_of c) ≡ false → value bound s ≡ at_gate (value bound) (steps s)
  unfolds bound s h e = stable bound s h ∙ step bound s ∙ ap (λ b. cond b (at_input s) (at_gate (value bound) (steps s))) e

-- ---- gates and inputs of a netlist

same_number : (x : ℕ) → (x == x) ≡ true
same_number x = grind arith

equal_numbers : (x y : ℕ) → (x == y) ≡ true → x ≡ y
equal_numbers x y e = grind arith

at_any : (xs : List ℕ) (i d e : ℕ) → i < length xs → slice_index_or xs i e ≡ slice_index_or xs i d
at_any [] i d e low = absurd (omega arith)
at_any (x ∷ xs) zero d e low = refl
at_any (x ∷ xs) (suc i) d e low = at_any xs i d e (omega arith)

some_same : (g h : GateLine) → Some g ≡ Some h → g ≡ h
some_same g h e = cc

none_some : (g : GateLine) (X : Type 0) → None ≡ Some g → X
none_some g X e = cc

more_gates : (h : GateLine) (gates : List GateLine) (g : GateLine) → Contains gates g → Contains (h ∷ gates) g
more_gates h gates g among = (among.0 + 1, omega (arith, among.1), rw add-one among.2)

abbrev At : ℕ → GateLine → List GateLine → Type 0
At s g gates = Contains gates g × (g.out ≡ s)

found_first : (b : Bool) (s : ℕ) (h : GateLine) (gates : List GateLine) (g : GateLine) → (h.out == s) ≡ b → cond b (Some h) (find (λ x. x.out == s) gates) ≡ Some g →
    (find (λ x. x.out == s) gates ≡ Some g → At s g gates) → At s g (h ∷ gates)
found_first true s h gates g is e k =
    let same : h ≡ g = some_same h g e in
    subst (λ x. At s x (h ∷ gates)) same ((0, omega arith, refl), equal_numbers h.out s is)
found_first false s h gates g isnt e k = let a = k e in (more_gates h gates g a.0, a.1)

pub found_gate : (s : ℕ) (gates : List GateLine) (g : GateLine) → find (λ x. x.out == s) gates ≡ Some g → At s g gates
found_gate s [] g e = none_some g (At s g []) e
found_gate s (h ∷ gates) g e = found_first (h.out == s) s h gates g refl e (found_gate s gates g)

no_member : (X : Type 0) → false ≡ true → X
no_member X e = cc

or_two : (a b : Bool) → (a || b) ≡ true → (a ≡ true) ⊎ (b ≡ true)
or_two true b e = inl refl
or_two false b e = inr e

pub member_at : (s : ℕ) (xs : List ℕ) → is_member s xs ≡ true → Contains xs s
member_at s [] e = no_member (Contains [] s) e
member_at s (x ∷ xs) e = elim (or_two (x == s) (is_member s xs) e) [
  | inl is ↦ (0, omega arith, equal_numbers x s is)
  | inr more ↦ let a = member_at s xs more in (a.0 + 1, omega (arith, a.1), rw add-one a.2)
]

among_operands : (c : Circuit) (s o : ℕ) (f : Option GateLine) → find (λ x. x.out == s) c.gates ≡ f → Contains (gate_operands f) o → Feeds c o s
among_operands c s o None e among = absurd (omega (arith, among.1))
among_operands c s o (Some g) e among = let a = found_gate s c.gates g e in (g, a.0, a.1, among)

pub feeds_of : (c : Circuit) (s o : ℕ) → Contains (operands_of c s) o → Feeds c o s
feeds_of c s o among = among_operands c s o (find (λ x. x.out == s) c.gates) refl among

taken_contains : (operand_order : OperandOrder) (c : Circuit) (os : List ℕ) (o : ℕ) → Contains (in_walk_order operand_order c os) o → Contains os o
taken_contains Written c os o among = among
taken_contains ByRank c os o among = falling_contains (rank_of c) os o among

steps_feed : (operand_order : OperandOrder) (c : Circuit) (s o : ℕ) → Contains (walk_operands operand_order c s) o → Feeds c o s
steps_feed operand_order c s o among = feeds_of c s o (taken_contains operand_order c (operands_of c s) o among)

false_or_true : (b : Bool) → (b ≡ true → ⊥) → b ≡ false
false_or_true true h = absurd (h refl)
false_or_true false h = refl

pub taken_all : (operand_order : OperandOrder) (c : Circuit) (P : ℕ → Type 0) (os : List ℕ) → All P os → All P (in_walk_order operand_order c os)
taken_all operand_order c P os h i d low =
    let o = slice_index_or (in_walk_order operand_order c os) i d in
    let among = taken_contains operand_order c os o (i, low, at_any (in_walk_order operand_order c os) i d o low) in
    subst P among.2 (h among.0 o among.1)

module _ (n : Net) (sound : IsNet n) where
  pub no_input : (s : ℕ) (g : GateLine) → find (λ x. x.out == s) n.gates ≡ Some g → is_member s (variables_of (circuit n)) ≡ false
  no_input s g e =
      let a = found_gate s n.gates g e in
      false_or_true (is_member s (variables_of (circuit n))) (λ is.
      let i = member_at s (variables_of (circuit n)) is in
      sound.apart i.0 s i.1 a.0.0 g a.0.1 (ap (λ x. x.out) a.0.2 ∙ a.1 ∙ sym i.2))

  -- the leaves of a gate are its operands' leaves
  pub gate_leaves : (operand_order : OperandOrder) (s : ℕ) (g : GateLine) → find (λ x. x.out == s) n.gates ≡ Some g → below operand_order (circuit n) s ≡ flat_map (below operand_order (circuit n)) (in_walk_order operand_order (circuit n) g.operands)
  gate_leaves operand_order s g e =
      unfolds (circuit n) n.ranks sound.ranks (walk_operands operand_order (circuit n)) (steps_feed operand_order (circuit n)) (List ℕ) (leaves operand_order (circuit n)) (λ t. t ∷ []) (λ f xs. flat_map f xs) flat_map_same (λ t. refl) (λ depth t. refl)
      (length n.gates) s (deep n sound s) (no_input s g e) ∙
      ap (λ f. flat_map (below operand_order (circuit n)) (in_walk_order operand_order (circuit n) (gate_operands f))) e

  -- to walk a gate takes two steps besides those of its operands
  pub gate_steps : (operand_order : OperandOrder) (s : ℕ) (g : GateLine) → find (λ x. x.out == s) n.gates ≡ Some g → steps_below operand_order (circuit n) s ≡ sum_by (steps_below operand_order (circuit n)) (in_walk_order operand_order (circuit n) g.operands) + 2
  gate_steps operand_order s g e =
      unfolds (circuit n) n.ranks sound.ranks (walk_operands operand_order (circuit n)) (steps_feed operand_order (circuit n)) ℕ (steps_within operand_order (circuit n)) (λ t. 1) (λ f xs. sum_by f xs + 2) (λ f h xs same. ap (λ k. k + 2) (sum_by_same f h xs same)) (λ t. refl) (λ depth t. refl)
      (length n.gates) s (deep n sound s) (no_input s g e) ∙
      ap (λ f. sum_by (steps_below operand_order (circuit n)) (in_walk_order operand_order (circuit n) (gate_operands f)) + 2) e

  pub gate_inside : (s : ℕ) (g : GateLine) → find (λ x. x.out == s) n.gates ≡ Some g → All (λ o. o < length n.names) g.operands
  gate_inside s g e =
      let a = found_gate s n.gates g e in
      subst (λ x. All (λ o. o < length n.names) x.operands) a.0.2 (sound.operands a.0.0 g a.0.1).0

  pub steps_inside : (operand_order : OperandOrder) (s : ℕ) (g : GateLine) → find (λ x. x.out == s) n.gates ≡ Some g → All (λ o. o < length n.names) (in_walk_order operand_order (circuit n) g.operands)
  steps_inside operand_order s g e = taken_all operand_order (circuit n) (λ o. o < length n.names) g.operands (gate_inside s g e)

  none_here : (b : Bool) (h : GateLine) (x : Option GateLine) → cond b (Some h) x ≡ None → b ≡ false
  none_here true h x e = cc
  none_here false h x e = refl

  either_right : (a b : Bool) → b ≡ true → (a || b) ≡ true
  either_right true b e = refl
  either_right false b e = e

  -- a signal without a gate is an input
  none_left : (gates : List GateLine) (s : ℕ) (g : GateLine) → find (λ x. x.out == s) gates ≡ None → (i : ℕ) → i < length gates → slice_index_or gates i g ≡ g → g.out ≡ s → ⊥
  none_left [] s g e i low at out = absurd (omega (arith, low))
  none_left (h ∷ gates) s g e zero low at out =
      let other : (h.out == s) ≡ false = none_here (h.out == s) h (find (λ x. x.out == s) gates) e in
      let same : (h.out == s) ≡ true = ap (λ y. y == s) (ap (λ x. x.out) at ∙ out) ∙ same_number s in
      no_member ⊥ (sym other ∙ same)
  none_left (h ∷ gates) s g e (suc i) low at out =
      let other : (h.out == s) ≡ false = none_here (h.out == s) h (find (λ x. x.out == s) gates) e in
      none_left gates s g (ap (λ b. cond b (Some h) (find (λ x. x.out == s) gates)) (sym other) ∙ e) i (omega (arith, low)) at out

  contains_member : (xs : List ℕ) (s i : ℕ) → i < length xs → slice_index_or xs i s ≡ s → is_member s xs ≡ true
  contains_member [] s i low at = absurd (omega (arith, low))
  contains_member (x ∷ xs) s zero low at = ap (λ b. b || is_member s xs) (ap (λ y. y == s) at ∙ same_number s)
  contains_member (x ∷ xs) s (suc i) low at = either_right (x == s) (is_member s xs) (contains_member xs s i (omega (arith, low)) at)

  pub is_input : (s : ℕ) → s < length n.names → find (λ x. x.out == s) n.gates ≡ None → is_member s (variables_of (circuit n)) ≡ true
  is_input s low e =
      elim (sound.defined s low) [
        | inl among ↦ contains_member (variables_of (circuit n)) s among.0 among.1 among.2
        | inr (g, among, out) ↦ absurd (none_left n.gates s g e among.0 among.1 among.2 out)
      ]

  leaf : (operand_order : OperandOrder) (depth s : ℕ) → is_member s (variables_of (circuit n)) ≡ true → leaves operand_order (circuit n) depth s ≡ s ∷ []
  leaf operand_order zero s e = ap (λ b. cond b (s ∷ []) []) e
  leaf operand_order (suc depth) s e = ap (λ b. cond b (s ∷ []) (flat_map (leaves operand_order (circuit n) depth) (walk_operands operand_order (circuit n) s))) e

  -- an input is its own leaf
  pub input_leaves : (operand_order : OperandOrder) (s : ℕ) → s < length n.names → find (λ x. x.out == s) n.gates ≡ None → below operand_order (circuit n) s ≡ s ∷ []
  input_leaves operand_order s low e = leaf operand_order (length n.gates) s (is_input s low e)

at_least_one : (b : Bool) (k : ℕ) → 0 < cond b 1 (k + 2)
at_least_one true k = omega arith
at_least_one false k = omega arith

pub some_steps : (operand_order : OperandOrder) (c : Circuit) (depth s : ℕ) → 0 < steps_within operand_order c depth s
some_steps operand_order c zero s = at_least_one (is_member s (variables_of c)) 0
some_steps operand_order c (suc depth) s = at_least_one (is_member s (variables_of c)) (sum_by (steps_within operand_order c depth) (walk_operands operand_order c s))
