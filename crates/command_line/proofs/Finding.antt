-- Orders that have to be found, and what cannot be asked for together with them.
use Rattle.std.proofs.Common.{◌≡◌, ◌∙◌, ◌⊎◌, ap, inl, inr, refl, sym, subst, Bool, true, false, List, [], ◌∷◌, Option, Some, None, IsTrue}
use Rattle.std.specs.Prelude.{◌↔◌, IsSomeAnd, codes}
use Rattle.std.specs.Borrow.{Bor}
use Rattle.clap.specs.Words.{Row, Text, first_of}
use Rattle.command_line.specs.declared.options.OrderChoice.{OrderChoice}
use Rattle.command_line.specs.declared.options.OrderChoice.TheVariants.{Named, Best, Auto, Cones, ConesByList, Merge, File, Extended}
use Rattle.report_text.specs.declared.pair_filter.PairFilter.{PairFilter}
use Rattle.report_text.specs.declared.pair_filter.PairFilter.TheVariants.{All}
use Rattle.command_line.specs.Conflicts.{IfHolds}
use Rattle.command_line.specs.Picking.{TakesPicks}
use Rattle.command_line.specs.Words.{IsChoice, IsOrderIfPicked, IsOrderIn, IsPickingOrder, IsSearchName, GiveTwoOrders, GiveTwoPicks, GiveSearch, GiveSearchWith, GivePicksWithFixedOrder, GiveUnusedMemory, GiveUnusedExtend, GiveExplainConflict, GiveUnusedVcd, GiveCausesConflict, GivePairsByPosition, HaveConflict, ArePicks, are_picked, flag_of, names_in, share_in, default_order_of}

-- ---- tests

pub passes : {A : Type 0} (b : Bool) → b ≡ true → (IsTrue b ↔ A) → A
passes b is test = test.0 is

pub fails : {A : Type 0} (b : Bool) → b ≡ false → (IsTrue b ↔ A) → A → ⊥
fails b is test a =
    let no : b ≡ true = test.1 a in
    let bad : false ≡ true = sym is ∙ no in
    cc

-- the statement holds, and so do what is said of it, and what is said of its absence
pub holding : {A B C : Type 0} → A → B → IfHolds A B C
holding a b = ((λ _. b), (λ without. absurd (without a)))

pub failing : {A B C : Type 0} → (A → ⊥) → C → IfHolds A B C
failing without c = ((λ a. absurd (without a)), (λ _. c))

-- the two texts of a pair
pub both_named : (p : Bor Text × Bor Text) (one other : Bor Text) → p ≡ (one, other) → (p.0.now ≡ one.now) × (p.1.now ≡ other.now)
both_named p one other is = (ap (λ (q : Bor Text × Bor Text). q.0.now) is, ap (λ (q : Bor Text × Bor Text). q.1.now) is)

pub both_said : (P Q : Text → Type 0) (p : Bor Text × Bor Text) (one other : Bor Text) → p ≡ (one, other) → P one.now → Q other.now → P p.0.now × Q p.1.now
both_said P Q p one other is first second = (subst P (sym (both_named p one other is).0) first, subst Q (sym (both_named p one other is).1) second)

-- there is no conflict if no test finds one
pub no_conflict : (rows : List Row) → (GiveTwoOrders rows → ⊥) → (GiveTwoPicks rows → ⊥) → (GiveSearchWith (codes "sizes") rows → ⊥) → (GiveSearchWith (codes "print-order") rows → ⊥)
    → (GivePicksWithFixedOrder rows → ⊥) → (GiveUnusedMemory rows → ⊥) → (GiveUnusedExtend rows → ⊥) → (GiveExplainConflict rows → ⊥) → (GiveUnusedVcd rows → ⊥) → (GiveCausesConflict rows → ⊥) → (GivePairsByPosition rows → ⊥) → HaveConflict rows → ⊥
no_conflict rows a b c d e f g h i j k (inl x) = a x
no_conflict rows a b c d e f g h i j k (inr (inl x)) = b x
no_conflict rows a b c d e f g h i j k (inr (inr (inl x))) = c x
no_conflict rows a b c d e f g h i j k (inr (inr (inr (inl x)))) = d x
no_conflict rows a b c d e f g h i j k (inr (inr (inr (inr (inl x))))) = e x
no_conflict rows a b c d e f g h i j k (inr (inr (inr (inr (inr (inl x)))))) = f x
no_conflict rows a b c d e f g h i j k (inr (inr (inr (inr (inr (inr (inl x))))))) = g x
no_conflict rows a b c d e f g h i j k (inr (inr (inr (inr (inr (inr (inr (inl x)))))))) = h x
no_conflict rows a b c d e f g h i j k (inr (inr (inr (inr (inr (inr (inr (inr (inl x))))))))) = i x
no_conflict rows a b c d e f g h i j k (inr (inr (inr (inr (inr (inr (inr (inr (inr (inl x)))))))))) = j x
no_conflict rows a b c d e f g h i j k (inr (inr (inr (inr (inr (inr (inr (inr (inr (inr x)))))))))) = k x

-- ---- orders

-- the order has to be found
abbrev IsSearch : OrderChoice → Type 0
IsSearch choice = (choice ≡ Auto) ⊎ (choice ≡ Cones) ⊎ (choice ≡ Merge)

-- such an order is asked for, or it is the default
where_found : (picked : Bool) (file word : Option Text) (extend : Bool) (default_order choice : OrderChoice) → IsOrderIfPicked picked file word extend default_order choice → IsSearch choice
    → (IsSomeAnd word IsSearchName ⊎ (picked ≡ true)) ⊎ (default_order ≡ choice)
where_found true file word extend default_order choice is found = inl (inr refl)
where_found false (Some file) word extend default_order choice is (inl auto) = absurd (subst (IsChoice (Some file) word extend default_order) auto is)
where_found false (Some file) word extend default_order choice is (inr (inl cones)) = absurd (subst (IsChoice (Some file) word extend default_order) cones is)
where_found false (Some file) word extend default_order choice is (inr (inr merge)) = absurd (subst (IsChoice (Some file) word extend default_order) merge is)
where_found false None (Some word) extend default_order choice is (inl auto) = inl (inl (inl (subst (IsChoice None (Some word) extend default_order) auto is)))
where_found false None (Some word) extend default_order choice is (inr (inl cones)) = inl (inl (inr (inl (subst (IsChoice None (Some word) extend default_order) cones is))))
where_found false None (Some word) extend default_order choice is (inr (inr merge)) = inl (inl (inr (inr (subst (IsChoice None (Some word) extend default_order) merge is))))
where_found false None None extend default_order choice is found = inr (sym is)

-- then the default order comes without sizes and without an order to print
plain : (limit : Option Text) (sizes print_order : Bool) (choice : OrderChoice) → default_order_of limit sizes print_order ≡ choice → IsSearch choice → (sizes ≡ false) × (print_order ≡ false)
plain (Some limit) sizes print_order choice is (inl auto) = cc
plain (Some limit) sizes print_order choice is (inr (inl cones)) = cc
plain (Some limit) sizes print_order choice is (inr (inr merge)) = cc
plain None true print_order choice is (inl auto) = cc
plain None true print_order choice is (inr (inl cones)) = cc
plain None true print_order choice is (inr (inr merge)) = cc
plain None false true choice is (inl auto) = cc
plain None false true choice is (inr (inl cones)) = cc
plain None false true choice is (inr (inr merge)) = cc
plain None false false choice is found = (refl, refl)

unset : (b : Bool) → (b ≡ true → ⊥) → b ≡ false
unset true never = absurd (never refl)
unset false never = refl

-- if an order has to be found, neither sizes nor an order to print are asked for
pub no_flags : (rows : List Row) (choice : OrderChoice) → IsOrderIn rows choice → (HaveConflict rows → ⊥) → (choice ≡ Auto) ⊎ (choice ≡ Cones) ⊎ (choice ≡ Merge)
    → (flag_of (first_of (codes "sizes") rows) ≡ false) × (flag_of (first_of (codes "print-order") rows) ≡ false)
no_flags rows choice is without_conflict found =
    by (where_found (are_picked (names_in rows) (share_in rows)) (first_of (codes "order-file") rows) (first_of (codes "order") rows) (flag_of (first_of (codes "extend") rows)) _ choice is found)
  where
    by : (GiveSearch rows ⊎ (default_order_of (first_of (codes "limit") rows) (flag_of (first_of (codes "sizes") rows)) (flag_of (first_of (codes "print-order") rows)) ≡ choice))
        → (flag_of (first_of (codes "sizes") rows) ≡ false) × (flag_of (first_of (codes "print-order") rows) ≡ false)
    by (inl given) = (unset _ (λ e. without_conflict (inr (inr (inl (given, e))))), unset _ (λ e. without_conflict (inr (inr (inr (inl (given, e)))))))
    by (inr default_order) = plain (first_of (codes "limit") rows) (flag_of (first_of (codes "sizes") rows)) (flag_of (first_of (codes "print-order") rows)) choice default_order found

-- ---- pairs that are picked

some_picked : (names : List Text) (share : Option Text) (picks : PairFilter (Bor Text)) → ArePicks names share picks → (picks ≡ All → ⊥) → are_picked names share ≡ true
some_picked (n ∷ ns) share picks are some = refl
some_picked [] (Some text) picks are some = refl
some_picked [] None picks are some = absurd (some are)

takes : (file : Option Text) (choice : OrderChoice) → IsPickingOrder file choice → TakesPicks choice
unfolding Rattle.command_line.specs.Picking.takes_picks
takes (Some path) (ConesByList p) is = refl
takes (Some path) (Named name) is = absurd is
takes (Some path) Best is = absurd is
takes (Some path) Auto is = absurd is
takes (Some path) Cones is = absurd is
takes (Some path) Merge is = absurd is
takes (Some path) (File p) is = absurd is
takes (Some path) (Extended p) is = absurd is
takes None choice is = subst TakesPicks (sym is) refl

-- if pairs are picked, the order is by cones
pub picked_order : (rows : List Row) (picks : PairFilter (Bor Text)) (choice : OrderChoice) → ArePicks (names_in rows) (share_in rows) picks → IsOrderIn rows choice → (picks ≡ All → ⊥) → TakesPicks choice
picked_order rows picks choice are is some = by (are_picked (names_in rows) (share_in rows)) (some_picked (names_in rows) (share_in rows) picks are some) is
  where
    by : (picked : Bool) → picked ≡ true → IsOrderIfPicked picked (first_of (codes "order-file") rows) (first_of (codes "order") rows)
        (flag_of (first_of (codes "extend") rows)) (default_order_of (first_of (codes "limit") rows) (flag_of (first_of (codes "sizes") rows)) (flag_of (first_of (codes "print-order") rows))) choice → TakesPicks choice
    by true e o = takes (first_of (codes "order-file") rows) choice o
    by false e o = absurd (let never : false ≡ true = e in cc)
