-- The variables of each netlist of a pairing have names among all.
use Rattle.std.proofs.Common.{◌≡◌, ℕ, zero, suc, ◌<◌, inl, inr, List, [], ◌∷◌, ◌++◌, true, sym, ap, ◌∙◌, subst, length, map, arith, All, get_or}
use Rattle.std.specs.Prelude.{◌==◌, bytes_eq}
use Rattle.net_bench.specs.Circuit.{Net, IsNet, circuit, is_name_in}
use Rattle.net_bench.proofs.Numbers.{in_distinct, or_cases, or_right, same_name}
use Rattle.net_order.specs.Order.{NamedNetlistModel, all_names, declared, is_member, met, named, names_in, names_of_sides, names_on, registers_of}
use Rattle.net_order.specs.Tables.{AreKnown, IsKnown}
use Rattle.net_order.proofs.Different.{AmongNames}
use Rattle.net_order.proofs.Members.{joined_names, left_names, right_names, member_head, met_inputs, named_member, no_true}
use Rattle.net_order.proofs.Walking.{in_append}

all_right : {X : Type 0} (P : X → Type 0) (xs ys : List X) → All P (xs ++ ys) → All P ys
all_right P [] ys h = h
all_right P (x ∷ xs) ys h = all_right P xs ys (λ j e k. h (suc j) e (omega (arith, k)))

-- what is true of all variables is true of the registers
pub registers_low : (n : Net) → IsNet n → All (λ s. s < length n.names) (registers_of (circuit n))
registers_low n sound = all_right (λ s. s < length n.names) n.inputs (registers_of (circuit n)) sound.variables

-- ---- sides

-- names that are given one by one
pub known_names : (f : ℕ → List ℕ) (xs : List ℕ) (names : List (List ℕ)) → ((s : ℕ) → is_member s xs ≡ true → is_name_in names (f s) ≡ true) → AmongNames (map f xs) names
known_names f [] names h n e = absurd (no_true e)
known_names f (x ∷ xs) names h n e = elim (or_cases (bytes_eq (f x) n) (is_name_in (map f xs) n) e) [
  | inl same ↦ ap (is_name_in names) (sym (same_name (f x) n same)) ∙ h x (member_head x xs)
  | inr more ↦ known_names f xs names (λ s k. h s (or_right (x == s) (is_member s xs) k)) n more
]

-- a side whose inputs and registers have names among these
one_known : (side : NamedNetlistModel) (names : List (List ℕ)) → AmongNames (names_on side side.net.inputs) names → AmongNames (names_on side (registers_of side.net)) names → IsKnown names side
one_known side names h k s e = elim (or_cases (is_member s side.net.inputs) (is_member s (registers_of side.net)) (sym (in_append s side.net.inputs (registers_of side.net)) ∙ e)) [
  | inl input ↦ h (named side s) (named_member (named side) side.net.inputs s input)
  | inr register ↦ k (named side s) (named_member (named side) (registers_of side.net) s register)
]

all_known : (sides : List NamedNetlistModel) (names : List (List ℕ)) → AmongNames (names_of_sides (λ c. c.inputs) sides) names → AmongNames (names_of_sides registers_of sides) names → AreKnown names sides
all_known [] names h k = tt
all_known (side ∷ sides) names h k =
    let inputs = names_on side side.net.inputs in
    let registers = names_on side (registers_of side.net) in (
      one_known side names (λ n e. h n (left_names inputs inputs (names_of_sides (λ c. c.inputs) sides) (λ m i. i) n e)) (λ n e. k n (left_names registers registers (names_of_sides registers_of sides) (λ m i. i) n e)),
      all_known sides names (λ n e. h n (right_names (names_of_sides (λ c. c.inputs) sides) inputs (names_of_sides (λ c. c.inputs) sides) (λ m i. i) n e))
          (λ n e. k n (right_names (names_of_sides registers_of sides) registers (names_of_sides registers_of sides) (λ m i. i) n e)),
    )

pub known_in : (sides : List NamedNetlistModel) (names : List (List ℕ)) → AmongNames (names_in sides) names → AreKnown names sides
known_in sides names h =
    let inputs = names_of_sides (λ c. c.inputs) sides in
    let registers = names_of_sides registers_of sides in
    all_known sides names (λ n e. h n (left_names inputs inputs registers (λ m i. i) n e)) (λ n e. h n (right_names registers inputs registers (λ m i. i) n e))

pub known_sides : (sides given : List NamedNetlistModel) → AreKnown (all_names sides given) sides
known_sides sides given = known_in sides (all_names sides given) (left_names (names_in sides) (names_in sides) (names_in given) (λ n e. e))

pub known_given : (sides given : List NamedNetlistModel) → AreKnown (all_names sides given) given
known_given sides given = known_in given (all_names sides given) (right_names (names_in given) (names_in sides) (names_in given) (λ n e. e))

pub known_more : (names more : List (List ℕ)) (sides : List NamedNetlistModel) → AmongNames names more → AreKnown names sides → AreKnown more sides
known_more names more [] h k = tt
known_more names more (side ∷ sides) h k = (λ s e. h (named side s) (k.0 s e), known_more names more sides h k.1)

pub known_declared : (sides given : List NamedNetlistModel) → AreKnown (declared sides given) sides
known_declared sides given = known_more (all_names sides given) (declared sides given) sides (λ n e. in_distinct (all_names sides given) n ∙ e) (known_sides sides given)

pub known_at : (names : List (List ℕ)) (sides : List NamedNetlistModel) (i : ℕ) (side : NamedNetlistModel) → AreKnown names sides → i < length sides → side ≡ get_or sides i side → IsKnown names side
known_at names [] i side k low at = absurd (omega arith)
known_at names (x ∷ sides) zero side k low at = subst (IsKnown names) (sym at) k.0
known_at names (x ∷ sides) (suc i) side k low at = known_at names sides i side k.1 (omega arith) at

-- what walks meet are variables
pub known_met : (names : List (List ℕ)) (sides : List NamedNetlistModel) → AreKnown names sides → AmongNames (names_of_sides met sides) names
known_met names [] k n e = absurd (no_true e)
known_met names (side ∷ sides) k n e =
    joined_names (names_on side (met side.net)) (names_of_sides met sides) names (known_names (named side) (met side.net) names (λ s h. k.0 s (met_inputs side.net s h))) (known_met names sides k.1) n e
