-- What the values in a bit say of the functions of a pair.
use Rattle.std.proofs.Common.{◌≡◌, ◌≢◌, ℕ, ◌<◌, Bool, true, false, not, List, Option, Some, None, refl, sym, ap, ◌∙◌, subst, map, length}
use Rattle.std.specs.Prelude.{◌↔◌, IfSome, slice_index}
use Rattle.std.proofs.lemmas.List.{length-map}
use Rattle.net_bench.specs.Circuit.{Circuit, IsNet, Net, circuit, variables_of}
use Rattle.net_bench.specs.Labels.{Computes, IsFunctionOf, IsLabelling, bit_of}
use Rattle.net_bench.proofs.Built.{same_labelling}
use Rattle.net_order.specs.Order.{NamingModel, first_level, second_level, given_level}
use Rattle.net_simulate.specs.Columns.{AreLabellings, bit_in_block, column}
use Rattle.net_patterns.specs.Differences.{HasOutput, HoldsAt, IsDifferenceAt, IsPairOf}
use Rattle.net_patterns.specs.Prepared.{SimulatorModel}
use Rattle.net_patterns.specs.Simulated.{AreApart, AreKept, AreOf, HaveOutput, IsKept, IsKeptCondition, IsOf, IsOfCondition, IsPairIn, first_bit}
use Rattle.net_patterns.specs.declared.sides.Sides.{Sides}

-- ---- one netlist

same_bits : (n : Net) → IsNet n → (c : Circuit) → circuit n ≡ c → (level : ℕ → ℕ) (x one two : List Bool) → IsLabelling c level x one → IsLabelling c level x two →
    (s : ℕ) → s < length c.names → bit_of one s ≡ bit_of two s
same_bits n sound c is = subst (λ c. (level : ℕ → ℕ) (x one two : List Bool) → IsLabelling c level x one → IsLabelling c level x two → (s : ℕ) → s < length c.names → bit_of one s ≡ bit_of two s) is (same_labelling n sound)

-- a signal's bit in a labelling is its function's value
value_is : (n : Net) → IsNet n → (c : Circuit) → circuit n ≡ c → (level : ℕ → ℕ) (x bits : List Bool) → IsLabelling c level x bits → (s : ℕ) → s < length c.names →
    (v : Bool) → Computes c level s x v → bit_of bits s ≡ v
value_is n sound c is level x bits labels s low v (others, labelled, e) = same_bits n sound c is level x bits others labels labelled s low ∙ e

pub labelled : (c : Circuit) (level : ℕ → ℕ) (old new : SimulatorModel) (at : List (List ℕ)) → IsOf c level old →
    ((l : ℕ → ℕ) → map l (variables_of (circuit old.net)) ≡ old.levels → AreLabellings bit_in_block 512 old.net l at new.values) →
    (i : ℕ) → i < 512 → IsLabelling c level (column bit_in_block i at) (column bit_in_block i new.values)
labelled c level old new at of values i low =
    subst (λ d. IsLabelling d level (column bit_in_block i at) (column bit_in_block i new.values)) of.netlist
    (values level (ap (λ d. map level (variables_of d)) of.netlist ∙ sym of.levels) i low)

pub kept_of : (c : Circuit) (level : ℕ → ℕ) (old new : SimulatorModel) → IsKept old new → IsOf c level old → IsOf c level new
kept_of c level old new kept of = record { netlist = ap circuit kept.net ∙ of.netlist; levels = kept.levels ∙ of.levels }

pub kept_condition : (given : Option Circuit) (level : ℕ → ℕ) (old new : Option SimulatorModel) → IsKeptCondition old new → IsOfCondition given level old → IsOfCondition given level new
kept_condition None level None None kept of = tt
kept_condition (Some c) level (Some old) (Some new) kept of = kept_of c level old new kept of
kept_condition None level (Some old) new kept of = absurd of
kept_condition (Some c) level None new kept of = absurd of
kept_condition None level None (Some new) kept of = absurd kept
kept_condition (Some c) level (Some old) None kept of = absurd kept

pub kept_all : (a b : Circuit) (given : Option Circuit) (p : NamingModel) (old new : Sides) → AreKept old new → AreOf a b given p old → AreOf a b given p new
kept_all a b given p old new kept of = record {
  first = kept_of a (first_level p) old.first new.first kept.first of.first;
  second = kept_of b (second_level p) old.second new.second kept.second of.second;
  condition = kept_condition given (given_level p) old.given new.given kept.condition of.condition;
}

-- ---- what is unchanged twice is unchanged

kept_twice : (one two three : SimulatorModel) → IsKept one two → IsKept two three → IsKept one three
kept_twice one two three first second = record { net = second.net ∙ first.net; levels = second.levels ∙ first.levels }

condition_twice : (one two three : Option SimulatorModel) → IsKeptCondition one two → IsKeptCondition two three → IsKeptCondition one three
condition_twice None None three first second = second
condition_twice (Some one) (Some two) (Some three) first second = kept_twice one two three first second
condition_twice (Some one) (Some two) None first second = second
condition_twice None (Some two) three first second = absurd first
condition_twice (Some one) None three first second = absurd first

pub all_twice : (one two three : Sides) → AreKept one two → AreKept two three → AreKept one three
all_twice one two three first second = record {
  first = kept_twice one.first two.first three.first first.first second.first;
  second = kept_twice one.second two.second three.second first.second second.second;
  condition = condition_twice one.given two.given three.given first.condition second.condition;
}

itself : (s : SimulatorModel) → IsKept s s
itself s = record { net = refl; levels = refl }

condition_itself : (s : Option SimulatorModel) → IsKeptCondition s s
condition_itself None = tt
condition_itself (Some s) = itself s

pub all_itself : (sides : Sides) → AreKept sides sides
all_itself sides = record { first = itself sides.first; second = itself sides.second; condition = condition_itself sides.given }

output_kept : (old new : Option SimulatorModel) → IsKeptCondition old new → HaveOutput old → HaveOutput new
output_kept None None kept some = tt
output_kept None (Some new) kept some = absurd kept
output_kept (Some old) None kept some = absurd kept
output_kept (Some old) (Some new) kept some = subst (λ (n : Net). 0 < length n.outputs) (sym kept.net) some

pub outputs_kept : (old new : Sides) → AreKept old new → HaveOutput old.given → HaveOutput new.given
outputs_kept old new kept some = output_kept old.given new.given kept.condition some

pub pair_kept : (old new : Sides) (pair : ℕ × ℕ) → AreKept old new → IsPairIn old pair → IsPairIn new pair
pair_kept old new pair kept inside = (
  subst (λ (n : Net). pair.0 < length n.names) (sym kept.first.net) inside.0,
  subst (λ (n : Net). pair.1 < length n.names) (sym kept.second.net) inside.1,
)

pub pair_of : (a b : Circuit) (given : Option Circuit) (p : NamingModel) (sides : Sides) (pair : ℕ × ℕ) → AreOf a b given p sides → IsPairIn sides pair → IsPairOf a b pair
pair_of a b given p sides pair of inside = (
  subst (λ (c : Circuit). pair.0 < length c.names) of.first.netlist inside.0,
  subst (λ (c : Circuit). pair.1 < length c.names) of.second.netlist inside.1,
)

pub pair_in : (a b : Circuit) (given : Option Circuit) (p : NamingModel) (sides : Sides) (pair : ℕ × ℕ) → AreOf a b given p sides → IsPairOf a b pair → IsPairIn sides pair
pair_in a b given p sides pair of inside = (
  subst (λ (c : Circuit). pair.0 < length c.names) (sym of.first.netlist) inside.0,
  subst (λ (c : Circuit). pair.1 < length c.names) (sym of.second.netlist) inside.1,
)

-- ---- the condition

pub output_low : (n : Net) → IsNet n → 0 < length n.outputs → slice_index n.outputs 0 < length n.names
output_low n sound some = sound.outputs 0 0 some

pub holds_from : (n : Net) → IsNet n → (c : Circuit) → circuit n ≡ c → (p : NamingModel) (x bits : List Bool) → 0 < length n.outputs → IsLabelling c (given_level p) x bits →
    bit_of bits (slice_index n.outputs 0) ≡ true → HoldsAt (Some c) p x
holds_from n sound c is p x bits some labels e = (bits, labels, ap (λ (d : Circuit). bit_of bits (slice_index d.outputs 0)) (sym is) ∙ e)

pub holds_to : (n : Net) → IsNet n → (c : Circuit) → circuit n ≡ c → (p : NamingModel) (x bits : List Bool) → 0 < length n.outputs → IsLabelling c (given_level p) x bits →
    HoldsAt (Some c) p x → bit_of bits (slice_index n.outputs 0) ≡ true
holds_to n sound c is p x bits some labels holds =
    ap (λ (d : Circuit). bit_of bits (slice_index d.outputs 0)) is ∙
    value_is n sound c is (given_level p) x bits labels (slice_index c.outputs 0) (subst (λ (d : Circuit). slice_index d.outputs 0 < length d.names) is (output_low n sound some)) true holds

pub have_output : (given : Option Circuit) (level : ℕ → ℕ) (s : Option SimulatorModel) → IsOfCondition given level s → IfSome given HasOutput → HaveOutput s
have_output None level None of some = tt
have_output None level (Some s) of some = absurd of
have_output (Some c) level None of some = absurd of
have_output (Some c) level (Some s) of some = subst (λ (d : Circuit). 0 < length d.outputs) (sym of.netlist) some

-- ---- pairs

other_bit : (u v : Bool) → u ≢ v → v ≡ not u
other_bit true true ne = absurd (ne refl)
other_bit true false ne = refl
other_bit false true ne = refl
other_bit false false ne = absurd (ne refl)

not_own : (v : Bool) → v ≡ not v → ⊥
not_own true e = cc
not_own false e = cc

pub difference_from : (a b : Circuit) (given : Option Circuit) (p : NamingModel) (pair : ℕ × ℕ) (x one two : List Bool) → IsLabelling a (first_level p) x one → IsLabelling b (second_level p) x two →
    length x ≡ length p.names → HoldsAt given p x → bit_of one pair.0 ≢ bit_of two pair.1 → IsDifferenceAt a b given p pair x
difference_from a b given p pair x one two first second each holds apart = record {
  bits = each;
  holds = holds;
  value = bit_of one pair.0;
  first = (one, first, refl);
  second = (two, second, other_bit (bit_of one pair.0) (bit_of two pair.1) apart);
}

pub difference_to : (n m : Net) → IsNet n → IsNet m → (a b : Circuit) → circuit n ≡ a → circuit m ≡ b → (given : Option Circuit) (p : NamingModel) (pair : ℕ × ℕ) (x one two : List Bool) →
    IsLabelling a (first_level p) x one → IsLabelling b (second_level p) x two → IsPairOf a b pair → IsDifferenceAt a b given p pair x → bit_of one pair.0 ≢ bit_of two pair.1
difference_to n m sound fine a b is it given p pair x one two first second inside d same =
    not_own d.value
    (sym (value_is n sound a is (first_level p) x one first pair.0 inside.0 d.value d.first) ∙ same ∙ value_is m fine b it (second_level p) x two second pair.1 inside.1 (not d.value) d.second)

-- a pair differs at the assignment of a bit exactly if its values do
pub shown : (a b : Circuit) (given : Option Circuit) (p : NamingModel) (old new : Sides) (at : List (List ℕ)) (holds : List ℕ) → AreOf a b given p old → AreKept old new →
    IsNet new.first.net → IsNet new.second.net →
    ((l : ℕ → ℕ) → map l (variables_of (circuit old.first.net)) ≡ old.first.levels → AreLabellings bit_in_block 512 old.first.net l at new.first.values) →
    ((l : ℕ → ℕ) → map l (variables_of (circuit old.second.net)) ≡ old.second.levels → AreLabellings bit_in_block 512 old.second.net l at new.second.values) →
    ((i : ℕ) → i < 512 → (bit_in_block i holds ≡ true) ↔ HoldsAt given p (column bit_in_block i at)) →
    (pair : ℕ × ℕ) → IsPairOf a b pair → length at ≡ length p.names → (i : ℕ) → i < 512 → IsDifferenceAt a b given p pair (column bit_in_block i at) ↔ AreApart new holds pair i
shown a b given p old new at holds of kept sound fine firsts seconds condition pair inside each i low =
    let one = labelled a (first_level p) old.first new.first at of.first firsts i low in
    let two = labelled b (second_level p) old.second new.second at of.second seconds i low in (
      λ d. (
        (condition i low).1 d.holds,
        difference_to new.first.net new.second.net sound fine a b (ap circuit kept.first.net ∙ of.first.netlist) (ap circuit kept.second.net ∙ of.second.netlist) given p pair
            (column bit_in_block i at) (column bit_in_block i new.first.values) (column bit_in_block i new.second.values) one two inside d,
      ),
      λ apart. difference_from a b given p pair (column bit_in_block i at) (column bit_in_block i new.first.values) (column bit_in_block i new.second.values) one two
          (length-map at (bit_in_block i) ∙ each) ((condition i low).0 apart.0) apart.1,
    )

-- in each bit the first signal's value is that of its function
pub first_shown : (a b : Circuit) (given : Option Circuit) (p : NamingModel) (old new : Sides) (at : List (List ℕ)) → AreOf a b given p old →
    ((l : ℕ → ℕ) → map l (variables_of (circuit old.first.net)) ≡ old.first.levels → AreLabellings bit_in_block 512 old.first.net l at new.first.values) →
    (pair : ℕ × ℕ) (i : ℕ) → i < 512 → Computes a (first_level p) pair.0 (column bit_in_block i at) (first_bit new pair i)
first_shown a b given p old new at of firsts pair i low =
    (column bit_in_block i new.first.values, labelled a (first_level p) old.first new.first at of.first firsts i low, refl)

-- the condition's block has a 1 exactly for the assignments at which it holds
pub condition_shown : (given : Option Circuit) (p : NamingModel) (old new : SimulatorModel) (at : List (List ℕ)) (holds : List ℕ) → IsOfCondition given (given_level p) (Some old) → IsKept old new → IsNet new.net →
    0 < length new.net.outputs → ((l : ℕ → ℕ) → map l (variables_of (circuit old.net)) ≡ old.levels → AreLabellings bit_in_block 512 old.net l at new.values) →
    ((i : ℕ) → i < 512 → bit_in_block i holds ≡ bit_of (column bit_in_block i new.values) (slice_index new.net.outputs 0)) →
    (i : ℕ) → i < 512 → (bit_in_block i holds ≡ true) ↔ HoldsAt given p (column bit_in_block i at)
condition_shown None p old new at holds of kept sound some values output i low = absurd of
condition_shown (Some c) p old new at holds of kept sound some values output i low =
    let is : circuit new.net ≡ c = ap circuit kept.net ∙ of.netlist in
    let labels = labelled c (given_level p) old new at of values i low in
    let x = column bit_in_block i at in
    let bits = column bit_in_block i new.values in
    (λ e. holds_from new.net sound c is p x bits some labels (sym (output i low) ∙ e), λ h. output i low ∙ holds_to new.net sound c is p x bits some labels h)

-- ---- functions

-- the value that a signal has is its function's
pub function_is : (n : Net) → IsNet n → (level : ℕ → ℕ) (x : List Bool) (s : ℕ) → s < length n.names → (v : Bool) → Computes (circuit n) level s x v →
    (f : List Bool → Bool) → IsFunctionOf (circuit n) level (length x) s f → v ≡ f x
function_is n sound level x s low v has f is =
    let (bits, labels, e) = is x refl in
    sym (value_is n sound (circuit n) refl level x bits labels s low v has) ∙ e

pub functions_differ : (n m : Net) → IsNet n → IsNet m → (given : Option Circuit) (p : NamingModel) (pair : ℕ × ℕ) (x : List Bool) → IsPairOf (circuit n) (circuit m) pair →
    IsDifferenceAt (circuit n) (circuit m) given p pair x → (f g : List Bool → Bool) → IsFunctionOf (circuit n) (first_level p) (length p.names) pair.0 f →
    IsFunctionOf (circuit m) (second_level p) (length p.names) pair.1 g → f x ≢ g x
functions_differ n m sound fine given p pair x inside d f g is it same =
    let (one, labels, e) = is x d.bits in
    let (two, others, k) = it x d.bits in
    difference_to n m sound fine (circuit n) (circuit m) refl refl given p pair x one two labels others inside d (e ∙ same ∙ sym k)

pub condition_holds : (c : Net) → IsNet c → (a b : Circuit) (p : NamingModel) (pair : ℕ × ℕ) (x : List Bool) → IsDifferenceAt a b (Some (circuit c)) p pair x → 0 < length c.outputs →
    (f : List Bool → Bool) → IsFunctionOf (circuit c) (given_level p) (length p.names) (slice_index c.outputs 0) f → f x ≡ true
condition_holds c sound a b p pair x d some f is =
    let (bits, labels, e) = is x d.bits in
    sym e ∙ holds_to c sound (circuit c) refl p x bits some labels d.holds
