-- A signal has one cone.
use Rattle.std.proofs.Common.{◌≡◌, inl, inr, ℕ, suc, ◌+◌, ◌-◌, ◌<◌, List, [], ◌∷◌, ◌++◌, Bool, true, false, refl, sym, ap, ◌∙◌, subst, map, length, get_or, arith}
use Rattle.std.specs.Prelude.{All, Contains, Some, cond, filter, slice_index}
use Rattle.std.proofs.lemmas.Bool.{cases_lt}
use Rattle.std.proofs.lemmas.List.{ext_get_or, length-append}
use Rattle.std.proofs.lemmas.List.Elements.{All-append, filter_passes}
use Rattle.net_bench.specs.declared.netlist.GateLine.{GateLine}
use Rattle.net_bench.specs.declared.netlist.Kind.{Kind}
use Rattle.net_bench.specs.Circuit.{Circuit, HaveNoRepeats, IsNet, Net, circuit, gate_of, variables_of}
use Rattle.net_bench.proofs.OneLabelling.{at_contained}
use Rattle.net_cone.specs.Cones.{IsBelow, IsCone, IsCopy, gate_name, last_gate, variable_name}
use Rattle.net_cone.proofs.Closed.{in_cone}
use Rattle.net_cone.proofs.Lists.{in_filter, in_first, in_second}
use Rattle.net_cone.proofs.Numbered.{no_gate}
use Rattle.net_cone.proofs.Walking.{gate_found}

-- ---- lists

same_bits : (b d : Bool) → (b ≡ true → d ≡ true) → (d ≡ true → b ≡ true) → b ≡ d
same_bits true d to back = sym (to refl)
same_bits false true to back = back refl
same_bits false false to back = refl

filter_alike : (p q : ℕ → Bool) (xs : List ℕ) → ((x : ℕ) → Contains xs x → p x ≡ q x) → filter p xs ≡ filter q xs
filter_alike p q [] same = refl
filter_alike p q (x ∷ xs) same =
    ap (λ b. cond b (x ∷ filter p xs) (filter p xs)) (same x (0, omega arith, refl)) ∙
    ap (λ ys. cond (q x) (x ∷ ys) ys) (filter_alike p q xs (λ y among. same y (suc among.0, omega (arith, among.1), among.2)))

-- a list that has nothing twice has it at one place
one_number : (from : List ℕ) → HaveNoRepeats from → (t u : ℕ) → t < length from → u < length from → slice_index from t ≡ slice_index from u → t ≡ u
one_number from once t u low less same = elim (cases_lt t u) [
  | inl before ↦ absurd (once t u before less same)
  | inr behind ↦ elim (cases_lt u t) [
    | inl after ↦ absurd (once u t after low (sym same))
    | inr equal ↦ omega arith
  ]
]

one_map : (from : List ℕ) → HaveNoRepeats from → (ts us : List ℕ) → All (λ t. t < length from) ts → All (λ t. t < length from) us →
    map (slice_index from) ts ≡ map (slice_index from) us → ts ≡ us
one_map from once [] [] low less same = refl
one_map from once [] (u ∷ us) low less same = let never : slice_index from u ∷ map (slice_index from) us ≡ [] = sym same in cc
one_map from once (t ∷ ts) [] low less same = let never : slice_index from t ∷ map (slice_index from) ts ≡ [] = same in cc
one_map from once (t ∷ ts) (u ∷ us) low less same =
    let all : slice_index from t ∷ map (slice_index from) ts ≡ slice_index from u ∷ map (slice_index from) us = same in
    let head : slice_index from t ≡ slice_index from u = cc in
    let tail : map (slice_index from) ts ≡ map (slice_index from) us = cc in
    let first : t ≡ u = one_number from once t u (low 0 0 (omega arith)) (less 0 0 (omega arith)) head in
    ap (λ v. v ∷ ts) first ∙
    ap (λ vs. u ∷ vs) (one_map from once ts us (λ i d l. low (suc i) d (omega (arith, l))) (λ i d l. less (suc i) d (omega (arith, l))) tail)

-- ---- records by their parts

abbrev gate_of_parts : (out : ℕ) → (kind : Kind) → (operands : List ℕ) → (line : ℕ) → GateLine
gate_of_parts out kind operands line = record { out = out; kind = kind; operands = operands; line = line }

pub gate_is : (g h : GateLine) → g.out ≡ h.out → g.kind ≡ h.kind → g.operands ≡ h.operands → g.line ≡ h.line → g ≡ h
gate_is g h out kind operands line =
    ap (λ x. gate_of_parts x g.kind g.operands g.line) out ∙
    ap (λ x. gate_of_parts h.out x g.operands g.line) kind ∙
    ap (λ x. gate_of_parts h.out h.kind x g.line) operands ∙
    ap (λ x. gate_of_parts h.out h.kind h.operands x) line

abbrev circuit_of_parts : (names : List (List ℕ)) → (inputs outputs : List ℕ) → (gates registers : List GateLine) → Circuit
circuit_of_parts names inputs outputs gates registers = record { names = names; inputs = inputs; outputs = outputs; gates = gates; registers = registers }

pub circuit_is : (m n : Net) → m.names ≡ n.names → m.inputs ≡ n.inputs → m.outputs ≡ n.outputs → m.gates ≡ n.gates → m.registers ≡ n.registers → circuit m ≡ circuit n
circuit_is m n names inputs outputs gates registers =
    ap (λ x. circuit_of_parts x m.inputs m.outputs m.gates m.registers) names ∙
    ap (λ x. circuit_of_parts n.names x m.outputs m.gates m.registers) inputs ∙
    ap (λ x. circuit_of_parts n.names n.inputs x m.gates m.registers) outputs ∙
    ap (λ x. circuit_of_parts n.names n.inputs n.outputs x m.registers) gates ∙
    ap (λ x. circuit_of_parts n.names n.inputs n.outputs n.gates x) registers

-- ---- one cone

module _ (n : Net) (net : IsNet n) (root : ℕ) (names : List (List ℕ)) (cone : Net) (from : List ℕ) (is : IsCone n root names cone from) where
  variable_below : (x : ℕ) → Contains (variables_of (circuit n)) x → is.met x ≡ true → IsBelow (circuit n) root x
  variable_below x among met =
      at_contained (IsBelow (circuit n) root) from x is.below
      (subst (λ xs. Contains xs x) (sym is.order)
      (in_first (filter is.met (variables_of (circuit n))) (filter is.met (map (λ g. g.out) n.gates)) x (in_filter is.met (variables_of (circuit n)) x among met)))

  gate_below : (x : ℕ) → Contains (map (λ (g : GateLine). g.out) n.gates) x → is.met x ≡ true → IsBelow (circuit n) root x
  gate_below x among met =
      at_contained (IsBelow (circuit n) root) from x is.below
      (subst (λ xs. Contains xs x) (sym is.order)
      (in_second (filter is.met (variables_of (circuit n))) (filter is.met (map (λ g. g.out) n.gates)) x (in_filter is.met (map (λ g. g.out) n.gates) x among met)))

  below_met : (x : ℕ) → IsBelow (circuit n) root x → is.met x ≡ true
  below_met x deep =
      at_contained (λ y. is.met y ≡ true) from x
      (subst (All (λ y. is.met y ≡ true)) (sym is.order)
      (All-append (λ y. is.met y ≡ true) (filter is.met (variables_of (circuit n))) (filter is.met (map (λ g. g.out) n.gates))
      (filter_passes is.met (variables_of (circuit n))) (filter_passes is.met (map (λ g. g.out) n.gates))))
      (in_cone n root names cone from net is x deep)

  long_from : length from ≡ length cone.inputs + length is.copies
  long_from =
      ap length is.order ∙ length-append (filter is.met (variables_of (circuit n))) (filter is.met (map (λ g. g.out) n.gates)) ∙
      ap (λ k. k + length (filter is.met (map (λ (g : GateLine). g.out) n.gates))) (sym is.input_count) ∙ ap (λ k. length cone.inputs + k) (sym is.gate_count)

-- ---- two cones

module _ (n : Net) (net : IsNet n) (root : ℕ) (names others : List (List ℕ)) (cone other : Net) (from also : List ℕ)
    (one : IsCone n root names cone from) (two : IsCone n root others other also) where
  same_variables : filter one.met (variables_of (circuit n)) ≡ filter two.met (variables_of (circuit n))
  same_variables = filter_alike one.met two.met (variables_of (circuit n))
      (λ x among. same_bits (one.met x) (two.met x)
      (λ met. below_met n net root others other also two x (variable_below n net root names cone from one x among met))
      (λ met. below_met n net root names cone from one x (variable_below n net root others other also two x among met)))

  same_outs : filter one.met (map (λ (g : GateLine). g.out) n.gates) ≡ filter two.met (map (λ (g : GateLine). g.out) n.gates)
  same_outs = filter_alike one.met two.met (map (λ g. g.out) n.gates)
      (λ x among. same_bits (one.met x) (two.met x)
      (λ met. below_met n net root others other also two x (gate_below n net root names cone from one x among met))
      (λ met. below_met n net root names cone from one x (gate_below n net root others other also two x among met)))

  same_from : from ≡ also
  same_from =
      one.order ∙ ap (λ vs. vs ++ filter one.met (map (λ (g : GateLine). g.out) n.gates)) same_variables ∙
      ap (λ os. filter two.met (variables_of (circuit n)) ++ os) same_outs ∙ sym two.order

  -- ---- inputs and gates

  inputs_long : length cone.inputs ≡ length other.inputs
  inputs_long = one.input_count ∙ ap length same_variables ∙ sym two.input_count

  same_inputs : cone.inputs ≡ other.inputs
  same_inputs = ext_get_or 0 cone.inputs other.inputs inputs_long
      (λ i low. one.input_places i 0 low ∙ sym (two.input_places i 0 (subst (λ k. i < k) inputs_long low)))

  copies_long : length one.copies ≡ length two.copies
  copies_long = one.gate_count ∙ ap length same_outs ∙ sym two.gate_count

  same_copy : (i : ℕ) → i < length one.copies → get_or one.copies i no_gate ≡ get_or two.copies i no_gate
  same_copy i low =
      let less : i < length two.copies = subst (λ k. i < k) copies_long low in
      let g = get_or one.copies i no_gate in
      let h = get_or two.copies i no_gate in
      let c : IsCopy n from g = one.copied i no_gate low in
      let d : IsCopy n also h = two.copied i no_gate less in
      let out : g.out ≡ h.out = one.gate_places i no_gate low ∙ ap (λ k. k + i) inputs_long ∙ sym (two.gate_places i no_gate less) in
      let source : c.source.out ≡ d.source.out = sym c.out ∙ ap (slice_index from) out ∙ ap (λ xs. slice_index xs h.out) same_from ∙ d.out in
      let first : gate_of n.gates d.source.out ≡ Some c.source = subst (λ s. gate_of n.gates s ≡ Some c.source) source (gate_found n net c.source c.among) in
      let second : gate_of n.gates d.source.out ≡ Some d.source = gate_found n net d.source d.among in
      let gate : c.source ≡ d.source = cc in
      let kind : g.kind ≡ h.kind = c.kind ∙ ap (λ (x : GateLine). x.kind) gate ∙ sym d.kind in
      let back : map (slice_index from) h.operands ≡ d.source.operands = ap (λ xs. map (slice_index xs) h.operands) same_from ∙ d.operands in
      let taken : map (slice_index from) g.operands ≡ map (slice_index from) h.operands = c.operands ∙ ap (λ (x : GateLine). x.operands) gate ∙ sym back in
      let operands : g.operands ≡ h.operands =
      one_map from one.once g.operands h.operands c.low (subst (λ xs. All (λ t. t < length xs) h.operands) (sym same_from) d.low) taken in
      gate_is g h out kind operands (c.line ∙ sym d.line)

  same_copies : one.copies ≡ two.copies
  same_copies = ext_get_or no_gate one.copies two.copies copies_long same_copy

  same_top : one.top ≡ two.top
  same_top = one_number from one.once one.top two.top one.in_bounds (subst (λ xs. two.top < length xs) (sym same_from) two.in_bounds)
      (one.top_is_root ∙ sym two.top_is_root ∙ sym (ap (λ xs. slice_index xs two.top) same_from))

  same_gates : cone.gates ≡ other.gates
  same_gates =
      one.gates ∙ ap (λ gs. gs ++ last_gate (length from) one.top ∷ []) same_copies ∙
      ap (λ t. two.copies ++ last_gate (length from) t ∷ []) same_top ∙
      ap (λ xs. two.copies ++ last_gate (length xs) two.top ∷ []) same_from ∙ sym two.gates

  same_outputs : cone.outputs ≡ other.outputs
  same_outputs = one.outputs ∙ ap (λ xs. length xs ∷ []) same_from ∙ sym two.outputs

  -- ---- names

  module _ (alike : (s : ℕ) → Contains (variables_of (circuit n)) s → get_or names s [] ≡ get_or others s []) where
    input_named : (t : ℕ) → t < length cone.inputs → get_or cone.names t [] ≡ get_or other.names t []
    input_named t low =
        let less : t < length other.inputs = subst (λ k. t < k) inputs_long low in
        let here : get_or cone.inputs t 0 ≡ t = one.input_places t 0 low in
        let there : get_or other.inputs t 0 ≡ t = two.input_places t 0 less in
        let variable : Contains (variables_of (circuit n)) (slice_index from t) =
        subst (λ u. Contains (variables_of (circuit n)) (slice_index from u)) here (one.inputs t 0 low).1 in
        let first : get_or cone.names t [] ≡ variable_name names (slice_index from t) =
        subst (λ u. get_or cone.names u [] ≡ variable_name names (slice_index from u)) here (one.input_names t 0 low) in
        let second : get_or other.names t [] ≡ variable_name others (slice_index also t) =
        subst (λ u. get_or other.names u [] ≡ variable_name others (slice_index also u)) there (two.input_names t 0 less) in
        first ∙ ap (λ (name : List ℕ). 118 ∷ name) (alike (slice_index from t) variable) ∙
        ap (λ xs. variable_name others (slice_index xs t)) same_from ∙ sym second

    gate_named : (i : ℕ) → i < length one.copies → get_or cone.names (length cone.inputs + i) [] ≡ get_or other.names (length cone.inputs + i) []
    gate_named i low =
        let less : i < length two.copies = subst (λ k. i < k) copies_long low in
        let first : get_or cone.names (length cone.inputs + i) [] ≡ gate_name (length cone.inputs + i) =
        subst (λ u. get_or cone.names u [] ≡ gate_name u) (one.gate_places i no_gate low) (one.gate_names i no_gate low) in
        let second : get_or other.names (length other.inputs + i) [] ≡ gate_name (length other.inputs + i) =
        subst (λ u. get_or other.names u [] ≡ gate_name u) (two.gate_places i no_gate less) (two.gate_names i no_gate less) in
        first ∙ sym (subst (λ k. get_or other.names (k + i) [] ≡ gate_name (k + i)) (sym inputs_long) second)

    end_named : get_or cone.names (length from) [] ≡ get_or other.names (length from) []
    end_named = one.last_name ∙ sym (ap (λ xs. get_or other.names (length xs) []) same_from ∙ two.last_name)

    same_name : (t : ℕ) → t < length cone.names → get_or cone.names t [] ≡ get_or other.names t []
    same_name t low =
        let count : length cone.names ≡ length from + 1 = one.count in
        let far : length from ≡ length cone.inputs + length one.copies = long_from n net root names cone from one in
        elim (cases_lt t (length cone.inputs)) [
          | inl input ↦ input_named t input
          | inr behind ↦ elim (cases_lt t (length from)) [
            | inl gate ↦
                let less : t - length cone.inputs < length one.copies = omega arith in
                let there : length cone.inputs + (t - length cone.inputs) ≡ t = omega arith in
                subst (λ u. get_or cone.names u [] ≡ get_or other.names u []) there (gate_named (t - length cone.inputs) less)
            | inr last ↦
                let is : length from ≡ t = omega arith in
                subst (λ u. get_or cone.names u [] ≡ get_or other.names u []) is end_named
          ]
        ]

    same_names : cone.names ≡ other.names
    same_names = ext_get_or [] cone.names other.names (one.count ∙ ap (λ xs. length xs + 1) same_from ∙ sym two.count) same_name

    same_circuit : circuit cone ≡ circuit other
    same_circuit = circuit_is cone other same_names same_inputs same_outputs same_gates (one.registers ∙ sym two.registers)

pub one_cone : (n : Net) (root : ℕ) (names others : List (List ℕ)) (cone other : Net) (from also : List ℕ) → IsNet n →
    IsCone n root names cone from → IsCone n root others other also →
    ((s : ℕ) → Contains (variables_of (circuit n)) s → get_or names s [] ≡ get_or others s []) → circuit cone ≡ circuit other
one_cone n root names others cone other from also net one two alike = same_circuit n net root names others cone other from also one two alike

-- the cone in a netlist is one in another that is the same but for its ranks
pub cone_in : (m n : Net) → circuit m ≡ circuit n → (root : ℕ) (names : List (List ℕ)) (cone : Net) (from : List ℕ) → IsCone m root names cone from → IsCone n root names cone from
cone_in m n same root names cone from is = record {
  copies = is.copies;
  top = is.top;
  sound = is.sound;
  count = is.count;
  below = subst (λ (c : Circuit). All (IsBelow c root) from) same is.below;
  once = is.once;
  met = is.met;
  order = subst (λ (c : Circuit). from ≡ filter is.met (variables_of c) ++ filter is.met (map (λ g. g.out) c.gates)) same is.order;
  input_count = subst (λ (c : Circuit). length cone.inputs ≡ length (filter is.met (variables_of c))) same is.input_count;
  gate_count = subst (λ (c : Circuit). length is.copies ≡ length (filter is.met (map (λ g. g.out) c.gates))) same is.gate_count;
  input_places = is.input_places;
  gate_places = is.gate_places;
  inputs = subst (λ (c : Circuit). All (λ t. (t < length from) × Contains (variables_of c) (slice_index from t)) cone.inputs) same is.inputs;
  registers = is.registers;
  gates = is.gates;
  copied = λ i d low. copy (get_or is.copies i d) (is.copied i d low);
  in_bounds = is.in_bounds;
  top_is_root = is.top_is_root;
  outputs = is.outputs;
  input_names = is.input_names;
  gate_names = is.gate_names;
  last_name = is.last_name;
}
  where
    copy : (g : GateLine) → IsCopy m from g → IsCopy n from g
    copy g of = record {
      source = of.source;
      among = subst (λ (c : Circuit). Contains c.gates of.source) same of.among;
      in_bounds = of.in_bounds;
      out = of.out;
      kind = of.kind;
      low = of.low;
      operands = of.operands;
      line = of.line;
    }
