-- A signal has the same function in its cone as in the netlist.
use Rattle.std.proofs.Common.{◌≡◌, ◌↔◌, ℕ, zero, suc, ◌+◌, ◌<◌, List, [], ◌∷◌, ◌++◌, Bool, true, false, refl, sym, ap, ◌∙◌, subst, map, length, get_or, arith}
use Rattle.std.specs.Prelude.{Contains, All, slice_index}
use Rattle.std.proofs.lemmas.List.{get_or-map}
use Rattle.std.proofs.lemmas.List.Elements.{All-append}
use Rattle.net_bench.specs.declared.netlist.GateLine.{GateLine}
use Rattle.net_bench.specs.declared.netlist.Kind.{Kind}
use Rattle.net_bench.specs.Circuit.{Net, IsNet, circuit, variables_of}
use Rattle.net_bench.specs.Labels.{IsFunctionOf, IsLabelling, bit_of, value_of}
use Rattle.net_bench.proofs.Built.{has_labelling, same_labelling}
use Rattle.net_bench.proofs.OneLabelling.{at_contained}
use Rattle.net_cone.specs.Cones.{IsCone, IsCopy, last_gate}

front_at : (xs : List ℕ) (y i : ℕ) → i < length xs → get_or (xs ++ y ∷ []) i 0 ≡ get_or xs i 0
front_at [] y i low = absurd (omega arith)
front_at (x ∷ xs) y zero low = refl
front_at (x ∷ xs) y (suc i) low = front_at xs y i (omega arith)

end_at : (xs : List ℕ) (y : ℕ) → get_or (xs ++ y ∷ []) (length xs) 0 ≡ y
end_at [] y = refl
end_at (x ∷ xs) y = end_at xs y

longer : (xs : List ℕ) (y : ℕ) → length (xs ++ y ∷ []) ≡ length xs + 1
longer [] y = refl
longer (x ∷ xs) y = let more : length (xs ++ y ∷ []) ≡ length xs + 1 = longer xs y in omega arith

lengths : (f : ℕ → Bool) (xs : List ℕ) → length (map f xs) ≡ length xs
lengths f [] = refl
lengths f (x ∷ xs) = ap suc (lengths f xs)

and_true : (b : Bool) → value_of Rattle.net_bench.specs.declared.netlist.Kind.TheVariants.Buff (b ∷ []) ≡ b
and_true true = refl
and_true false = refl

module _ (n : Net) (root : ℕ) (names : List (List ℕ)) (cone : Net) (from : List ℕ) (is : IsCone n root names cone from)
    (level inner : ℕ → ℕ) (meet : (t : ℕ) → Contains cone.inputs t → inner t ≡ level (slice_index from t)) (x bits : List Bool)
    (label : IsLabelling (circuit n) level x bits) where
  abbrev lowered : List Bool
  lowered = map (bit_of bits) (from ++ root ∷ [])

  at_signal : (t : ℕ) → t < length from → bit_of lowered t ≡ bit_of bits (slice_index from t)
  at_signal t low =
      let long : length (from ++ root ∷ []) ≡ length from + 1 = longer from root in
      get_or-map (bit_of bits) (from ++ root ∷ []) t 0 false (omega arith) ∙ ap (bit_of bits) (front_at from root t low)

  at_end : bit_of lowered (length from) ≡ bit_of bits root
  at_end =
      let long : length (from ++ root ∷ []) ≡ length from + 1 = longer from root in
      get_or-map (bit_of bits) (from ++ root ∷ []) (length from) 0 false (omega arith) ∙ ap (bit_of bits) (end_at from root)

  at_all : (ts : List ℕ) → All (λ t. t < length from) ts → map (bit_of lowered) ts ≡ map (bit_of bits) (map (slice_index from) ts)
  at_all [] low = refl
  at_all (t ∷ ts) low =
      ap (λ b. b ∷ map (bit_of lowered) ts) (at_signal t (low 0 0 (omega arith))) ∙
      ap (λ bs. bit_of bits (slice_index from t) ∷ bs) (at_all ts (λ i d less. low (suc i) d (omega arith)))

  at_copy : (g : GateLine) → IsCopy n from g → bit_of lowered g.out ≡ value_of g.kind (map (bit_of lowered) g.operands)
  at_copy g c =
      at_signal g.out c.in_bounds ∙ ap (bit_of bits) c.out ∙
      at_contained (λ h. bit_of bits h.out ≡ value_of h.kind (map (bit_of bits) h.operands)) n.gates c.source label.gates c.among ∙
      ap (λ k. value_of k (map (bit_of bits) c.source.operands)) (sym c.kind) ∙
      ap (λ ts. value_of g.kind (map (bit_of bits) ts)) (sym c.operands) ∙
      ap (value_of g.kind) (sym (at_all g.operands c.low))

  abbrev IsValued : GateLine → Type 0
  IsValued g = bit_of lowered g.out ≡ value_of g.kind (map (bit_of lowered) g.operands)

  last_valued : IsValued (last_gate (length from) is.top)
  last_valued = at_end ∙ ap (bit_of bits) (sym is.top_is_root) ∙ sym (at_signal is.top is.in_bounds) ∙ sym (and_true (bit_of lowered is.top))

  one_last : (i : ℕ) (d : GateLine) → i < 1 → IsValued (get_or (last_gate (length from) is.top ∷ []) i d)
  one_last zero d low = last_valued
  one_last (suc i) d low = absurd (omega arith)

  all_valued : All IsValued cone.gates
  all_valued = subst (All IsValued) (sym is.gates)
      (All-append IsValued is.copies (last_gate (length from) is.top ∷ []) (λ i d low. at_copy (get_or is.copies i d) (is.copied i d low)) one_last)

  abbrev IsVaried : ℕ → Type 0
  IsVaried t = bit_of lowered t ≡ bit_of x (inner t)

  input_bit : (t : ℕ) → Contains cone.inputs t → IsVaried t
  input_bit t among =
      let facts : (t < length from) × Contains (variables_of (circuit n)) (slice_index from t) =
      at_contained (λ u. (u < length from) × Contains (variables_of (circuit n)) (slice_index from u)) cone.inputs t is.inputs among in
      at_signal t facts.0 ∙
      at_contained (λ s. bit_of bits s ≡ bit_of x (level s)) (variables_of (circuit n)) (slice_index from t) label.variables facts.1 ∙
      ap (bit_of x) (sym (meet t among))

  none_more : (gs : List GateLine) → gs ≡ [] → All IsVaried (map (λ g. g.out) gs)
  none_more [] e = λ i d low. absurd (omega arith)
  none_more (g ∷ gs) e = cc

  contained_at : (xs : List ℕ) (i d : ℕ) → i < length xs → Contains xs (get_or xs i d)
  contained_at xs i d low = (i, low, same xs i d low)
    where
      same : (xs : List ℕ) (i d : ℕ) → i < length xs → get_or xs i (get_or xs i d) ≡ get_or xs i d
      same [] i d low = absurd (omega arith)
      same (x ∷ xs) zero d low = refl
      same (x ∷ xs) (suc i) d low = same xs i d (omega arith)

  all_varied : All IsVaried (variables_of (circuit cone))
  all_varied = All-append IsVaried cone.inputs (map (λ g. g.out) cone.registers)
      (λ i d low. input_bit (get_or cone.inputs i d) (contained_at cone.inputs i d low)) (none_more cone.registers is.registers)

  pub below : IsLabelling (circuit cone) inner x lowered
  below = record {
    each = lengths (bit_of bits) (from ++ root ∷ []) ∙ longer from root ∙ sym is.count;
    variables = all_varied;
    gates = all_valued;
  }

  pub root_bit : bit_of lowered (length from) ≡ bit_of bits root
  root_bit = at_end

-- the function of a cone's output is the root's, if each assignment has a labelling of the netlist
pub from_cone : (n : Net) (root : ℕ) (names : List (List ℕ)) (cone : Net) (from : List ℕ) → IsCone n root names cone from →
    (level inner : ℕ → ℕ) → ((t : ℕ) → Contains cone.inputs t → inner t ≡ level (slice_index from t)) →
    ((x : List Bool) → (bits : List Bool) × IsLabelling (circuit n) level x bits) →
    (count : ℕ) (f : List Bool → Bool) → IsFunctionOf (circuit cone) inner count (length from) f → IsFunctionOf (circuit n) level count root f
from_cone n root names cone from is level inner meet labelled count f h x size =
    let (in_bounds, of_cone, at) = h x size in
    let (bits, label) = labelled x in
    let low : length from < length cone.names = omega (arith, is.count) in
    let one = same_labelling cone is.sound inner x (map (bit_of bits) (from ++ root ∷ [])) in_bounds
    (below n root names cone from is level inner meet x bits label) of_cone (length from) low in
    (bits, label, sym (root_bit n root names cone from is level inner meet x bits label) ∙ one ∙ at)

pub same_function : (n : Net) (root : ℕ) (names : List (List ℕ)) (cone : Net) (from : List ℕ) → IsNet n → IsCone n root names cone from →
    (level inner : ℕ → ℕ) → ((t : ℕ) → Contains cone.inputs t → inner t ≡ level (slice_index from t)) →
    (count : ℕ) (f : List Bool → Bool) → IsFunctionOf (circuit n) level count root f ↔ IsFunctionOf (circuit cone) inner count (length from) f
same_function n root names cone from net is level inner meet count f = (down, from_cone n root names cone from is level inner meet (has_labelling n net level) count f)
  where
    down : IsFunctionOf (circuit n) level count root f → IsFunctionOf (circuit cone) inner count (length from) f
    down h x size =
        let (bits, label, at) = h x size in (
          map (bit_of bits) (from ++ root ∷ []),
          below n root names cone from is level inner meet x bits label,
          root_bit n root names cone from is level inner meet x bits label ∙ at,
        )
