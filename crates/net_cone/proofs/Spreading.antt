-- A function of some of the variables as a function of all.
use Rattle.std.proofs.Common.{◌≡◌, ℕ, ◌<◌, List, ◌++◌, Bool, false, refl, sym, ap, ◌∙◌, subst, map, length, get_or}
use Rattle.std.specs.Prelude.{Contains, All, slice_index}
use Rattle.std.proofs.lemmas.List.{append-nil, get_or-map, length-map}
use Rattle.std.proofs.lemmas.List.Elements.{Contains-get_or}
use Rattle.net_bench.specs.Circuit.{Net, IsNet, circuit, variables_of}
use Rattle.net_bench.specs.Labels.{IsFunctionOf, IsLabelling, bit_of}
use Rattle.net_bench.proofs.Built.{has_labelling}
use Rattle.net_cone.specs.Cones.{IsCone}
use Rattle.net_cone.specs.Spreading.{bits_at}
use Rattle.net_cone.proofs.Functions.{from_cone}

pub length-bits_at : (places : List ℕ) (x : List Bool) → length (bits_at places x) ≡ length places
length-bits_at places x = length-map places (bit_of x)

pub bit-bits_at : (places : List ℕ) (x : List Bool) (i : ℕ) → i < length places → bit_of (bits_at places x) i ≡ bit_of x (slice_index places i)
bit-bits_at places x i low = get_or-map (bit_of x) places i 0 false low

module _ (n : Net) (root : ℕ) (names : List (List ℕ)) (cone : Net) (from : List ℕ) (is : IsCone n root names cone from) (level inner : ℕ → ℕ) (places : List ℕ)
    (at : (t : ℕ) → Contains cone.inputs t → (inner t < length places) × (level (slice_index from t) ≡ slice_index places (inner t))) where
  -- the levels of the cone's inputs among all
  abbrev outer : ℕ → ℕ
  outer t = level (slice_index from t)

  all_inputs : variables_of (circuit cone) ≡ cone.inputs
  all_inputs = ap (λ gs. cone.inputs ++ map (λ g. g.out) gs) is.registers ∙ append-nil cone.inputs

  same_bits : (x bits : List Bool) → IsLabelling (circuit cone) inner (bits_at places x) bits → IsLabelling (circuit cone) outer x bits
  same_bits x bits label =
      let picked : All (λ t. bit_of bits t ≡ bit_of (bits_at places x) (inner t)) cone.inputs =
      subst (All (λ t. bit_of bits t ≡ bit_of (bits_at places x) (inner t))) all_inputs label.variables in
      record {
        each = label.each;
        variables = subst (All (λ t. bit_of bits t ≡ bit_of x (outer t))) (sym all_inputs)
            (λ i d low.
            let here = at (get_or cone.inputs i d) (Contains-get_or cone.inputs i d low) in
            picked i d low ∙ bit-bits_at places x (inner (get_or cone.inputs i d)) here.0 ∙ ap (bit_of x) (sym here.1));
        gates = label.gates;
      }

  pub widened_where : ((x : List Bool) → (bits : List Bool) × IsLabelling (circuit n) level x bits) → (count : ℕ) (f : List Bool → Bool) →
      IsFunctionOf (circuit cone) inner (length places) (length from) f → IsFunctionOf (circuit n) level count root (λ x. f (bits_at places x))
  widened_where labelled count f h =
      from_cone n root names cone from is level outer (λ t among. refl) labelled count (λ x. f (bits_at places x))
      (λ x size.
      let own = h (bits_at places x) (length-bits_at places x) in
      (own.0, same_bits x own.0 own.1, own.2))

pub widened : (n : Net) (root : ℕ) (names : List (List ℕ)) (cone : Net) (from : List ℕ) → IsNet n → IsCone n root names cone from →
    (level inner : ℕ → ℕ) (places : List ℕ) → ((t : ℕ) → Contains cone.inputs t → (inner t < length places) × (level (slice_index from t) ≡ slice_index places (inner t))) →
    (count : ℕ) (f : List Bool → Bool) → IsFunctionOf (circuit cone) inner (length places) (length from) f → IsFunctionOf (circuit n) level count root (λ x. f (bits_at places x))
widened n root names cone from net is level inner places at = widened_where n root names cone from is level inner places at (has_labelling n net level)
