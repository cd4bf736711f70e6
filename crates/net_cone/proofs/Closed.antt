-- What is below the root is in its cone.
use Rattle.std.proofs.Common.{◌≡◌, ◌≢◌, ◌⊎◌, inl, inr, ℕ, zero, suc, ◌+◌, ◌<◌, List, [], ◌∷◌, ◌++◌, sym, ap, ◌∙◌, subst, map, length, arith}
use Rattle.std.specs.Prelude.{Contains, All, Some, slice_index}
use Rattle.std.proofs.lemmas.List.{get_or_default}
use Rattle.net_bench.specs.declared.netlist.GateLine.{GateLine}
use Rattle.net_bench.specs.Circuit.{Feeds, Net, IsNet, circuit, gate_of, variables_of}
use Rattle.net_bench.proofs.OneLabelling.{at_contained}
use Rattle.net_cone.specs.Cones.{IsBelow, here, deeper, IsCone, IsCopy, last_gate}
use Rattle.net_cone.proofs.Walking.{gate_found}

-- an element of a list with a last one
in_two : {X : Type 0} (xs : List X) (y s : X) → Contains (xs ++ y ∷ []) s → (y ≡ s) ⊎ Contains xs s
in_two [] y s (zero, low, at) = inl at
in_two [] y s (suc i, low, at) = absurd (omega arith)
in_two (x ∷ xs) y s (zero, low, at) = inr (0, omega arith, at)
in_two (x ∷ xs) y s (suc i, low, at) = elim (in_two xs y s (i, omega arith, at)) [
  | inl is ↦ inl is
  | inr (j, less, is) ↦ inr (suc j, omega arith, is)
]

no_registers : (xs : List ℕ) (gs : List GateLine) (s : ℕ) → gs ≡ [] → Contains (xs ++ map (λ g. g.out) gs) s → Contains xs s
no_registers [] [] s e (i, low, at) = absurd (omega arith)
no_registers (x ∷ xs) [] s e (zero, low, at) = (0, omega arith, at)
no_registers (x ∷ xs) [] s e (suc i, low, at) = let (j, less, is) = no_registers xs [] s e (i, omega arith, at) in (suc j, omega arith, is)
no_registers xs (g ∷ gs) s e among = cc

-- the signals at places below a list's length are in the list
behind : (from ts : List ℕ) (s : ℕ) → All (λ t. t < length from) ts → Contains (map (slice_index from) ts) s → Contains from s
behind from [] s low (i, less, at) = absurd (omega arith)
behind from (t ∷ ts) s low (zero, less, at) =
    let in_bounds : t < length from = low 0 0 (omega arith) in (t, in_bounds, get_or_default from t s 0 in_bounds ∙ at)
behind from (t ∷ ts) s low (suc i, less, at) = behind from ts s (λ j d l. low (suc j) d (omega arith)) (i, omega arith, at)

module _ (n : Net) (root : ℕ) (names : List (List ℕ)) (cone : Net) (from : List ℕ) (net : IsNet n) (is : IsCone n root names cone from) where
  -- a signal of the cone but the last is an input or has a copy of a gate
  parted : (i : ℕ) → i < length from → Contains cone.inputs i ⊎ ((g : GateLine) × IsCopy n from g × (g.out ≡ i))
  parted i low =
      let count : length cone.names ≡ length from + 1 = is.count in
      elim (is.sound.defined i (omega arith)) [
        | inl among ↦ inl (no_registers cone.inputs cone.registers i is.registers among)
        | inr (g, among, out) ↦ elim (in_two is.copies (last_gate (length from) is.top) g (subst (λ gs. Contains gs g) is.gates among)) [
          | inl last ↦ let bad : length from ≡ i = ap (λ (x : GateLine). x.out) last ∙ out in absurd (omega arith)
          | inr copy ↦ inr (g, at_contained (IsCopy n from) is.copies g is.copied copy, out)
        ]
      ]

  no_gate : (s : ℕ) → Contains (variables_of (circuit n)) s → (g : GateLine) → Contains n.gates g → g.out ≡ s → ⊥
  no_gate s variable g among out =
      at_contained (λ g. g.out ≢ s) n.gates g (at_contained (λ v. All (λ g. g.out ≢ v) n.gates) (variables_of (circuit n)) s net.apart variable) among out

  variable_at : (i s : ℕ) → Contains cone.inputs i → slice_index from i ≡ s → Contains (variables_of (circuit n)) s
  variable_at i s input at =
      let facts : (i < length from) × Contains (variables_of (circuit n)) (slice_index from i) =
      at_contained (λ t. (t < length from) × Contains (variables_of (circuit n)) (slice_index from t)) cone.inputs i is.inputs input in
      subst (Contains (variables_of (circuit n))) at facts.1

  operand_in : (s t : ℕ) → Contains from s → Feeds (circuit n) t s → Contains from t
  operand_in s t (i, low, at) (g, among, out, operand) =
      let here_at : slice_index from i ≡ s = get_or_default from i 0 s low ∙ at in
      elim (parted i low) [
        | inl input ↦ absurd (no_gate s (variable_at i s input here_at) g among out)
        | inr (h, copy, is_out) ↦
            let source_out : copy.source.out ≡ s = sym copy.out ∙ ap (slice_index from) is_out ∙ here_at in
            let one : gate_of n.gates s ≡ Some copy.source = subst (λ v. gate_of n.gates v ≡ Some copy.source) source_out (gate_found n net copy.source copy.among) in
            let two : gate_of n.gates s ≡ Some g = subst (λ v. gate_of n.gates v ≡ Some g) out (gate_found n net g among) in
            let same : g ≡ copy.source = cc in
            behind from h.operands t copy.low (subst (λ ts. Contains ts t) (sym copy.operands) (subst (λ (x : GateLine). Contains x.operands t) same operand))
      ]

  signal_in : (s : ℕ) → IsBelow (circuit n) root s → Contains from s
  signal_in _ here = (is.top, is.in_bounds, get_or_default from is.top root 0 is.in_bounds ∙ is.top_is_root)
  signal_in _ (deeper {s} {t} h feeds) = operand_in s t (signal_in s h) feeds

  input_in : (s : ℕ) → Contains (variables_of (circuit n)) s → IsBelow (circuit n) root s → (t : ℕ) × Contains cone.inputs t × (slice_index from t ≡ s)
  input_in s variable h = at_place (signal_in s h)
    where
      at_place : Contains from s → (t : ℕ) × Contains cone.inputs t × (slice_index from t ≡ s)
      at_place (i, low, at) =
          let here_at : slice_index from i ≡ s = get_or_default from i 0 s low ∙ at in
          elim (parted i low) [
            | inl input ↦ (i, input, here_at)
            | inr (g, copy, out) ↦ absurd (no_gate s variable copy.source copy.among (sym copy.out ∙ ap (slice_index from) out ∙ here_at))
          ]

pub in_cone : (n : Net) (root : ℕ) (names : List (List ℕ)) (cone : Net) (from : List ℕ) → IsNet n → IsCone n root names cone from →
    (s : ℕ) → IsBelow (circuit n) root s → Contains from s
in_cone n root names cone from net is s h = signal_in n root names cone from net is s h

pub input_in_cone : (n : Net) (root : ℕ) (names : List (List ℕ)) (cone : Net) (from : List ℕ) → IsNet n → IsCone n root names cone from →
    (s : ℕ) → Contains (variables_of (circuit n)) s → IsBelow (circuit n) root s → (t : ℕ) × Contains cone.inputs t × (slice_index from t ≡ s)
input_in_cone n root names cone from net is s variable h = input_in n root names cone from net is s variable h
