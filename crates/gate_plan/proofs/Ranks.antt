-- The gates of a netlist and their ranks.
use Rattle.std.proofs.Common.{◌≡◌, ℕ, zero, suc, ◌+◌, ◌<◌, ◌≤◌, List, [], ◌∷◌, length, map, get_or, refl, sym, ◌∙◌, ap, subst, arith, ◌⊎◌, inl, inr}
use Rattle.std.specs.Prelude.{Contains, All, slice_index, IsTrue}
use Rattle.std.proofs.lemmas.List.{get_or_default}
use Rattle.net_bench.specs.declared.netlist.GateLine.{GateLine}
use Rattle.net_bench.specs.Statement.{takes_one}
use Rattle.net_bench.specs.Circuit.{Net, circuit, IsNet, greatest, variables_of, rank_of}
use Rattle.net_bench.proofs.OneLabelling.{at_contained}
use Rattle.net_bench.proofs.Chains.{greatest_above, lower}
use Rattle.gate_plan.proofs.Lists.{lt_or_le}

module _ (net : Net) (h : IsNet net) where
  pub gate_rank : (g : GateLine) → Contains net.gates g → rank_of net g ≡ greatest (map (slice_index net.ranks) g.operands) + 1
  gate_rank g among = at_contained (λ g. slice_index net.ranks g.out ≡ greatest (map (slice_index net.ranks) g.operands) + 1) net.gates g h.ranks.gates among

  pub above_none : (g : GateLine) → Contains net.gates g → 0 < rank_of net g
  above_none g among = let e = gate_rank g among in omega arith

  pub input_rank : (s : ℕ) → Contains (variables_of (circuit net)) s → slice_index net.ranks s ≡ 0
  input_rank s among = at_contained (λ s. slice_index net.ranks s ≡ 0) (variables_of (circuit net)) s h.ranks.variables among

  pub operand_lower : (g : GateLine) (s : ℕ) → Contains net.gates g → Contains g.operands s → slice_index net.ranks s < rank_of net g
  operand_lower g s among operand = lower (circuit net) net.ranks h.ranks s g.out (g, among, refl, operand)

  pub out_below : (g : GateLine) → Contains net.gates g → g.out < length net.names
  out_below g among = at_contained (λ g. g.out < length net.names) net.gates g h.outs among

  pub some_operand : (g : GateLine) → Contains net.gates g → 0 < length g.operands
  some_operand g among =
      (at_contained (λ g. All (λ s. s < length net.names) g.operands × (0 < length g.operands) × (IsTrue (takes_one g.kind) → length g.operands ≡ 1)) net.gates g h.operands among).1

  pub one_operand_only : (g : GateLine) → Contains net.gates g → IsTrue (takes_one g.kind) → length g.operands ≡ 1
  one_operand_only g among =
      (at_contained (λ g. All (λ s. s < length net.names) g.operands × (0 < length g.operands) × (IsTrue (takes_one g.kind) → length g.operands ≡ 1)) net.gates g h.operands among).2

  pub operand_below : (g : GateLine) (s : ℕ) → Contains net.gates g → Contains g.operands s → s < length net.names
  operand_below g s among operand =
      at_contained (λ s. s < length net.names) g.operands s
      (at_contained (λ g. All (λ s. s < length net.names) g.operands × (0 < length g.operands) × (IsTrue (takes_one g.kind) → length g.operands ≡ 1)) net.gates g h.operands among).0 operand

  -- a signal has at most one gate
  pub one_gate : (g k : GateLine) → Contains net.gates g → Contains net.gates k → g.out ≡ k.out → g ≡ k
  one_gate g k a b e = by (lt_or_le a.0 b.0) (lt_or_le b.0 a.0)
    where
      by : (a.0 < b.0) ⊎ (b.0 ≤ a.0) → (b.0 < a.0) ⊎ (a.0 ≤ b.0) → g ≡ k
      by (inl lt) z = absurd (h.one_gate a.0 b.0 g lt b.1 (ap (λ y. y.out) a.2 ∙ e ∙ ap (λ y. y.out) (sym b.2) ∙ ap (λ y. y.out) (get_or_default net.gates b.0 k g b.1)))
      by (inr le) (inl lt) = absurd (h.one_gate b.0 a.0 k lt a.1 (ap (λ y. y.out) b.2 ∙ sym e ∙ ap (λ y. y.out) (sym a.2) ∙ ap (λ y. y.out) (get_or_default net.gates a.0 g k a.1)))
      by (inr le) (inr ge) = let at : a.0 ≡ b.0 = omega arith in sym a.2 ∙ ap (λ i. get_or net.gates i g) at ∙ get_or_default net.gates b.0 g k b.1 ∙ b.2

-- no item's number is above the greatest
pub below_greatest : {X : Type 0} (f : X → ℕ) (xs : List X) (x : X) → Contains xs x → f x ≤ greatest (map f xs)
below_greatest {X = X} f xs x among = subst (λ z. z ≤ greatest (map f xs)) (at_map xs among.0 among.1 ∙ ap f among.2) (greatest_above (map f xs) among.0 (long xs among.0 among.1))
  where
    long : (ys : List X) (i : ℕ) → i < length ys → i < length (map f ys)
    long [] i lt = absurd (omega arith)
    long (y ∷ ys) zero lt = omega arith
    long (y ∷ ys) (suc i) lt = let k : i < length (map f ys) = long ys i (omega arith) in omega arith

    at_map : (ys : List X) (i : ℕ) → i < length ys → get_or (map f ys) i 0 ≡ f (get_or ys i x)
    at_map [] i lt = absurd (omega arith)
    at_map (y ∷ ys) zero lt = refl
    at_map (y ∷ ys) (suc i) lt = at_map ys i (omega arith)

-- no gate's rank is above the greatest
pub rank_top : (net : Net) (g : GateLine) → Contains net.gates g → rank_of net g ≤ greatest (map (rank_of net) net.gates)
rank_top net g among = below_greatest (rank_of net) net.gates g among
