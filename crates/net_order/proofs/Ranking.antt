-- The rank of a signal as it is defined is the rank that the netlist has.
use Rattle.std.proofs.Common.{◌≡◌, ℕ, zero, suc, ◌+◌, ◌<◌, ◌≤◌, List, [], ◌∷◌, true, false, refl, sym, ap, ◌∙◌, subst, length, map, arith, add-one, All}
use Rattle.std.specs.Prelude.{cond, ◌==◌, find, Option, Some, None, Contains, slice_index, slice_index_or}
use Rattle.net_bench.specs.declared.netlist.GateLine.{GateLine}
use Rattle.net_bench.specs.Circuit.{Net, IsNet, circuit, greatest, variables_of}
use Rattle.net_bench.proofs.Chains.{lower}
use Rattle.net_order.specs.Order.{is_member, operands_of, gate_operands, rank_within, rank_of, falling}
use Rattle.net_order.proofs.Falling.{falling_same}
use Rattle.net_order.proofs.Ranks.{deep, gate_rank}
use Rattle.net_order.proofs.Leaves.{feeds_of, found_gate, gate_inside, is_input, member_at}

deeper : (x : ℕ) (xs : List ℕ) (s : ℕ) (among : Contains xs s) → slice_index_or (x ∷ xs) (among.0 + 1) s ≡ s
deeper x xs s among = rw add-one among.2

map_same : (f g : ℕ → ℕ) (xs : List ℕ) → ((x : ℕ) → Contains xs x → f x ≡ g x) → map f xs ≡ map g xs
map_same f g [] h = refl
map_same f g (x ∷ xs) h = ap (λ y. y ∷ map f xs) (h x (0, omega arith, refl)) ∙ ap (λ ys. g x ∷ ys) (map_same f g xs (λ s among. h s (among.0 + 1, omega (arith, among.1), deeper x xs s among)))

at_contained : (P : ℕ → Type 0) (xs : List ℕ) (s : ℕ) → All P xs → Contains xs s → P s
at_contained P xs s h among = subst P among.2 (h among.0 s among.1)

module _ (n : Net) (sound : IsNet n) where
  input_rank : (s : ℕ) → is_member s (variables_of (circuit n)) ≡ true → 0 ≡ slice_index n.ranks s
  input_rank s e = let at = member_at s (variables_of (circuit n)) e in sym (at_contained (λ t. slice_index n.ranks t ≡ 0) (variables_of (circuit n)) s sound.ranks.variables at)

  gate_is : (s : ℕ) (g : GateLine) → find (λ x. x.out == s) n.gates ≡ Some g → slice_index n.ranks s ≡ greatest (map (slice_index n.ranks) (operands_of (circuit n) s)) + 1
  gate_is s g e =
      let a = found_gate s n.gates g e in
      ap (slice_index n.ranks) (sym a.1) ∙ gate_rank n sound g a.0 ∙ ap (λ f. greatest (map (slice_index n.ranks) (gate_operands f)) + 1) (sym e)

  -- a signal that is no input has a gate
  gate_there : (s : ℕ) → s < length n.names → is_member s (variables_of (circuit n)) ≡ false → (f : Option GateLine) → find (λ x. x.out == s) n.gates ≡ f → (g : GateLine) × (find (λ x. x.out == s) n.gates ≡ Some g)
  gate_there s low out None e = absurd (neither (sym out ∙ is_input n sound s low e))
    where
      neither : false ≡ true → ⊥
      neither k = cc
  gate_there s low out (Some g) e = (g, e)

  rank_same : (depth s : ℕ) → s < length n.names → slice_index n.ranks s ≤ depth → rank_within (circuit n) depth s ≡ slice_index n.ranks s
  rank_same zero s low h =
      elim (is_member s (variables_of (circuit n))) as (λ b. is_member s (variables_of (circuit n)) ≡ b → cond b 0 1 ≡ slice_index n.ranks s) [
        | true ↦ λ e. input_rank s e
        | false ↦ λ e.
            let gate = gate_there s low e (find (λ x. x.out == s) n.gates) refl in
            let is = gate_is s gate.0 gate.1 in
            absurd (omega arith)
      ] refl
  rank_same (suc depth) s low h =
      elim (is_member s (variables_of (circuit n))) as (λ b. is_member s (variables_of (circuit n)) ≡ b → cond b 0 (greatest (map (rank_within (circuit n) depth) (operands_of (circuit n) s)) + 1) ≡ slice_index n.ranks s) [
        | true ↦ λ e. input_rank s e
        | false ↦ λ e.
            let gate = gate_there s low e (find (λ x. x.out == s) n.gates) refl in
            let in_bounds : All (λ o. o < length n.names) (operands_of (circuit n) s) = subst (λ f. All (λ o. o < length n.names) (gate_operands f)) (sym gate.1) (gate_inside n sound s gate.0 gate.1) in
            ap (λ rs. greatest rs + 1)
            (map_same (rank_within (circuit n) depth) (slice_index n.ranks) (operands_of (circuit n) s)
            (λ o among.
            let under : slice_index n.ranks o < slice_index n.ranks s = lower (circuit n) n.ranks sound.ranks o s (feeds_of (circuit n) s o among) in
            rank_same depth o (at_contained (λ t. t < length n.names) (operands_of (circuit n) s) o in_bounds among) (omega arith))) ∙
            sym (gate_is s gate.0 gate.1)
      ] refl

  -- the netlist's ranks are the ranks of its signals
  pub rank_is : (s : ℕ) → s < length n.names → rank_of (circuit n) s ≡ slice_index n.ranks s
  rank_is s low = rank_same (length n.gates) s low (deep n sound s)

  pub falling_is : (xs ys : List ℕ) → All (λ s. s < length n.names) xs → ys ≡ falling (slice_index n.ranks) xs → ys ≡ falling (rank_of (circuit n)) xs
  falling_is xs ys in_bounds e =
      e ∙ sym (falling_same (rank_of (circuit n)) (slice_index n.ranks) xs (λ o among. rank_is o (at_contained (λ t. t < length n.names) xs o in_bounds among)))

  gates_ranked : (gs : List GateLine) → All (λ g. g.out < length n.names) gs → map (λ g. slice_index n.ranks g.out) gs ≡ map (λ g. rank_of (circuit n) g.out) gs
  gates_ranked [] in_bounds = refl
  gates_ranked (g ∷ gs) in_bounds =
      ap (λ r. r ∷ map (λ h. slice_index n.ranks h.out) gs) (sym (rank_is g.out (in_bounds 0 g (omega arith)))) ∙
      ap (λ rs. rank_of (circuit n) g.out ∷ rs) (gates_ranked gs (λ i d low. in_bounds (suc i) d (omega (arith, low))))

  -- the ranks of gates, in their order
  pub gate_ranks_are : map (λ g. slice_index n.ranks g.out) n.gates ≡ map (λ g. rank_of (circuit n) g.out) n.gates
  gate_ranks_are = gates_ranked n.gates sound.outs
