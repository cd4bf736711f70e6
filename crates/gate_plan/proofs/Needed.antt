-- What a build adds is needed by its netlists, and a store without nodes gets all that they need.
use Rattle.std.proofs.Common.{◌≡◌, ℕ, ◌<◌, ◌≤◌, inl, inr, Bool, List, [], Option, length, map, get_or, sym, ◌∙◌, ap, subst, arith}
use Rattle.std.specs.Prelude.{Contains}
use Rattle.dd_store.specs.declared.reference.Ref.{Ref}
use Rattle.dd_store.specs.Functions.{Agree}
use Rattle.dd_store.specs.Nodes.{Nodes, den, IsSound, count_of}
use Rattle.dd_store.specs.View.{part, Has}
use Rattle.dd_store.proofs.View.{parts, denotes, same_ref}
use Rattle.expand_work.specs.declared.fault.WaveFault.{WaveFault}
use Rattle.net_bench.specs.declared.netlist.GateLine.{GateLine}
use Rattle.net_bench.specs.Circuit.{Circuit, Net, circuit, greatest, rank_of}
use Rattle.net_order.specs.Order.{NamingModel}
use Rattle.reduce_up.specs.Reducing.{AddsDescribed}
use Rattle.gate_plan.specs.Building.{PlannedNet, Levelled, levelled, levelled_of, ArePlannedNets, input_level, reference_of, IsDenoted, value_after, AreVariables, AllRight, AreDiagrams}
use Rattle.gate_plan.specs.Folds.{IsVariable, IsFoldValue}
use Rattle.gate_plan.specs.Need.{IsCounted, IsComplete}
use Rattle.gate_plan.specs.Needing.{IsNeeded, IsNeededValue, IsPlannedValue, IsValueOf, IsLeanFor, IsCompleteFor, HasNeed, IsBuildFault, IsStillWithin}
use Rattle.gate_plan.proofs.Counted.{adds_more, fault_more, lean_from}
use Rattle.gate_plan.proofs.Needs.{complete}
use Rattle.gate_plan.proofs.Running.{all_right, all_values}
use Rattle.gate_plan.proofs.Together.{levelled_at, of_map, refs_there}

module _ (a b : Circuit) (given : Option Circuit) (p : NamingModel) where
  -- what holds of the values of the netlists holds of those that the pairing names
  needed_as : (P : ((List Bool → Bool) → Type 0) → Type 0) (sides : List PlannedNet) → map levelled_of sides ≡ levelled a b given p → (n : ℕ) → n ≡ length p.names → P (IsPlannedValue n sides) → P (IsNeededValue a b given p)
  needed_as P sides placed n e h =
      subst (λ k. P (λ f. IsValueOf k (levelled a b given p) f)) e (subst (λ (z : List Levelled). P (λ f. IsValueOf n z f)) placed h)

  pub needed_adds : (sides : List PlannedNet) → map levelled_of sides ≡ levelled a b given p → (n : ℕ) → n ≡ length p.names → (S T : Nodes) →
      AddsDescribed S T (IsCounted n (IsPlannedValue n sides)) → AddsDescribed S T (IsNeeded a b given p)
  needed_adds sides placed n e S T i =
      needed_as (λ Values. AddsDescribed S T (IsCounted (length p.names) Values)) sides placed n e (subst (λ k. AddsDescribed S T (IsCounted k (IsPlannedValue n sides))) e i)

  pub needed_fault : (sides : List PlannedNet) → map levelled_of sides ≡ levelled a b given p → (n : ℕ) → n ≡ length p.names → (S : Nodes) (w : WaveFault) →
      IsBuildFault n (IsPlannedValue n sides) S w → IsBuildFault (length p.names) (IsNeededValue a b given p) S w
  needed_fault sides placed n e S w f =
      needed_as (λ Values. IsBuildFault (length p.names) Values S w) sides placed n e (subst (λ k. IsBuildFault k (IsPlannedValue n sides) S w) e f)

  -- the variables are needed
  pub variables_needed : (n : ℕ) → n ≡ length p.names → (S T : Nodes) → AddsDescribed S T (IsCounted n (IsVariable n)) → AddsDescribed S T (IsNeeded a b given p)
  variables_needed n e S T i =
      adds_more S T (length p.names) (IsVariable (length p.names)) (IsNeededValue a b given p) (λ f v. inl v) (subst (λ k. AddsDescribed S T (IsCounted k (IsVariable k))) e i)

  pub variables_fault : (n : ℕ) → n ≡ length p.names → (S : Nodes) (w : WaveFault) → IsBuildFault n (IsVariable n) S w → IsBuildFault (length p.names) (IsNeededValue a b given p) S w
  variables_fault n e S w f =
      fault_more S (length p.names) (IsVariable (length p.names)) (IsNeededValue a b given p) (λ f v. inl v) w (subst (λ k. IsBuildFault k (IsVariable k) S w) e f)

-- the store has a diagram of each value of a netlist's folds
abbrev HasValues : Net → (ℕ → ℕ) → Nodes → Type 0
HasValues net level S = (g : GateLine) → Contains net.gates g → (i : ℕ) → 0 < i → i ≤ length g.operands → IsDenoted (circuit net) level S (value_after g i)

module _ (a b : Circuit) (given : Option Circuit) (p : NamingModel) (sides : List PlannedNet) (placed : ArePlannedNets a b given p sides) where
  -- a store with a diagram of each value has each node that is needed
  complete_from : (S : Nodes) (variables : List Ref) → IsSound S → S.levels ≡ length p.names → AreVariables S variables → ((one : PlannedNet) → Contains sides one → HasValues one.net (input_level one) S) →
      IsCompleteFor a b given p S
  complete_from S variables sound e vars has_all =
      subst (λ n. IsComplete n (IsNeededValue a b given p) (part S) (Has S) (den S)) e
      (complete Ref same_ref S.levels (part S) (Has S) (den S) (parts S sound) (denotes S sound) (IsNeededValue a b given p) diagram)
    where
      fold : (one : PlannedNet) → Contains sides one → (f : List Bool → Bool) → IsFoldValue (circuit one.net) (input_level one) (length p.names) f → (r : Ref) × Has S r × Agree S.levels (den S r) f
      fold one c f (g, among, (i, pos, all, value)) =
          let d = has_all one c g among i pos all in
          (d.0, d.1, λ x hx. d.2 x (value x (hx ∙ e)).0 hx (value x (hx ∙ e)).1 ∙ sym (value x (hx ∙ e)).2)

      diagram : (f : List Bool → Bool) → IsNeededValue a b given p f → (r : Ref) × Has S r × Agree S.levels (den S r) f
      diagram f (inl (v, lt, value)) = (reference_of variables v, vars.has v (omega arith), λ x hx. vars.bits v (omega arith) x ∙ sym (value x (hx ∙ e)))
      diagram f (inr (l, c, value)) =
          let m = of_map levelled_of sides l (subst (λ z. Contains z l) (sym placed.netlists) c) in
          fold m.0 m.1 f (subst (λ (z : Levelled). IsFoldValue z.netlist z.level (length p.names) f) (sym m.2) value)

  -- what a build leaves of a store without nodes
  pub need_left : (old new : Nodes) (variables : List Ref) (built : List (List Ref)) (r : ℕ) → old.levels ≡ length p.names → IsSound new →
      AddsDescribed old new (IsCounted old.levels (IsPlannedValue old.levels sides)) → IsStillWithin old new → AreVariables new variables → AllRight sides new built r →
      ((one : PlannedNet) → Contains sides one → greatest (map (rank_of one.net) one.net.gates) < r) → count_of old ≡ 0 → HasNeed a b given p new
  need_left old new variables built r e sound adds within vars right past none = record {
    lean = lean_from old new (length p.names) (IsNeededValue a b given p) none (needed_adds a b given p sides placed.netlists old.levels e old new adds);
    complete = complete_from new variables sound (adds.keeps.levels ∙ e) vars values;
    within = small within;
  }
    where
      values : (one : PlannedNet) → Contains sides one → HasValues one.net (input_level one) new
      values one (k, lt, at) =
          let n = right.0 in
          all_values one.net (placed.plans one (k, lt, at)).sound (input_level one) new (get_or built k []) r (past one (k, lt, at)) (right.1 k one (get_or built k []) lt at (refs_there built k (omega arith)))

      small : IsStillWithin old new → count_of new ≤ new.limit
      small (inl le) = le
      small (inr same) = let c : count_of new ≡ count_of old = ap count_of same in omega arith

  -- each netlist has its diagrams, at its place
  pub diagrams_at : (S : Nodes) (built : List (List Ref)) (r : ℕ) → AllRight sides S built r → 0 < r → ((one : PlannedNet) → Contains sides one → greatest (map (rank_of one.net) one.net.gates) < r) →
      (k : ℕ) (l : Levelled) → k < length (levelled a b given p) → get_or (levelled a b given p) k l ≡ l → AreDiagrams l.netlist l.level S (get_or built k [])
  diagrams_at S built r right pos past k l lt at =
      let m = levelled_at sides (levelled a b given p) placed.netlists k l lt at in
      let n = right.0 in
      let low = m.1 in
      subst (λ (z : Levelled). AreDiagrams z.netlist z.level S (get_or built k [])) m.3
      (all_right m.0.net (placed.plans m.0 (k, m.1, m.2)).sound (input_level m.0) S (get_or built k []) r (past m.0 (k, m.1, m.2)) pos (right.1 k m.0 (get_or built k []) m.1 m.2 (refs_there built k (omega arith))))

-- what was added to a store without nodes is lean
pub lean_left : (a b : Circuit) (given : Option Circuit) (p : NamingModel) (S T : Nodes) → count_of S ≡ 0 → AddsDescribed S T (IsNeeded a b given p) → IsLeanFor a b given p T
lean_left a b given p S T none adds = lean_from S T (length p.names) (IsNeededValue a b given p) none adds
