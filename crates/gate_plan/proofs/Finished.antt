-- What the ranks of a build leave of what was there before the first: what is added, why it is refused, and the diagrams of all signals.
use Rattle.std.proofs.Common.{◌≡◌, ℕ, ◌+◌, ◌<◌, ◌≤◌, inl, List, [], Option, length, map, get_or, sym, ◌∙◌, subst, arith}
use Rattle.std.specs.Prelude.{Contains}
use Rattle.dd_store.specs.declared.reference.Ref.{Ref}
use Rattle.dd_store.specs.Nodes.{Nodes, IsSound, count_of}
use Rattle.expand_work.specs.declared.fault.WaveFault.{WaveFault}
use Rattle.net_bench.specs.Circuit.{greatest, rank_of}
use Rattle.reduce_up.specs.Reducing.{AddsDescribed}
use Rattle.gate_plan.specs.Asking.{AnyAsks, AnyAsksBelow, IsWithinOrUnasked, IsPast, IsNarrow, AreNarrowBelow}
use Rattle.gate_plan.specs.Building.{PairedCircuits, PlannedNet, Levelled, levelled, levelled_of, ranks_of, AllRight, AreDiagrams, IsBuildStart}
use Rattle.gate_plan.specs.Folds.{IsVariable}
use Rattle.gate_plan.specs.Need.{IsCounted}
use Rattle.gate_plan.specs.Needing.{IsNeeded, IsNeededValue, IsPlannedValue, HasNeed, IsBuildFault, IsStillWithin}
use Rattle.gate_plan.proofs.Asked.{all_unasked, later_unasked, still_within}
use Rattle.gate_plan.proofs.Narrow.{all_narrow}
use Rattle.gate_plan.proofs.Counted.{adds_more, adds_next, fault_next}
use Rattle.gate_plan.proofs.Needed.{needed_adds, needed_fault, need_left, diagrams_at}
use Rattle.gate_plan.proofs.Ranks.{below_greatest}
use Rattle.gate_plan.proofs.Running.{variables_kept}

-- what is borrowed of the state before the first rank is this state
pub begun_lent : (c : PairedCircuits) (T : Nodes) (sides lent_sides : List PlannedNet) (built lent_built : List (List Ref)) → lent_sides ≡ sides → lent_built ≡ built → IsBuildStart c T sides built → IsBuildStart c T lent_sides lent_built
begun_lent c T sides lent_sides built lent_built e f begun = subst (λ (z : List PlannedNet). IsBuildStart c T z lent_built) (sym e) (subst (λ (z : List (List Ref)). IsBuildStart c T sides z) (sym f) begun)

-- The store S before the build, T before the first rank, and U after the last rank that was done.
module _ (c : PairedCircuits) (S T U : Nodes) (levels : S.levels ≡ length c.pairing.names) (sound : IsSound T) (variables : AddsDescribed S T (IsCounted S.levels (IsVariable S.levels)))
    (sides : List PlannedNet) (built : List (List Ref)) (begun : IsBuildStart c T sides built) (adds : AddsDescribed T U (IsCounted T.levels (IsPlannedValue T.levels sides))) where
  added : AddsDescribed S U (IsCounted S.levels (IsPlannedValue S.levels sides))
  added = adds_next S T U (λ n. IsPlannedValue n sides) sound (adds_more S T S.levels (IsVariable S.levels) (IsPlannedValue S.levels sides) (λ f v. inl v) variables) adds

  pub ranks_needed : AddsDescribed S U (IsNeeded c.first c.second c.given c.pairing)
  ranks_needed = needed_adds c.first c.second c.given c.pairing sides begun.placed.netlists S.levels levels S U added

  pub ranks_fault : (e : WaveFault) → IsBuildFault T.levels (IsPlannedValue T.levels sides) U e → IsBuildFault (length c.pairing.names) (IsNeededValue c.first c.second c.given c.pairing) U e
  ranks_fault e f = needed_fault c.first c.second c.given c.pairing sides begun.placed.netlists S.levels levels U e (fault_next S T U (λ n. IsPlannedValue n sides) e variables.keeps f)

  pub ranks_past : (o : Option ℕ) → IsPast o T.levels (map levelled_of sides) → IsPast o (length c.pairing.names) (levelled c.first c.second c.given c.pairing)
  ranks_past o past =
      subst (λ n. IsPast o n (levelled c.first c.second c.given c.pairing)) (variables.keeps.levels ∙ levels) (subst (λ (z : List Levelled). IsPast o T.levels z) begun.placed.netlists past)

  -- the rank of each gate is one of those that were done
  done : (one : PlannedNet) → Contains sides one → greatest (map (rank_of one.net) one.net.gates) ≤ greatest (map ranks_of sides)
  done one there = let ranks = (begun.placed.plans one there).ranks in let last = below_greatest ranks_of sides one there in omega arith

  pub ranks_within : IsStillWithin S T → IsWithinOrUnasked (AnyAsksBelow sides U (greatest (map ranks_of sides))) T U →
      IsWithinOrUnasked (AnyAsks c.first c.second c.given c.pairing U) S U
  ranks_within still within = all_unasked c.first c.second c.given c.pairing sides begun.placed S U (greatest (map ranks_of sides)) done (later_unasked S T U _ still within)

  pub ranks_narrow : (n : ℕ) → AreNarrowBelow n T.levels sides (greatest (map ranks_of sides)) → IsNarrow n (length c.pairing.names) (levelled c.first c.second c.given c.pairing)
  ranks_narrow n narrow =
      all_narrow c.first c.second c.given c.pairing sides begun.placed n (length c.pairing.names) (greatest (map ranks_of sides)) done
      (subst (λ d. AreNarrowBelow n d sides (greatest (map ranks_of sides))) (variables.keeps.levels ∙ levels) narrow)

  module _ (after : List (List Ref)) (right : AllRight sides U after (greatest (map ranks_of sides) + 1)) where
    past_done : (one : PlannedNet) → Contains sides one → greatest (map (rank_of one.net) one.net.gates) < greatest (map ranks_of sides) + 1
    past_done one there = let d = done one there in omega arith

    pub ranks_diagrams : (k : ℕ) (l : Levelled) → k < length (levelled c.first c.second c.given c.pairing) → get_or (levelled c.first c.second c.given c.pairing) k l ≡ l →
        AreDiagrams l.netlist l.level U (get_or after k [])
    ranks_diagrams = diagrams_at c.first c.second c.given c.pairing sides begun.placed U after (greatest (map ranks_of sides) + 1) right (omega arith) past_done

    pub ranks_need : IsSound U → IsStillWithin S T → IsWithinOrUnasked (AnyAsksBelow sides U (greatest (map ranks_of sides))) T U → count_of S ≡ 0 → HasNeed c.first c.second c.given c.pairing U
    ranks_need well still within none =
        need_left c.first c.second c.given c.pairing sides begun.placed S U begun.variables.0 after (greatest (map ranks_of sides) + 1) levels well added
        (still_within S U _ (later_unasked S T U _ still within)) (variables_kept T U begun.variables.0 sound adds.keeps begun.variables.1) right past_done none
