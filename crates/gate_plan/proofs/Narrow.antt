-- A build that was done had no wave past its bound.
use Rattle.std.proofs.Common.{◌≡◌, ℕ, ◌+◌, ◌-◌, ◌^◌, ◌<◌, ◌≤◌, ◌⊎◌, inl, inr, List, [], map, get_or, Option, refl, sym, subst, arith}
use Rattle.std.specs.Prelude.{Contains}
use Rattle.dd_store.specs.declared.reference.Ref.{Ref}
use Rattle.dd_store.specs.Nodes.{Nodes, IsSound}
use Rattle.net_bench.specs.declared.netlist.GateLine.{GateLine}
use Rattle.net_bench.specs.Circuit.{Circuit, circuit, greatest, rank_of}
use Rattle.net_order.specs.Order.{NamingModel}
use Rattle.expand_work.specs.Bounds.{WaveBound, most_of}
use Rattle.req_table.specs.declared.Key.{Key}
use Rattle.req_table.specs.ComputedTables.{ComputedView}
use Rattle.reduce_up.specs.Waves.{Entry}
use Rattle.reduce_up.proofs.Noting.{nothing}
use Rattle.wave_engine.specs.Bounds.{AreAtMost}
use Rattle.gate_plan.specs.Plans.{IsPlan, folds_of, plan_folds}
use Rattle.gate_plan.specs.Building.{PlannedNet, Levelled, levelled, levelled_of, folds_at, input_level, AllFolded, ArePlannedNets, asked}
use Rattle.gate_plan.specs.Asking.{IsRightAndWithinLimit, IsEntryOf, IsOfRank, IsNarrowAt, IsNarrow, AreNarrowBelow}
use Rattle.gate_plan.proofs.Asked.{entry_of_step}
use Rattle.gate_plan.proofs.Lists.{lt_or_le}
use Rattle.gate_plan.proofs.Picking.{folds_within}
use Rattle.gate_plan.proofs.Ranks.{above_none, below_greatest, rank_top}
use Rattle.gate_plan.proofs.Together.{of_map, refs_there, asked_has}

-- what holds if something is held holds if nothing is
pub by_held : (S : Nodes) (old held : ComputedView) → IsRightAndWithinLimit S old → (held ≡ old) ⊎ (held.pairs ≡ []) → IsRightAndWithinLimit S held
by_held S old held h (inl same) = subst (IsRightAndWithinLimit S) (sym same) h
by_held S old held h (inr none) = record {
  right = λ k r c. absurd (nothing {X = Key × Ref} (k, r) (subst (λ (z : List (Key × Ref)). Contains z (k, r)) none c));
  within = inl none;
}

-- a wave of the steps of all netlists that reaches at most so many requests
pub wave_narrow : (sides : List PlannedNet) → ((one : PlannedNet) → Contains sides one → IsPlan one.net one.plan) → (S : Nodes) → IsSound S → (built : List (List Ref)) (r j : ℕ) (entries : List Entry) →
    AllFolded sides S built r j → entries ≡ asked sides built r j → (n : ℕ) → AreAtMost n S entries → IsNarrowAt n S.levels (map levelled_of sides) r j
wave_narrow sides plans S sound built r j entries h e n few = record {
  store = S;
  sound = sound;
  levels = refl;
  entries = entries;
  asked = λ l g c among rank lt. let m = of_map levelled_of sides l c in
      subst (λ (z : Levelled). Contains z.netlist.gates g → IsOfRank z.netlist g r → (x : Entry) × Contains entries x × IsEntryOf z.netlist z.level S g j x) m.2 (by m.0 m.1 g lt) among rank;
  few = few;
}
  where
    by : (one : PlannedNet) → Contains sides one → (g : GateLine) → j < folds_of g → Contains one.net.gates g → IsOfRank (circuit one.net) g r → (x : Entry) × Contains entries x × IsEntryOf (circuit one.net) (input_level one) S g j x
    by one (k, lt, at) g step among rank =
        let long = h.0 in
        let there = refs_there built k (omega arith) in
        let sound_net = (plans one (k, lt, at)).sound in
        let q = entry_of_step one.net sound_net (input_level one) S (get_or built k []) r j (h.1 k one (get_or built k []) lt at there) g among (rank one.net.ranks sound_net.ranks) step in
        (q.0, subst (λ xs. Contains xs q.0) (sym e) (asked_has r j sides built k one (get_or built k []) h.0 lt at there q.0 q.1), q.2)

-- ---- wave by wave

pub none_narrow : (P : ℕ → Type 0) (j : ℕ) → j < 0 → P j
none_narrow P j lt = absurd (omega (arith, lt))

-- one more wave, of an engine with the same bound and a store with as many levels
pub next_narrow : (P : ℕ → ℕ → ℕ → Type 0) (o p : WaveBound) (d e : ℕ) → p ≡ o → e ≡ d → (n : ℕ) → (most_of o.requests < 2 ^ 64 - 1 → (j : ℕ) → j < n → P (most_of o.requests) d j) → (most_of p.requests < 2 ^ 64 - 1 → P (most_of p.requests) e n)
    → most_of o.requests < 2 ^ 64 - 1 → (j : ℕ) → j < n + 1 → P (most_of o.requests) d j
next_narrow P o p d e same levels n before own bounded j lt = by (lt_or_le j n)
  where
    last : P (most_of o.requests) d n
    last = subst (λ z. P (most_of o.requests) z n) levels (subst (λ (z : WaveBound). most_of z.requests < 2 ^ 64 - 1 → P (most_of z.requests) e n) same own bounded)

    by : (j < n) ⊎ (n ≤ j) → P (most_of o.requests) d j
    by (inl less) = before bounded j less
    by (inr more) = let at : n ≡ j = omega (arith, lt, more) in subst (P (most_of o.requests) d) at last

-- the ranks have all gates
pub all_narrow : (a b : Circuit) (given : Option Circuit) (p : NamingModel) (sides : List PlannedNet) → ArePlannedNets a b given p sides → (n depth m : ℕ) →
    ((one : PlannedNet) → Contains sides one → greatest (map (rank_of one.net) one.net.gates) ≤ m) →
    AreNarrowBelow n depth sides m → IsNarrow n depth (levelled a b given p)
all_narrow a b given p sides placed n depth m few below l g r j c among rank lt =
    let o = of_map levelled_of sides l (subst (λ z. Contains z l) (sym placed.netlists) c) in
    subst (λ (z : List Levelled). IsNarrowAt n depth z r j) placed.netlists
    (subst (λ (z : Levelled). Contains z.netlist.gates g → IsOfRank z.netlist g r → IsNarrowAt n depth (map levelled_of sides) r j) o.2 (by o.0 o.1) among rank)
  where
    by : (one : PlannedNet) → Contains sides one → Contains one.net.gates g → IsOfRank (circuit one.net) g r → IsNarrowAt n depth (map levelled_of sides) r j
    by one there within of_rank =
        let sound_net = (placed.plans one there).sound in
        let is : rank_of one.net g ≡ r = of_rank one.net.ranks sound_net.ranks in
        let low = above_none one.net sound_net g within in
        let top = rank_top one.net g within in
        let most = few one there in
        let next : (r - 1) + 1 ≡ r = omega (arith, low, is) in
        let folds : folds_of g ≤ plan_folds one.net one.net.gates r = folds_within one.net r one.net.gates g within is in
        let all : folds_at r one ≤ greatest (map (folds_at r) sides) = below_greatest (folds_at r) sides one there in
        let fits : j < greatest (map (folds_at r) sides) = omega (arith, lt, folds, all) in
        subst (λ z. j < greatest (map (folds_at z) sides) → IsNarrowAt n depth (map levelled_of sides) z j) next (below (r - 1) (omega (arith, low, is, top, most)) j) fits
