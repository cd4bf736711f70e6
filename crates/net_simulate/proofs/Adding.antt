-- A schedule with one more gate.
use Rattle.std.proofs.Common.{◌≡◌, ◌≢◌, ◌⊎◌, inl, inr, ℕ, ◌+◌, ◌<◌, ◌≤◌, List, [], ◌∷◌, ◌++◌, refl, sym, ap, ◌∙◌, subst, Some, length, get_or, take, arith, length-append}
use Rattle.std.specs.Prelude.{Contains, All, MatchOption}
use Rattle.std.proofs.Math.ListN.{get_or-append}
use Rattle.std.proofs.Math.Seq.{get_or-append_seam, take-append_seam}
use Rattle.std.proofs.lemmas.Bool.{cases_lt}
use Rattle.std.proofs.lemmas.List.{take-append-le}
use Rattle.net_bench.specs.declared.netlist.GateLine.{GateLine}
use Rattle.net_bench.specs.Circuit.{Net, IsNet, gate_of, highest_rank, rank_of}
use Rattle.net_bench.proofs.OneLabelling.{at_contained}
use Rattle.net_cone.proofs.Lists.{in_first, in_second}
use Rattle.net_cone.proofs.Walking.{gate_found}
use Rattle.net_simulate.specs.RankRows.{rank_row}
use Rattle.net_simulate.specs.Schedules.{AreRising, Equation, IsOfGate, IsSchedule, IsScheduledTo, equation_of, rank_in}
use Rattle.net_simulate.proofs.Lists.{all_of, in_last, same_or, taken_more}
use Rattle.net_simulate.proofs.Rows.{in_row, rank_low, rank_top, row_gate}

-- what is true of each item and of one more
pub all_more : {X : Type 0} (P : X → Type 0) (xs : List X) (x : X) → All P xs → P x → All P (xs ++ x ∷ [])
all_more P xs x all here = all_of P (xs ++ x ∷ []) (λ y among. elim (in_last xs x y among) [
  | inl there ↦ at_contained P xs y all there
  | inr is ↦ subst P is here
])

at_end : {X : Type 0} (xs : List X) (x : X) → Contains (xs ++ x ∷ []) x
at_end xs x = in_second xs (x ∷ []) x (0, omega arith, refl)

rising_more : (n : Net) (es : List Equation) (e : Equation) → AreRising n es → All (λ a. rank_in n a ≤ rank_in n e) es → AreRising n (es ++ e ∷ [])
rising_more n es e rising below k d low = elim (cases_lt k (length es)) [
  | inl less ↦
      subst (λ xs. All (λ a. rank_in n a ≤ rank_in n (get_or (es ++ e ∷ []) k d)) xs) (sym (take-append-le k es (e ∷ []) (omega arith)))
      (subst (λ b. All (λ a. rank_in n a ≤ rank_in n b) (take k es)) (sym (get_or-append es (e ∷ []) d k less)) (rising k d less))
  | inr most ↦
      let size : length (es ++ e ∷ []) ≡ length es + 1 = length-append es (e ∷ []) in
      let end : length es ≡ k = omega arith in
      subst (λ j. All (λ a. rank_in n a ≤ rank_in n (get_or (es ++ e ∷ []) j d)) (take j (es ++ e ∷ []))) end
      (subst (λ xs. All (λ a. rank_in n a ≤ rank_in n (get_or (es ++ e ∷ []) (length es) d)) xs) (sym (take-append_seam es (e ∷ [])))
      (subst (λ b. All (λ a. rank_in n a ≤ rank_in n b) es) (sym (get_or-append_seam es e [] d)) below))
]

module _ (n : Net) (sound : IsNet n) where
  with_gate : (es : List Equation) (place : ℕ) (signals : List ℕ) (g : GateLine) → Contains n.gates g → rank_of n g ≡ place + 1 →
      IsScheduledTo n es place (place + 1) signals → IsScheduledTo n (es ++ equation_of g ∷ []) place (place + 1) (signals ++ g.out ∷ [])
  with_gate es place signals g among rank done = record {
    gates = all_more (IsOfGate n) es (equation_of g) done.gates (g, among, refl);
    all = λ h there which. elim (same_or h.out g.out) [
      | inl e ↦
          let one : gate_of n.gates g.out ≡ Some g = gate_found n sound g among in
          let two : gate_of n.gates g.out ≡ Some h = subst (λ s. gate_of n.gates s ≡ Some h) e (gate_found n sound h there) in
          let same : g ≡ h = cc in
          subst (λ k. Contains (es ++ equation_of g ∷ []) (equation_of k)) same (at_end es (equation_of g))
      | inr ne ↦ in_first es (equation_of g ∷ []) (equation_of h) (done.all h there (earlier h ne which))
    ];
    rising = rising_more n es (equation_of g) done.rising (subst (λ r. All (λ a. rank_in n a ≤ r) es) (sym rank) done.low);
    low = all_more (λ a. rank_in n a ≤ place + 1) es (equation_of g) done.low (omega arith);
  }
    where
      earlier : (h : GateLine) → h.out ≢ g.out → (rank_of n h ≤ place) ⊎ Contains (signals ++ g.out ∷ []) h.out → (rank_of n h ≤ place) ⊎ Contains signals h.out
      earlier h ne (inl early) = inl early
      earlier h ne (inr listed) = elim (in_last signals g.out h.out listed) [
        | inl there ↦ inr there
        | inr e ↦ absurd (ne (sym e))
      ]

  -- one more signal of a row
  pub row_step : (old new : List Equation) (place i s : ℕ) (row : List ℕ) → row ≡ rank_row n (place + 1) → i < length row → s ≡ get_or row i s →
      MatchOption (gate_of n.gates s) (new ≡ old) (λ g. new ≡ old ++ equation_of g ∷ []) →
      IsScheduledTo n old place (place + 1) (take i row) → IsScheduledTo n new place (place + 1) (take (i + 1) row)
  row_step old new place i s row is low at done before =
      let among : Contains (rank_row n (place + 1)) s = subst (λ xs. Contains xs s) is (i, low, sym at) in
      let (g, there, out, rank) = row_gate n (place + 1) s among in
      let found : gate_of n.gates s ≡ Some g = subst (λ t. gate_of n.gates t ≡ Some g) out (gate_found n sound g there) in
      let e : new ≡ old ++ equation_of g ∷ [] = subst (λ o. MatchOption o (new ≡ old) (λ g. new ≡ old ++ equation_of g ∷ [])) found done in
      let after : IsScheduledTo n (old ++ equation_of g ∷ []) place (place + 1) (take i row ++ g.out ∷ []) = with_gate old place (take i row) g there rank before in
      subst (λ es. IsScheduledTo n es place (place + 1) (take (i + 1) row)) (sym e)
      (subst (IsScheduledTo n (old ++ equation_of g ∷ []) place (place + 1)) (ap (λ t. take i row ++ t ∷ []) out ∙ sym (taken_more row i s low at)) after)

  pub row_done : (es : List Equation) (place : ℕ) → IsScheduledTo n es place (place + 1) (rank_row n (place + 1)) → IsScheduledTo n es (place + 1) (place + 1) []
  row_done es place done = record {
    gates = done.gates;
    all = λ g among which. elim which [
      | inl low ↦ elim (cases_lt place (rank_of n g)) [
        | inl above ↦ done.all g among (inr (in_row n (place + 1) g among (omega arith)))
        | inr early ↦ done.all g among (inl early)
      ]
      | inr (i, less, at) ↦ absurd (omega arith)
    ];
    rising = done.rising;
    low = done.low;
  }

  -- no gate has rank 0
  pub none_scheduled : IsScheduledTo n [] 0 0 []
  none_scheduled = record {
    gates = λ i d low. absurd (omega arith);
    all = λ g among which. elim which [
      | inl low ↦ absurd (let more : 0 < rank_of n g = rank_low n sound g among in omega arith)
      | inr (i, less, at) ↦ absurd (omega arith)
    ];
    rising = λ k d low. absurd (omega arith);
    low = λ i d low. absurd (omega arith);
  }

  pub all_scheduled : (es : List Equation) (ranks : ℕ) → ranks ≡ highest_rank n → IsScheduledTo n es ranks ranks [] → IsSchedule n es
  all_scheduled es ranks top done = record {
    gates = done.gates;
    all = λ g among. done.all g among (inl (subst (λ r. rank_of n g ≤ r) (sym top) (rank_top n g among)));
    rising = done.rising;
  }

-- the same of a rank that is not the highest
pub raised : (n : Net) (es : List Equation) (place : ℕ) (signals : List ℕ) → IsScheduledTo n es place place signals → IsScheduledTo n es place (place + 1) signals
raised n es place signals done = record {
  gates = done.gates;
  all = done.all;
  rising = done.rising;
  low = λ i d low. let most : rank_in n (get_or es i d) ≤ place = done.low i d low in omega arith;
}
