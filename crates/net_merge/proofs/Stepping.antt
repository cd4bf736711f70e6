-- One more variable, or one more gate, gets its literal.
use Rattle.std.proofs.Common.{◌≡◌, ◌≢◌, ◌⊎◌, inl, inr, ℕ, zero, suc, ◌+◌, ◌<◌, ◌≤◌, Bool, List, [], ◌∷◌, Some, length, map, take, get_or, set, slice_get, refl, sym, ap, subst, ◌∙◌, arith}
use Rattle.std.specs.Prelude.{All, Contains, slice_index}
use Rattle.std.proofs.lemmas.Bool.{cases_lt}
use Rattle.std.proofs.lemmas.List.{get_or-set_other, get_or-set_same}
use Rattle.std.proofs.lemmas.Option.{get_or_from_slice_get, none-some, same_Some, slice_get-get_or, slice_get_within}
use Rattle.net_bench.specs.declared.netlist.GateLine.{GateLine}
use Rattle.net_bench.specs.Circuit.{Circuit, IsNet, Net, circuit, rank_of, variables_of}
use Rattle.net_bench.specs.Labels.{bit_of, value_of}
use Rattle.net_bench.proofs.OneLabelling.{at_contained, map_same}
use Rattle.net_cone.proofs.Walking.{operands_low}
use Rattle.net_simulate.specs.Schedules.{Equation, IsOfGate, IsSchedule, equation_of, rank_in}
use Rattle.net_simulate.proofs.Lists.{same_or}
use Rattle.net_simulate.proofs.Rows.{operand_lower}
use Rattle.pair_graph.specs.declared.node.Node.{Node}
use Rattle.pair_graph.specs.Literals.{Parts, false_literal}
use Rattle.pair_graph.specs.Graphs.{HasNode, IsGraph, KeepsNodes, bit, value}
use Rattle.net_merge.specs.SignalLiterals.{AreGatesDone, AreSignalLiterals, AreVariablesDone, HaveNodes, IsLiteralOf, literal_at}
use Rattle.net_merge.proofs.SignalValues.{HaveNodes-keeps, IsLiteralOf-keeps}

-- what a list has after one write
literal_at-set : (ls : List Parts) (i : ℕ) (l : Parts) (s : ℕ) → i < length ls
    → ((s ≢ i) × (literal_at (set ls i l) s ≡ literal_at ls s)) ⊎ ((s ≡ i) × (literal_at (set ls i l) s ≡ l))
literal_at-set ls i l s low = elim (same_or s i) [
  | inl e ↦ inr (e, ap (literal_at (set ls i l)) e ∙ get_or-set_same ls i l false_literal low)
  | inr ne ↦ inl (ne, get_or-set_other ls i s l false_literal ne)
]

length-set : (ls : List Parts) (i : ℕ) (l : Parts) → length (set ls i l) ≡ length ls
length-set [] i l = refl
length-set (x ∷ ls) zero l = refl
length-set (x ∷ ls) (suc i) l = ap suc (length-set ls i l)

HaveNodes-set : (g : List Node) (ls : List Parts) (i : ℕ) (l : Parts) → i < length ls → HaveNodes g ls → HasNode g l → HaveNodes g (set ls i l)
HaveNodes-set g ls i l low has here s = elim (literal_at-set ls i l s low) [
  | inl other ↦ subst (HasNode g) (sym other.1) (has s)
  | inr same ↦ subst (HasNode g) (sym same.1) here
]

module _ (c : Circuit) (level : ℕ → ℕ) (g h : List Node) (sound : IsGraph g) (keeps : KeepsNodes g h) (ls : List Parts) (has : HaveNodes g ls)
    (i : ℕ) (l : Parts) (low : i < length ls) (literal : IsLiteralOf c level h i l) where
  -- the signal's literal is the new one, any other signal's is kept
  pub IsLiteralOf-set : (s : ℕ) → (s ≢ i → IsLiteralOf c level g s (literal_at ls s)) → IsLiteralOf c level h s (literal_at (set ls i l) s)
  IsLiteralOf-set s before = elim (literal_at-set ls i l s low) [
    | inl other ↦ subst (IsLiteralOf c level h s) (sym other.1) (IsLiteralOf-keeps c level g h sound keeps s (literal_at ls s) (has s) (before other.0))
    | inr same ↦ subst (IsLiteralOf c level h s) (sym same.1) (subst (λ t. IsLiteralOf c level h t l) (sym same.0) literal)
  ]

-- an item is among the first ones
in_front : (xs : List Equation) (k i : ℕ) (e : Equation) → i < k → slice_get xs i ≡ Some e → Contains (take k xs) e
in_front xs zero i e low at = absurd (omega arith)
in_front [] (suc k) i e low at = absurd (none-some e at)
in_front (x ∷ xs) (suc k) zero e low at = (0, omega arith, same_Some x e at)
in_front (x ∷ xs) (suc k) (suc i) e low at = let (j, less, is) = in_front xs k i e (omega arith) at in (suc j, omega arith, is)

-- a variable's literal
variable_literal : (c : Circuit) (level : ℕ → ℕ) (g : List Node) (s : ℕ) (l : Parts) → Contains (variables_of c) s
    → ((x : List Bool) → value g x l ≡ bit x (level s)) → IsLiteralOf c level g s l
variable_literal c level g s l among made x bits label =
    made x ∙ sym (at_contained (λ t. bit_of bits t ≡ bit_of x (level t)) (variables_of c) s label.variables among)

module _ (n : Net) (net_sound : IsNet n) (level : ℕ → ℕ) (g h : List Node) (sound : IsGraph g) (keeps : KeepsNodes g h) (ls : List Parts) where
  -- one more variable
  pub variable_step : (place s v : ℕ) (l : Parts) → AreVariablesDone (circuit n) level g place ls → slice_get (variables_of (circuit n)) place ≡ Some s
      → v ≡ level s → HasNode h l → ((x : List Bool) → value h x l ≡ bit x v) → AreVariablesDone (circuit n) level h (place + 1) (set ls s l)
  variable_step place s v l done at is_level here made = record {
    each = length-set ls s l ∙ done.each;
    has = HaveNodes-set h ls s l low (HaveNodes-keeps g h keeps ls done.has) here;
    values = λ k t less there. IsLiteralOf-set (circuit n) level g h sound keeps ls done.has s l low literal t (λ ne.
        elim (cases_lt k place) [
          | inl early ↦ done.values k t early there
          | inr late ↦ absurd (ne (let e : k ≡ place = omega arith in same_Some t s (sym there ∙ ap (slice_get (variables_of (circuit n))) e ∙ at)))
        ]);
  }
    where
      among : Contains (variables_of (circuit n)) s
      among = (place, slice_get_within (variables_of (circuit n)) place s at, get_or_from_slice_get (variables_of (circuit n)) place s s at)

      low : s < length ls
      low = subst (λ k. s < k) (sym done.each) (at_contained (λ t. t < length n.names) (variables_of (circuit n)) s net_sound.variables among)

      literal : IsLiteralOf (circuit n) level h s l
      literal = variable_literal (circuit n) level h s l among (λ x. made x ∙ ap (bit x) is_level)

  -- all variables are done before the first gate
  pub no_gates : (es : List Equation) → AreVariablesDone (circuit n) level g (length (variables_of (circuit n))) ls → AreGatesDone (circuit n) level es g 0 ls
  no_gates es done = record {
    each = done.each;
    has = done.has;
    variables = λ s (k, low, is). done.values k s low (slice_get-get_or (variables_of (circuit n)) k s low ∙ ap (λ t. Some t) is);
    gates = λ k e none at. absurd (omega arith);
  }

  module _ (es : List Equation) (schedule : IsSchedule n es) (place : ℕ) (done : AreGatesDone (circuit n) level es g place ls) where
    -- a gate of the schedule that comes earlier is done
    early_gate : (k : ℕ) → k < length es → (f : GateLine) → Contains n.gates f → get_or es k (equation_of f) ≡ equation_of f → k < place
        → IsLiteralOf (circuit n) level g f.out (literal_at ls f.out)
    early_gate k low f there is early =
        done.gates k (equation_of f) early (slice_get-get_or es k (equation_of f) low ∙ ap (λ e. Some e) is)

    -- after the last gate all are done
    pub all_gates : length es ≤ place → AreSignalLiterals (circuit n) level g ls
    all_gates past = record {
      each = done.each;
      has = done.has;
      values = λ s low. elim (net_sound.defined s low) [
        | inl variable ↦ done.variables s variable
        | inr (f, there, out) ↦
            let (k, less, is) = schedule.all f there in
            subst (λ t. IsLiteralOf (circuit n) level g t (literal_at ls t)) out (early_gate k less f there is (omega arith))
      ];
    }

    module _ (low : place < length es) (e : Equation) (at : slice_get es place ≡ Some e) (f : GateLine) (there : Contains n.gates f)
        (is : equation_of f ≡ e) where
      -- a gate that comes later has no lower rank
      later_rank : (k : ℕ) → k < length es → place ≤ k → (d : Equation) → get_or es k d ≡ d → rank_in n e ≤ rank_in n d
      later_rank k less past d there_is = elim (cases_lt place k) [
        | inl before ↦
            let all : All (λ a. rank_in n a ≤ rank_in n (get_or es k d)) (take k es) = schedule.rising k d less in
            subst (λ a. rank_in n e ≤ rank_in n a) there_is
            (at_contained (λ a. rank_in n a ≤ rank_in n (get_or es k d)) (take k es) e all (in_front es k place e before at))
        | inr not_before ↦
            let same : k ≡ place = omega arith in
            let one : d ≡ e = sym there_is ∙ ap (λ j. get_or es j d) same ∙ get_or_from_slice_get es place e d at in
            subst (λ a. rank_in n e ≤ rank_in n a) (sym one) (omega arith)
      ]

      -- the operands of the next gate are done
      operand_literal : (t : ℕ) → Contains f.operands t → IsLiteralOf (circuit n) level g t (literal_at ls t)
      operand_literal t operand = elim (net_sound.defined t small) [
        | inl variable ↦ done.variables t variable
        | inr (k_gate, k_there, out) ↦ by_place k_gate k_there out (schedule.all k_gate k_there)
      ]
        where
          small : t < length n.names
          small = at_contained (λ s. s < length n.names) f.operands t (operands_low n net_sound f there (length n.names) refl) operand

          by_place : (k_gate : GateLine) → Contains n.gates k_gate → k_gate.out ≡ t → Contains es (equation_of k_gate)
              → IsLiteralOf (circuit n) level g t (literal_at ls t)
          by_place k_gate k_there out (k, less, k_is) = elim (cases_lt k place) [
            | inl early ↦ subst (λ s. IsLiteralOf (circuit n) level g s (literal_at ls s)) out (early_gate k less k_gate k_there k_is early)
            | inr late ↦
                let lower : slice_index n.ranks t < rank_of n f = operand_lower n net_sound f t there operand in
                let high : rank_in n e ≤ rank_in n (equation_of k_gate) = later_rank k less late (equation_of k_gate) k_is in
                let here : rank_of n f ≤ slice_index n.ranks k_gate.out = subst (λ a. rank_in n a ≤ rank_in n (equation_of k_gate)) (sym is) high in
                let there_rank : slice_index n.ranks k_gate.out ≡ slice_index n.ranks t = ap (slice_index n.ranks) out in
                absurd (omega arith)
          ]

      -- so the next gate's literal has its values
      gate_literal : (l : Parts) → ((x : List Bool) → value h x l ≡ value_of e.kind (map (λ s. value g x (literal_at ls s)) e.operands))
          → IsLiteralOf (circuit n) level h e.out l
      gate_literal l made x bits label =
          made x ∙ sym (subst (λ (a : Equation). bit_of bits a.out ≡ value_of a.kind (map (λ s. value g x (literal_at ls s)) a.operands)) is
          (at_contained (λ k. bit_of bits k.out ≡ value_of k.kind (map (bit_of bits) k.operands)) n.gates f label.gates there ∙
          ap (value_of f.kind) (sym (map_same (λ s. value g x (literal_at ls s)) (bit_of bits) f.operands (λ t operand. operand_literal t operand x bits label)))))

      gate_low : e.out < length ls
      gate_low = subst (λ k. e.out < k) (sym done.each) (subst (λ (a : Equation). a.out < length n.names) is
          (at_contained (λ k. k.out < length n.names) n.gates f net_sound.outs there))

      -- one more gate
      step : (l : Parts) → HasNode h l → ((x : List Bool) → value h x l ≡ value_of e.kind (map (λ s. value g x (literal_at ls s)) e.operands))
          → AreGatesDone (circuit n) level es h (place + 1) (set ls e.out l)
      step l here made = record {
        each = length-set ls e.out l ∙ done.each;
        has = HaveNodes-set h ls e.out l gate_low (HaveNodes-keeps g h keeps ls done.has) here;
        variables = λ s variable. moved s (λ ne. done.variables s variable);
        gates = λ k d less there_is. moved d.out (λ ne. elim (cases_lt k place) [
          | inl early ↦ done.gates k d early there_is
          | inr late ↦ absurd (ne (let same : k ≡ place = omega arith in
              ap (λ (a : Equation). a.out) (same_Some d e (sym there_is ∙ ap (slice_get es) same ∙ at))))
        ]);
      }
        where
          moved : (s : ℕ) → (s ≢ e.out → IsLiteralOf (circuit n) level g s (literal_at ls s)) → IsLiteralOf (circuit n) level h s (literal_at (set ls e.out l) s)
          moved = IsLiteralOf-set (circuit n) level g h sound keeps ls done.has e.out l gate_low (gate_literal l made)

    -- the gate of a place
    gate_at : (low : place < length es) (e : Equation) → slice_get es place ≡ Some e → IsOfGate n e
    gate_at low e at = at_contained (IsOfGate n) es e schedule.gates (place, low, get_or_from_slice_get es place e e at)

    -- one more gate, found by its place
    pub gate_step : (low : place < length es) (e : Equation) → slice_get es place ≡ Some e → (l : Parts) → HasNode h l
        → ((x : List Bool) → value h x l ≡ value_of e.kind (map (λ s. value g x (literal_at ls s)) e.operands))
        → AreGatesDone (circuit n) level es h (place + 1) (set ls e.out l)
    gate_step low e at l here made =
        let (f, there, is) = gate_at low e at in step low e at f there is l here made

-- the literals of operands are of the graph
pub operands_have : (g : List Node) (ls : List Parts) → HaveNodes g ls → (ss : List ℕ) → All (HasNode g) (map (literal_at ls) ss)
operands_have g ls has [] i d low = absurd (omega arith)
operands_have g ls has (s ∷ ss) zero d low = has s
operands_have g ls has (s ∷ ss) (suc i) d low = operands_have g ls has ss i d (omega arith)

-- and have these values
pub operand_values : (g : List Node) (ls : List Parts) (x : List Bool) (ss : List ℕ)
    → map (value g x) (map (literal_at ls) ss) ≡ map (λ s. value g x (literal_at ls s)) ss
operand_values g ls x [] = refl
operand_values g ls x (s ∷ ss) = ap (λ vs. value g x (literal_at ls s) ∷ vs) (operand_values g ls x ss)
