-- The signals of gates are set in the order of a schedule.
use Rattle.std.proofs.Common.{◌≡◌, ◌≢◌, inl, inr, ℕ, ◌+◌, ◌<◌, ◌≤◌, Bool, false, List, [], ◌∷◌, ◌++◌, refl, sym, ap, ◌∙◌, subst, Some, map, length, get_or, set, take, arith}
use Rattle.std.specs.Prelude.{Contains, All, slice_get, slice_index}
use Rattle.std.proofs.lemmas.Option.{get_or_from_slice_get}
use Rattle.std.proofs.lemmas.List.{get_or-map, get_or-set_same, get_or-set_other, get_or_default, length-map}
use Rattle.net_bench.specs.declared.netlist.GateLine.{GateLine}
use Rattle.net_bench.specs.declared.netlist.Kind.TheVariants.{And}
use Rattle.net_bench.specs.Circuit.{HaveNoRepeats, Net, IsNet, circuit, gate_of, variables_of, rank_of}
use Rattle.net_bench.specs.Labels.{IsFunctionOf, IsLabelling, bit_of, value_of}
use Rattle.net_bench.proofs.OneLabelling.{at_contained, map_same}
use Rattle.net_bench.proofs.Built.{same_labelling}
use Rattle.net_cone.proofs.Walking.{gate_found, operands_low}
use Rattle.net_simulate.specs.Columns.{HaveLevels, KeepsVariables, column}
use Rattle.net_simulate.specs.Schedules.{AreBelow, Equation, HasValue, IsOfGate, IsSchedule, equation_of, rank_in}
use Rattle.net_simulate.proofs.Adding.{all_more}
use Rattle.net_simulate.proofs.Bits.{set_column}
use Rattle.net_simulate.proofs.Lists.{all_of, in_take, same_or, taken_more}
use Rattle.net_simulate.proofs.Rows.{operand_lower}

-- the bits after a gate's signal was set to its value
abbrev pub with_value : List Bool → Equation → List Bool
with_value bits e = set bits e.out (value_of e.kind (map (bit_of bits) e.operands))

module _ (n : Net) (sound : IsNet n) where
  variable_apart : (s : ℕ) (g : GateLine) → Contains (variables_of (circuit n)) s → Contains n.gates g → s ≢ g.out
  variable_apart s g variable among e =
      at_contained (λ g. g.out ≢ s) n.gates g (at_contained (λ v. All (λ g. g.out ≢ v) n.gates) (variables_of (circuit n)) s sound.apart variable) among (sym e)

  kept_with : (bits : List Bool) (g : GateLine) → Contains n.gates g → KeepsVariables n bits (with_value bits (equation_of g))
  kept_with bits g among = all_of (λ s. bit_of (with_value bits (equation_of g)) s ≡ bit_of bits s) (variables_of (circuit n))
      (λ s variable. get_or-set_other bits g.out s (value_of g.kind (map (bit_of bits) g.operands)) false (variable_apart s g variable among))

  -- a gate's operands are unchanged, since they are of lower rank
  operands_kept : (bits : List Bool) (g h : GateLine) → Contains n.gates h → rank_of n h ≤ rank_of n g →
      map (bit_of (with_value bits (equation_of g))) h.operands ≡ map (bit_of bits) h.operands
  operands_kept bits g h among low = map_same (bit_of (with_value bits (equation_of g))) (bit_of bits) h.operands
      (λ t operand.
      let less : slice_index n.ranks t < rank_of n h = operand_lower n sound h t among operand in
      get_or-set_other bits g.out t (value_of g.kind (map (bit_of bits) g.operands)) false
      (λ e. let same : slice_index n.ranks t ≡ rank_of n g = ap (slice_index n.ranks) e in omega arith))

  -- the gate itself
  here : (bits : List Bool) (g : GateLine) → Contains n.gates g → length bits ≡ length n.names → HasValue (with_value bits (equation_of g)) (equation_of g)
  here bits g among each =
      let low : g.out < length n.names = at_contained (λ g. g.out < length n.names) n.gates g sound.outs among in
      get_or-set_same bits g.out (value_of g.kind (map (bit_of bits) g.operands)) false (subst (λ k. g.out < k) (sym each) low) ∙
      ap (value_of g.kind) (sym (operands_kept bits g g among (omega arith)))

  -- a gate before it
  before : (bits : List Bool) (g h : GateLine) → Contains n.gates g → Contains n.gates h → rank_of n h ≤ rank_of n g → length bits ≡ length n.names →
      HasValue bits (equation_of h) → HasValue (with_value bits (equation_of g)) (equation_of h)
  before bits g h among there low each has = elim (same_or h.out g.out) [
    | inl e ↦
        let one : gate_of n.gates g.out ≡ Some g = gate_found n sound g among in
        let two : gate_of n.gates g.out ≡ Some h = subst (λ s. gate_of n.gates s ≡ Some h) e (gate_found n sound h there) in
        let same : g ≡ h = cc in
        subst (λ k. HasValue (with_value bits (equation_of g)) (equation_of k)) same (here bits g among each)
    | inr ne ↦
        get_or-set_other bits g.out h.out (value_of g.kind (map (bit_of bits) g.operands)) false ne ∙ has ∙
        ap (value_of h.kind) (sym (operands_kept bits g h there low))
  ]

  -- those before a gate, and the gate
  all_with : (bits : List Bool) (es : List Equation) (g : GateLine) → Contains n.gates g → length bits ≡ length n.names → All (IsOfGate n) es → All (λ a. rank_in n a ≤ rank_of n g) es →
      All (HasValue bits) es → All (HasValue (with_value bits (equation_of g))) (es ++ equation_of g ∷ [])
  all_with bits es g among each gates low have = all_more (HasValue (with_value bits (equation_of g))) es (equation_of g)
      (all_of (HasValue (with_value bits (equation_of g))) es (λ a within.
      let (h, there, is) = at_contained (IsOfGate n) es a gates within in
      let less : rank_in n a ≤ rank_of n g = at_contained (λ a. rank_in n a ≤ rank_of n g) es a low within in
      let fewer : rank_of n h ≤ rank_of n g = subst (λ b. rank_in n b ≤ rank_of n g) (sym is) less in
      subst (HasValue (with_value bits (equation_of g))) is
      (before bits g h among there fewer each (subst (HasValue bits) (sym is) (at_contained (HasValue bits) es a have within)))))
      (here bits g among each)

  -- one more gate of a schedule
  pub step : (es : List Equation) (place : ℕ) (e : Equation) (bits : List Bool) → IsSchedule n es → place < length es → e ≡ get_or es place e → length bits ≡ length n.names →
      All (HasValue bits) (take place es) → All (HasValue (with_value bits e)) (take (place + 1) es) × KeepsVariables n bits (with_value bits e)
  step es place e bits is low at each have =
      let among : Contains es e = (place, low, sym at) in
      let (g, there, same) = at_contained (IsOfGate n) es e is.gates among in
      let rising : All (λ a. rank_in n a ≤ rank_in n (get_or es place e)) (take place es) = is.rising place e low in
      let most : All (λ a. rank_in n a ≤ rank_of n g) (take place es) = subst (λ b. All (λ a. rank_in n a ≤ rank_in n b) (take place es)) (sym at ∙ sym same) rising in
      let gates : All (IsOfGate n) (take place es) = taken (IsOfGate n) es place is.gates in
      let after : All (HasValue (with_value bits (equation_of g))) (take place es ++ equation_of g ∷ []) = all_with bits (take place es) g there each gates most have in (
        subst (All (HasValue (with_value bits e))) (sym (taken_more es place e low at)) (subst (λ b. All (HasValue (with_value bits b)) (take place es ++ b ∷ [])) same after),
        subst (λ b. KeepsVariables n bits (with_value bits b)) same (kept_with bits g there),
      )
    where
      taken : {X : Type 0} (P : X → Type 0) (xs : List X) (k : ℕ) → All P xs → All P (take k xs)
      taken P xs k all = all_of P (take k xs) (λ x among. at_contained P xs x all (in_take xs k x among))

  -- the signals of a schedule are signals of the netlist
  pub all_below : (es : List Equation) (count : ℕ) → IsSchedule n es → count ≡ length n.names → AreBelow count es
  all_below es count is each = all_of (λ e. (e.out < count) × All (λ s. s < count) e.operands) es (λ e among.
      let (g, there, same) = at_contained (IsOfGate n) es e is.gates among in
      let out : g.out < length n.names = at_contained (λ g. g.out < length n.names) n.gates g sound.outs there in
      subst (λ e. (e.out < count) × All (λ s. s < count) e.operands) same (subst (λ k. g.out < k) (sym each) out, operands_low n sound g there count each))

  pub labelling_of : (level : ℕ → ℕ) (x old bits : List Bool) (es : List Equation) → IsSchedule n es → length bits ≡ length n.names →
      All (λ s. bit_of old s ≡ bit_of x (level s)) (variables_of (circuit n)) → KeepsVariables n old bits → All (HasValue bits) es → IsLabelling (circuit n) level x bits
  labelling_of level x old bits es is each variables kept have = record {
    each = each;
    variables = λ i d low. kept i d low ∙ variables i d low;
    gates = all_of (λ g. bit_of bits g.out ≡ value_of g.kind (map (bit_of bits) g.operands)) n.gates (λ g among. at_contained (HasValue bits) es (equation_of g) have (is.all g among));
  }

  pub function_value : (level : ℕ → ℕ) (x bits : List Bool) → IsLabelling (circuit n) level x bits → (s : ℕ) (f : List Bool → Bool) → s < length n.names →
      IsFunctionOf (circuit n) level (length x) s f → bit_of bits s ≡ f x
  function_value level x bits labels s f low is =
      let (others, other_labels, value) = is x refl in
      same_labelling n sound level x bits others labels other_labels s low ∙ value

pub kept_more : (n : Net) (a b c : List Bool) → KeepsVariables n a b → KeepsVariables n b c → KeepsVariables n a c
kept_more n a b c first second i d low = second i d low ∙ first i d low

-- the variables have the bits of their levels
pub by_level : {V : Type 0} (bit : ℕ → V → Bool) (count : ℕ) (n : Net) (levels : List ℕ) (level : ℕ → ℕ) (at values : List V) → HaveLevels bit count n levels at values →
    map level (variables_of (circuit n)) ≡ levels → (i : ℕ) → i < count → All (λ s. bit_of (column bit i values) s ≡ bit_of (column bit i at) (level s)) (variables_of (circuit n))
by_level bit count n levels level at values have is i low k d less =
    have i low k d less ∙ ap (λ ls. bit_of (column bit i at) (get_or ls k 0)) (sym is) ∙ ap (bit_of (column bit i at)) (get_or-map level (variables_of (circuit n)) k d 0 less)

-- one more variable
pub variables_more : {V : Type 0} (bit : ℕ → V → Bool) (i : ℕ) (vars levels : List ℕ) (at values : List V) (place s t : ℕ) (v : V) → HaveNoRepeats vars → All (λ s. s < length values) vars → place < length vars →
    s ≡ get_or vars place t → bit i v ≡ bit_of (column bit i at) (get_or levels place 0) →
    ((k d : ℕ) → k < place → bit_of (column bit i values) (get_or vars k d) ≡ bit_of (column bit i at) (get_or levels k 0)) →
    (k d : ℕ) → k < place + 1 → bit_of (column bit i (set values s v)) (get_or vars k d) ≡ bit_of (column bit i at) (get_or levels k 0)
variables_more bit i vars levels at values place s t v once inside low is here before k d less =
    ap (λ bs. bit_of bs (get_or vars k d)) (set_column bit i values s v) ∙
    elim (same_or k place) as (λ which. bit_of (set (column bit i values) s (bit i v)) (get_or vars k d) ≡ bit_of (column bit i at) (get_or levels k 0)) [
      | inl e ↦
          let there : get_or vars k d ≡ s = ap (λ j. get_or vars j d) e ∙ get_or_default vars place d t low ∙ sym is in
          let small : s < length values = subst (λ r. r < length values) (sym is) (inside place t low) in
          let size : length (column bit i values) ≡ length values = length-map values (bit i) in
          ap (bit_of (set (column bit i values) s (bit i v))) there ∙ get_or-set_same (column bit i values) s (bit i v) false (omega arith) ∙ here ∙
          ap (λ j. bit_of (column bit i at) (get_or levels j 0)) (sym e)
      | inr ne ↦
          let early : k < place = omega arith in
          let one : get_or vars k d ≡ get_or vars k 0 = get_or_default vars k d 0 (omega arith) in
          let two : s ≡ get_or vars place 0 = is ∙ get_or_default vars place t 0 low in
          get_or-set_other (column bit i values) s (get_or vars k d) (bit i v) false (λ e. once k place early low (sym one ∙ e ∙ two)) ∙ before k d early
    ]

-- a gate for a place beyond the end
pub no_gate : Equation
no_gate = record { out = 0; kind = And; operands = [] }

-- a gate's signal is set, if the gate is the one that was read
pub gate_set : {V : Type 0} (bit : ℕ → V → Bool) (i : ℕ) (es : List Equation) (place : ℕ) (e d : Equation) (values : List V) (v : V) → slice_get es place ≡ Some e →
    bit i v ≡ value_of e.kind (map (bit_of (column bit i values)) e.operands) → column bit i (set values e.out v) ≡ with_value (column bit i values) (get_or es place d)
gate_set bit i es place e d values v at is =
    set_column bit i values e.out v ∙ ap (set (column bit i values) e.out) is ∙ ap (with_value (column bit i values)) (sym (get_or_from_slice_get es place e d at))
