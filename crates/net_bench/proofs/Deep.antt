-- A depth-first walk over gates with a stack: each gate that it has left has a height, or can never have one.
use Rattle.std.proofs.Common.{length-set, map, ◌≡◌, inl, inr, ℕ, zero, suc, ◌+◌, ◌<◌, ◌≤◌, List, [], ◌∷◌, ◌++◌, Bool, true, false, refl, sym, ap, ◌∙◌, subst, length, take, get_or, arith}
use Rattle.std.proofs.Math.ListN.{set}
use Rattle.std.specs.Prelude.{nat_lt, ◌==◌, ◌||◌, All, Some, reverse, slice_get, unwrap_or}
use Rattle.std.proofs.lemmas.Bool.{cases_lt}
use Rattle.std.proofs.lemmas.Bool.Decides.{nat_tests}
use Rattle.std.proofs.lemmas.List.{reverse-append, take_more, take_all, get_or_default, get_or-set_same, get_or-set_other}
use Rattle.net_bench.specs.declared.netlist.GateLine.{GateLine}
use Rattle.net_bench.specs.declared.walk.WaitingGate.{WaitingGate}
use Rattle.net_bench.specs.declared.symbols.Symbol.{Symbol}
use Rattle.net_bench.specs.Circuit.{Circuit, greatest}
use Rattle.net_bench.specs.Heights.{all_ranked, AreHeights, HasOneGateEach, IsBelow, IsDriven, HasHeightOrNeverWill, IsRanking, NeverHasHeight, HasHeightIfOperandsHave, IsWaitedFor, AreWaiting, gate_place, is_waiting, operands_at, out_at, steps_left, unbegun}
use Rattle.net_bench.proofs.Heights.{both_true, ranked_more, small}
use Rattle.net_bench.proofs.Settled.{below}

-- ---- the gate at a place

pub gate_is : (gates : List GateLine) (p : ℕ) (g : GateLine) → p < length gates → g ≡ get_or gates p g → (operands_at gates p ≡ g.operands) × (out_at gates p ≡ g.out)
gate_is [] p g low at = absurd (omega arith)
gate_is (h ∷ gates) zero g low at = (ap (λ (x : GateLine). x.operands) (sym at), ap (λ (x : GateLine). x.out) (sym at))
gate_is (h ∷ gates) (suc p) g low at = gate_is gates p g (omega arith) at

pub gate_there : (gates : List GateLine) (p : ℕ) → p < length gates → (g : GateLine) × (g ≡ get_or gates p g)
gate_there [] p low = absurd (omega arith)
gate_there (h ∷ gates) zero low = (h, refl)
gate_there (h ∷ gates) (suc p) low = gate_there gates p (omega arith)

-- an operand of the gate at a place
pub feeds : (gates : List GateLine) (p k : ℕ) → p < length gates → k < length (operands_at gates p) → IsBelow gates (get_or (operands_at gates p) k 0) (out_at gates p)
feeds gates p k low in_bounds =
    let g = gate_there gates p low in
    let is = gate_is gates p g.0 low g.1 in
    let in_bounds' : k < length g.0.operands = subst (λ os. k < length os) is.0 in_bounds in
    (g.0, (p, low, sym g.1), sym is.1, (k, in_bounds', get_or_default g.0.operands k _ 0 in_bounds' ∙ ap (λ os. get_or os k 0) (sym is.0)))

abbrev as_circuit : List GateLine → Circuit
as_circuit gates = record { names = []; inputs = []; outputs = []; gates = gates; registers = [] }

lower : (gates : List GateLine) (ms : List ℕ) → AreHeights gates ms → (t s : ℕ) → IsBelow gates t s → 0 < get_or ms s 0 → (0 < get_or ms t 0) × (get_or ms t 0 < get_or ms s 0)
lower gates ms sound t s b some = below (as_circuit gates) ms sound t s b some

-- ---- a gate gets its height

module _ (gates : List GateLine) (heights : List ℕ) (p : ℕ) (g : GateLine) (low : p < length gates) (at : g ≡ get_or gates p g) (outs : All (λ g. g.out < length heights) gates)
    (one : HasOneGateEach gates) (sound : AreHeights gates heights) (all : all_ranked heights (operands_at gates p) ≡ true) where
  abbrev new_height : ℕ
  new_height = greatest (map (λ s. get_or heights s 0) g.operands) + 1

  pub out_low : g.out < length heights
  out_low = subst (λ (x : GateLine). x.out < length heights) (sym at) (outs p g low)

  g_all : all_ranked heights g.operands ≡ true
  g_all = subst (λ os. all_ranked heights os ≡ true) (gate_is gates p g low at).0 all

  pub new_small : get_or heights g.out 0 ≡ 0 → new_height ≤ length heights
  new_small none = small gates heights p g low at out_low one sound none g_all

  pub new_sound : (s w : ℕ) → get_or heights g.out 0 ≡ 0 → s ≡ g.out → w ≡ new_height → AreHeights gates (set heights s w)
  new_sound s w none is_s is_w =
      subst (λ k. AreHeights gates (set heights k w)) (sym is_s) (subst (λ v. AreHeights gates (set heights g.out v)) (sym is_w) (ranked_more gates heights p g low at out_low one sound none g_all))

  pub new_ranked : (s w : ℕ) → s ≡ g.out → w ≡ new_height → 0 < get_or (set heights s w) (out_at gates p) 0
  new_ranked s w is_s is_w =
      let is = gate_is gates p g low at in
      let there : get_or (set heights s w) (out_at gates p) 0 ≡ w = ap (λ k. get_or (set heights s w) k 0) (is.1 ∙ sym is_s) ∙ get_or-set_same heights s w 0 (subst (λ k. k < length heights) (sym is_s) out_low) in
      omega (arith, there, is_w)

  pub old_ranked : 0 < get_or heights g.out 0 → 0 < get_or heights (out_at gates p) 0
  old_ranked some = subst (λ k. 0 < get_or heights k 0) (sym (gate_is gates p g low at).1) some

-- ---- what can never have a height

pub never_below : (gates : List GateLine) (t s : ℕ) → IsBelow gates t s → NeverHasHeight gates t → NeverHasHeight gates s
never_below gates t s b never ms sound =
    elim (cases_lt 0 (get_or ms s 0)) [
      | inl some ↦ let h = lower gates ms sound t s b some in let none : get_or ms t 0 ≡ 0 = never ms sound in absurd (omega (arith, h.0, none))
      | inr none ↦ omega arith
    ]

-- each gate that waits has a greater height than the one on top of the stack, if it has one
chain_down : (gates : List GateLine) (heights ms : List ℕ) → AreHeights gates ms → (f : WaitingGate) (fs : List WaitingGate) → AreWaiting gates heights (f ∷ fs) → (q : ℕ) → is_waiting q (f ∷ fs) ≡ true → 0 < get_or ms (out_at gates q) 0 →
    (0 < get_or ms (out_at gates f.place) 0) × (get_or ms (out_at gates f.place) 0 ≤ get_or ms (out_at gates q) 0)
chain_down gates heights ms sound f [] h q on some =
    elim (f.place == q) as (λ b. (f.place == q) ≡ b → (b || false) ≡ true → (0 < get_or ms (out_at gates f.place) 0) × (get_or ms (out_at gates f.place) 0 ≤ get_or ms (out_at gates q) 0)) [
      | true ↦ λ e k. let same : f.place ≡ q = grind arith in subst (λ p. (0 < get_or ms (out_at gates p) 0) × (get_or ms (out_at gates p) 0 ≤ get_or ms (out_at gates q) 0)) (sym same) (some, omega arith)
      | false ↦ λ e k. cc
    ] refl on
chain_down gates heights ms sound f (u ∷ fs) h q on some =
    elim (f.place == q) as (λ b. (f.place == q) ≡ b → (b || is_waiting q (u ∷ fs)) ≡ true → (0 < get_or ms (out_at gates f.place) 0) × (get_or ms (out_at gates f.place) 0 ≤ get_or ms (out_at gates q) 0)) [
      | true ↦ λ e k. let same : f.place ≡ q = grind arith in subst (λ p. (0 < get_or ms (out_at gates p) 0) × (get_or ms (out_at gates p) 0 ≤ get_or ms (out_at gates q) 0)) (sym same) (some, omega arith)
      | false ↦ λ e k.
          let above = chain_down gates heights ms sound u fs h.2 q k some in
          let here = lower gates ms sound (out_at gates f.place) (out_at gates u.place) h.1 above.0 in
          (here.0, omega (arith, here.1, above.1))
    ] refl on

pub never_cycle : (gates : List GateLine) (heights : List ℕ) (f : WaitingGate) (fs : List WaitingGate) → AreWaiting gates heights (f ∷ fs) → (q : ℕ) → is_waiting q (f ∷ fs) ≡ true → IsBelow gates (out_at gates q) (out_at gates f.place) →
    NeverHasHeight gates (out_at gates f.place)
never_cycle gates heights f fs h q on b ms sound =
    elim (cases_lt 0 (get_or ms (out_at gates f.place) 0)) [
      | inl some ↦
          let down = lower gates ms sound (out_at gates q) (out_at gates f.place) b some in
          let up = chain_down gates heights ms sound f fs h q on down.0 in
          absurd (omega (arith, down.1, up.1))
      | inr none ↦ omega arith
    ]

-- ---- heights that grow

abbrev Grows : List ℕ → List ℕ → Type 0
Grows ms more = (s : ℕ) → 0 < get_or ms s 0 → get_or more s 0 ≡ get_or ms s 0

grow_all : (ms more : List ℕ) → Grows ms more → (ops : List ℕ) → all_ranked ms ops ≡ true → all_ranked more ops ≡ true
grow_all ms more h [] e = refl
grow_all ms more h (s ∷ ss) e =
    let both = both_true (nat_lt 0 (get_or ms s 0)) (all_ranked ms ss) e in
    let some : 0 < get_or ms s 0 = let t : nat_lt 0 (get_or ms s 0) ≡ true = both.0 in grind arith in
    let now : nat_lt 0 (get_or more s 0) ≡ true = ap (λ k. nat_lt 0 k) (h s some) ∙ both.0 in
    rw (now, grow_all ms more h ss both.1) refl

grow_waiting : (gates : List GateLine) (ms more : List ℕ) → Grows ms more → (fs : List WaitingGate) → AreWaiting gates ms fs → AreWaiting gates more fs
grow_waiting gates ms more h [] w = tt
grow_waiting gates ms more h (f ∷ fs) w = ((w.0.0, w.0.1, grow_all ms more h (take f.passed (operands_at gates f.place)) w.0.2), w.1, grow_waiting gates ms more h fs w.2)

grow_ended : (gates : List GateLine) (ms more : List ℕ) → Grows ms more → (p : ℕ) → HasHeightOrNeverWill gates ms p → HasHeightOrNeverWill gates more p
grow_ended gates ms more h p (inl some) = inl (subst (λ k. 0 < k) (sym (h (out_at gates p) some)) some)
grow_ended gates ms more h p (inr never) = inr never

-- ---- the steps

-- a gate is begun, and the gates on the stack wait for it
pub step_begun : (gates : List GateLine) (heights : List ℕ) (begun : List Bool) (fs : List WaitingGate) (f : WaitingGate) → IsRanking gates heights begun fs → f.place < length gates → f.passed ≡ 0 → IsWaitedFor gates f fs →
    IsRanking gates heights (set begun f.place true) (f ∷ fs)
step_begun gates heights begun fs f h low none under = record {
  sound = h.sound;
  len = length-set begun f.place true ∙ h.len;
  chain = ((low, omega (arith, none), ap (λ k. all_ranked heights (take k (operands_at gates f.place))) none), under, h.chain);
  left = λ p small on off.
      elim (f.place == p) as (λ b. (f.place == p) ≡ b → (b || is_waiting p fs) ≡ false → HasHeightOrNeverWill gates heights p) [
        | true ↦ λ e k. cc
        | false ↦ λ e k. let other : p ≡ f.place → ⊥ = (λ s. grind arith) in h.left p small (sym (get_or-set_other begun f.place p true false other) ∙ on) k
      ] refl off;
}

pub still_begun : (begun : List Bool) (q p : ℕ) → get_or begun p false ≡ true → get_or (set begun q true) p false ≡ true
still_begun [] q p e = e
still_begun (b ∷ begun) zero zero e = refl
still_begun (b ∷ begun) zero (suc p) e = e
still_begun (b ∷ begun) (suc q) zero e = e
still_begun (b ∷ begun) (suc q) (suc p) e = still_begun begun q p e

pub now_begun : (begun : List Bool) (q : ℕ) → q < length begun → get_or (set begun q true) q false ≡ true
now_begun begun q low = get_or-set_same begun q true false low

module _ (gates : List GateLine) (heights : List ℕ) (begun : List Bool) (f : WaitingGate) (fs : List WaitingGate) (h : IsRanking gates heights begun (f ∷ fs)) where
  -- the gate on top is left
  pub step_left : (more : List ℕ) → Grows heights more → AreHeights gates more → HasHeightOrNeverWill gates more f.place → IsRanking gates more begun fs
  step_left more grows sound ended = record {
    sound = sound;
    len = h.len;
    chain = grow_waiting gates heights more grows fs h.chain.2;
    left = λ p low on off.
        elim (f.place == p) as (λ b. (f.place == p) ≡ b → HasHeightOrNeverWill gates more p) [
          | true ↦ λ e. let same : f.place ≡ p = grind arith in subst (HasHeightOrNeverWill gates more) same ended
          | false ↦ λ e. grow_ended gates heights more grows p (h.left p low on (ap (λ b. b || is_waiting p fs) e ∙ off))
        ] refl;
  }

  -- it has passed all its operands, and gets its height
  pub all_passed : length (operands_at gates f.place) ≤ f.passed → all_ranked heights (operands_at gates f.place) ≡ true
  all_passed high = subst (λ os. all_ranked heights os ≡ true) (take_all f.passed (operands_at gates f.place) high) h.chain.0.2

  all_push : (ops : List ℕ) (s : ℕ) → all_ranked heights ops ≡ true → 0 < get_or heights s 0 → all_ranked heights (ops ++ s ∷ []) ≡ true
  all_push [] s e some = let t : nat_lt 0 (get_or heights s 0) ≡ true = grind arith in rw t refl
  all_push (o ∷ ops) s e some =
      let both = both_true (nat_lt 0 (get_or heights o 0)) (all_ranked heights ops) e in
      rw (both.0, all_push ops s both.1 some) refl

  under_more : (us : List WaitingGate) → IsWaitedFor gates f us → IsWaitedFor gates (record { place = f.place; passed = f.passed + 1 }) us
  under_more [] u = tt
  under_more (x ∷ us) u = u

  -- its next operand has a height
  pub step_passed : f.passed < length (operands_at gates f.place) → 0 < get_or heights (get_or (operands_at gates f.place) f.passed 0) 0 → IsRanking gates heights begun (record { place = f.place; passed = f.passed + 1 } ∷ fs)
  step_passed low some = record {
    sound = h.sound;
    len = h.len;
    chain = (
      (h.chain.0.0, omega (arith, low), subst (λ os. all_ranked heights os ≡ true) (sym (take_more (operands_at gates f.place) f.passed 0 low)) (all_push (take f.passed (operands_at gates f.place)) (get_or (operands_at gates f.place) f.passed 0) h.chain.0.2 some)),
      under_more fs h.chain.1,
      h.chain.2,
    );
    left = h.left;
  }

  under_next : (q : ℕ) → f.passed < length (operands_at gates f.place) → out_at gates q ≡ get_or (operands_at gates f.place) f.passed 0 → IsBelow gates (out_at gates q) (out_at gates f.place)
  under_next q in_bounds is = subst (λ o. IsBelow gates o (out_at gates f.place)) (sym is) (feeds gates f.place f.passed h.chain.0.0 in_bounds)

  -- it waits for a gate that is begun
  pub step_down : (q : ℕ) → q < length gates → f.passed < length (operands_at gates f.place) → out_at gates q ≡ get_or (operands_at gates f.place) f.passed 0 →
      IsRanking gates heights (set begun q true) (record { place = q; passed = 0 } ∷ f ∷ fs)
  step_down q low in_bounds is = step_begun gates heights begun (f ∷ fs) (record { place = q; passed = 0 }) h low refl (under_next q in_bounds is)

  -- the operand that it waits for was begun before, and has no height: neither can ever have one
  pub step_endless : (q : ℕ) → q < length gates → f.passed < length (operands_at gates f.place) → out_at gates q ≡ get_or (operands_at gates f.place) f.passed 0 → get_or begun q false ≡ true → get_or heights (out_at gates q) 0 ≡ 0 →
      IsRanking gates heights begun fs
  step_endless q low in_bounds is on none =
      step_left heights (λ s e. refl) h.sound
      (inr (elim (is_waiting q (f ∷ fs)) as (λ v. is_waiting q (f ∷ fs) ≡ v → NeverHasHeight gates (out_at gates f.place)) [
        | true ↦ λ waits. never_cycle gates heights f fs h.chain q waits (under_next q in_bounds is)
        | false ↦ λ off. elim (h.left q low on off) [
          | inl some ↦ absurd (omega (arith, some, none))
          | inr never ↦ never_below gates (out_at gates q) (out_at gates f.place) (under_next q in_bounds is) never
        ]
      ] refl))

-- ---- how many steps are left

pub fewer_unbegun : (gates : List GateLine) (begun : List Bool) (q : ℕ) → q < length gates → length begun ≡ length gates → get_or begun q false ≡ false →
    unbegun gates (set begun q true) + (length (operands_at gates q) + 2) ≡ unbegun gates begun
fewer_unbegun [] begun q low len e = absurd (omega arith)
fewer_unbegun (g ∷ gates) [] q low len e = absurd (omega (arith, len))
fewer_unbegun (g ∷ gates) (true ∷ begun) zero low len e = cc
fewer_unbegun (g ∷ gates) (false ∷ begun) zero low len e = omega arith
fewer_unbegun (g ∷ gates) (true ∷ begun) (suc q) low len e = let more = fewer_unbegun gates begun q (omega arith) (omega (arith, len)) e in omega (arith, more)
fewer_unbegun (g ∷ gates) (false ∷ begun) (suc q) low len e = let more = fewer_unbegun gates begun q (omega arith) (omega (arith, len)) e in omega (arith, more)

module _ (gates : List GateLine) (begun : List Bool) (f : WaitingGate) (fs : List WaitingGate) where
  pub fewer_left : steps_left gates begun fs < steps_left gates begun (f ∷ fs)
  fewer_left = omega arith

  pub fewer_passed : f.passed < length (operands_at gates f.place) → steps_left gates begun (record { place = f.place; passed = f.passed + 1 } ∷ fs) < steps_left gates begun (f ∷ fs)
  fewer_passed low = omega (arith, low)

  pub fewer_down : (q : ℕ) → q < length gates → length begun ≡ length gates → get_or begun q false ≡ false →
      steps_left gates (set begun q true) (record { place = q; passed = 0 } ∷ f ∷ fs) < steps_left gates begun (f ∷ fs)
  fewer_down q low len e = omega (arith, fewer_unbegun gates begun q low len e)

-- ---- the operand that comes next

pub within : (k n : ℕ) → true ≡ nat_lt k n → k < n
within k n e = let yes : nat_lt k n ≡ true = sym e in grind (arith, nat_tests)

pub past : (k n : ℕ) → false ≡ nat_lt k n → n ≤ k
past k n e = let out : nat_lt k n ≡ false = sym e in grind (arith, nat_tests)

pub pushed : (fs : List WaitingGate) (f : WaitingGate) → reverse (fs ++ f ∷ []) ≡ f ∷ reverse fs
pushed fs f = reverse-append fs (f ∷ [])

module _ (gates : List GateLine) (symbols : List Symbol) (heights : List ℕ) (begun : List Bool) (f : WaitingGate) (fs : List WaitingGate) (h : IsRanking gates heights begun (f ∷ fs)) (g : GateLine) (is : g ≡ get_or gates f.place g)
    (os : List ℕ) (is_os : os ≡ g.operands) (o : ℕ) (in_bounds : f.passed < length os) (at : o ≡ get_or os f.passed o) where
  ops_are : operands_at gates f.place ≡ os
  ops_are = (gate_is gates f.place g h.chain.0.0 is).0 ∙ sym is_os

  passed_low : f.passed < length (operands_at gates f.place)
  passed_low = subst (λ xs. f.passed < length xs) (sym ops_are) in_bounds

  operand_is : get_or (operands_at gates f.place) f.passed 0 ≡ o
  operand_is = ap (λ xs. get_or xs f.passed 0) ops_are ∙ sym (get_or_default os f.passed o 0 in_bounds) ∙ sym at

  pub next_passed : 0 < get_or heights o 0 → IsRanking gates heights begun (record { place = f.place; passed = f.passed + 1 } ∷ fs)
  next_passed some = step_passed gates heights begun f fs h passed_low (subst (λ s. 0 < get_or heights s 0) (sym operand_is) some)

  pub next_fewer : steps_left gates begun (record { place = f.place; passed = f.passed + 1 } ∷ fs) < steps_left gates begun (f ∷ fs)
  next_fewer = fewer_passed gates begun f fs passed_low

  module _ (operands : All (λ g. All (λ s. s < length heights) g.operands) gates) (driven : (s : ℕ) → s < length heights → get_or heights s 0 ≡ 0 → IsDriven gates symbols s) (none : get_or heights o 0 ≡ 0)
      (q : ℕ) (at_gate : gate_place (slice_get symbols o) ≡ Some q) where
    operand_low : o < length heights
    operand_low =
        let all : All (λ s. s < length heights) os = subst (All (λ s. s < length heights)) (sym is_os) (subst (λ (x : GateLine). All (λ s. s < length heights) x.operands) (sym is) (operands f.place g h.chain.0.0)) in
        subst (λ s. s < length heights) (sym at) (all f.passed o in_bounds)

    next_gate : (q < length gates) × (out_at gates q ≡ get_or (operands_at gates f.place) f.passed 0)
    next_gate =
        let d = driven o operand_low none in
        let same : d.0 ≡ q = ap (λ x. unwrap_or x 0) (sym d.1 ∙ at_gate) in
        (subst (λ p. p < length gates) same d.2, ap (out_at gates) (sym same) ∙ d.3 ∙ sym operand_is)

    pub next_low : q < length gates
    next_low = next_gate.0

    pub next_endless : get_or begun q false ≡ true → IsRanking gates heights begun fs
    next_endless on = step_endless gates heights begun f fs h q next_gate.0 passed_low next_gate.1 on (ap (λ s. get_or heights s 0) (next_gate.1 ∙ operand_is) ∙ none)

    pub next_down : IsRanking gates heights (set begun q true) (record { place = q; passed = 0 } ∷ f ∷ fs)
    next_down = step_down gates heights begun f fs h q next_gate.0 passed_low next_gate.1

    pub next_down_fewer : get_or begun q false ≡ false → steps_left gates (set begun q true) (record { place = q; passed = 0 } ∷ f ∷ fs) < steps_left gates begun (f ∷ fs)
    next_down_fewer off = fewer_down gates begun f fs q next_gate.0 h.len off

-- ---- the end

-- a gate that can never have a height has an operand without one
pub ended_settled : (gates : List GateLine) (heights : List ℕ) (p : ℕ) (g : GateLine) → p < length gates → g ≡ get_or gates p g → g.out < length heights → HasOneGateEach gates → AreHeights gates heights → HasHeightOrNeverWill gates heights p → HasHeightIfOperandsHave heights g
ended_settled gates heights p g low at out one sound (inl some) none = let is = gate_is gates p g low at in absurd (omega (arith, some, none, ap (λ s. get_or heights s 0) is.1))
ended_settled gates heights p g low at out one sound (inr never) none =
    elim (all_ranked heights g.operands) as (λ b. all_ranked heights g.operands ≡ b → b ≡ false) [
      | true ↦ λ all.
          let value = greatest (map (λ s. get_or heights s 0) g.operands) + 1 in
          let zero_there : get_or (set heights g.out value) (out_at gates p) 0 ≡ 0 = never (set heights g.out value) (ranked_more gates heights p g low at out one sound none all) in
          let is = gate_is gates p g low at in
          let there : get_or (set heights g.out value) g.out 0 ≡ value = get_or-set_same heights g.out value 0 out in
          absurd (omega (arith, zero_there, there, ap (λ s. get_or (set heights g.out value) s 0) is.1))
      | false ↦ λ e. refl
    ] refl

pub all_settled : (gates : List GateLine) (heights : List ℕ) (begun : List Bool) → All (λ g. g.out < length heights) gates → HasOneGateEach gates → IsRanking gates heights begun [] →
    ((p : ℕ) → p < length gates → get_or begun p false ≡ true) → All (HasHeightIfOperandsHave heights) gates
all_settled gates heights begun outs one h all k d low =
    let g = get_or gates k d in
    ended_settled gates heights k g low (get_or_default gates k d _ low) (outs k d low) one h.sound (h.left k low (all k low) refl)

-- nothing is begun
pub none_begun : (gates : List GateLine) (heights : List ℕ) (begun : List Bool) → AreHeights gates heights → length begun ≡ length gates → ((p : ℕ) → p < length begun → get_or begun p false ≡ false) → IsRanking gates heights begun []
none_begun gates heights begun sound len none = record {
  sound = sound;
  len = len;
  chain = tt;
  left = λ p low on off. absurd (no_true (sym (none p (omega (arith, low, len))) ∙ on));
}
  where
    no_true : false ≡ true → ⊥
    no_true e = cc

-- a signal without a height now had none before
pub driven_later : (gates : List GateLine) (symbols : List Symbol) (ms more : List ℕ) → Grows ms more → length more ≡ length ms → ((s : ℕ) → s < length ms → get_or ms s 0 ≡ 0 → IsDriven gates symbols s) →
    (s : ℕ) → s < length more → get_or more s 0 ≡ 0 → IsDriven gates symbols s
driven_later gates symbols ms more grows len driven s low none =
    driven s (omega (arith, low, len)) (elim (cases_lt 0 (get_or ms s 0)) [ inl some ↦ let same = grows s some in absurd (omega (arith, some, same, none)) | inr zero_there ↦ omega arith ])
