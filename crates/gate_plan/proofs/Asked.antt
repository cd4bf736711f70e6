-- If a build leaves a store over its limit, no step of a gate needed a request.
use Rattle.std.proofs.Common.{◌≡◌, ◌≢◌, ℕ, ◌+◌, ◌-◌, ◌<◌, ◌≤◌, inl, inr, Bool, cond, min, List, [], length, map, get_or, Option, Some, None, refl, sym, ◌∙◌, ap, subst, arith, eq-eqb}
use Rattle.std.specs.Prelude.{Contains, slice_index, unwrap_or}
use Rattle.std.proofs.lemmas.Bool.{ne_eqb}
use Rattle.dd_store.specs.declared.reference.Ref.{Ref}
use Rattle.dd_store.specs.Nodes.{Nodes, IsSound, count_of}
use Rattle.dd_store.specs.View.{Has}
use Rattle.dd_store.proofs.View.{one_diagram}
use Rattle.net_bench.specs.declared.netlist.GateLine.{GateLine}
use Rattle.net_order.specs.Order.{NamingModel}
use Rattle.net_bench.specs.Circuit.{Circuit, Net, IsNet, circuit, greatest, rank_of}
use Rattle.net_bench.specs.Labels.{bit_of}
use Rattle.net_bench.proofs.Built.{has_labelling}
use Rattle.req_table.specs.declared.Op.{Op}
use Rattle.req_table.specs.TerminalCase.{terminal_of}
use Rattle.req_table.specs.ComputedTables.{ComputedView, IsRight}
use Rattle.wave_engine.specs.CacheProbe.{unknown, IsKeptWave}
use Rattle.reduce_up.specs.Waves.{Entry, HasRequest, IsWithinLimit}
use Rattle.wave_engine.proofs.Probing.{request_unknown, kept_none}
use Rattle.wave_engine.specs.Bounds.{ArePast}
use Rattle.gate_plan.specs.declared.steps.Step.{Step}
use Rattle.gate_plan.specs.Plans.{operand_at, folds_of, step_of, step_at, plan_steps, plan_folds, IsPlan}
use Rattle.gate_plan.specs.Building.{PlannedNet, input_level, reference_of, first_operand, entry_of, Denotes, value_after, AreFolded, AllFolded, ArePlannedNets, Levelled, levelled_of, asked}
use Rattle.gate_plan.specs.Needing.{IsStillWithin}
use Rattle.gate_plan.specs.Asking.{first_taken, second_taken, IsAsked, Asks, AnyAsks, AnyAsksAt, AnyAsksIn, AnyAsksBelow, IsWithinOrUnasked, IsRightAndWithinLimit, IsEntryOf, IsEntryAt, IsPast}
use Rattle.gate_plan.proofs.Lists.{same_number}
use Rattle.gate_plan.proofs.Together.{image, of_map, refs_there, asked_has, asked_holds}
use Rattle.gate_plan.proofs.Ranks.{above_none, operand_lower, some_operand, operand_below, rank_top}
use Rattle.gate_plan.proofs.Picking.{has_pick, in_picks, step_is, folds_within, has_step_of, among_operands}

module _ (net : Net) (h : IsNet net) (level : ℕ → ℕ) where
  -- references that denote the same value of the labels are equal
  one_denoted : (S : Nodes) → IsSound S → (value : List Bool → Bool) (a b : Ref) → Has S a → Has S b → Denotes (circuit net) level S a value → Denotes (circuit net) level S b value → a ≡ b
  one_denoted S sound value a b ha hb i j =
      one_diagram S sound a b ha hb (λ x hx. let bits = has_labelling net h level x in i x bits.0 hx bits.1 ∙ sym (j x bits.0 hx bits.1))

  module _ (S : Nodes) (refs : List Ref) (r j : ℕ) (w : AreFolded net level S refs r j) (g : GateLine) (among : Contains net.gates g) (rank : rank_of net g ≡ r) (lt : j < folds_of g) where
    some : 0 < length g.operands
    some = some_operand net h g among

    operand : (i : ℕ) → i < length g.operands → Denotes (circuit net) level S (reference_of refs (operand_at g i)) (λ bits. bit_of bits (operand_at g i))
    operand i few x bits hx l =
        let lower : slice_index net.ranks (operand_at g i) < rank_of net g = operand_lower net h g (operand_at g i) among (among_operands g i few) in
        w.right.below (operand_at g i) (operand_below net h g (operand_at g i) among (among_operands g i few)) (omega arith) x bits hx l

    takes_second : Denotes (circuit net) level S (reference_of refs (step_at g j).second) (second_taken g j)
    takes_second = operand (j + 1) (omega arith)

    abbrev First : Ref → Type 0
    First f = Denotes (circuit net) level S f (first_taken g j)

    at_zero : j ≡ 0 → First (reference_of refs (operand_at g 0))
    at_zero z x bits hx l = operand 0 some x bits hx l ∙ ap (λ b. cond b (bit_of bits (operand_at g 0)) (value_after g (j + 1) bits)) (sym (eq-eqb j 0 z))

    past_zero : j ≢ 0 → First (reference_of refs g.out)
    past_zero nz x bits hx l =
        w.here g among rank (inl (omega arith)) x bits hx l
        ∙ ap (λ k. value_after g k bits) (let k : min (j + 1) (length g.operands) ≡ j + 1 = omega arith in k)
        ∙ ap (λ b. cond b (bit_of bits (operand_at g 0)) (value_after g (j + 1) bits)) (sym (ne_eqb j 0 nz))

    takes_first : First (reference_of refs (first_operand (step_at g j)))
    takes_first = by (same_number j 0)
      where
        by : Dec (j ≡ 0) → First (reference_of refs (first_operand (step_at g j)))
        by (yes z) = subst (λ b. First (reference_of refs (unwrap_or (cond b (Some (operand_at g 0)) None) g.out))) (sym (eq-eqb j 0 z)) (at_zero z)
        by (no nz) = subst (λ b. First (reference_of refs (unwrap_or (cond b (Some (operand_at g 0)) None) g.out))) (sym (ne_eqb j 0 nz)) (past_zero nz)

  -- a step that needs a request is a request of its wave
  pub asked_step : (S : Nodes) (refs : List Ref) (r j : ℕ) → IsSound S → AreFolded net level S refs r j → (g : GateLine) → Contains net.gates g → rank_of net g ≡ r → IsAsked (circuit net) level S g j →
      HasRequest (map (entry_of refs) (plan_steps net net.gates r j))
  asked_step S refs r j sound w g among rank a =
      let s : Step = step_at g j in
      let first : a.first ≡ reference_of refs (first_operand s) =
      one_denoted S sound (first_taken g j) a.first (reference_of refs (first_operand s)) a.has_first (w.right.known (first_operand s)) a.takes_first (takes_first S refs r j w g among rank a.step) in
      let second : a.second ≡ reference_of refs s.second =
      one_denoted S sound (second_taken g j) a.second (reference_of refs s.second) a.has_second (w.right.known s.second) a.takes_second (takes_second S refs r j w g among rank a.step) in (
        entry_of refs s,
        image (entry_of refs) (plan_steps net net.gates r j) s (has_pick net r (λ g. step_of g j) net.gates g s among rank (has_step_of g j a.step)),
        subst (λ z. terminal_of s.op (reference_of refs (first_operand s)) z ≡ None) second (subst (λ z. terminal_of s.op z a.second ≡ None) first a.long),
      )

  -- an entry is a step of a gate
  pub step_entry : (S : Nodes) (refs : List Ref) (r j : ℕ) → AreFolded net level S refs r j → (e : Entry) → Contains (map (entry_of refs) (plan_steps net net.gates r j)) e →
      (g : GateLine) × Contains net.gates g × (rank_of net g ≡ r) × IsEntryOf (circuit net) level S g j e
  step_entry S refs r j w e c =
      let m = of_map (entry_of refs) (plan_steps net net.gates r j) e c in
      let p = in_picks net r (λ g. step_of g j) net.gates m.0 m.1 in
      let q = step_is p.0 j m.0 p.3 in (
        p.0,
        p.1,
        p.2,
        subst (IsEntryOf (circuit net) level S p.0 j) (ap (entry_of refs) (sym q.1) ∙ m.2) (record {
          step = q.0;
          op = refl;
          has_first = w.right.known (first_operand (step_at p.0 j));
          has_second = w.right.known (step_at p.0 j).second;
          takes_first = takes_first S refs r j w p.0 p.1 p.2 q.0;
          takes_second = takes_second S refs r j w p.0 p.1 p.2 q.0;
        }),
      )

  -- each step of a gate is an entry
  pub entry_of_step : (S : Nodes) (refs : List Ref) (r j : ℕ) → AreFolded net level S refs r j → (g : GateLine) → Contains net.gates g → rank_of net g ≡ r → j < folds_of g →
      (e : Entry) × Contains (map (entry_of refs) (plan_steps net net.gates r j)) e × IsEntryOf (circuit net) level S g j e
  entry_of_step S refs r j w g among rank lt = (
    entry_of refs (step_at g j),
    image (entry_of refs) (plan_steps net net.gates r j) (step_at g j) (has_pick net r (λ g. step_of g j) net.gates g (step_at g j) among rank (has_step_of g j lt)),
    record {
      step = lt;
      op = refl;
      has_first = w.right.known (first_operand (step_at g j));
      has_second = w.right.known (step_at g j).second;
      takes_first = takes_first S refs r j w g among rank lt;
      takes_second = takes_second S refs r j w g among rank lt;
    },
  )

-- a wave of the steps of all netlists that reaches more requests than the bound
pub wave_past : (sides : List PlannedNet) → ((one : PlannedNet) → Contains sides one → IsPlan one.net one.plan) → (S : Nodes) → IsSound S → (built : List (List Ref)) (r j : ℕ) (entries : List Entry) →
    AllFolded sides S built r j → entries ≡ asked sides built r j → (o : Option ℕ) → ArePast o S entries → IsPast o S.levels (map levelled_of sides)
wave_past sides plans S sound built r j entries h e None past = past
wave_past sides plans S sound built r j entries h e (Some n) past = record {
  store = S;
  sound = sound;
  levels = refl;
  rank = r;
  step = j;
  entries = entries;
  asked = λ x c. by x (subst (λ xs. Contains xs x) e c);
  more = past;
}
  where
    by : (x : Entry) → Contains (asked sides built r j) x → IsEntryAt (map levelled_of sides) S r j x
    by = asked_holds (IsEntryAt (map levelled_of sides) S r j) r j sides built (
      h.0,
      λ k one refs lt at there x c.
          let sound_net = (plans one (k, lt, at)).sound in
          let w = step_entry one.net sound_net (input_level one) S refs r j (h.1 k one refs lt at there) x c in
          (levelled_of one, image levelled_of sides one (k, lt, at), (w.0, w.1, (one.net.ranks, sound_net.ranks, w.2), w.3)),
    )

-- what a wave of the steps of all netlists leaves
pub wave_unasked : (sides : List PlannedNet) → ((one : PlannedNet) → Contains sides one → IsPlan one.net one.plan) → (S T : Nodes) → IsSound S → (built : List (List Ref)) (r j : ℕ) (entries : List (Op × Ref × Ref)) →
    AllFolded sides S built r j → entries ≡ asked sides built r j → (m : ComputedView) → IsRightAndWithinLimit S m → IsWithinLimit S (unknown m entries) T → IsWithinOrUnasked (AnyAsksAt sides T r j) S T
wave_unasked sides plans S T sound built r j entries h e m held (inl le) = inl le
wave_unasked sides plans S T sound built r j entries h e m held (inr (none, same)) =
    elim held.within [
      | inl empty ↦ inr (λ a. none (request_unknown m entries empty (by (subst (λ U. AnyAsksAt sides U r j) same a))), same)
      | inr le ↦ inl (subst (λ U. count_of U ≤ U.limit) (sym same) le)
    ]
  where
    by : AnyAsksAt sides S r j → HasRequest entries
    by (one, (k, lt, at), (g, among, rank, is_asked)) =
        let n = h.0 in
        let there = refs_there built k (omega arith) in
        let q = asked_step one.net (plans one (k, lt, at)).sound (input_level one) S (get_or built k []) r j sound (h.1 k one (get_or built k []) lt at there) g among rank is_asked in
        (q.0, subst (λ xs. Contains xs q.0) (sym e) (asked_has r j sides built k one (get_or built k []) h.0 lt at there q.0 q.1), q.2)

-- after a wave what is held is still right, and the store within its limit
pub wave_held : (S T : Nodes) (m : ComputedView) (entries : List (Op × Ref × Ref)) (answers : List Ref) (new : ComputedView) → IsRightAndWithinLimit S m → IsWithinLimit S (unknown m entries) T → IsKeptWave m entries answers new → IsRight T new → IsRightAndWithinLimit T new
wave_held S T m entries answers new held (inl le) kept right = record { right = right; within = inr le }
wave_held S T m entries answers new held (inr (none, same)) kept right = record {
  right = right;
  within = elim held.within [
    | inl empty ↦ inl (ap (λ h. h.pairs) (kept_none m entries answers new none kept) ∙ empty)
    | inr le ↦ inr (subst (λ U. count_of U ≤ U.limit) (sym same) le)
  ];
}

-- ---- step by step

pub none_unasked : (S T : Nodes) (P : ℕ → Type 0) → IsStillWithin S T → IsWithinOrUnasked ((j : ℕ) × (j < 0) × P j) S T
none_unasked S T P (inl le) = inl le
none_unasked S T P (inr same) = inr (λ asked. absurd (let lt = asked.1 in omega arith), same)

pub next_unasked : (O S T : Nodes) (P : Nodes → ℕ → Type 0) (n : ℕ) → IsWithinOrUnasked ((j : ℕ) × (j < n) × P S j) O S → IsWithinOrUnasked (P T n) S T → IsWithinOrUnasked ((j : ℕ) × (j < n + 1) × P T j) O T
next_unasked O S T P n before (inl le) = inl le
next_unasked O S T P n (inl le) (inr (none, same)) = inl (subst (λ U. count_of U ≤ U.limit) (sym same) le)
next_unasked O S T P n (inr (few, was)) (inr (none, same)) = inr (λ asked. by asked.0 asked.1 asked.2 (same_number asked.0 n), same ∙ was)
  where
    by : (j : ℕ) → j < n + 1 → P T j → Dec (j ≡ n) → ⊥
    by j lt asked (yes e) = none (subst (P T) e asked)
    by j lt asked (no ne) = few (j, omega arith, subst (λ U. P U j) same asked)

pub less_unasked : (S T : Nodes) (asked more : Type 0) → (asked → more) → IsWithinOrUnasked more S T → IsWithinOrUnasked asked S T
less_unasked S T asked more f (inl le) = inl le
less_unasked S T asked more f (inr (none, same)) = inr (λ a. none (f a), same)

pub still_within : (S T : Nodes) (asked : Type 0) → IsWithinOrUnasked asked S T → IsStillWithin S T
still_within S T asked (inl le) = inl le
still_within S T asked (inr (none, same)) = inr same

-- after a store that is within its limit or as before
pub later_unasked : (S T U : Nodes) (asked : Type 0) → IsStillWithin S T → IsWithinOrUnasked asked T U → IsWithinOrUnasked asked S U
later_unasked S T U asked still (inl le) = inl le
later_unasked S T U asked (inl le) (inr (none, same)) = inl (subst (λ V. count_of V ≤ V.limit) (sym same) le)
later_unasked S T U asked (inr was) (inr (none, same)) = inr (none, same ∙ was)

-- the folds of a rank have all its steps
pub rank_unasked : (sides : List PlannedNet) (S T : Nodes) (r n : ℕ) → ((one : PlannedNet) → Contains sides one → plan_folds one.net one.net.gates r ≤ n) →
    IsWithinOrUnasked ((j : ℕ) × (j < n) × AnyAsksAt sides T r j) S T → IsWithinOrUnasked (AnyAsksIn sides T r) S T
rank_unasked sides S T r n few w = less_unasked S T (AnyAsksIn sides T r) ((j : ℕ) × (j < n) × AnyAsksAt sides T r j) by w
  where
    by : AnyAsksIn sides T r → (j : ℕ) × (j < n) × AnyAsksAt sides T r j
    by (j, (one, c, (g, among, rank, is_asked))) = (
      j,
      (
          let f : folds_of g ≤ plan_folds one.net one.net.gates r = folds_within one.net r one.net.gates g among rank in
          let most = few one c in
          let s = is_asked.step in
          omega arith
          ),
      (one, c, (g, among, rank, is_asked)),
    )

-- the ranks have all gates
pub all_unasked : (a b : Circuit) (given : Option Circuit) (p : NamingModel) (sides : List PlannedNet) → ArePlannedNets a b given p sides → (S T : Nodes) (n : ℕ) →
    ((one : PlannedNet) → Contains sides one → greatest (map (rank_of one.net) one.net.gates) ≤ n) →
    IsWithinOrUnasked (AnyAsksBelow sides T n) S T → IsWithinOrUnasked (AnyAsks a b given p T) S T
all_unasked a b given p sides placed S T n few w = less_unasked S T (AnyAsks a b given p T) (AnyAsksBelow sides T n) by w
  where
    below : (one : PlannedNet) → Contains sides one → (g : GateLine) → Contains one.net.gates g → (i : ℕ) × (i < n) × (rank_of one.net g ≡ i + 1)
    below one c g among =
        let low = above_none one.net (placed.plans one c).sound g among in
        let top = rank_top one.net g among in
        let most = few one c in
        (rank_of one.net g - 1, omega arith, omega arith)

    of_one : (one : PlannedNet) → Contains sides one → Asks (circuit one.net) (input_level one) T → AnyAsksBelow sides T n
    of_one one c (g, among, (j, is_asked)) = let d = below one c g among in (d.0, d.1, (j, (one, c, (g, among, d.2, is_asked))))

    by : AnyAsks a b given p T → AnyAsksBelow sides T n
    by (l, c, asks) =
        let m = of_map levelled_of sides l (subst (λ z. Contains z l) (sym placed.netlists) c) in
        of_one m.0 m.1 (subst (λ (z : Levelled). Asks z.netlist z.level T) (sym m.2) asks)

-- a store that is within its limit or as before is within its limit if it was within it before
pub within_kept : (S T : Nodes) → IsStillWithin S T → count_of S ≤ S.limit → count_of T ≤ T.limit
within_kept S T (inl le) old = le
within_kept S T (inr same) old = subst (λ x. count_of x ≤ x.limit) (sym same) old
