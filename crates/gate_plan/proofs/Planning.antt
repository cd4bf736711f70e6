-- The plan of a netlist, gate by gate.
use Rattle.std.proofs.Common.{◌≡◌, ◌≢◌, ℕ, ◌+◌, ◌-◌, ◌<◌, ◌≤◌, ◌==◌, Bool, true, false, cond, List, [], ◌∷◌, ◌++◌, length, map, get_or, max, min, nat_lt, Option, Some, None, ◌⊎◌, inl, inr, set, replicate, refl, sym, ◌∙◌, ap, subst, arith, eq-eqb, append_assoc}
use Rattle.std.specs.Prelude.{flat_map}
use Rattle.std.specs.Option.{option_map_or}
use Rattle.std.proofs.lemmas.List.{append-nil, map-append, get_or-set_same, get_or-set_other, get_or-replicate, get_or_past, length-set, length-replicate}
use Rattle.std.proofs.lemmas.Grind.{flat_map-append}
use Rattle.std.proofs.lemmas.Bool.{ne_eqb}
use Rattle.std.proofs.lemmas.Bool.Decides.{nat_tests}
use Rattle.net_bench.specs.declared.netlist.GateLine.{GateLine}
use Rattle.net_bench.specs.Circuit.{Net, greatest, rank_of}
use Rattle.net_bench.proofs.Greatest.{greatest_more}
use Rattle.gate_plan.specs.declared.steps.Step.{Step}
use Rattle.gate_plan.specs.Plans.{RankSteps, AddsAt, AddsSteps, AddsGate, Plans, fold_at, rank_at, steps_at, no_steps, step_of, step_at, steps_of, copies_of, folds_of, plan_steps, plan_copies, plan_folds}
use Rattle.gate_plan.proofs.Lists.{same_number, lt_or_le}

-- ---- the steps of one gate

abbrev listed : Option Step → List Step
listed o = option_map_or (λ s. s ∷ []) o []

-- the first i steps of a gate are at the ends of the lists
pub record AddsSome (old : List (List Step)) (g : GateLine) (i : ℕ) (new : List (List Step)) : Type 0 where
  pub count : length new ≡ max (length old) (min i (folds_of g))
  pub lists : (j : ℕ) → fold_at new j ≡ fold_at old j ++ cond (nat_lt j i) (steps_of g j) []

pub adds_none : (old : List (List Step)) (g : GateLine) → AddsSome old g 0 old
adds_none old g = record { count = omega arith; lists = λ j. sym (ap (λ b. fold_at old j ++ cond b (steps_of g j) []) (none_below j) ∙ append-nil (fold_at old j)) }
  where
    none_below : (j : ℕ) → nat_lt j 0 ≡ false
    none_below j = grind (arith, nat_tests)

lt_more : (j i : ℕ) → j ≢ i → nat_lt j (i + 1) ≡ nat_lt j i
lt_more j i ne = grind (arith, nat_tests)

lt_here : (i : ℕ) → nat_lt i (i + 1) ≡ true
lt_here i = grind (arith, nat_tests)

lt_self : (i : ℕ) → nat_lt i i ≡ false
lt_self i = grind (arith, nat_tests)

-- whether the gate has step i
some_step : (g : GateLine) (i : ℕ) (s : Step) → step_of g i ≡ Some s → i < folds_of g
some_step g i s e = by (nat_lt i (folds_of g)) refl
  where
    by : (b : Bool) → nat_lt i (folds_of g) ≡ b → i < folds_of g
    by true t = grind (arith, nat_tests)
    by false t = absurd (let f : None ≡ Some s = ap (λ b. cond b (Some (step_at g i)) None) (sym t) ∙ e in cc)

no_step : (g : GateLine) (i : ℕ) → step_of g i ≡ None → folds_of g ≤ i
no_step g i e = by (nat_lt i (folds_of g)) refl
  where
    by : (b : Bool) → nat_lt i (folds_of g) ≡ b → folds_of g ≤ i
    by false t = grind (arith, nat_tests)
    by true t = absurd (let f : Some (step_at g i) ≡ None = ap (λ b. cond b (Some (step_at g i)) None) (sym t) ∙ e in cc)

pub adds_ready : (old : List (List Step)) (g : GateLine) (i : ℕ) (mid : List (List Step)) (s : Step) → AddsSome old g i mid → step_of g i ≡ Some s → i ≤ length mid
adds_ready old g i mid s a e = let lt = some_step g i s e in let n = a.count in omega arith

pub adds_next : (old : List (List Step)) (g : GateLine) (i : ℕ) (mid new : List (List Step)) (s : Step) → AddsSome old g i mid → step_of g i ≡ Some s → AddsAt mid i s new → AddsSome old g (i + 1) new
adds_next old g i mid new s a e b = record {
  count = let lt = some_step g i s e in let n = a.count in let m = b.count in omega arith;
  lists = λ j. b.lists j ∙ ap (λ z. z ++ cond (j == i) (s ∷ []) []) (a.lists j) ∙ append_assoc (fold_at old j) (cond (nat_lt j i) (steps_of g j) []) (cond (j == i) (s ∷ []) []) ∙ ap (λ z. fold_at old j ++ z) (by j (same_number j i));
}
  where
    by : (j : ℕ) → Dec (j ≡ i) → cond (nat_lt j i) (steps_of g j) [] ++ cond (j == i) (s ∷ []) [] ≡ cond (nat_lt j (i + 1)) (steps_of g j) []
    by j (yes same) =
        subst (λ z. cond (nat_lt z i) (steps_of g z) [] ++ cond (z == i) (s ∷ []) [] ≡ cond (nat_lt z (i + 1)) (steps_of g z) []) (sym same)
        (ap (λ b. cond b (steps_of g i) [] ++ cond (i == i) (s ∷ []) []) (lt_self i)
        ∙ ap (λ b. cond b (s ∷ []) []) (eq-eqb i i refl)
        ∙ ap listed (sym e)
        ∙ ap (λ b. cond b (steps_of g i) []) (sym (lt_here i)))
    by j (no ne) =
        ap (λ b. cond (nat_lt j i) (steps_of g j) [] ++ cond b (s ∷ []) []) (ne_eqb j i ne)
        ∙ append-nil (cond (nat_lt j i) (steps_of g j) [])
        ∙ ap (λ b. cond b (steps_of g j) []) (sym (lt_more j i ne))

pub adds_same : (old : List (List Step)) (g : GateLine) (i : ℕ) (mid : List (List Step)) → AddsSome old g i mid → step_of g i ≡ None → AddsSome old g (i + 1) mid
adds_same old g i mid a e = record {
  count = let le = no_step g i e in let n = a.count in omega arith;
  lists = λ j. a.lists j ∙ ap (λ z. fold_at old j ++ z) (by j (same_number j i));
}
  where
    by : (j : ℕ) → Dec (j ≡ i) → cond (nat_lt j i) (steps_of g j) [] ≡ cond (nat_lt j (i + 1)) (steps_of g j) []
    by j (no ne) = ap (λ b. cond b (steps_of g j) []) (sym (lt_more j i ne))
    by j (yes same) =
        subst (λ z. cond (nat_lt z i) (steps_of g z) [] ≡ cond (nat_lt z (i + 1)) (steps_of g z) []) (sym same)
        (ap (λ b. cond b (steps_of g i) []) (lt_self i) ∙ ap listed (sym e) ∙ ap (λ b. cond b (steps_of g i) []) (sym (lt_here i)))

pub adds_all : (old : List (List Step)) (g : GateLine) (i : ℕ) (new : List (List Step)) → AddsSome old g i new → length g.operands ≤ i → 0 < length g.operands → AddsSteps old g new
adds_all old g i new a le some = record {
  folds = let n = a.count in let few : folds_of g ≤ length g.operands = few_folds in omega arith;
  steps = λ j. a.lists j ∙ ap (λ z. fold_at old j ++ z) (by j (nat_lt j i) refl);
}
  where
    few_folds : folds_of g ≤ length g.operands
    few_folds = omega arith

    by : (j : ℕ) (b : Bool) → nat_lt j i ≡ b → cond (nat_lt j i) (steps_of g j) [] ≡ steps_of g j
    by j true t = ap (λ b. cond b (steps_of g j) []) t
    by j false t =
        ap (λ b. cond b (steps_of g j) []) t
        ∙ ap listed (sym (ap (λ b. cond b (Some (step_at g j)) None) (let few : folds_of g ≤ length g.operands = few_folds in let past : nat_lt j (folds_of g) ≡ false = grind (arith, nat_tests) in past)))

-- ---- the gates of a netlist

-- before any gate
pub plans_none : (net : Net) (n : ℕ) → Plans net [] (replicate n no_steps)
plans_none net n = record {
  copies = λ r first last. ap (λ z. z.copies) (empty_rank r);
  folds = λ r first last. ap (λ z. length z.folds) (empty_rank r);
  steps = λ r j first last. ap (λ z. fold_at z.folds j) (empty_rank r);
}
  where
    blank : (n i : ℕ) → get_or (replicate n no_steps) i no_steps ≡ no_steps
    blank n i = by (lt_or_le i n)
      where
        by : (i < n) ⊎ (n ≤ i) → get_or (replicate n no_steps) i no_steps ≡ no_steps
        by (inl lt) = get_or-replicate n i no_steps no_steps lt
        by (inr le) = get_or_past (replicate n no_steps) i no_steps (let e = length-replicate n no_steps in omega arith)

    empty_rank : (r : ℕ) → rank_at (replicate n no_steps) r ≡ no_steps
    empty_rank r = blank n (r - 1)

-- the plan with another row at the gate's rank
abbrev with_row : Net → List RankSteps → GateLine → RankSteps → List RankSteps
with_row net p g row = set p (rank_of net g - 1) row

-- one more gate
pub plans_next : (net : Net) (gs : List GateLine) (g : GateLine) (p : List RankSteps) (row : RankSteps) →
    Plans net gs p → 0 < rank_of net g → rank_of net g ≤ length p → AddsGate (rank_at p (rank_of net g)) g row → Plans net (gs ++ g ∷ []) (set p (rank_of net g - 1) row)
plans_next net gs g p row w first last a = record {
  copies = λ r lo hi. copies r lo (subst (λ z. r ≤ z) same_length hi) (same_number (rank_of net g) r);
  folds = λ r lo hi. folds r lo (subst (λ z. r ≤ z) same_length hi) (same_number (rank_of net g) r);
  steps = λ r j lo hi. steps r j lo (subst (λ z. r ≤ z) same_length hi) (same_number (rank_of net g) r);
}
  where
    same_length : length (set p (rank_of net g - 1) row) ≡ length p
    same_length = length-set p (rank_of net g - 1) row

    here : rank_at (with_row net p g row) (rank_of net g) ≡ row
    here = get_or-set_same p (rank_of net g - 1) row no_steps (omega arith)

    off : (r : ℕ) → 0 < r → rank_of net g ≢ r → rank_at (with_row net p g row) r ≡ rank_at p r
    off r lo ne = get_or-set_other p (rank_of net g - 1) (r - 1) row no_steps (λ e. ne (omega arith))

    part : {X : Type 0} (f : GateLine → List X) (r : ℕ) → flat_map (λ g. cond (rank_of net g == r) (f g) []) (gs ++ g ∷ []) ≡ flat_map (λ g. cond (rank_of net g == r) (f g) []) gs ++ cond (rank_of net g == r) (f g) []
    part f r =
        flat_map-append (λ g. cond (rank_of net g == r) (f g) []) gs (g ∷ [])
        ∙ ap (λ z. flat_map (λ g. cond (rank_of net g == r) (f g) []) gs ++ z) (append-nil (cond (rank_of net g == r) (f g) []))

    is_here : (r : ℕ) → rank_of net g ≡ r → (rank_of net g == r) ≡ true
    is_here r e = eq-eqb (rank_of net g) r e

    is_off : (r : ℕ) → rank_of net g ≢ r → (rank_of net g == r) ≡ false
    is_off r ne = ne_eqb (rank_of net g) r ne

    copies : (r : ℕ) → 0 < r → r ≤ length p → Dec (rank_of net g ≡ r) → (rank_at (with_row net p g row) r).copies ≡ plan_copies net (gs ++ g ∷ []) r
    copies r lo hi (yes e) =
        ap (λ z. (rank_at (with_row net p g row) z).copies) (sym e) ∙ ap (λ z. z.copies) here ∙ a.copies ∙ ap (λ z. (rank_at p z).copies ++ copies_of g) e
        ∙ ap (λ z. z ++ copies_of g) (w.copies r lo hi) ∙ ap (λ b. plan_copies net gs r ++ cond b (copies_of g) []) (sym (is_here r e)) ∙ sym (part copies_of r)
    copies r lo hi (no ne) =
        ap (λ z. z.copies) (off r lo ne) ∙ w.copies r lo hi ∙ sym (append-nil (plan_copies net gs r))
        ∙ ap (λ b. plan_copies net gs r ++ cond b (copies_of g) []) (sym (is_off r ne)) ∙ sym (part copies_of r)

    steps : (r j : ℕ) → 0 < r → r ≤ length p → Dec (rank_of net g ≡ r) → steps_at (with_row net p g row) r j ≡ plan_steps net (gs ++ g ∷ []) r j
    steps r j lo hi (yes e) =
        ap (λ z. steps_at (with_row net p g row) z j) (sym e) ∙ ap (λ z. fold_at z.folds j) here ∙ a.steps.steps j ∙ ap (λ z. steps_at p z j ++ steps_of g j) e
        ∙ ap (λ z. z ++ steps_of g j) (w.steps r j lo hi) ∙ ap (λ b. plan_steps net gs r j ++ cond b (steps_of g j) []) (sym (is_here r e)) ∙ sym (part (λ g. steps_of g j) r)
    steps r j lo hi (no ne) =
        ap (λ z. fold_at z.folds j) (off r lo ne) ∙ w.steps r j lo hi ∙ sym (append-nil (plan_steps net gs r j))
        ∙ ap (λ b. plan_steps net gs r j ++ cond b (steps_of g j) []) (sym (is_off r ne)) ∙ sym (part (λ g. steps_of g j) r)

    most : (r : ℕ) → plan_folds net (gs ++ g ∷ []) r ≡ max (plan_folds net gs r) (cond (rank_of net g == r) (folds_of g) 0)
    most r = ap greatest (map-append (λ g. cond (rank_of net g == r) (folds_of g) 0) gs (g ∷ [])) ∙ greatest_more (map (λ g. cond (rank_of net g == r) (folds_of g) 0) gs) (cond (rank_of net g == r) (folds_of g) 0)

    folds : (r : ℕ) → 0 < r → r ≤ length p → Dec (rank_of net g ≡ r) → length (rank_at (with_row net p g row) r).folds ≡ plan_folds net (gs ++ g ∷ []) r
    folds r lo hi (yes e) =
        ap (λ z. length (rank_at (with_row net p g row) z).folds) (sym e) ∙ ap (λ z. length z.folds) here ∙ a.steps.folds ∙ ap (λ z. max (length (rank_at p z).folds) (folds_of g)) e
        ∙ ap (λ z. max z (folds_of g)) (w.folds r lo hi) ∙ ap (λ b. max (plan_folds net gs r) (cond b (folds_of g) 0)) (sym (is_here r e)) ∙ sym (most r)
    folds r lo hi (no ne) =
        ap (λ z. length z.folds) (off r lo ne) ∙ w.folds r lo hi ∙ (let k : plan_folds net gs r ≡ max (plan_folds net gs r) 0 = omega arith in k)
        ∙ ap (λ b. max (plan_folds net gs r) (cond b (folds_of g) 0)) (sym (is_off r ne)) ∙ sym (most r)
