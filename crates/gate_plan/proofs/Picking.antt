-- Which steps and copies the lists of a plan have.
use Rattle.std.proofs.Common.{◌≡◌, ℕ, zero, suc, ◌+◌, ◌<◌, ◌≤◌, ◌==◌, ◌⊎◌, inl, inr, Bool, true, false, cond, List, [], ◌∷◌, ◌++◌, length, map, get_or, nat_lt, nat_le, Option, Some, None, refl, sym, ◌∙◌, ap, subst, arith, eq-eqb}
use Rattle.std.specs.Prelude.{flat_map, Contains, All, unwrap_or}
use Rattle.std.specs.Option.{option_map_or}
use Rattle.std.proofs.lemmas.List.Elements.{Contains-append_left, Contains-append_right, Contains-append_cases}
use Rattle.std.proofs.lemmas.Bool.{ne_eqb}
use Rattle.std.proofs.lemmas.Bool.Decides.{nat_tests}
use Rattle.std.proofs.lemmas.List.{get_or_default}
use Rattle.net_bench.specs.declared.netlist.GateLine.{GateLine}
use Rattle.net_bench.specs.Circuit.{Net, IsNet, greatest, rank_of}
use Rattle.net_bench.specs.Labels.{is_complemented}
use Rattle.gate_plan.specs.declared.steps.Step.{Step}
use Rattle.gate_plan.specs.declared.steps.CopyStep.{CopyStep}
use Rattle.gate_plan.specs.Plans.{RankSteps, IsPlan, step_of, step_at, copy_of, folds_of, operand_at, plan_steps, plan_copies, plan_folds}
use Rattle.gate_plan.specs.Building.{first_operand, IsStepBelow, IsCopyBelow}
use Rattle.gate_plan.proofs.Lists.{same_number, lt_or_le}
use Rattle.gate_plan.proofs.Ranks.{out_below, operand_below, some_operand}

pub all_of : {X : Type 0} (P : X → Type 0) (xs : List X) → ((x : X) → Contains xs x → P x) → All P xs
all_of P xs h k d lt = h (get_or xs k d) (k, lt, get_or_default xs k (get_or xs k d) d lt)

-- ---- lists of what gates of a rank have

-- what the gates of a rank have, in order
abbrev pub picks : {X : Type 0} → Net → ℕ → (GateLine → Option X) → List GateLine → List X
picks net r o gs = flat_map (λ g. cond (rank_of net g == r) (option_map_or (λ s. s ∷ []) (o g) []) []) gs

later : {X : Type 0} (y : X) (xs : List X) (x : X) → Contains xs x → Contains (y ∷ xs) x
later y xs x (k, lt, e) = (suc k, omega arith, e)

of_part : {X : Type 0} (b : Bool) (o : Option X) (x : X) → Contains (cond b (option_map_or (λ s. s ∷ []) o []) []) x → (b ≡ true) × (o ≡ Some x)
of_part true (Some y) x (zero, lt, e) = (refl, ap (λ z. Some z) e)
of_part true (Some y) x (suc k, lt, e) = absurd (omega arith)
of_part true None x (k, lt, e) = absurd (omega arith)
of_part false o x (k, lt, e) = absurd (omega arith)

to_part : {X : Type 0} (b : Bool) (o : Option X) (x : X) → b ≡ true → o ≡ Some x → Contains (cond b (option_map_or (λ s. s ∷ []) o []) []) x
to_part true (Some y) x e f = (0, omega arith, (let g : ◌≡◌ {A = Option _} (Some y) (Some x) = f in cc))
to_part true None x e f = absurd (cc)
to_part false o x e f = absurd (cc)

is_rank : (a b : ℕ) → (a == b) ≡ true → a ≡ b
is_rank a b e = grind (arith, nat_tests)

pub in_picks : {X : Type 0} (net : Net) (r : ℕ) (o : GateLine → Option X) (gs : List GateLine) (x : X) → Contains (picks net r o gs) x →
    (g : GateLine) × Contains gs g × (rank_of net g ≡ r) × (o g ≡ Some x)
in_picks net r o [] x (k, lt, e) = absurd (omega arith)
in_picks net r o (g ∷ gs) x c = by (in_picks net r o gs x) (Contains-append_cases (cond (rank_of net g == r) (option_map_or (λ s. s ∷ []) (o g) []) []) (picks net r o gs) x c)
  where
    by : (Contains (picks net r o gs) x → (k : GateLine) × Contains gs k × (rank_of net k ≡ r) × (o k ≡ Some x)) →
        Contains (cond (rank_of net g == r) (option_map_or (λ s. s ∷ []) (o g) []) []) x ⊎ Contains (picks net r o gs) x → (k : GateLine) × Contains (g ∷ gs) k × (rank_of net k ≡ r) × (o k ≡ Some x)
    by rest (inl a) = let p = of_part (rank_of net g == r) (o g) x a in (g, (0, omega arith, refl), is_rank (rank_of net g) r p.0, p.1)
    by rest (inr b) = let p = rest b in (p.0, later g gs p.0 p.1, p.2, p.3)

pub has_pick : {X : Type 0} (net : Net) (r : ℕ) (o : GateLine → Option X) (gs : List GateLine) (g : GateLine) (x : X) → Contains gs g → rank_of net g ≡ r → o g ≡ Some x → Contains (picks net r o gs) x
has_pick net r o [] g x (k, lt, e) a b = absurd (omega arith)
has_pick net r o (y ∷ gs) g x (zero, lt, e) a b =
    Contains-append_left (cond (rank_of net y == r) (option_map_or (λ s. s ∷ []) (o y) []) []) (picks net r o gs) x
    (to_part (rank_of net y == r) (o y) x (eq-eqb (rank_of net y) r (ap (rank_of net) e ∙ a)) (ap o e ∙ b))
has_pick net r o (y ∷ gs) g x (suc k, lt, e) a b =
    Contains-append_right (cond (rank_of net y == r) (option_map_or (λ s. s ∷ []) (o y) []) []) (picks net r o gs) x (has_pick net r o gs g x (k, omega arith, e) a b)

-- ---- after the last rank

head_low : (x : ℕ) (xs : List ℕ) → x ≤ greatest (x ∷ xs)
head_low x xs = grind (arith, nat_tests)

tail_low : (x : ℕ) (xs : List ℕ) → greatest xs ≤ greatest (x ∷ xs)
tail_low x xs = grind (arith, nat_tests)

pub no_picks : {X : Type 0} (net : Net) (r : ℕ) (o : GateLine → Option X) (gs : List GateLine) → greatest (map (rank_of net) gs) < r → picks net r o gs ≡ []
no_picks net r o [] lt = refl
no_picks net r o (g ∷ gs) lt =
    let hd : rank_of net g ≤ greatest (map (rank_of net) (g ∷ gs)) = head_low (rank_of net g) (map (rank_of net) gs) in
    let tl : greatest (map (rank_of net) gs) ≤ greatest (map (rank_of net) (g ∷ gs)) = tail_low (rank_of net g) (map (rank_of net) gs) in
    ap (λ b. cond b (option_map_or (λ s. s ∷ []) (o g) []) [] ++ picks net r o gs) (ne_eqb (rank_of net g) r (λ e. omega arith)) ∙ no_picks net r o gs (omega arith)

pub no_folds : (net : Net) (r : ℕ) (gs : List GateLine) → greatest (map (rank_of net) gs) < r → plan_folds net gs r ≡ 0
no_folds net r [] lt = refl
no_folds net r (g ∷ gs) lt =
    let hd : rank_of net g ≤ greatest (map (rank_of net) (g ∷ gs)) = head_low (rank_of net g) (map (rank_of net) gs) in
    let tl : greatest (map (rank_of net) gs) ≤ greatest (map (rank_of net) (g ∷ gs)) = tail_low (rank_of net g) (map (rank_of net) gs) in
    ap (λ b. greatest (cond b (folds_of g) 0 ∷ map (λ g. cond (rank_of net g == r) (folds_of g) 0) gs)) (ne_eqb (rank_of net g) r (λ e. omega arith))
    ∙ ap (λ n. cond (nat_le 0 n) n 0) (no_folds net r gs (omega arith))

-- there is no step after the last fold
pub no_late_steps : (net : Net) (r j : ℕ) (gs : List GateLine) → plan_folds net gs r ≤ j → plan_steps net gs r j ≡ []
no_late_steps net r j [] le = refl
no_late_steps net r j (g ∷ gs) le =
    let hd : cond (rank_of net g == r) (folds_of g) 0 ≤ plan_folds net (g ∷ gs) r = head_low (cond (rank_of net g == r) (folds_of g) 0) (map (λ g. cond (rank_of net g == r) (folds_of g) 0) gs) in
    let tl : plan_folds net gs r ≤ plan_folds net (g ∷ gs) r = tail_low (cond (rank_of net g == r) (folds_of g) 0) (map (λ g. cond (rank_of net g == r) (folds_of g) 0) gs) in
    ap (λ z. z ++ plan_steps net gs r j) (none (rank_of net g == r) (omega arith)) ∙ no_late_steps net r j gs (omega arith)
  where
    late : folds_of g ≤ j → nat_lt j (folds_of g) ≡ false
    late le = grind (arith, nat_tests)

    none : (b : Bool) → cond b (folds_of g) 0 ≤ j → cond b (option_map_or (λ s. s ∷ []) (step_of g j) []) [] ≡ []
    none false le = refl
    none true le = ap (λ b. option_map_or (λ (s : Step). s ∷ []) (cond b (Some (step_at g j)) None) []) (late le)

-- no gate of a rank has more folds than the rank
pub folds_within : (net : Net) (r : ℕ) (gs : List GateLine) (g : GateLine) → Contains gs g → rank_of net g ≡ r → folds_of g ≤ plan_folds net gs r
folds_within net r [] g (k, lt, e) a = absurd (omega arith)
folds_within net r (y ∷ gs) g (zero, lt, e) a =
    let hd : cond (rank_of net y == r) (folds_of y) 0 ≤ plan_folds net (y ∷ gs) r = head_low (cond (rank_of net y == r) (folds_of y) 0) (map (λ g. cond (rank_of net g == r) (folds_of g) 0) gs) in
    let at : cond (rank_of net y == r) (folds_of y) 0 ≡ folds_of g = ap (λ b. cond b (folds_of y) 0) (eq-eqb (rank_of net y) r (ap (rank_of net) e ∙ a)) ∙ ap folds_of e in
    omega arith
folds_within net r (y ∷ gs) g (suc k, lt, e) a =
    let tl : plan_folds net gs r ≤ plan_folds net (y ∷ gs) r = tail_low (cond (rank_of net y == r) (folds_of y) 0) (map (λ g. cond (rank_of net g == r) (folds_of g) 0) gs) in
    let ih : folds_of g ≤ plan_folds net gs r = folds_within net r gs g (k, omega arith, e) a in
    omega arith

-- ---- the step of a gate

pub step_is : (g : GateLine) (j : ℕ) (s : Step) → step_of g j ≡ Some s → (j < folds_of g) × (s ≡ step_at g j)
step_is g j s e = by (nat_lt j (folds_of g)) refl
  where
    by : (b : Bool) → nat_lt j (folds_of g) ≡ b → (j < folds_of g) × (s ≡ step_at g j)
    by true t = (grind (arith, nat_tests), (let f : Some (step_at g j) ≡ Some s = ap (λ b. cond b (Some (step_at g j)) None) (sym t) ∙ e in cc))
    by false t = absurd (let f : None ≡ Some s = ap (λ b. cond b (Some (step_at g j)) None) (sym t) ∙ e in cc)

pub has_step_of : (g : GateLine) (j : ℕ) → j < folds_of g → step_of g j ≡ Some (step_at g j)
has_step_of g j lt = ap (λ b. cond b (Some (step_at g j)) None) (let t : nat_lt j (folds_of g) ≡ true = grind (arith, nat_tests) in t)

pub no_step_of : (g : GateLine) (j : ℕ) → folds_of g ≤ j → step_of g j ≡ None
no_step_of g j le = ap (λ b. cond b (Some (step_at g j)) None) (let t : nat_lt j (folds_of g) ≡ false = grind (arith, nat_tests) in t)

-- the copy of a gate with one operand
abbrev pub copied_of : GateLine → CopyStep
copied_of g = record { out = g.out; of = operand_at g 0; complement = is_complemented g.kind }

pub copy_is : (g : GateLine) (c : CopyStep) → copy_of g ≡ Some c → (length g.operands ≡ 1) × (c ≡ copied_of g)
copy_is g c e = by (length g.operands == 1) refl
  where
    by : (b : Bool) → (length g.operands == 1) ≡ b → (length g.operands ≡ 1) × (c ≡ copied_of g)
    by true t = (is_rank (length g.operands) 1 t, (let f : Some (copied_of g) ≡ Some c = ap (λ b. cond b (Some (copied_of g)) None) (sym t) ∙ e in cc))
    by false t = absurd (let f : None ≡ Some c = ap (λ b. cond b (Some (copied_of g)) None) (sym t) ∙ e in cc)

pub is_copy : (g : GateLine) → length g.operands ≡ 1 → copy_of g ≡ Some (copied_of g)
is_copy g e = ap (λ b. cond b (Some (copied_of g)) None) (eq-eqb (length g.operands) 1 e)

pub among_operands : (g : GateLine) (i : ℕ) → i < length g.operands → Contains g.operands (operand_at g i)
among_operands g i lt = (i, lt, get_or_default g.operands i (operand_at g i) 0 lt)

-- ---- all within the netlist

module _ (net : Net) (h : IsNet net) where
  pub copies_below : (r : ℕ) → All (IsCopyBelow (length net.names)) (plan_copies net net.gates r)
  copies_below r = all_of (IsCopyBelow (length net.names)) (plan_copies net net.gates r) one
    where
      one : (c : CopyStep) → Contains (plan_copies net net.gates r) c → IsCopyBelow (length net.names) c
      one c among =
          let p = in_picks net r copy_of net.gates c among in
          let q = copy_is p.0 c p.3 in
          subst (IsCopyBelow (length net.names)) (sym q.1) (out_below net h p.0 p.1, operand_below net h p.0 (operand_at p.0 0) p.1 (among_operands p.0 0 (some_operand net h p.0 p.1)))

  step_below : (g : GateLine) (j : ℕ) → Contains net.gates g → j < folds_of g → IsStepBelow (length net.names) (step_at g j)
  step_below g j among lt = (out_below net h g among, first (same_number j 0), operand_below net h g (operand_at g (j + 1)) among (among_operands g (j + 1) (omega arith)))
    where
      first : Dec (j ≡ 0) → first_operand (step_at g j) < length net.names
      first (yes z) =
          subst (λ b. unwrap_or (cond b (Some (operand_at g 0)) None) g.out < length net.names) (sym (eq-eqb j 0 z))
          (operand_below net h g (operand_at g 0) among (among_operands g 0 (some_operand net h g among)))
      first (no nz) = subst (λ b. unwrap_or (cond b (Some (operand_at g 0)) None) g.out < length net.names) (sym (ne_eqb j 0 nz)) (out_below net h g among)

  pub steps_below : (r j : ℕ) → All (IsStepBelow (length net.names)) (plan_steps net net.gates r j)
  steps_below r j = all_of (IsStepBelow (length net.names)) (plan_steps net net.gates r j) one
    where
      one : (s : Step) → Contains (plan_steps net net.gates r j) s → IsStepBelow (length net.names) s
      one s among =
          let p = in_picks net r (λ g. step_of g j) net.gates s among in
          let q = step_is p.0 j s p.3 in
          subst (IsStepBelow (length net.names)) (sym q.1) (step_below p.0 j p.1 q.0)

-- a rank that has a fold is one of the plan's
pub planned_rank : (net : Net) (p : List RankSteps) (r j : ℕ) → IsPlan net p → j < plan_folds net net.gates r → r ≤ length p
planned_rank net p r j w lt = by (lt_or_le (length p) r)
  where
    by : (length p < r) ⊎ (r ≤ length p) → r ≤ length p
    by (inl past) = absurd (let e = w.ranks in let none : plan_folds net net.gates r ≡ 0 = no_folds net r net.gates (omega arith) in omega arith)
    by (inr le) = le
