-- The plan of a netlist: the copies and the steps of its gates, by rank and fold number.
use Rattle.std.specs.Prelude.{◌≡◌, ℕ, ◌+◌, ◌-◌, ◌<◌, ◌≤◌, ◌==◌, cond, List, [], ◌∷◌, ◌++◌, map, flat_map, length, Option, Some, None, max}
use Rattle.std.specs.Prelude.{nat_lt, slice_index, slice_index_or}
use Rattle.std.specs.Option.{option_map_or}
use Rattle.net_bench.specs.declared.netlist.Kind.{Kind}
use Rattle.net_bench.specs.declared.netlist.Kind.TheVariants.{And, Nand, Or, Nor, Xor, Xnor, Not, Buff, Dff}
use Rattle.net_bench.specs.declared.netlist.GateLine.{GateLine}
use Rattle.net_bench.specs.Circuit.{Net, IsNet, greatest, rank_of}
use Rattle.net_bench.specs.Labels.{is_complemented}
use Rattle.req_table.specs.declared.Op.{Op}
use Rattle.req_table.specs.declared.Op.TheVariants as ops
use Rattle.gate_plan.specs.declared.steps.Step.{Step}
use Rattle.gate_plan.specs.declared.steps.CopyStep.{CopyStep}

-- the operation that a gate folds with
abbrev pub plain_op : Kind → Op
plain_op And = ops.And
plain_op Nand = ops.And
plain_op Not = ops.And
plain_op Buff = ops.And
plain_op Dff = ops.And
plain_op Or = ops.Or
plain_op Nor = ops.Or
plain_op Xor = ops.Xor
plain_op Xnor = ops.Xor

-- the operation of its last step
abbrev pub last_op : Kind → Op
last_op And = ops.And
last_op Nand = ops.Nand
last_op Not = ops.Nand
last_op Buff = ops.And
last_op Dff = ops.And
last_op Or = ops.Or
last_op Nor = ops.Nor
last_op Xor = ops.Xor
last_op Xnor = ops.Xnor

-- the operation that has operand i (from 0) of k as its second operand
abbrev pub op_at : Kind → ℕ → ℕ → Op
op_at kind k i = cond (i + 1 == k) (last_op kind) (plain_op kind)

abbrev pub operand_at : GateLine → ℕ → ℕ
operand_at g i = slice_index g.operands i

-- the copy that a gate of one operand is
abbrev pub copy_of : GateLine → Option CopyStep
copy_of g = cond (length g.operands == 1) (Some (record { out = g.out; of = operand_at g 0; complement = is_complemented g.kind })) None

-- the number of steps of a gate's fold
abbrev pub folds_of : GateLine → ℕ
folds_of g = length g.operands - 1

-- the step that has operand j + 1 as its second operand
abbrev pub step_at : GateLine → ℕ → Step
step_at g j = record {
  out = g.out;
  op = op_at g.kind (length g.operands) (j + 1);
  first = cond (j == 0)
      (Some (operand_at g 0)) None;
  second = operand_at g (j + 1);
}

-- step j of a gate's fold, if it has one
abbrev pub step_of : GateLine → ℕ → Option Step
step_of g j = cond (nat_lt j (folds_of g)) (Some (step_at g j)) None

abbrev pub copies_of : GateLine → List CopyStep
copies_of g = option_map_or (λ c. c ∷ []) (copy_of g) []

abbrev pub steps_of : GateLine → ℕ → List Step
steps_of g j = option_map_or (λ s. s ∷ []) (step_of g j) []

-- the copies of a rank, in the order of the text
abbrev pub plan_copies : Net → List GateLine → ℕ → List CopyStep
plan_copies net gates r = flat_map (λ g. cond (rank_of net g == r) (copies_of g) []) gates

-- the steps of a rank and a fold number, in the order of the text
abbrev pub plan_steps : Net → List GateLine → ℕ → ℕ → List Step
plan_steps net gates r j = flat_map (λ g. cond (rank_of net g == r) (steps_of g j) []) gates

-- the greatest number of folds of a gate of the rank
abbrev pub plan_folds : Net → List GateLine → ℕ → ℕ
plan_folds net gates r = greatest (map (λ g. cond (rank_of net g == r) (folds_of g) 0) gates)

-- the copies of one rank, and its steps by fold number
pub record RankSteps : Type 0 where
  pub copies : List CopyStep
  pub folds : List (List Step)

abbrev pub no_steps : RankSteps
no_steps = record { copies = []; folds = [] }

-- the list of a fold number, empty if there is none
abbrev pub fold_at : List (List Step) → ℕ → List Step
fold_at folds j = slice_index_or folds j []

-- ranks begin with 1
abbrev pub rank_at : List RankSteps → ℕ → RankSteps
rank_at p r = slice_index_or p (r - 1) no_steps

abbrev pub steps_at : List RankSteps → ℕ → ℕ → List Step
steps_at p r j = fold_at (rank_at p r).folds j

-- p has the copies and steps of these gates, by their ranks
pub record Plans (net : Net) (gates : List GateLine) (p : List RankSteps) : Type 0 where
  pub copies : (r : ℕ) → 0 < r → r ≤ length p → (rank_at p r).copies ≡ plan_copies net gates r
  pub folds : (r : ℕ) → 0 < r → r ≤ length p → length (rank_at p r).folds ≡ plan_folds net gates r
  pub steps : (r j : ℕ) → 0 < r → r ≤ length p → steps_at p r j ≡ plan_steps net gates r j

-- p has the copies and the steps of all gates of a netlist that was read
pub record IsPlan (net : Net) (p : List RankSteps) : Type 0 where
  pub sound : IsNet net
  pub ranks : length p ≡ greatest (map (rank_of net) net.gates)
  pub gates : Plans net net.gates p

-- one more item is at the end of the list at a place
pub record AddsAt {X : Type 0} (old : List (List X)) (place : ℕ) (item : X) (new : List (List X)) : Type 0 where
  pub count : length new ≡ max (length old) (place + 1)
  pub lists : (j : ℕ) → slice_index_or new j [] ≡ slice_index_or old j [] ++ cond (j == place) (item ∷ []) []

-- the steps of one more gate are at the ends of the lists by fold number
pub record AddsSteps (old : List (List Step)) (g : GateLine) (new : List (List Step)) : Type 0 where
  pub folds : length new ≡ max (length old) (folds_of g)
  pub steps : (j : ℕ) → fold_at new j ≡ fold_at old j ++ steps_of g j

-- the copy or the steps of one more gate are at the ends of the lists
pub record AddsGate (old : RankSteps) (g : GateLine) (new : RankSteps) : Type 0 where
  pub copies : new.copies ≡ old.copies ++ copies_of g
  pub steps : AddsSteps old.folds g new.folds
