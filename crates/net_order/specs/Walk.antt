-- A depth-first walk below the outputs with a stack: what is true between its steps.
use Rattle.std.specs.Prelude.{◌≡◌, ◌==◌, ◌+◌, ◌<◌, ℕ, zero, suc, Bool, true, false, if◌then◌else◌, List, [], ◌∷◌, ◌++◌, fold, find}
use Rattle.std.specs.Prelude.{flat_map, map, length, slice_index_or, Some, All}
use Rattle.std.specs.List.{sum_by}
use Rattle.net_bench.specs.declared.netlist.GateLine.{GateLine}
use Rattle.net_bench.specs.Circuit.{Circuit, Net, IsNet, circuit}
use Rattle.net_order.specs.declared.walk.Frame.{Frame}
use Rattle.net_order.specs.declared.walk.Frame.TheVariants.{Enter, Leave}
use Rattle.net_order.specs.declared.walk.OperandOrder.{OperandOrder}
use Rattle.net_order.specs.Order.{is_member, is_variable, with_number, in_walk_order, walk_operands, below}

-- What is in the first list is in the second.
abbrev pub IsSubset : List ℕ → List ℕ → Type 0
IsSubset xs ys = (x : ℕ) → is_member x xs ≡ true → is_member x ys ≡ true

-- The leaves of a frame: those below a signal to enter; none for a gate to leave.
abbrev pub frame_leaves : (ℕ → List ℕ) → Frame → List ℕ
frame_leaves leaves (Enter s) = leaves s
frame_leaves leaves (Leave s) = []

-- The leaves that are still to come, from the top of the stack.
abbrev pub pending : (ℕ → List ℕ) → List Frame → List ℕ
pending leaves todo = flat_map (frame_leaves leaves) todo

-- The signal that a frame is about.
abbrev pub signal_of : Frame → ℕ
signal_of (Enter s) = s
signal_of (Leave s) = s

-- When a signal is left, its leaves have been found: they are among those found before and those of the frames above it.
abbrev pub LeftAreFound : (ℕ → List ℕ) → List Frame → List ℕ → Type 0
LeftAreFound leaves [] before = Unit {0}
LeftAreFound leaves (Enter s ∷ todo) before = LeftAreFound leaves todo (before ++ leaves s)
LeftAreFound leaves (Leave s ∷ todo) before = IsSubset (leaves s) before × LeftAreFound leaves todo before

-- The stack with signals to enter on top, of which the first comes first.
abbrev pub entered : List ℕ → List Frame → List Frame
entered [] todo = todo
entered (o ∷ os) todo = Enter o ∷ entered os todo

-- Between two steps of a walk that is to find `goal`: what has been found, the flags of the signals that are done, and
-- the stack from its top. The first argument gives the leaves below a signal, the second is the number of signals.
pub record IsWalkState (leaves : ℕ → List ℕ) (count : ℕ) (goal found : List ℕ) (seen : List Bool) (todo : List Frame) : Type 0 where
  pub len : length seen ≡ count
  pub reaches_goal : fold with_number found (pending leaves todo) ≡ goal
  pub visited : (s : ℕ) → s < count → slice_index_or seen s false ≡ true → IsSubset (leaves s) found
  pub kept : (s : ℕ) → s < count → is_member s found ≡ true → slice_index_or seen s false ≡ true
  pub left_are_found : LeftAreFound leaves todo found
  pub in_bounds : All (λ f. signal_of f < count) todo

-- What will have been found when the stack is empty.
abbrev pub outcome : OperandOrder → Circuit → List ℕ → List Frame → List ℕ
outcome operand_order c found todo = fold with_number found (pending (below operand_order c) todo)

-- Between two steps of a walk that is to find `goal` in a netlist.
abbrev pub IsWalk : OperandOrder → Circuit → List ℕ → List ℕ → List Bool → List Frame → Type 0
IsWalk operand_order c goal found seen todo = IsWalkState (below operand_order c) (length c.names) goal found seen todo

-- Between two walks the stack is empty.
abbrev pub IsBetweenWalks : OperandOrder → Circuit → List ℕ → List Bool → Type 0
IsBetweenWalks operand_order c found seen = IsWalk operand_order c found found seen []

-- The number of steps of a walk below a signal, if nothing below it has been seen: one for a variable, and for a gate
-- two besides those of its operands. The first number bounds the depth.
abbrev pub steps_within : OperandOrder → Circuit → ℕ → ℕ → ℕ
steps_within operand_order c zero s = if is_variable c s then 1 else 2
steps_within operand_order c (suc depth) s = if is_variable c s then 1 else sum_by (steps_within operand_order c depth) (walk_operands operand_order c s) + 2

-- The most steps of a walk below a signal.
abbrev pub steps_below : OperandOrder → Circuit → ℕ → ℕ
steps_below operand_order c s = steps_within operand_order c (length c.gates) s

-- The most steps for a frame, if the first argument gives those below a signal.
abbrev pub frame_steps : (ℕ → ℕ) → Frame → ℕ
frame_steps steps (Enter s) = steps s
frame_steps steps (Leave s) = 1

-- The most steps for all frames of the stack.
abbrev pub steps_left : OperandOrder → Circuit → List Frame → ℕ
steps_left operand_order c todo = sum_by (frame_steps (steps_below operand_order c)) todo

-- Between two steps of a walk that is to find what the stack leads to.
abbrev pub IsWalkToOutcome : OperandOrder → Circuit → List ℕ → List Bool → List Frame → Type 0
IsWalkToOutcome operand_order c found seen todo = IsWalk operand_order c (outcome operand_order c found todo) found seen todo

-- These are the operands of the signal's gate in the order in which a walk takes them.
pub record IsStepsOf (operand_order : OperandOrder) (c : Circuit) (s : ℕ) (steps : List ℕ) : Type 0 where
  pub gate : GateLine
  pub found : find (λ g. g.out == s) c.gates ≡ Some gate
  pub is : steps ≡ in_walk_order operand_order c gate.operands

-- The operands of each gate are kept in the order in which walks take them.
pub record AreOrderedOperands (operand_order : OperandOrder) (n : Net) (steps : List (List ℕ)) : Type 0 where
  pub sound : IsNet n
  pub each : steps ≡ map (λ g. in_walk_order operand_order (circuit n) g.operands) n.gates
