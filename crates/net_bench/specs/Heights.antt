-- Heights: what is known of the ranks while they are computed. A signal's height is 1 more than its rank, or 0 if that is not known.
use Rattle.std.specs.Prelude.{◌≡◌, ◌≢◌, ◌⊎◌, ℕ, zero, suc, ◌+◌, ◌-◌, ◌<◌, ◌≤◌, Bool, true, false, ◌&&◌, ◌||◌, ◌==◌, nat_lt, nat_le}
use Rattle.std.specs.Prelude.{if◌then◌else◌, IsTrue, List, [], ◌∷◌, map, length, take, Option, Some, None, Contains, slice_get}
use Rattle.std.specs.Prelude.{slice_index, slice_index_or, All}
use Rattle.net_bench.specs.declared.netlist.GateLine.{GateLine}
use Rattle.net_bench.specs.declared.netlist.Role.{Role}
use Rattle.net_bench.specs.declared.netlist.Role.TheVariants.{Undefined as undefined, Input as input, Gate as gate, Register as register}
use Rattle.net_bench.specs.declared.walk.WaitingGate.{WaitingGate}
use Rattle.net_bench.specs.declared.symbols.Symbol.{Symbol}
use Rattle.net_bench.specs.Circuit.{greatest}

-- the place of the gate that a symbol has as its role
abbrev pub place_by : Role → Option ℕ
place_by undefined = None
place_by input = None
place_by (gate p) = Some p
place_by (register p) = None

abbrev pub gate_place : Option Symbol → Option ℕ
gate_place None = None
gate_place (Some s) = place_by s.role

-- the signal has a height
abbrev pub is_ranked : List ℕ → ℕ → Bool
is_ranked heights s = nat_lt 0 (slice_index heights s)

-- each of the signals has a height
abbrev pub all_ranked : List ℕ → List ℕ → Bool
all_ranked heights [] = true
all_ranked heights (s ∷ ss) = is_ranked heights s && all_ranked heights ss

-- the larger of two numbers
abbrev pub larger : ℕ → ℕ → ℕ
larger x y = if nat_le x y then y else x

-- how many signals have no height
abbrev pub unranked : List ℕ → ℕ
unranked [] = 0
unranked (m ∷ ms) = if m == 0 then unranked ms + 1 else unranked ms

-- the gate has a height, and it is the right one
abbrev pub IsRanked : List ℕ → GateLine → Type 0
IsRanked heights g = IsTrue (all_ranked heights g.operands)
    × (slice_index heights g.out ≡ greatest (map (slice_index heights) g.operands) + 1)

-- the heights that there are, are right; and with k signals that have none, no height is greater than the number of all less k
pub record AreHeights (gates : List GateLine) (heights : List ℕ) : Type 0 where
  pub right : All (λ g. 0 < slice_index heights g.out → IsRanked heights g) gates
  pub low : (s : ℕ) → slice_index heights s + unranked heights ≤ length heights

-- no two gates have one output
abbrev pub HasOneGateEach : List GateLine → Type 0
HasOneGateEach gates = (i j : ℕ) (d : GateLine) → i < j → j < length gates → (slice_index_or gates i d).out ≢ (slice_index_or gates j d).out

-- if a gate has no height, one of its operands has none
abbrev pub HasHeightIfOperandsHave : List ℕ → GateLine → Type 0
HasHeightIfOperandsHave heights g = slice_index heights g.out ≡ 0 → all_ranked heights g.operands ≡ false

-- the line of the first gate without a height
abbrev pub unranked_line : List ℕ → List GateLine → Option ℕ
unranked_line heights [] = None
unranked_line heights (g ∷ gs) = if is_ranked heights g.out then unranked_line heights gs else Some g.line

-- ---- a depth-first walk over the gates, with a stack

-- the operands of the gate at a place, and its signal; none and 0 if there is no such gate
abbrev pub operands_at : List GateLine → ℕ → List ℕ
operands_at [] p = []
operands_at (g ∷ gates) zero = g.operands
operands_at (g ∷ gates) (suc p) = operands_at gates p

abbrev pub out_at : List GateLine → ℕ → ℕ
out_at [] p = 0
out_at (g ∷ gates) zero = g.out
out_at (g ∷ gates) (suc p) = out_at gates p

-- the signal has a gate, at the place that its symbol says
abbrev pub IsDriven : List GateLine → List Symbol → ℕ → Type 0
IsDriven gates symbols s = (p : ℕ) × (gate_place (slice_get symbols s) ≡ Some p) × (p < length gates) × (out_at gates p ≡ s)

-- the signal's gate has this operand
abbrev pub IsBelow : List GateLine → ℕ → ℕ → Type 0
IsBelow gates operand s = (g : GateLine) × Contains gates g × (g.out ≡ s) × Contains g.operands operand

-- no right heights give the signal one, so it depends on a cycle
abbrev pub NeverHasHeight : List GateLine → ℕ → Type 0
NeverHasHeight gates s = (heights : List ℕ) → AreHeights gates heights → slice_index heights s ≡ 0

-- the gate at this place has a height, or can never have one
abbrev pub HasHeightOrNeverWill : List GateLine → List ℕ → ℕ → Type 0
HasHeightOrNeverWill gates heights p = (0 < slice_index heights (out_at gates p)) ⊎ NeverHasHeight gates (out_at gates p)

-- the gate is one of the gates, and the operands that it has passed have heights
abbrev pub IsFrame : List GateLine → List ℕ → WaitingGate → Type 0
IsFrame gates heights f = (f.place < length gates) × (f.passed ≤ length (operands_at gates f.place))
    × (all_ranked heights (take f.passed (operands_at gates f.place)) ≡ true)

-- the gate that is next on the stack waits for this one
abbrev pub IsWaitedFor : List GateLine → WaitingGate → List WaitingGate → Type 0
IsWaitedFor gates f [] = Unit {0}
IsWaitedFor gates f (u ∷ fs) = IsBelow gates (out_at gates f.place) (out_at gates u.place)

-- the gates on the stack, each waiting for the one before it in the list
abbrev pub AreWaiting : List GateLine → List ℕ → List WaitingGate → Type 0
AreWaiting gates heights [] = Unit {0}
AreWaiting gates heights (f ∷ fs) = IsFrame gates heights f × IsWaitedFor gates f fs × AreWaiting gates heights fs

-- whether the gate at this place is on the stack
abbrev pub is_waiting : ℕ → List WaitingGate → Bool
is_waiting p [] = false
is_waiting p (f ∷ fs) = (f.place == p) || is_waiting p fs

-- Between two steps of the walk: each gate that was begun and is not on the stack has a height, or can never have one.
-- The list of waiting gates begins with the top of the stack.
pub record IsRanking (gates : List GateLine) (heights : List ℕ) (begun : List Bool) (waiting : List WaitingGate) : Type 0 where
  pub sound : AreHeights gates heights
  pub len : length begun ≡ length gates
  pub chain : AreWaiting gates heights waiting
  pub left : (p : ℕ) → p < length gates → slice_index_or begun p false ≡ true → is_waiting p waiting ≡ false → HasHeightOrNeverWill gates heights p

-- how many steps are left, which shows that the walk ends: for each gate that is not begun two and one for each
-- operand, and for each gate on the stack one and one for each operand that it has not passed
abbrev pub unbegun : List GateLine → List Bool → ℕ
unbegun [] begun = 0
unbegun (g ∷ gates) [] = 0
unbegun (g ∷ gates) (b ∷ begun) = (if b then 0 else length g.operands + 2) + unbegun gates begun

abbrev pub waiting_steps : List GateLine → List WaitingGate → ℕ
waiting_steps gates [] = 0
waiting_steps gates (f ∷ fs) = (length (operands_at gates f.place) - f.passed) + 1 + waiting_steps gates fs

abbrev pub steps_left : List GateLine → List Bool → List WaitingGate → ℕ
steps_left gates begun waiting = unbegun gates begun + waiting_steps gates waiting
