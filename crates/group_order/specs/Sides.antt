-- The netlists of a pairing in the form that the orders need, and lists that are completed.
use Rattle.std.specs.Prelude.{ℕ, ◌+◌, List, [], ◌∷◌, ◌++◌, map, fold, length, replicate, slice_index, slice_set, Option, Some, None}
use Rattle.std.specs.Borrow.{Bor}
use Rattle.net_bench.specs.Circuit.{Net, circuit, variables_of}
use Rattle.net_order.specs.Force.{numbers_below}
use Rattle.net_order.specs.Index.{rising}
use Rattle.net_order.specs.Order.{NamingModel, level_in}
use Rattle.net_order.specs.declared.netlist_role.NetlistRole.{NetlistRole}
use Rattle.net_order.specs.declared.netlist_role.NetlistRole.TheVariants.{First, Second, Given}

-- A netlist, for each signal the variable that it is, and the places of its gates by rising rank, those of equal rank as written.
pub record IndexedNetlistModel : Type 0 where
  pub net : Net
  pub variables : List (Option ℕ)
  pub by_rank : List ℕ

-- For each signal the variable that it is; None for a gate.
unfoldable pub variables_by_signal : (ℕ → ℕ) → Net → List (Option ℕ)
variables_by_signal level n = fold (λ t s. slice_set t s (Some (level s))) (replicate (length n.names) None) (variables_of (circuit n))

-- The rank of each gate, in the order of the text.
abbrev pub gate_ranks : Net → List ℕ
gate_ranks n = map (λ g. slice_index n.ranks g.out) n.gates

-- The places of the gates by rising rank, those of equal rank in the order of the text.
unfoldable pub gates_by_rank : Net → List ℕ
gates_by_rank n = rising (slice_index (gate_ranks n)) (numbers_below (length (gate_ranks n)))

-- A netlist with its tables.
abbrev pub side_of : NetlistRole → NamingModel → Net → IndexedNetlistModel
side_of kind p n = record { net = n; variables = variables_by_signal (level_in p kind) n; by_rank = gates_by_rank n }

-- The side of a condition, if there is one.
abbrev pub conditional_side : NamingModel → Option (Bor Net) → List IndexedNetlistModel
conditional_side p None = []
conditional_side p (Some n) = side_of Given p n.now ∷ []

-- The two netlists that are compared.
abbrev pub compared_sides : NamingModel → Net → Net → List IndexedNetlistModel
compared_sides p a b = side_of First p a ∷ side_of Second p b ∷ []

-- The two netlists that are compared, and a condition.
abbrev pub all_sides : NamingModel → Net → Net → Option (Bor Net) → List IndexedNetlistModel
all_sides p a b given = compared_sides p a b ++ conditional_side p given

-- For each label the first place at which a number with this label is, counted from k. The first list has the labels of numbers.
abbrev pub first_places : (labels table : List ℕ) → ℕ → List ℕ → List ℕ
first_places labels table k [] = table
first_places labels table k (v ∷ vs) = slice_set (first_places labels table (k + 1) vs) (slice_index labels v) k

-- All numbers below n: those of the list in its order, then the others by rising number.
unfoldable pub completed : ℕ → List ℕ → List ℕ
completed n vs = rising (slice_index (first_places (numbers_below n) (replicate (length (numbers_below n)) (length vs)) 0 vs)) (numbers_below n)
