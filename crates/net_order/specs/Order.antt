-- The orders of the variables of two netlists and a condition, and the pairing of the netlists.
use Rattle.std.specs.Prelude.{◌≡◌, ◌<◌, ◌≤◌, ℕ, zero, suc, ◌+◌, ◌==◌, Bool, not, ◌&&◌, if◌then◌else◌, List, [], ◌∷◌, ◌++◌, map, filter}
use Rattle.std.specs.Prelude.{fold, length, flat_map, find, zip, unwrap_or, Option, Some, None, IfSome, nat_lt, nat_le, slice_index, All}
use Rattle.std.specs.List.{list_any, slice_index_or}
use Rattle.std.specs.Borrow.{Bor}
use Rattle.net_bench.specs.declared.netlist.GateLine.{GateLine}
use Rattle.net_bench.specs.Circuit.{Circuit, Net, circuit, is_name_in, distinct, greatest, find as number, variables_of}
use Rattle.net_order.specs.declared.netlist_role.NetlistRole.{NetlistRole}
use Rattle.net_order.specs.declared.netlist_role.NetlistRole.TheVariants.{First, Second, Given}
use Rattle.net_names.specs.declared.order.Match.{Match}
use Rattle.net_names.specs.declared.order.Match.TheVariants.{Name, Position}
use Rattle.net_names.specs.declared.order.Order.{Order}
use Rattle.net_names.specs.declared.order.Order.TheVariants.{Declared, Depth, Interleave, Index, Force, Listed, Extended}
use Rattle.net_names.specs.declared.order.OrderFault.{OrderFault}
use Rattle.net_names.specs.declared.order.OrderFault.TheVariants.{CountsDiffer, NotAPermutation, TooManyInputs, OutOfMemory, BadName}
use Rattle.net_names.specs.declared.order.OrderFault.TheVariants.{TooLong, Read}
use Rattle.net_order.specs.Force.{Hypergraph, force_order, graph_without_gates, variables_reversed, with_gates}
use Rattle.net_order.specs.Index.{index_key, rising}
use Rattle.net_order.specs.declared.walk.OperandOrder.{OperandOrder}
use Rattle.net_order.specs.declared.walk.OperandOrder.TheVariants.{Written, ByRank}

-- The name of a signal.
abbrev pub name_of : Circuit → ℕ → List ℕ
name_of c s = slice_index_or c.names s []

-- The names of signals, in their order.
abbrev pub names_of : Circuit → List ℕ → List (List ℕ)
names_of c ss = map (name_of c) ss

-- The registers' signals, in their order.
abbrev pub registers_of : Circuit → List ℕ
registers_of c = map (λ g. g.out) c.registers

-- Whether the number is in the list.
abbrev pub is_member : ℕ → List ℕ → Bool
is_member s ss = list_any (λ t. t == s) ss

-- ---- walks below the outputs and the next states

-- Whether a signal is a variable of its netlist, an input or a register. A walk goes no further below it.
abbrev pub is_variable : Circuit → ℕ → Bool
is_variable c s = is_member s (variables_of c)

-- The operands of a gate that was looked for; none if there is no such gate.
abbrev pub gate_operands : Option GateLine → List ℕ
gate_operands None = []
gate_operands (Some g) = g.operands

-- The operands of the signal's gate; none for an input or register.
abbrev pub operands_of : Circuit → ℕ → List ℕ
operands_of c s = gate_operands (find (λ g. g.out == s) c.gates)

-- The rank of a signal: 0 for a variable; for a gate, 1 more than the greatest rank of its operands. The first number bounds the depth.
abbrev pub rank_within : Circuit → ℕ → ℕ → ℕ
rank_within c zero s = if is_variable c s then 0 else 1
rank_within c (suc depth) s = if is_variable c s then 0 else greatest (map (rank_within c depth) (operands_of c s)) + 1

-- The rank of a signal. As a bound for the depth, the number of gates is enough: no chain of operands is longer.
abbrev pub rank_of : Circuit → ℕ → ℕ
rank_of c s = rank_within c (length c.gates) s

-- The signal inserted before the first one of the list whose rank is not greater.
abbrev pub put_by_rank : (ℕ → ℕ) → ℕ → List ℕ → List ℕ
put_by_rank rank s [] = s ∷ []
put_by_rank rank s (t ∷ ts) = if nat_le (rank t) (rank s) then s ∷ t ∷ ts else t ∷ put_by_rank rank s ts

-- The signals by falling rank, those of equal rank from left to right.
abbrev pub falling : (ℕ → ℕ) → List ℕ → List ℕ
falling rank [] = []
falling rank (s ∷ ss) = put_by_rank rank s (falling rank ss)

-- Operands in the order in which a walk takes them: from left to right as they are written, or by falling rank.
abbrev pub in_walk_order : OperandOrder → Circuit → List ℕ → List ℕ
in_walk_order Written c os = os
in_walk_order ByRank c os = falling (rank_of c) os

-- The operands of the signal's gate in the order in which a walk takes them; none for an input or register.
abbrev pub walk_operands : OperandOrder → Circuit → ℕ → List ℕ
walk_operands operand_order c s = in_walk_order operand_order c (operands_of c s)

-- The variables below a signal, as often as a walk meets them that opens gates again. The first number bounds the depth.
abbrev pub leaves : OperandOrder → Circuit → ℕ → ℕ → List ℕ
leaves operand_order c zero s = if is_variable c s then s ∷ [] else []
leaves operand_order c (suc depth) s = if is_variable c s then s ∷ [] else flat_map (leaves operand_order c depth) (walk_operands operand_order c s)

-- The variables below a signal. As a bound for the depth, the number of gates is enough.
abbrev pub below : OperandOrder → Circuit → ℕ → List ℕ
below operand_order c s = leaves operand_order c (length c.gates) s

-- The list with the number at its end, unless it has it already.
abbrev pub with_number : List ℕ → ℕ → List ℕ
with_number ss s = if is_member s ss then ss else ss ++ s ∷ []

-- The variables below one signal, each where a walk first meets it.
abbrev pub met_below : OperandOrder → Circuit → ℕ → List ℕ
met_below operand_order c s = fold with_number [] (below operand_order c s)

-- The roots of a netlist: its outputs, then the operands of its registers, which are their next states.
abbrev pub roots : Circuit → List ℕ
roots c = c.outputs ++ flat_map (λ g. g.operands) c.registers

-- The variables below all outputs and next states, each where it is met first, operands from left to right.
abbrev pub met : Circuit → List ℕ
met c = fold with_number [] (flat_map (below Written c) (roots c))

-- ---- variables

-- There are at most so many variables.
abbrev pub max_variables : ℕ
max_variables = 4096

-- The partner of s: the number of the second list at the first place at which the first list has s; 0 if there is none.
abbrev pub partner : List ℕ → List ℕ → ℕ → ℕ
partner [] ts s = 0
partner (x ∷ xs) [] s = 0
partner (x ∷ xs) (t ∷ ts) s = if x == s then t else partner xs ts s

-- The name in a pairing of an input or register of a netlist c: its own name; or by position the name of its partner in
-- a, as input i of both netlists is one variable, and register i is one.
abbrev pub name_by : Match → Circuit → Circuit → ℕ → List ℕ
name_by Name a c s = name_of c s
name_by Position a c s = name_of a (partner (variables_of c) (variables_of a) s)

-- A side of a pairing: a netlist, how its variables are matched, and the netlist that names them by position.
pub record NamedNetlistModel : Type 0 where
  pub how : Match
  pub name_source : Circuit
  pub net : Circuit

-- The name of a variable of one side.
abbrev pub named : NamedNetlistModel → ℕ → List ℕ
named side s = name_by side.how side.name_source side.net s

-- The names of variables of one side, in their order.
abbrev pub names_on : NamedNetlistModel → List ℕ → List (List ℕ)
names_on side ss = map (named side) ss

-- A netlist whose variables go by their own names.
abbrev pub own : Circuit → NamedNetlistModel
own c = record { how = Name; name_source = c; net = c }

-- The two netlists that are compared.
abbrev pub both : Match → Circuit → Circuit → List NamedNetlistModel
both how a b = own a ∷ record { how = how; name_source = a; net = b } ∷ []

-- The circuit of a condition, if there is one.
abbrev pub condition : Option (Bor Net) → Option Circuit
condition None = None
condition (Some net) = Some (circuit net.now)

-- The side of a condition, if there is one. Its variables go by their names, also by position.
abbrev pub given_side : Option Circuit → List NamedNetlistModel
given_side None = []
given_side (Some c) = own c ∷ []

-- The names of those variables of each side that the function gives, side after side.
abbrev pub names_of_sides : (Circuit → List ℕ) → List NamedNetlistModel → List (List ℕ)
names_of_sides which [] = []
names_of_sides which (side ∷ sides) = names_on side (which side.net) ++ names_of_sides which sides

-- The names of all variables of sides, with repetitions: the inputs of each, then the registers of each.
abbrev pub names_in : List NamedNetlistModel → List (List ℕ)
names_in sides = names_of_sides (λ c. c.inputs) sides ++ names_of_sides registers_of sides

-- The names of all variables, with repetitions: those of both netlists, and last those of the condition.
abbrev pub all_names : List NamedNetlistModel → List NamedNetlistModel → List (List ℕ)
all_names sides given = names_in sides ++ names_in given

-- The variables in declared order, each at its first place: those that only the condition has come after all others.
abbrev pub declared : List NamedNetlistModel → List NamedNetlistModel → List (List ℕ)
declared sides given = distinct (all_names sides given)

-- The variables in the order in which walks meet them below the outputs and next states of the first netlist, then of
-- the second; then the others, as declared.
abbrev pub by_depth : List NamedNetlistModel → List NamedNetlistModel → List (List ℕ)
by_depth sides given = distinct (names_of_sides met sides ++ all_names sides given)

-- The level of a variable: the place of its name in the order.
abbrev pub level_of : List (List ℕ) → List ℕ → ℕ
level_of names n = unwrap_or (number names n) 0

-- ---- interleaving: after Fujii, Ootomo and Hori, ICCAD 1993

-- The variable inserted right after the other one; at the front if there is none.
abbrev pub put_after : Option ℕ → ℕ → List ℕ → List ℕ
put_after None v order = v ∷ order
put_after (Some last) v [] = v ∷ []
put_after (Some last) v (x ∷ order) = if x == last then x ∷ v ∷ order else x ∷ put_after (Some last) v order

-- The order with a variable, which is inserted unless the order has it: right after the other one, or at the front.
abbrev pub with_variable : Option ℕ → ℕ → List ℕ → List ℕ
with_variable last v order = if is_member v order then order else put_after last v order

-- The variables that a walk meets, inserted into an order: a new variable goes right after the one that the walk met
-- before it, whether that was new or not; to the front if it is the first of the walk.
abbrev pub interleave_walk : List ℕ → Option ℕ → List ℕ → List ℕ
interleave_walk order last [] = order
interleave_walk order last (v ∷ vs) = interleave_walk (with_variable last v order) (Some v) vs

-- A netlist interleaved with an order: one walk below each output and next state. These, and the operands of each gate,
-- are taken by falling rank. The function gives a signal's variable.
abbrev pub interleave_below : Circuit → (ℕ → ℕ) → List ℕ → ℕ → List ℕ
interleave_below c variable order s = interleave_walk order None (map variable (met_below ByRank c s))

abbrev pub interleave_netlist : Circuit → (ℕ → ℕ) → List ℕ → List ℕ
interleave_netlist c variable order = fold (interleave_below c variable) order (falling (rank_of c) (roots c))

-- A side interleaved with an order. A variable's number is its place in declared order.
abbrev pub interleave_side : List (List ℕ) → List ℕ → NamedNetlistModel → List ℕ
interleave_side names order side = interleave_netlist side.net (λ s. level_of names (named side s)) order

-- The variables that walks meet, by number: the first netlist is interleaved with the empty order, then the second with the result.
abbrev pub interleaved_numbers : List (List ℕ) → List NamedNetlistModel → List ℕ
interleaved_numbers names sides = fold (interleave_side names) [] sides

-- The names of variables, by number.
abbrev pub numbered : List (List ℕ) → List ℕ → List (List ℕ)
numbered names vs = map (λ v. slice_index_or names v []) vs

-- The variables that walks meet, in interleaved order, then the others, as declared.
abbrev pub interleaved : List NamedNetlistModel → List NamedNetlistModel → List (List ℕ)
interleaved sides given = distinct (numbered (declared sides given) (interleaved_numbers (declared sides given) sides) ++ all_names sides given)

-- ---- by the numbers at the end of names

-- The variables by rising number at the end of their names. Those without a number come first, and equal numbers are as declared.
abbrev pub by_index : List NamedNetlistModel → List NamedNetlistModel → List (List ℕ)
by_index sides given = rising index_key (declared sides given)

-- ---- FORCE

-- The graph with the gates of one more side. The vertex of a variable is its level in these names.
abbrev pub with_side : List (List ℕ) → Hypergraph → NamedNetlistModel → Hypergraph
with_side names graph side = with_gates side.net (rank_of side.net) (λ s. level_of names (named side s)) graph

-- The graph of all netlists, whose first vertices are the variables of these names.
unfoldable pub graph_of : List (List ℕ) → List NamedNetlistModel → List NamedNetlistModel → Hypergraph
graph_of names sides given = fold (with_side names) (fold (with_side names) (graph_without_gates (length names)) sides) given

-- The numbers of the variables in the order of FORCE, from the last to the first.
unfoldable pub force_numbers : List (List ℕ) → List NamedNetlistModel → List NamedNetlistModel → List ℕ
force_numbers names sides given = variables_reversed (length names) (force_order (length names) (graph_of names sides given))

-- The variables in the order of FORCE, which begins with order `Index`, from the last to the first. FORCE has all
-- variables; if one were left out, it would follow as declared, which proofs need.
abbrev pub forced : List NamedNetlistModel → List NamedNetlistModel → List (List ℕ)
forced sides given = distinct (numbered (by_index sides given) (force_numbers (by_index sides given) sides given) ++ all_names sides given)

-- ---- a list that may have names that are no variables, and may lack variables

-- The names of the list that are variables, each at its first place, then the others, as declared.
abbrev pub extended : List NamedNetlistModel → List NamedNetlistModel → List (List ℕ) → List (List ℕ)
extended sides given names = distinct (filter (is_name_in (declared sides given)) names ++ all_names sides given)

-- ---- the orders

-- The names of the variables in this order, from level 0 on.
abbrev pub ordered : List NamedNetlistModel → List NamedNetlistModel → Order → List (List ℕ)
ordered sides given Declared = declared sides given
ordered sides given Depth = by_depth sides given
ordered sides given Interleave = interleaved sides given
ordered sides given Index = by_index sides given
ordered sides given Force = forced sides given
ordered sides given (Listed names) = names
ordered sides given (Extended names) = extended sides given names

-- ---- a list of names

-- The first place at which a name is no variable or came before, or one after the end if names are missing. The first
-- of these names is at the place that is given last.
abbrev pub bad_place : List (List ℕ) → List (List ℕ) → List (List ℕ) → ℕ → Option ℕ
bad_place variables before [] place = if nat_lt (length before) (length variables) then Some place else None
bad_place variables before (n ∷ ns) place =
    if is_name_in variables n && not (is_name_in before n) then bad_place variables (before ++ n ∷ []) ns (place + 1) else Some place

-- The list has each variable's name exactly once.
abbrev pub HasEachVariableOnce : List (List ℕ) → List (List ℕ) → Type 0
HasEachVariableOnce variables names = bad_place variables [] names 1 ≡ None

-- ---- what is compared

-- The signal, if it is one of these.
abbrev pub where_among : List ℕ → Option ℕ → Option ℕ
where_among ts None = None
where_among ts (Some t) = if is_member t ts then Some t else None

-- The signal of this name, if it is one of these.
abbrev pub signal_named : Circuit → List ℕ → List ℕ → Option ℕ
signal_named c ts n = where_among ts (number c.names n)

-- The pairs, with the pair of a signal and its partner before them if it has one.
abbrev pub with_pair : ℕ → Option ℕ → List (ℕ × ℕ) → List (ℕ × ℕ)
with_pair s None ps = ps
with_pair s (Some t) ps = (s, t) ∷ ps

-- By name: each of the signals with the one of the same name among these of the other netlist, if there is one.
abbrev pub pairs_by_name : Circuit → Circuit → List ℕ → List ℕ → List (ℕ × ℕ)
pairs_by_name a b ts [] = []
pairs_by_name a b ts (s ∷ ss) = with_pair s (signal_named b ts (name_of a s)) (pairs_by_name a b ts ss)

-- The pairs of these signals of two netlists. By position: signal i of both.
abbrev pub matched : Match → Circuit → Circuit → List ℕ → List ℕ → List (ℕ × ℕ)
matched Name a b ss ts = pairs_by_name a b ts ss
matched Position a b ss ts = zip ss ts

-- The signals, with one more before them if it has no partner.
abbrev pub without_pair : ℕ → Option ℕ → List ℕ → List ℕ
without_pair s None ss = s ∷ ss
without_pair s (Some t) ss = ss

-- The signals for whose names there is none among these of the other netlist.
abbrev pub unmatched : Circuit → Circuit → List ℕ → List ℕ → List ℕ
unmatched a b ts [] = []
unmatched a b ts (s ∷ ss) = without_pair s (signal_named b ts (name_of a s)) (unmatched a b ts ss)

-- The signals of one netlist that are in no pair.
abbrev pub only_in : Match → Circuit → Circuit → List ℕ → List ℕ → List ℕ
only_in Name a b ss ts = unmatched a b ts ss
only_in Position a b ss ts = []

-- Which signals of two netlists correspond: the pairs, in the first netlist's order, and those of either that are in none.
pub record CorrespondenceModel : Type 0 where
  pub pairs : List (ℕ × ℕ)
  pub only_first : List ℕ
  pub only_second : List ℕ

-- How these signals of the first netlist correspond to these of the second.
abbrev pub correspondence : Match → Circuit → Circuit → List ℕ → List ℕ → CorrespondenceModel
correspondence how a b ss ts = record {
  pairs = matched how a b ss ts;
  only_first = only_in how a b ss ts;
  only_second = only_in how b a ts ss;
}

-- ---- what is answered

-- By position both lists have the same length. By name any lengths will do.
abbrev pub HaveEqualLength : Match → List ℕ → List ℕ → Type 0
HaveEqualLength Name ss ts = Unit {0}
HaveEqualLength Position ss ts = length ss ≡ length ts

-- By position both netlists have equally many inputs, outputs and registers.
abbrev pub HaveEqualCounts : Match → Circuit → Circuit → Type 0
HaveEqualCounts how a b = HaveEqualLength how a.inputs b.inputs × HaveEqualLength how a.outputs b.outputs × HaveEqualLength how (registers_of a) (registers_of b)

-- If the order is a list of names, it has each variable exactly once.
abbrev pub IsFit : List (List ℕ) → Order → Type 0
IsFit variables Declared = Unit {0}
IsFit variables Depth = Unit {0}
IsFit variables Interleave = Unit {0}
IsFit variables Index = Unit {0}
IsFit variables Force = Unit {0}
IsFit variables (Listed names) = HasEachVariableOnce variables names
IsFit variables (Extended names) = Unit {0}

-- A naming, or a pairing, as its users see it: the variables by level; for each netlist and the condition the level of
-- each input or register, by signal; and which outputs and which registers are compared.
pub record NamingModel : Type 0 where
  pub names : List (List ℕ)
  pub first : List ℕ
  pub second : List ℕ
  pub given : List ℕ
  pub outputs : CorrespondenceModel
  pub registers : CorrespondenceModel

-- the level of an input or register of the first netlist
abbrev pub first_level : NamingModel → ℕ → ℕ
first_level p s = slice_index p.first s

-- the level of an input or register of the second netlist
abbrev pub second_level : NamingModel → ℕ → ℕ
second_level p s = slice_index p.second s

-- the level of an input or register of the condition
abbrev pub given_level : NamingModel → ℕ → ℕ
given_level p s = slice_index p.given s

-- the level of an input or register of one of the netlists
abbrev pub level_in : NamingModel → NetlistRole → ℕ → ℕ
level_in p First = first_level p
level_in p Second = second_level p
level_in p Given = given_level p

-- These are the levels of one side's variables, by signal, if the variables have this order.
abbrev pub HasLevels : List (List ℕ) → NamedNetlistModel → List ℕ → Type 0
HasLevels names side levels = All (λ s. slice_index levels s ≡ level_of names (named side s)) (variables_of side.net)

-- The names of the variables of a pairing in this order.
abbrev pub names_by : Match → Circuit → Circuit → Option Circuit → Order → List (List ℕ)
names_by how a b given order = ordered (both how a b) (given_side given) order

-- The variables of two netlists and a condition, in declared order.
abbrev pub variables_in : Match → Circuit → Circuit → Option Circuit → List (List ℕ)
variables_in how a b given = declared (both how a b) (given_side given)

-- This is the naming of two netlists, with a condition or without: its variables are in this order, each input or
-- register has its variable's level, and outputs correspond to outputs, registers to registers.
pub record IsNaming (how : Match) (a b : Circuit) (given : Option Circuit) (order : Order) (p : NamingModel) : Type 0 where
  pub counted : HaveEqualCounts how a b
  pub fit : IsFit (variables_in how a b given) order
  pub names : p.names ≡ names_by how a b given order
  pub first : HasLevels (names_by how a b given order) (own a) p.first
  pub second : HasLevels (names_by how a b given order) (record { how = how; name_source = a; net = b }) p.second
  pub conditional : IfSome given (λ c. HasLevels (names_by how a b given order) (own c) p.given)
  pub outputs : p.outputs ≡ correspondence how a b a.outputs b.outputs
  pub registers : p.registers ≡ correspondence how a b (registers_of a) (registers_of b)

-- This is the pairing of two netlists: their naming, if it has few enough variables.
pub record IsPairing (how : Match) (a b : Circuit) (given : Option Circuit) (order : Order) (p : NamingModel) : Type 0 where
  pub naming : IsNaming how a b given order p
  pub few : length (variables_in how a b given) ≤ max_variables

-- Why there is no pairing, each cause only if none comes before it. Want of memory is left out.
abbrev pub IsRefused : Match → Circuit → Circuit → Option Circuit → Order → OrderFault → Type 0
IsRefused how a b given order CountsDiffer = HaveEqualCounts how a b → ⊥
IsRefused how a b given order TooManyInputs = HaveEqualCounts how a b × (max_variables < length (variables_in how a b given))
IsRefused how a b given order (NotAPermutation place) =
    HaveEqualCounts how a b × (length (variables_in how a b given) ≤ max_variables) ×
    ((names : List (List ℕ)) × (order ≡ Listed names) × (bad_place (variables_in how a b given) [] names 1 ≡ Some place))
IsRefused how a b given order OutOfMemory = ⊥
IsRefused how a b given order (BadName line) = ⊥
IsRefused how a b given order TooLong = ⊥
IsRefused how a b given order Read = ⊥
