-- Orders of small netlists, computed.
use Rattle.std.specs.Prelude.{◌≡◌, ℕ, List, [], ◌∷◌, codes, refl, map, Result, Ok, Err, Some, None}
use Rattle.net_bench.specs.declared.fault.BenchFault.{BenchFault}
use Rattle.net_bench.specs.Pieces.{pieces_in, tokens_in}
use Rattle.net_bench.specs.Statement.{Statement}
use Rattle.net_bench.specs.Circuit.{Circuit, circuit_of}
use Rattle.net_bench.specs.Judge.{judge, answer}
use Rattle.net_names.specs.declared.order.Match.TheVariants.{Name, Position}
use Rattle.net_order.specs.Order.{both, declared, extended, given_side, by_depth, bad_place, HasEachVariableOnce, matched, only_in, registers_of}
use Rattle.net_order.specs.declared.unfit.Misfit.TheVariants.{Foreign, Missing}
use Rattle.net_order.specs.Unfit.{unfit_from}

-- The circuit of the statements that are answered; without any if there is a fault.
abbrev read : Result (List Statement) BenchFault → Circuit
read (Ok ss) = circuit_of ss
read (Err f) = circuit_of []

-- The circuit of a text.
abbrev netlist : List ℕ → Circuit
netlist text = read (answer text)

-- The text of C17.
abbrev c17 : List ℕ
c17 = codes "INPUT(1)\nINPUT(2)\nINPUT(3)\nINPUT(6)\nINPUT(7)\nOUTPUT(22)\nOUTPUT(23)\n10 = NAND(1, 3)\n11 = NAND(3, 6)\n16 = NAND(2, 11)\n19 = NAND(11, 7)\n22 = NAND(10, 16)\n23 = NAND(16, 19)\n"

declared_c17 : declared (both Name (netlist c17) (netlist c17)) (given_side None) ≡ map (λ d. d ∷ []) (codes "12367")
unfolding tokens_in pieces_in judge
declared_c17 = refl

depth_c17 : by_depth (both Name (netlist c17) (netlist c17)) (given_side None) ≡ map (λ d. d ∷ []) (codes "13267")
unfolding tokens_in pieces_in judge
depth_c17 = refl

-- by name, inputs of one name are one variable; by position, the second's inputs are those of the first
joined : declared (both Name (netlist (codes "INPUT(a) OUTPUT(a)")) (netlist (codes "INPUT(x) OUTPUT(a) a = BUFF(x)")))
    (given_side None) ≡ map (λ d. d ∷ []) (codes "ax")
unfolding tokens_in pieces_in judge
joined = refl

across : declared (both Position (netlist (codes "INPUT(a) OUTPUT(a)")) (netlist (codes "INPUT(x) OUTPUT(a) a = BUFF(x)")))
    (given_side None) ≡ map (λ d. d ∷ []) (codes "a")
unfolding tokens_in pieces_in judge
across = refl

-- the second's inputs are met in its own order, under the first's names; a gate may come later in the text than its use
crossed : by_depth (both Position (netlist (codes "INPUT(a) INPUT(b) INPUT(c) OUTPUT(b)"))
    (netlist (codes "INPUT(x) INPUT(y) INPUT(z) OUTPUT(f) f = AND(g, y) g = NOT(z)"))) (given_side None) ≡ map (λ d. d ∷ []) (codes "bca")
unfolding tokens_in pieces_in judge
crossed = refl

-- the condition's variables go by their names, also by position; new ones come after all others
conditioned : declared (both Position (netlist (codes "INPUT(a) OUTPUT(a)")) (netlist (codes "INPUT(x) OUTPUT(a) a = BUFF(x)")))
    (given_side (Some (netlist (codes "q = DFF(a) INPUT(x) INPUT(a) OUTPUT(q)")))) ≡ map (λ d. d ∷ []) (codes "axq")
unfolding tokens_in pieces_in judge
conditioned = refl

conditioned_depth : by_depth (both Name (netlist (codes "INPUT(a) INPUT(b) OUTPUT(b)")) (netlist (codes "INPUT(a) OUTPUT(a)")))
    (given_side (Some (netlist (codes "INPUT(z) INPUT(a) OUTPUT(z)")))) ≡ map (λ d. d ∷ []) (codes "baz")
unfolding tokens_in pieces_in judge
conditioned_depth = refl

-- outputs that only one netlist has
abbrev two : Circuit
two = netlist (codes "INPUT(a) OUTPUT(a) OUTPUT(b) b = NOT(a)")

abbrev other : Circuit
other = netlist (codes "INPUT(a) OUTPUT(c) OUTPUT(a) c = NOT(a)")

without_partner : matched Name two other two.outputs other.outputs ≡ (0, 0) ∷ []
unfolding tokens_in pieces_in judge
without_partner = refl

first_without_partner : only_in Name two other two.outputs other.outputs ≡ 1 ∷ []
unfolding tokens_in pieces_in judge
first_without_partner = refl

-- registers come after the inputs of both netlists
abbrev one_register : Circuit
one_register = netlist (codes "OUTPUT(q) q = DFF(n) n = XOR(q, c) INPUT(c)")

abbrev more_inputs : Circuit
more_inputs = netlist (codes "INPUT(d) r = DFF(d) OUTPUT(r) INPUT(c)")

registers_last : declared (both Name one_register more_inputs) (given_side None) ≡ map (λ d. d ∷ []) (codes "cdqr")
unfolding tokens_in pieces_in judge
registers_last = refl

-- walks begin at the outputs and go on with the next states; a register ends a chain of operands
registers_met : by_depth (both Name one_register more_inputs) (given_side None) ≡ map (λ d. d ∷ []) (codes "qcrd")
unfolding tokens_in pieces_in judge
registers_met = refl

-- a register is compared with the register of its name, or by position with the one of its number
renamed : matched Name one_register more_inputs (registers_of one_register) (registers_of more_inputs) ≡ []
unfolding tokens_in pieces_in judge
renamed = refl

by_number : matched Position one_register more_inputs (registers_of one_register) (registers_of more_inputs) ≡ (0, 1) ∷ []
unfolding tokens_in pieces_in judge
by_number = refl

-- The names x1 to x6.
abbrev six : List (List ℕ)
six = map (λ d. 120 ∷ d ∷ []) (codes "123456")

repeated : bad_place six [] (map (λ d. 120 ∷ d ∷ []) (codes "1213456")) 1 ≡ Some 3
repeated = refl

short : bad_place six [] (map (λ d. 120 ∷ d ∷ []) (codes "12")) 1 ≡ Some 3
short = refl

-- if there is one name too many, its place is the bad one
long : bad_place six [] (map (λ d. 120 ∷ d ∷ []) (codes "1234561")) 1 ≡ Some 7
long = refl

fits : HasEachVariableOnce six (map (λ d. 120 ∷ d ∷ []) (codes "135246"))
fits = refl

-- the first name that is none of the variables, though another variable is missing
foreign : unfit_from six [] (map (λ d. 120 ∷ d ∷ []) (codes "1273")) ≡ Some (record { why = Foreign; name = 120 ∷ 55 ∷ [] })
foreign = refl

-- if the list is too short, the first variable that it lacks
lacking : unfit_from six [] (map (λ d. 120 ∷ d ∷ []) (codes "6125")) ≡ Some (record { why = Missing; name = 120 ∷ 51 ∷ [] })
lacking = refl

-- an extended list: names that are no variables are left out, and the variables that it lacks follow as declared
as_far : extended (both Name (netlist c17) (netlist c17)) (given_side None) (map (λ d. d ∷ []) (codes "792x7")) ≡ map (λ d. d ∷ [])
    (codes "72136")
unfolding tokens_in pieces_in judge
as_far = refl
