-- What a netlist computes: its gates as equations between the bits of its signals.
use Rattle.std.specs.Prelude.{◌≡◌, ℕ, Bool, true, false, cond, not, ◌&&◌, ◌||◌, List, [], ◌∷◌, map, length, slice_index_or, All}
use Rattle.net_bench.specs.declared.netlist.Kind.{Kind}
use Rattle.net_bench.specs.declared.netlist.Kind.TheVariants.{And, Nand, Or, Nor, Xor, Xnor, Not, Buff, Dff}
use Rattle.net_bench.specs.Circuit.{Circuit, variables_of}

-- a signal's bit
abbrev pub bit_of : List Bool → ℕ → Bool
bit_of bits i = slice_index_or bits i false

-- every bit is 1
abbrev pub all_ones : List Bool → Bool
all_ones [] = true
all_ones (b ∷ bs) = b && all_ones bs

-- some bit is 1
abbrev pub some_one : List Bool → Bool
some_one [] = false
some_one (b ∷ bs) = b || some_one bs

-- an odd number of bits is 1
abbrev pub odd : List Bool → Bool
odd [] = false
odd (b ∷ bs) = cond b (not (odd bs)) (odd bs)

-- the value of the operation that folds a gate's operands: And also for NAND, NOT and BUFF (and for DFF, which no gate has)
abbrev pub folded : Kind → List Bool → Bool
folded And bits = all_ones bits
folded Nand bits = all_ones bits
folded Not bits = all_ones bits
folded Buff bits = all_ones bits
folded Dff bits = all_ones bits
folded Or bits = some_one bits
folded Nor bits = some_one bits
folded Xor bits = odd bits
folded Xnor bits = odd bits

-- the kinds whose value is the complement of the folded one
abbrev pub is_complemented : Kind → Bool
is_complemented And = false
is_complemented Or = false
is_complemented Xor = false
is_complemented Buff = false
is_complemented Dff = false
is_complemented Nand = true
is_complemented Nor = true
is_complemented Xnor = true
is_complemented Not = true

-- the value of a gate
abbrev pub value_of : Kind → List Bool → Bool
value_of kind bits = cond (is_complemented kind) (not (folded kind bits)) (folded kind bits)

-- A consistent labelling, one bit for each signal: each variable has the bit of its level in x, and each gate the value
-- of its kind for its operands' bits. A register's next state imposes nothing on the register's bit.
pub record IsLabelling (c : Circuit) (level : ℕ → ℕ) (x bits : List Bool) : Type 0 where
  pub each : length bits ≡ length c.names
  pub variables : All (λ s. bit_of bits s ≡ bit_of x (level s)) (variables_of c)
  pub gates : All (λ g. bit_of bits g.out ≡ value_of g.kind (map (bit_of bits) g.operands)) c.gates

-- b is the signal's value at x: its bit in the labelling whose variables have the bits of x
abbrev pub Computes : Circuit → (ℕ → ℕ) → ℕ → List Bool → Bool → Type 0
Computes c level s x b = (bits : List Bool) × IsLabelling c level x bits × (bit_of bits s ≡ b)

-- f is the function of the signal, for n variables
abbrev pub IsFunctionOf : Circuit → (ℕ → ℕ) → ℕ → ℕ → (List Bool → Bool) → Type 0
IsFunctionOf c level n s f = (x : List Bool) → length x ≡ n → Computes c level s x (f x)
