-- Buses: variables with one name and the numbers from 0 on after it, each in brackets. A bus has a number at an assignment.
use Rattle.std.specs.Prelude.{ℕ, zero, suc, ◌+◌, ◌-◌, ◌*◌, ◌==◌, Bool, true, false, ◌&&◌, if◌then◌else◌, List, [], ◌∷◌, ◌++◌, length, take}
use Rattle.std.specs.Prelude.{drop, flat_map, count_by, Option, Some, None, option_and_then, option_to_list, nat_lt, slice_get}
use Rattle.std.specs.Prelude.{slice_index, slice_index_or, codes, decimal}
use Rattle.std.specs.Cmp.Lexicographic.{pointwise}
use Rattle.std.specs.List.{starts_with}
use Rattle.std.specs.Int.{div_ceil}
use Rattle.net_bench.specs.Circuit.{find}

-- A bus: its name, and the places of its bits among the variables, bit 0 first.
pub record Bus : Type 0 where
  pub name : List ℕ
  pub places : List ℕ

-- the name of a bit
abbrev pub bit_name : List ℕ → ℕ → List ℕ
bit_name base i = base ++ (codes "[" ++ (decimal i ++ codes "]"))

-- the place of a bit before the places of the next ones, if it has one; otherwise none
abbrev pub put_before : Option ℕ → List ℕ → List ℕ
put_before None places = []
put_before (Some place) places = place ∷ places

-- The places of the bits from this one on, up to the first whose name no variable has. The first number bounds how many there are.
abbrev pub places_from : List (List ℕ) → (base : List ℕ) → (most i : ℕ) → List ℕ
places_from variables base zero i = []
places_from variables base (suc most) i = put_before (find variables (bit_name base i)) (places_from variables base most (i + 1))

-- whether a name begins with the name of a bus and a bracket
abbrev pub begins : (base name : List ℕ) → Bool
begins base name = starts_with (λ a b. a == b) name base && nat_lt (length base) (length name) && (slice_index name (length base) == 91)

-- The bus of a name, if all variables whose names begin with it and a bracket are its bits.
abbrev pub bus_of : List (List ℕ) → List ℕ → Option Bus
bus_of variables base =
    if length (places_from variables base (length variables) 0) == count_by (begins base) variables
    then Some (record { name = base; places = places_from variables base (length variables) 0 }) else None

-- the name of the bus whose bit 0 has this name
abbrev pub bus_name : List ℕ → Option (List ℕ)
bus_name name = if pointwise (λ a b. a == b) (drop (length name - 3) name) (codes "[0]") then Some (take (length name - 3) name) else None

-- the bus whose bit 0 has this name, if there is one
abbrev pub bus_at : List (List ℕ) → List ℕ → List Bus
bus_at variables name = option_to_list (option_and_then (bus_of variables) (bus_name name))

-- The buses of variables, in the order of their bits 0.
abbrev pub buses_of : List (List ℕ) → List Bus
buses_of variables = flat_map (bus_at variables) variables

-- a bit as a number
abbrev pub bit_value : Bool → ℕ
bit_value true = 1
bit_value false = 0

-- the bit at a place that was found
abbrev pub bit_there : List Bool → Option ℕ → Bool
bit_there at None = false
bit_there at (Some place) = slice_index_or at place false

-- a bit of a bus at an assignment, as a number; 0 beyond the last bit
abbrev pub bit_of : Bus → List Bool → ℕ → ℕ
bit_of bus at i = bit_value (bit_there at (slice_get bus.places i))

-- the number of four bits, of which the first is bit 4 k
abbrev pub nibble : Bus → List Bool → ℕ → ℕ
nibble bus at k = bit_of bus at (4 * k) + 2 * bit_of bus at (4 * k + 1) + 4 * bit_of bus at (4 * k + 2) + 8 * bit_of bus at (4 * k + 3)

-- the hexadecimal digit of a number below sixteen
abbrev pub hex_digit : ℕ → ℕ
hex_digit n = if nat_lt n 10 then 48 + n else 87 + n

-- the last k digits
abbrev pub hex_digits : Bus → List Bool → ℕ → List ℕ
hex_digits bus at zero = []
hex_digits bus at (suc k) = hex_digit (nibble bus at k) ∷ hex_digits bus at k

-- The number of a bus at an assignment, as `0x` and a hexadecimal digit for each four bits.
abbrev pub hex_text : Bus → List Bool → List ℕ
hex_text bus at = codes "0x" ++ hex_digits bus at (div_ceil (length bus.places) 4)

-- ---- the number of a bus, and that of its text

-- the number of so many bits of a bus at an assignment from bit i on, which is the least significant
abbrev pub bits_from : Bus → List Bool → (count i : ℕ) → ℕ
bits_from bus at zero i = 0
bits_from bus at (suc count) i = bit_of bus at i + 2 * bits_from bus at count (i + 1)

-- the number of a bus at an assignment
abbrev pub bus_number : Bus → List Bool → ℕ
bus_number bus at = bits_from bus at (length bus.places) 0

-- the number of a hexadecimal digit
abbrev pub digit_value : ℕ → ℕ
digit_value c = if nat_lt c 58 then c - 48 else c - 87

-- the number n continued by hexadecimal digits, of which the first is the most significant
abbrev pub number_with : ℕ → List ℕ → ℕ
number_with n [] = n
number_with n (c ∷ cs) = number_with (n * 16 + digit_value c) cs
