-- The values of the signals of two netlists as a VCD (value change dump, IEEE 1364) of one step.
use Rattle.std.specs.Prelude.{ℕ, zero, suc, ◌+◌, ◌-◌, ◌/◌, ◌%◌, Bool, nat_lt, if◌then◌else◌, List, [], ◌∷◌, ◌++◌, codes, length}
use Rattle.net_explain.specs.Text.{bit_text}

-- the identifier of a number, of at most so many bytes: first the 94 identifiers of one printable byte, then those of
-- two, and so on
unfoldable pub code_within : ℕ → ℕ → List ℕ
code_within zero k = []
code_within (suc most) k = (33 + k % 94) ∷ (if nat_lt k 94 then [] else code_within most (k / 94 - 1))

-- the identifier of a number
unfoldable pub code : ℕ → List ℕ
code k = code_within (suc k) k

-- a signal with its identifier
abbrev pub var_text : ℕ → List ℕ → List ℕ
var_text k name = codes "$var wire 1 " ++ (code k ++ (codes " " ++ (name ++ codes " $end\n")))

-- signals with their identifiers, from this number on
abbrev pub vars_text : ℕ → List (List ℕ) → List ℕ
vars_text k [] = []
vars_text k (n ∷ ns) = var_text k n ++ vars_text (k + 1) ns

-- the scope of a netlist
abbrev pub scope_text : List ℕ → ℕ → List (List ℕ) → List ℕ
scope_text scope k names = codes "$scope module " ++ (scope ++ (codes " $end\n" ++ (vars_text k names ++ codes "$upscope $end\n")))

-- a signal's value
abbrev pub change_text : ℕ → Bool → List ℕ
change_text k b = bit_text b ++ (code k ++ 10 ∷ [])

-- the values of signals, from this number on
abbrev pub changes_text : ℕ → List Bool → List ℕ
changes_text k [] = []
changes_text k (b ∷ bs) = change_text k b ++ changes_text (k + 1) bs

-- The whole text: all signals of both netlists, in the order of their numbers, and their values at time 0; the step ends at time 1.
abbrev pub vcd_text : List (List ℕ) → List Bool → List (List ℕ) → List Bool → List ℕ
vcd_text first values second others =
    codes "$timescale 1 ns $end\n" ++ (scope_text (codes "first") 0 first ++ (scope_text (codes "second") (length first) second
    ++ (codes "$enddefinitions $end\n#0\n" ++ (changes_text 0 values ++ (changes_text (length first) others ++ codes "#1\n")))))
