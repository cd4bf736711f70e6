-- The lines of an explanation. A name is a list of bytes.
use Rattle.std.specs.Prelude.{ℕ, Bool, true, false, not, List, [], ◌∷◌, ◌++◌, Option, Some, codes, decimal, length, slice_index_or}
use Rattle.net_explain.specs.declared.differing.InnerSignal.{InnerSignal}
use Rattle.net_explain.specs.declared.explanation.GateCount.{GateCount}
use Rattle.net_explain.specs.Explaining.{ExplanationModel}

-- the digit of a bit
abbrev pub bit_text : Bool → List ℕ
bit_text true = codes "1"
bit_text false = codes "0"

-- the first line: what is explained, and how many inner signals differ
abbrev pub head_text : List ℕ → ℕ → List ℕ
head_text subject count = codes "EXPLAIN " ++ (subject ++ (codes " inner signals that differ: " ++ (decimal count ++ 10 ∷ [])))

-- the line of an inner signal: its name, its value in each netlist, and the line of its gate in each text
abbrev pub inner_text : List (List ℕ) → InnerSignal → List ℕ
inner_text names i = codes "  " ++ (slice_index_or names i.first []
    ++ (codes " first=" ++ (bit_text i.value ++ (codes " second=" ++ (bit_text (not i.value)
    ++ (codes " line " ++ (decimal i.first_line ++ (codes " line " ++ (decimal i.second_line ++ 10 ∷ [])))))))))

-- the lines of inner signals
abbrev pub inners_text : List (List ℕ) → List InnerSignal → List ℕ
inners_text names [] = []
inners_text names (i ∷ is) = inner_text names i ++ inners_text names is

-- how many gates, of how many, are outside
abbrev pub gate_count_text : GateCount → List ℕ
gate_count_text p = decimal p.outside ++ (codes " of " ++ decimal p.all)

-- the last line: for each netlist how many gates below the pair are outside the cone of a signal
abbrev pub outside_text : List ℕ → (first second : GateCount) → List ℕ
outside_text name first second = codes "  " ++ (gate_count_text first ++ (codes " gates in the first netlist and " ++ (gate_count_text second
    ++ (codes " in the second are outside the cone of " ++ (name ++ 10 ∷ [])))))

-- the last line for the first of the inner signals; nothing if there is none
abbrev pub last_line_text : List (List ℕ) → List InnerSignal → Option (GateCount × GateCount) → List ℕ
last_line_text names (i ∷ is) (Some ps) = outside_text (slice_index_or names i.first []) ps.0 ps.1
last_line_text names is ps = []

-- the whole text; the names are those of the first netlist
abbrev pub explanation_text : List ℕ → List (List ℕ) → ExplanationModel → List ℕ
explanation_text subject names e = head_text subject (length e.inner) ++ (inners_text names e.inner ++ last_line_text names e.inner e.gate_counts)
