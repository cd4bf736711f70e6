-- Verdicts, and the bytes of their lines in a report. A name is a list of bytes.
use Rattle.std.specs.Prelude.{ℕ, zero, suc, Bool, true, false, List, [], ◌∷◌, ◌++◌, Option, Some, None, codes, decimal, count_by, drop}
use Rattle.std.specs.Prelude.{slice_index_or, if◌then◌else◌}
use Rattle.report_text.specs.declared.assignment.Assignment.{Assignment}
use Rattle.report_text.specs.declared.assignment.Assignment.TheVariants.{All, Support, Ones}
use Rattle.report_text.specs.declared.outcome.Outcome.{Outcome}
use Rattle.report_text.specs.declared.outcome.PairKind.{PairKind}
use Rattle.report_text.specs.declared.outcome.PairKind.TheVariants.{Output, NextState}
use Rattle.report_text.specs.declared.outcome.Side.{Side}
use Rattle.report_text.specs.declared.outcome.Side.TheVariants.{First, Second}
use Rattle.report_text.specs.declared.verdict.Verdict.{Verdict}
use Rattle.report_text.specs.declared.outcome.Share.{Share}
use Rattle.report_text.specs.SupportBits.{support_bits_of}
use Rattle.report_text.specs.declared.verdict.Verdict.TheVariants.{Equal, Differs, Unmatched, Undecided}

-- The findings that a report shows: the variables by level, and the verdicts in the order of the report.
pub record Found : Type 0 where
  pub variables : List (List ℕ)
  pub verdicts : List Verdict

-- the digit of a bit
abbrev pub bit_text : Bool → List ℕ
bit_text true = codes "1"
bit_text false = codes "0"

-- a size after its keyword, if sizes are asked for
abbrev pub size_text : Option ℕ → List ℕ
size_text None = []
size_text (Some n) = codes " size " ++ decimal n

-- two sizes after their keyword, if sizes are asked for
abbrev pub sizes_text : Option (ℕ × ℕ) → List ℕ
sizes_text None = []
sizes_text (Some p) = codes " sizes " ++ (decimal p.0 ++ (codes " " ++ decimal p.1))

-- whether a variable is shown, by its bit and whether a function depends on it; unless something else is asked for, each one is
abbrev pub is_reported : Option Assignment → (bit in_support : Bool) → Bool
is_reported None b m = true
is_reported (Some All) b m = true
is_reported (Some Support) b m = m
is_reported (Some Ones) b m = b

-- a space and a variable with its bit, if it is shown
abbrev pub variable_text : Option Assignment → List ℕ → (bit in_support : Bool) → List ℕ
variable_text which v b m = if is_reported which b m then codes " " ++ (v ++ (codes "=" ++ bit_text b)) else []

-- what follows a difference that may not be the least
abbrev pub least_text : (least : Bool) → List ℕ
least_text true = []
least_text false = codes " (may not be the least)"

-- each variable that is shown with its bit, a space before each; without support bits each variable counts as being in the support
abbrev pub assignment_text : Option Assignment → List (List ℕ) → (bits support_bits : List Bool) → List ℕ
assignment_text which (v ∷ vs) (b ∷ bs) ms = variable_text which v b (slice_index_or ms 0 true) ++ assignment_text which vs bs (drop 1 ms)
assignment_text which vs bs ms = []

-- the keyword of a netlist
abbrev pub side_text : Side → List ℕ
side_text First = codes "FIRST"
side_text Second = codes "SECOND"

-- a name; that of a next state has `NEXT` before it
abbrev pub subject_text : PairKind → List ℕ → List ℕ
subject_text Output name = name
subject_text NextState name = codes "NEXT " ++ name

-- the line of a verdict, without its end; the variables are given by level
abbrev pub line_text : Option Assignment → List (List ℕ) → Verdict → List ℕ
line_text which variables (Equal role name size) = codes "EQUAL " ++ (subject_text role name ++ size_text size)
line_text which variables (Differs role name at first second extras) =
    codes "DIFFER " ++ (subject_text role name ++ (codes " at"
    ++ (assignment_text which variables at (support_bits_of extras.support)
    ++ (codes " first=" ++ (bit_text first ++ (codes " second=" ++ (bit_text second ++ (sizes_text extras.sizes ++ least_text extras.least))))))))
line_text which variables (Unmatched side role name) = codes "ONLY " ++ (side_text side ++ (codes " " ++ subject_text role name))
line_text which variables (Undecided role name) = codes "UNDECIDED " ++ subject_text role name

-- lines, each with its end
abbrev pub lines_text : Option Assignment → List (List ℕ) → List Verdict → List ℕ
lines_text which variables [] = []
lines_text which variables (v ∷ vs) = line_text which variables v ++ (10 ∷ lines_text which variables vs)

-- the kinds of verdicts
abbrev pub is_equal : Verdict → Bool
is_equal (Equal role name size) = true
is_equal (Differs role name at first second extras) = false
is_equal (Unmatched side role name) = false
is_equal (Undecided role name) = false

abbrev pub is_different : Verdict → Bool
is_different (Equal role name size) = false
is_different (Differs role name at first second extras) = true
is_different (Unmatched side role name) = false
is_different (Undecided role name) = false

abbrev pub is_unmatched : Verdict → Bool
is_unmatched (Equal role name size) = false
is_unmatched (Differs role name at first second extras) = false
is_unmatched (Unmatched side role name) = true
is_unmatched (Undecided role name) = false

abbrev pub is_undecided : Verdict → Bool
is_undecided (Equal role name size) = false
is_undecided (Differs role name at first second extras) = false
is_undecided (Unmatched side role name) = false
is_undecided (Undecided role name) = true

-- how many verdicts of each kind there are
abbrev pub counted : List Verdict → Outcome
counted vs = record {
  equal = count_by is_equal vs;
  different = count_by is_different vs;
  unmatched = count_by is_unmatched vs;
  undecided =
      count_by is_undecided vs;
}

-- how many pairs are undecided, if some are
abbrev pub undecided_text : ℕ → List ℕ
undecided_text zero = []
undecided_text (suc k) = codes ", " ++ (decimal (suc k) ++ codes " undecided")

-- which share of the pairs a report is of, if it is of one
abbrev pub share_text : Option Share → List ℕ
share_text None = []
share_text (Some s) = codes ", share " ++ (decimal s.number ++ (codes " of " ++ decimal s.of))

-- the last line, without its end
abbrev pub counts_text : Option Share → Outcome → List ℕ
counts_text share o =
    decimal o.equal ++ (codes " equal, " ++ (decimal o.different
    ++ (codes " different, " ++ (decimal o.unmatched ++ (codes " unmatched" ++ (undecided_text o.undecided ++ share_text share))))))

-- the bytes of a report: its lines, and last their counts
abbrev pub report_text : Option Assignment → Option Share → Found → List ℕ
report_text which share found = lines_text which found.variables found.verdicts ++ (counts_text share (counted found.verdicts) ++ 10 ∷ [])
