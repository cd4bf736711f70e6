-- A report as one JSON object: its tokens, and their text.
use Rattle.std.specs.Prelude.{◌≡◌, ℕ, zero, suc, Bool, true, false, List, [], ◌∷◌, ◌++◌, Option, Some, None, Result, OnOk, codes, decimal}
use Rattle.std.specs.Prelude.{drop, slice_index_or, if◌then◌else◌}
use Rattle.std.specs.Str.{is_utf8}
use Rattle.json.specs.Print.{print}
use Rattle.json.specs.Token.{Token, begin_object, end_object, begin_array, end_array, key, string, number, boolean}
use Rattle.json.specs.Written.{Written}
use Rattle.net_names.specs.declared.order.Match.{Match}
use Rattle.net_names.specs.declared.order.Match.TheVariants.{Name, Position}
use Rattle.net_names.specs.declared.order.Order.{Order}
use Rattle.net_names.specs.declared.order.Order.TheVariants as orders
use Rattle.net_names.specs.declared.order_name.OrderName.TheVariants.{Declared, Depth, Interleave, Index, Force}
use Rattle.net_names.specs.OrderName.{word_of_order}
use Rattle.report_text.specs.declared.order_kind.OrderKind.{OrderKind}
use Rattle.report_text.specs.declared.order_kind.OrderKind.TheVariants.{Named, File, Auto, Cones, Merge}
use Rattle.report_text.specs.declared.outcome.Outcome.{Outcome}
use Rattle.report_text.specs.declared.outcome.PairKind.{PairKind}
use Rattle.report_text.specs.declared.outcome.PairKind.TheVariants.{Output, NextState}
use Rattle.report_text.specs.declared.outcome.Side.{Side}
use Rattle.report_text.specs.declared.outcome.Side.TheVariants.{First, Second}
use Rattle.report_text.specs.declared.verdict.Verdict.{Verdict}
use Rattle.report_text.specs.declared.outcome.Share.{Share}
use Rattle.report_text.specs.declared.verdict.Verdict.TheVariants.{Equal, Differs, Unmatched, Undecided}
use Rattle.report_text.specs.declared.assignment.Assignment.{Assignment}
use Rattle.report_text.specs.declared.cause.PairName.{PairName}
use Rattle.report_text.specs.Buses.{Bus, buses_of, hex_text}
use Rattle.report_text.specs.Causes.{Caused}
use Rattle.report_text.specs.SupportBits.{support_bits_of}
use Rattle.report_text.specs.Lines.{Found, counted, is_reported, report_text}

-- how inputs, outputs and registers are paired
abbrev pub match_kind : Match → List ℕ
match_kind Name = codes "name"
match_kind Position = codes "position"

-- the order of the variables as a report names it
abbrev pub kind_of : Order → OrderKind
kind_of orders.Declared = Named Declared
kind_of orders.Depth = Named Depth
kind_of orders.Interleave = Named Interleave
kind_of orders.Index = Named Index
kind_of orders.Force = Named Force
kind_of (orders.Listed names) = File
kind_of (orders.Extended names) = File

-- the same as a string
abbrev pub order_word : OrderKind → List ℕ
order_word (Named name) = word_of_order name
order_word File = codes "file"
order_word Auto = codes "auto"
order_word Cones = codes "cones"
order_word Merge = codes "merge"

-- A name as a string. The names of a netlist are ASCII, so each of them is its own text; bytes that are no UTF-8 become the empty one.
abbrev pub shown : List ℕ → List ℕ
shown name = if is_utf8 name then name else []

-- a bit as a number
abbrev pub bit_token : Bool → Token
bit_token true = number (decimal 1)
bit_token false = number (decimal 0)

-- as what a signal is compared: an output, or the next state of a register
abbrev pub role_text : PairKind → List ℕ
role_text Output = codes "output"
role_text NextState = codes "next state"

abbrev pub side_word : Side → List ℕ
side_word First = codes "first"
side_word Second = codes "second"

abbrev pub subject_tokens : PairKind → List ℕ → List Token
subject_tokens role name = key (codes "of") ∷ string (role_text role) ∷ key (codes "name") ∷ string (shown name) ∷ []

-- sizes, if they are asked for
abbrev pub size_tokens : Option ℕ → List Token
size_tokens None = []
size_tokens (Some n) = key (codes "size") ∷ number (decimal n) ∷ []

abbrev pub sizes_tokens : Option (ℕ × ℕ) → List Token
sizes_tokens None = []
sizes_tokens (Some p) = key (codes "sizes") ∷ begin_array ∷ number (decimal p.0) ∷ number (decimal p.1) ∷ end_array ∷ []

-- a member of a difference that may not be the least
abbrev pub least_tokens : (least : Bool) → List Token
least_tokens true = []
least_tokens false = key (codes "least") ∷ boolean false ∷ []

-- a variable with its bit, if it is shown
abbrev pub variable_tokens : Option Assignment → List ℕ → (bit in_support : Bool) → List Token
variable_tokens which v b m = if is_reported which b m then key (shown v) ∷ bit_token b ∷ [] else []

-- each variable that is shown, with its bit; without support bits each variable counts as being in the support
abbrev pub assignment_tokens : Option Assignment → List (List ℕ) → (bits support_bits : List Bool) → List Token
assignment_tokens which (v ∷ vs) (b ∷ bs) ms = variable_tokens which v b (slice_index_or ms 0 true)
    ++ assignment_tokens which vs bs (drop 1 ms)
assignment_tokens which vs bs ms = []

-- each bus with its number
abbrev pub numbers_tokens : List Bool → List Bus → List Token
numbers_tokens at [] = []
numbers_tokens at (b ∷ bs) = key (shown b.name) ∷ string (hex_text b at) ∷ numbers_tokens at bs

-- the buses of the variables, if it is said which variables are shown
abbrev pub buses_in : Option Assignment → List (List ℕ) → List Bus
buses_in None variables = []
buses_in (Some which) variables = buses_of variables

-- the numbers of these buses, if it is said which variables are shown
abbrev pub buses_tokens : Option Assignment → List Bus → List Bool → List Token
buses_tokens None buses at = []
buses_tokens (Some which) buses at = key (codes "buses") ∷ begin_object ∷ (numbers_tokens at buses ++ end_object ∷ [])

-- the values of two functions
abbrev pub values_tokens : (first second : Bool) → List Token
values_tokens first second = key (codes "first") ∷ bit_token first ∷ key (codes "second") ∷ bit_token second ∷ []

-- the members of a verdict; the variables are given by level
abbrev pub verdict_members : Option Assignment → List (List ℕ) → Verdict → List Token
verdict_members which variables (Equal role name size) = key (codes "verdict") ∷ string (codes "EQUAL")
    ∷ (subject_tokens role name ++ size_tokens size)
verdict_members which variables (Differs role name at first second extras) =
    key (codes "verdict") ∷ string (codes "DIFFER") ∷ (subject_tokens role name
    ++ (key (codes "at") ∷ begin_object ∷ (assignment_tokens which variables at (support_bits_of extras.support)
    ++ (end_object ∷ (buses_tokens which (buses_in which variables) at ++ (values_tokens first second ++ (sizes_tokens extras.sizes ++ least_tokens extras.least)))))))
verdict_members which variables (Unmatched side role name) = key (codes "verdict") ∷ string (codes "ONLY") ∷ key (codes "side")
    ∷ string (side_word side) ∷ subject_tokens role name
verdict_members which variables (Undecided role name) = key (codes "verdict") ∷ string (codes "UNDECIDED") ∷ subject_tokens role name

-- an object for each verdict
abbrev pub verdicts_tokens : Option Assignment → List (List ℕ) → List Verdict → List Token
verdicts_tokens which variables [] = []
verdicts_tokens which variables (v ∷ vs) = (begin_object ∷ (verdict_members which variables v ++ end_object ∷ []))
    ++ verdicts_tokens which variables vs

-- the variables by level
abbrev pub names_tokens : List (List ℕ) → List Token
names_tokens [] = []
names_tokens (v ∷ vs) = string (shown v) ∷ names_tokens vs

abbrev pub settings_tokens : Match → OrderKind → List Token
settings_tokens how kind = key (codes "match") ∷ string (match_kind how) ∷ key (codes "order") ∷ string (order_word kind) ∷ []

-- how many pairs are undecided, if some are
abbrev pub undecided_tokens : ℕ → List Token
undecided_tokens zero = []
undecided_tokens (suc k) = key (codes "undecided") ∷ number (decimal (suc k)) ∷ []

-- which share of the pairs the report is of, if it is of one
abbrev pub share_tokens : Option Share → List Token
share_tokens None = []
share_tokens (Some s) = key (codes "share") ∷ begin_array ∷ number (decimal s.number) ∷ number (decimal s.of) ∷ end_array ∷ []

abbrev pub counts_tokens : Outcome → List Token
counts_tokens o =
    key (codes "equal") ∷ number (decimal o.equal) ∷ key (codes "different") ∷ number (decimal o.different) ∷ key (codes "unmatched")
    ∷ number (decimal o.unmatched)
    ∷ undecided_tokens o.undecided

-- an array with its key
abbrev pub array_tokens : List ℕ → List Token → List Token
array_tokens name items = key name ∷ begin_array ∷ (items ++ end_array ∷ [])

-- an object for each pair
abbrev pub pairs_tokens : List PairName → List Token
pairs_tokens [] = []
pairs_tokens (p ∷ ps) = (begin_object ∷ (subject_tokens p.role p.name ++ end_object ∷ [])) ++ pairs_tokens ps

-- the lines of two gates
abbrev pub lines_tokens : (first second : ℕ) → List Token
lines_tokens first second = key (codes "lines") ∷ begin_array ∷ number (decimal first) ∷ number (decimal second) ∷ end_array ∷ []

-- the members of a cause
abbrev pub cause_members : Caused → List Token
cause_members c = key (codes "signal") ∷ string (shown c.signal)
    ∷ (lines_tokens c.first_line c.second_line ++ array_tokens (codes "pairs") (pairs_tokens c.pairs))

-- an object for each cause
abbrev pub caused_tokens : List Caused → List Token
caused_tokens [] = []
caused_tokens (c ∷ cs) = (begin_object ∷ (cause_members c ++ end_object ∷ [])) ++ caused_tokens cs

-- the causes, if they are asked for
abbrev pub causes_tokens : Option (List Caused) → List Token
causes_tokens None = []
causes_tokens (Some cs) = array_tokens (codes "causes") (caused_tokens cs)

-- whether there was a condition
abbrev pub given_tokens : Bool → List Token
given_tokens true = key (codes "given") ∷ boolean true ∷ []
given_tokens false = []

-- whether the run was stopped before all attempts were made
abbrev pub stopped_tokens : Bool → List Token
stopped_tokens true = key (codes "stopped") ∷ boolean true ∷ []
stopped_tokens false = []

-- how much of all pairs a report covers: which share, if it is of one, and that the run was stopped, if it was
abbrev pub extent_tokens : Option Share → (stopped : Bool) → List Token
extent_tokens share stopped = share_tokens share ++ stopped_tokens stopped

-- the whole object: the settings, the condition, the variables, the verdicts, the counts, the causes, the share,
-- whether the run was stopped
abbrev pub report_tokens : Option Assignment → Match → OrderKind → (given : Bool) → Option Share → (stopped : Bool) → Option (List Caused) → Found
    → List Token
report_tokens which how kind given share stopped causes found =
    begin_object ∷ (settings_tokens how kind ++ (given_tokens given ++ (array_tokens (codes "variables") (names_tokens found.variables)
    ++ (array_tokens (codes "verdicts") (verdicts_tokens which found.variables found.verdicts)
    ++ (counts_tokens (counted found.verdicts) ++ (causes_tokens causes ++ (extent_tokens share stopped ++ end_object ∷ [])))))))

-- the text of the object, on one line
abbrev pub json_text : Option Assignment → Match → OrderKind → (given : Bool) → Option Share → (stopped : Bool) → Option (List Caused) → Found
    → List ℕ
json_text which how kind given share stopped causes found = print (report_tokens which how kind given share stopped causes found) ++ 10 ∷ []

-- the bytes of a report in the form that is asked for: as JSON, which also has a condition, causes, and whether the run
-- was stopped, or as lines
abbrev pub form_text : (json : Bool) → Option Assignment → Match → OrderKind → (given : Bool) → Option Share → (stopped : Bool)
    → Option (List Caused) → Found → List ℕ
form_text true which how kind given share stopped causes = json_text which how kind given share stopped causes
form_text false which how kind given share stopped causes = report_text which share

-- if there was no error, a writer has taken exactly these tokens
abbrev pub Adds : {E : Type 0} → Result (Unit {0}) E → (old new : Written) → List Token → Type 0
Adds r old new ts = OnOk r ((new.before ≡ old.before) × (new.tokens ≡ old.tokens ++ ts))
