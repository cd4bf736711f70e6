-- What the arguments of a command line ask for, by clap's matches of the command.
use Rattle.std.specs.Prelude.{◌≡◌, ◌≢◌, ◌⊎◌, ◌<◌, ◌≤◌, ◌*◌, ◌^◌, ℕ, pos, Bool, true, false, List, [], ◌∷◌, ◌++◌, map, codes, Option, Some}
use Rattle.std.specs.Prelude.{None, IfSome, IsSome, IsSomeAnd, ⊤, find, option_and_then, option_map, string_bytes, unwrap_or, length}
use Rattle.std.specs.Prelude.{get_or}
use Rattle.std.specs.Borrow.{Bor}
use Rattle.std.specs.Str.{bytes_eq}
use Rattle.std.specs.Str.Parse.{IsNumeral, digits_value, without_leading_plus}
use Rattle.clap.specs.Words.{App, Row, Rule, Text, Kinds, IsAmong, IsUnsignedIn, all_of, fault_of, first_of, one_of, matches_of, new_app}
use Rattle.clap.specs.Words.{new_rule, with_rule}
use Rattle.clap.specs.Simple.{on_top}
use Rattle.clap.specs.declared.builder.action.ArgAction.TheVariants.{Append, SetTrue}
use Rattle.clap.specs.declared.builder.value_parser.ValueParser.{ValueParser}
use Rattle.clap.specs.declared.builder.value_parser.ValueParser.TheVariants.{Names, Signed, Unsigned}
use Rattle.clap.specs.declared.error.kind.ErrorKind.{ErrorKind}
use Rattle.clap.specs.declared.error.kind.ErrorKind.TheVariants.{ArgumentConflict, ValueValidation, DisplayHelp, DisplayVersion}
use Rattle.clap.specs.declared.error.kind.ErrorKind.TheVariants.{OutOfMemory as NoMemory}
use Rattle.clap.specs.declared.parser.matches.ValueSource.TheVariants.{CommandLine}
use Rattle.net_names.specs.declared.order.Match.{Match}
use Rattle.net_names.specs.declared.order.Match.TheVariants.{Name, Position}
use Rattle.net_names.specs.declared.order_name.OrderName.TheVariants.{Declared, Depth, Interleave, Index, Force, MsbFirst, Weights, ForceGroups}
use Rattle.net_names.specs.OrderName.{order_of_word, word_of_order}
use Rattle.report_text.specs.declared.assignment.Assignment.{Assignment}
use Rattle.report_text.specs.declared.assignment.Assignment.TheVariants.{All as AllVariables, Support, Ones}
use Rattle.report_text.specs.declared.outcome.Share.{Share}
use Rattle.report_text.specs.declared.difference.Difference.{Difference}
use Rattle.report_text.specs.declared.difference.Difference.TheVariants.{Least, AnyOne}
use Rattle.command_line.specs.declared.options.Options.{Options}
use Rattle.command_line.specs.declared.options.OrderChoice.{OrderChoice}
use Rattle.command_line.specs.declared.options.OrderChoice.TheVariants.{Named, Best, Auto, Cones, ConesByList, Merge, File, Extended}
use Rattle.report_text.specs.declared.pair_filter.PairFilter.{PairFilter}
use Rattle.report_text.specs.declared.pair_filter.PairFilter.TheVariants.{All, Only, Share as InShare}
use Rattle.command_line.specs.declared.options.Texts.{Texts}
use Rattle.command_line.specs.declared.options.Texts.TheVariants.{Input, Files, InputAndFile, FileAndInput, InputTwice, One}
use Rattle.command_line.specs.declared.reading.Refused.{Refused}
use Rattle.command_line.specs.declared.reading.Refused.TheVariants.{Help, Mistake, OutOfMemory}

-- an option that takes a value, and the value that it has if it is not given
abbrev pub value_rule : List ℕ → List (List ℕ) → Option ValueParser → Rule
value_rule name defaults parser = record (new_rule name) {
  long = Some name;
  value_names = 1;
  defaults = defaults;
  parser = parser;
}

abbrev pub match_rule : Option ValueParser → Rule
match_rule parser = value_rule (codes "match") (codes "name" ∷ []) parser

abbrev pub order_rule : Option ValueParser → Rule
order_rule parser = value_rule (codes "order") [] parser

abbrev pub order_file_rule : Rule
order_file_rule = value_rule (codes "order-file") [] None

abbrev pub extend_rule : Rule
extend_rule = record (new_rule (codes "extend")) { long = Some (codes "extend"); action = Some SetTrue }

abbrev pub given_rule : Rule
given_rule = value_rule (codes "given") [] None

abbrev pub pairs_rule : Rule
pairs_rule = value_rule (codes "pairs") [] None

-- one or more names, one for each time that the option is given
abbrev pub only_rule : Rule
only_rule = record (value_rule (codes "only") [] None) { action = Some Append }

abbrev pub share_rule : Rule
share_rule = value_rule (codes "share") [] None

-- what is to be explained, once for each time that the option is given
abbrev pub explain_rule : Rule
explain_rule = record (value_rule (codes "explain") [] None) { action = Some Append }

abbrev pub vcd_rule : Rule
vcd_rule = value_rule (codes "vcd") [] None

-- 1 to 16 threads
abbrev pub workers_rule : Rule
workers_rule = value_rule (codes "workers") (codes "4" ∷ []) (Some (Signed (pos 1) (pos 16)))

-- 1 to 4294967295 nodes
abbrev pub limit_rule : Rule
limit_rule = value_rule (codes "limit") [] (Some (Unsigned 1 4294967295))

-- a size; 4 GiB if it is not given
abbrev pub memory_rule : Rule
memory_rule = value_rule (codes "memory") (codes "4G" ∷ []) None

-- 1 to 4294967295 seconds
abbrev pub seconds_rule : Rule
seconds_rule = value_rule (codes "seconds") [] (Some (Unsigned 1 4294967295))

abbrev pub sizes_rule : Rule
sizes_rule = record (new_rule (codes "sizes")) { long = Some (codes "sizes"); action = Some SetTrue }

abbrev pub print_order_rule : Rule
print_order_rule = record (new_rule (codes "print-order")) { long = Some (codes "print-order"); action = Some SetTrue }

abbrev pub format_rule : Option ValueParser → Rule
format_rule parser = value_rule (codes "format") (codes "text" ∷ []) parser

abbrev pub assignment_rule : Option ValueParser → Rule
assignment_rule parser = value_rule (codes "assignment") [] parser

abbrev pub difference_rule : Option ValueParser → Rule
difference_rule parser = value_rule (codes "difference") (codes "least" ∷ []) parser

abbrev pub causes_rule : Rule
causes_rule = record (new_rule (codes "causes")) { long = Some (codes "causes"); action = Some SetTrue }

abbrev pub verbose_rule : Rule
verbose_rule = record (new_rule (codes "verbose")) { long = Some (codes "verbose"); action = Some SetTrue }

-- the command without arguments, which reads a command line without the program's name, and has a version
abbrev pub bare_app : App
bare_app = on_top (λ s. record s { no_binary_name = true; has_version = true }) (new_app (codes "bddcheck"))

-- a parser that accepts exactly these values
abbrev pub TakesOnly : List Text → Option ValueParser → Type 0
TakesOnly words parser = (names : Bor (List (Bor Text))) × (parser ≡ Some (Names names)) × (map (λ s. s.now) names.now ≡ words)

abbrev pub TakesMatches : Option ValueParser → Type 0
TakesMatches = TakesOnly (codes "name" ∷ codes "position" ∷ [])

abbrev pub TakesOrders : Option ValueParser → Type 0
TakesOrders = TakesOnly (codes "auto" ∷ codes "cones" ∷ codes "merge" ∷ word_of_order Declared ∷ word_of_order Depth
    ∷ word_of_order Interleave ∷ word_of_order Index ∷ word_of_order Force ∷ word_of_order MsbFirst ∷ word_of_order Weights
    ∷ word_of_order ForceGroups ∷ codes "best" ∷ [])

abbrev pub TakesFormats : Option ValueParser → Type 0
TakesFormats = TakesOnly (codes "text" ∷ codes "json" ∷ [])

abbrev pub TakesAssignments : Option ValueParser → Type 0
TakesAssignments = TakesOnly (codes "all" ∷ codes "support" ∷ codes "ones" ∷ [])

abbrev pub TakesDifferences : Option ValueParser → Type 0
TakesDifferences = TakesOnly (codes "least" ∷ codes "any" ∷ [])

-- The command with its arguments. The parsers of the five lists of values are parameters.
abbrev pub tool_app : (matching order format assignment difference : Option ValueParser) → App
tool_app matching order format assignment difference =
    with_rule (with_rule (with_rule
    (with_rule (with_rule (with_rule
    (with_rule (with_rule (with_rule
    (with_rule (with_rule
    (with_rule (with_rule
    (with_rule (with_rule
    (with_rule (with_rule
    (with_rule (with_rule
    (with_rule (with_rule (with_rule (with_rule bare_app (match_rule matching)) (order_rule order)) order_file_rule) extend_rule)
    given_rule) only_rule) share_rule) explain_rule) vcd_rule) workers_rule) limit_rule) memory_rule) seconds_rule) sizes_rule) print_order_rule)
    (format_rule format)) (assignment_rule assignment)) causes_rule) (difference_rule difference)) verbose_rule) pairs_rule)
    (new_rule (codes "FIRST"))) (new_rule (codes "SECOND"))

-- the command has these arguments
abbrev pub IsTool : App → Type 0
IsTool a = (matching order format assignment difference : Option ValueParser) × TakesMatches matching × TakesOrders order × TakesFormats format
    × TakesAssignments assignment × TakesDifferences difference × (a ≡ tool_app matching order format assignment difference)

-- by position if that value is given, otherwise by name
abbrev pub IsMatching : Option (List ℕ) → Match → Type 0
IsMatching (Some word) Position = bytes_eq word (codes "position") ≡ true
IsMatching (Some word) Name = bytes_eq word (codes "position") ≡ false
IsMatching None Position = ⊥
IsMatching None Name = ⊤

-- whether a flag is given: its value is `true` then
abbrev pub flag_of : Option (List ℕ) → Bool
flag_of (Some word) = bytes_eq word (codes "true")
flag_of None = false

-- The order if none is given: auto; but declared with a limit, with the sizes of diagrams, which auto does not report,
-- or with an order to print.
abbrev pub default_order_of : (limit : Option (List ℕ)) → (sizes print_order : Bool) → OrderChoice
default_order_of (Some limit) sizes print_order = Named Declared
default_order_of None true print_order = Named Declared
default_order_of None false true = Named Declared
default_order_of None false false = Auto

-- the word asks for no order that is to be found
abbrev pub NamesNoSearch : List ℕ → Type 0
NamesNoSearch word = (bytes_eq word (codes "best") ≡ false) × (bytes_eq word (codes "auto") ≡ false)
    × (bytes_eq word (codes "cones") ≡ false) × (bytes_eq word (codes "merge") ≡ false)

-- the order in a file if one is given, extended if that is asked for; otherwise the order that the value names
-- (declared order for any value that is none of the others); and if there is no value, the default
abbrev pub IsChoice : (file order : Option (List ℕ)) → (extend : Bool) → (default_order : OrderChoice) → OrderChoice → Type 0
IsChoice (Some path) word extend default_order (File p) = (extend ≡ false) × (p.now ≡ path)
IsChoice (Some path) word extend default_order (Extended p) = (extend ≡ true) × (p.now ≡ path)
IsChoice (Some path) word extend default_order (Named name) = ⊥
IsChoice (Some path) word extend default_order Best = ⊥
IsChoice (Some path) word extend default_order Auto = ⊥
IsChoice (Some path) word extend default_order Cones = ⊥
IsChoice (Some path) word extend default_order Merge = ⊥
IsChoice (Some path) word extend default_order (ConesByList p) = ⊥
IsChoice None (Some word) extend default_order (File p) = ⊥
IsChoice None (Some word) extend default_order (Extended p) = ⊥
IsChoice None (Some word) extend default_order (ConesByList p) = ⊥
IsChoice None (Some word) extend default_order Best = bytes_eq word (codes "best") ≡ true
IsChoice None (Some word) extend default_order Auto = bytes_eq word (codes "auto") ≡ true
IsChoice None (Some word) extend default_order Cones = bytes_eq word (codes "cones") ≡ true
IsChoice None (Some word) extend default_order Merge = bytes_eq word (codes "merge") ≡ true
IsChoice None (Some word) extend default_order (Named name) = NamesNoSearch word × (name ≡ unwrap_or (order_of_word word) Declared)
IsChoice None None extend default_order choice = choice ≡ default_order

-- ---- pairs that are picked

-- there is no slash in a text
abbrev pub HasNoSlash : Text → Type 0
HasNoSlash text = (i : ℕ) → i < length text → get_or text i 0 ≢ 47

-- the number that a text is
abbrev pub IsDecimal : Text → ℕ → Type 0
IsDecimal text n = IsNumeral 10 (without_leading_plus text) × (n ≡ digits_value 10 (without_leading_plus text))

-- there is a share of this number among so many, which are at most 1,000,000
abbrev pub IsInRange : (number count : ℕ) → Type 0
IsInRange number count = (1 ≤ number) × (number ≤ count) × (count ≤ 1000000)

-- the share that a text is: its number, a slash, and how many shares there are
pub record IsShare (text : Text) (s : Share) : Type 0 where
  pub number : Text
  pub count : Text
  pub parts : text ≡ number ++ 47 ∷ count
  pub is_number : IsDecimal number s.number
  pub is_count : IsDecimal count s.of
  pub range : IsInRange s.number s.of

-- the names of the pairs that are picked
abbrev pub names_in : List Row → List Text
names_in rows = unwrap_or (all_of (codes "only") rows) []

-- what is to be explained
abbrev pub explained_in : List Row → List Text
explained_in rows = unwrap_or (all_of (codes "explain") rows) []

-- the share of the pairs that is picked
abbrev pub share_in : List Row → Option Text
share_in rows = first_of (codes "share") rows

-- whether some pairs are picked, by these names or by a share
abbrev pub are_picked : List Text → Option Text → Bool
are_picked (n ∷ ns) share = true
are_picked [] (Some text) = true
are_picked [] None = false

-- what is picked: the pairs of the names if there are names, otherwise those of a share if there is one, otherwise all
abbrev pub ArePicks : List Text → Option Text → PairFilter (Bor (List ℕ)) → Type 0
ArePicks (n ∷ ns) share (Only names) = map (λ s. s.now) names.items ≡ n ∷ ns
ArePicks (n ∷ ns) share (InShare s) = ⊥
ArePicks (n ∷ ns) share All = ⊥
ArePicks [] (Some text) (InShare s) = IsShare text s
ArePicks [] (Some text) (Only names) = ⊥
ArePicks [] (Some text) All = ⊥
ArePicks [] None picks = picks ≡ All

-- the order in which picked pairs are judged: by their cones, first in the order of a file if one is given
abbrev pub IsPickingOrder : (file : Option (List ℕ)) → OrderChoice → Type 0
IsPickingOrder (Some path) (ConesByList p) = p.now ≡ path
IsPickingOrder (Some path) (Named name) = ⊥
IsPickingOrder (Some path) Best = ⊥
IsPickingOrder (Some path) Auto = ⊥
IsPickingOrder (Some path) Cones = ⊥
IsPickingOrder (Some path) Merge = ⊥
IsPickingOrder (Some path) (File p) = ⊥
IsPickingOrder (Some path) (Extended p) = ⊥
IsPickingOrder None choice = choice ≡ Cones

-- the order that is asked for; if pairs are picked, it is by cones
abbrev pub IsOrderIfPicked : (picked : Bool) → (file order : Option (List ℕ)) → (extend : Bool) → (default_order : OrderChoice) → OrderChoice
    → Type 0
IsOrderIfPicked true file word extend default_order choice = IsPickingOrder file choice
IsOrderIfPicked false file word extend default_order choice = IsChoice file word extend default_order choice

abbrev pub IsOrderIn : List Row → OrderChoice → Type 0
IsOrderIn rows choice =
    IsOrderIfPicked (are_picked (names_in rows) (share_in rows)) (first_of (codes "order-file") rows) (first_of (codes "order") rows)
    (flag_of (first_of (codes "extend") rows)) (default_order_of (first_of (codes "limit") rows) (flag_of (first_of (codes "sizes") rows))
    (flag_of (first_of (codes "print-order") rows))) choice

-- a dash, which is standard input instead of a file
abbrev pub IsDash : List ℕ → Type 0
IsDash word = bytes_eq word (codes "-") ≡ true

-- the path is the value, which is no dash
abbrev pub IsPath : List ℕ → Bor (List ℕ) → Type 0
IsPath word path = (path.now ≡ word) × (bytes_eq word (codes "-") ≡ false)

-- the texts for two values: two files, or standard input instead of one of them; instead of both it is refused
abbrev pub AreTwoTexts : List ℕ → List ℕ → Texts → Type 0
AreTwoTexts first second (Files a b) = IsPath first a × IsPath second b
AreTwoTexts first second (InputAndFile b) = IsDash first × IsPath second b
AreTwoTexts first second (FileAndInput a) = IsPath first a × IsDash second
AreTwoTexts first second InputTwice = IsDash first × IsDash second
AreTwoTexts first second Input = ⊥
AreTwoTexts first second One = ⊥

-- those for two values if there are two, both from standard input if there are none; only one is refused
abbrev pub AreTexts : Option (List ℕ) → Option (List ℕ) → Texts → Type 0
AreTexts (Some first) (Some second) texts = AreTwoTexts first second texts
AreTexts None None texts = texts ≡ Input
AreTexts (Some first) None texts = texts ≡ One
AreTexts None (Some second) texts = texts ≡ One

-- as JSON if that value is given
abbrev pub IsForm : Option (List ℕ) → Bool → Type 0
IsForm (Some word) json = bytes_eq word (codes "json") ≡ json
IsForm None json = json ≡ false

-- which variables of an assignment are shown: those of the value, if there is one
abbrev pub IsAssignment : Option (List ℕ) → Option Assignment → Type 0
IsAssignment (Some word) (Some Ones) = bytes_eq word (codes "ones") ≡ true
IsAssignment (Some word) (Some Support) = bytes_eq word (codes "support") ≡ true
IsAssignment (Some word) (Some AllVariables) = (bytes_eq word (codes "ones") ≡ false) × (bytes_eq word (codes "support") ≡ false)
IsAssignment (Some word) None = ⊥
IsAssignment None which = which ≡ None

-- which difference of a pair is wanted: any if that value is given, otherwise the least
abbrev pub IsDifference : Option (List ℕ) → Difference → Type 0
IsDifference (Some word) AnyOne = bytes_eq word (codes "any") ≡ true
IsDifference (Some word) Least = bytes_eq word (codes "any") ≡ false
IsDifference None AnyOne = ⊥
IsDifference None Least = ⊤

-- the number is that of the text, if the text is a number within the range
abbrev pub IsNumberIn : ℕ → ℕ → Option Text → ℕ → Type 0
IsNumberIn low high word n = IfSome word (λ text. IsUnsignedIn low high text → n ≡ digits_value 10 (without_leading_plus text))

-- the limit of nodes if none is given: by auto, cones and merge the most that a store may have
abbrev pub default_limit : OrderChoice → ℕ
default_limit Auto = 4294967295
default_limit Cones = 4294967295
default_limit Merge = 4294967295
default_limit (ConesByList path) = 4294967295
default_limit (Named name) = 67108864
default_limit Best = 67108864
default_limit (File path) = 67108864
default_limit (Extended path) = 67108864

-- the limit is that of the text, or the default if there is none
abbrev pub IsLimit : Option Text → OrderChoice → ℕ → Type 0
IsLimit (Some text) choice n = IsUnsignedIn 1 4294967295 text → n ≡ digits_value 10 (without_leading_plus text)
IsLimit None choice n = n ≡ default_limit choice

-- the seconds after which the run stops: those of the text, if there is one
abbrev pub IsSeconds : Option Text → Option ℕ → Type 0
IsSeconds (Some text) seconds = IsUnsignedIn 1 4294967295 text → seconds ≡ Some (digits_value 10 (without_leading_plus text))
IsSeconds None seconds = seconds ≡ None

-- the unit of a size, and its number of bytes
abbrev pub IsUnit : Text → ℕ → Type 0
IsUnit unit bytes = ((unit ≡ codes "K") × (bytes ≡ 1024)) ⊎ ((unit ≡ codes "M") × (bytes ≡ 1024 ^ 2))
    ⊎ ((unit ≡ codes "G") × (bytes ≡ 1024 ^ 3))

-- a text ends with no unit
abbrev pub HasNoUnit : Text → Type 0
HasNoUnit text = (front unit : Text) (bytes : ℕ) → IsUnit unit bytes → text ≢ front ++ unit

-- a text is a number and its unit, which is a byte if none is given
abbrev pub IsInUnits : Text → (number : Text) → (bytes : ℕ) → Type 0
IsInUnits text number bytes = ((unit : Text) × IsUnit unit bytes × (text ≡ number ++ unit))
    ⊎ (HasNoUnit text × (number ≡ text) × (bytes ≡ 1))

-- the number of bytes that a text is: a decimal number, with K, M or G after it for 1,024, its square and its cube
abbrev pub IsSize : Text → ℕ → Type 0
IsSize text n = (number : Text) × (bytes : ℕ) × IsInUnits text number bytes × IsNumeral 10 (without_leading_plus number)
    × (n ≡ digits_value 10 (without_leading_plus number) * bytes)

-- the same, if it is at least 16 MiB and fits in 64 bits
abbrev pub IsMemory : Text → ℕ → Type 0
IsMemory text n = IsSize text n × (16777216 ≤ n) × (n < 2 ^ 64)

-- the command line itself gives the argument, so that its value is no default
abbrev pub IsGiven : Text → List Row → Type 0
IsGiven id rows = option_and_then (λ r. r.source) (find (λ r. bytes_eq r.id id) rows) ≡ Some CommandLine

-- both an order and an order file are given
abbrev pub GiveTwoOrders : List Row → Type 0
GiveTwoOrders rows = IsGiven (codes "order") rows × IsGiven (codes "order-file") rows

-- pairs are picked both by names and by a share
abbrev pub GiveTwoPicks : List Row → Type 0
GiveTwoPicks rows = IsGiven (codes "only") rows × IsGiven (codes "share") rows

-- the value names an order that has to be found: auto, cones or merge
abbrev pub IsSearchName : Text → Type 0
IsSearchName word = (bytes_eq word (codes "auto") ≡ true) ⊎ (bytes_eq word (codes "cones") ≡ true) ⊎ (bytes_eq word (codes "merge") ≡ true)

-- the value names an order in which pairs can be picked: auto or cones
abbrev pub IsPickingName : Text → Type 0
IsPickingName word = (bytes_eq word (codes "auto") ≡ true) ⊎ (bytes_eq word (codes "cones") ≡ true)

-- an order is asked for that has to be found, or pairs are picked
abbrev pub GiveSearch : List Row → Type 0
GiveSearch rows = IsSomeAnd (first_of (codes "order") rows) IsSearchName ⊎ (are_picked (names_in rows) (share_in rows) ≡ true)

-- this is so, and the flag is given, which asks for what no such order does
abbrev pub GiveSearchWith : Text → List Row → Type 0
GiveSearchWith id rows = GiveSearch rows × (flag_of (first_of id rows) ≡ true)

-- an order file is given that is to list each variable of the whole netlists, since it is not extended
abbrev pub GiveWholeOrderFile : List Row → Type 0
GiveWholeOrderFile rows = IsSome (first_of (codes "order-file") rows) × (flag_of (first_of (codes "extend") rows) ≡ false)

-- such an order file is given, or an order in which no pairs can be picked
abbrev pub GiveFixedOrder : List Row → Type 0
GiveFixedOrder rows = GiveWholeOrderFile rows ⊎ IsSomeAnd (first_of (codes "order") rows) (λ word. IsPickingName word → ⊥)

-- pairs are picked, and such an order is given, in which all pairs are compared
abbrev pub GivePicksWithFixedOrder : List Row → Type 0
GivePicksWithFixedOrder rows = (are_picked (names_in rows) (share_in rows) ≡ true) × GiveFixedOrder rows

-- `--memory` is given, no pairs are picked, and the order is not auto, cones or merge, so that the memory is not used
abbrev pub GiveUnusedMemory : List Row → Type 0
GiveUnusedMemory rows = IsGiven (codes "memory") rows × (are_picked (names_in rows) (share_in rows) ≡ true → ⊥) × (IsOrderIn rows Auto → ⊥) × (IsOrderIn rows Cones → ⊥) × (IsOrderIn rows Merge → ⊥)

-- `--extend` is given without an order file
abbrev pub GiveUnusedExtend : List Row → Type 0
GiveUnusedExtend rows = (flag_of (first_of (codes "extend") rows) ≡ true) × (first_of (codes "order-file") rows ≡ None)

-- the report is asked for as one JSON object
abbrev pub AskForJson : List Row → Type 0
AskForJson rows = IsSomeAnd (first_of (codes "format") rows) (λ word. bytes_eq word (codes "json") ≡ true)

-- explanations, which are lines after a report of all pairs, are asked for together with an order to print, a share of the pairs, or JSON
abbrev pub GiveExplainConflict : List Row → Type 0
GiveExplainConflict rows = IsGiven (codes "explain") rows × ((flag_of (first_of (codes "print-order") rows) ≡ true)
    ⊎ IsGiven (codes "share") rows ⊎ AskForJson rows)

-- a VCD is asked for together with an order to print, for which nothing is compared
abbrev pub GiveUnusedVcd : List Row → Type 0
GiveUnusedVcd rows = IsGiven (codes "vcd") rows × (flag_of (first_of (codes "print-order") rows) ≡ true)

-- causes, which only a JSON report of all pairs has, are asked for together with an order to print, a share of the
-- pairs, or another report
abbrev pub GiveCausesConflict : List Row → Type 0
GiveCausesConflict rows = (flag_of (first_of (codes "causes") rows) ≡ true)
    × ((flag_of (first_of (codes "print-order") rows) ≡ true) ⊎ IsGiven (codes "share") rows ⊎ (AskForJson rows → ⊥))

-- pairs of names are given together with a pairing by position, which looks at no names
abbrev pub GivePairsByPosition : List Row → Type 0
GivePairsByPosition rows = IsGiven (codes "pairs") rows
    × IsSomeAnd (first_of (codes "match") rows) (λ word. bytes_eq word (codes "position") ≡ true)

-- two arguments exclude each other
abbrev pub HaveConflict : List Row → Type 0
HaveConflict rows =
    GiveTwoOrders rows ⊎ GiveTwoPicks rows ⊎ GiveSearchWith (codes "sizes") rows ⊎ GiveSearchWith (codes "print-order") rows
    ⊎ GivePicksWithFixedOrder rows ⊎ GiveUnusedMemory rows ⊎ GiveUnusedExtend rows ⊎ GiveExplainConflict rows ⊎ GiveUnusedVcd rows ⊎ GiveCausesConflict rows
    ⊎ GivePairsByPosition rows

-- the memory that is given is no size, or out of its range
abbrev pub GiveBadMemory : List Row → Type 0
GiveBadMemory rows = IsSomeAnd (first_of (codes "memory") rows) (λ text. (n : ℕ) → IsMemory text n → ⊥)

-- the share that is given is none
abbrev pub GiveBadShare : List Row → Type 0
GiveBadShare rows = IsSomeAnd (share_in rows) (λ text. (s : Share) → IsShare text s → ⊥)

-- the path of a file is the value, if there is one
abbrev pub IsFile : Option (List ℕ) → Option (Bor (List ℕ)) → Type 0
IsFile word path = option_map (λ (p : Bor (List ℕ)). p.now) path ≡ word

-- The options are those that the matches ask for.
pub record AreOptions (rows : List Row) (o : Options) : Type 0 where
  pub matching : IsMatching (first_of (codes "match") rows) o.matching
  pub order : IsOrderIn rows o.order
  pub picks : ArePicks (names_in rows) (share_in rows) o.picks
  pub given : IsFile (first_of (codes "given") rows) o.given
  pub pairs : IsFile (first_of (codes "pairs") rows) o.pairs
  pub workers : IsNumberIn 1 16 (one_of (codes "workers") rows) o.workers
  pub limit : IsLimit (one_of (codes "limit") rows) o.order o.limit
  pub memory : IfSome (first_of (codes "memory") rows) (λ text. IsMemory text o.memory)
  pub seconds : IsSeconds (one_of (codes "seconds") rows) o.seconds
  pub texts : AreTexts (first_of (codes "FIRST") rows) (first_of (codes "SECOND") rows) o.texts
  pub sizes : o.sizes ≡ flag_of (first_of (codes "sizes") rows)
  pub json : IsForm (first_of (codes "format") rows) o.json
  pub print_order : o.print_order ≡ flag_of (first_of (codes "print-order") rows)
  pub verbose : o.verbose ≡ flag_of (first_of (codes "verbose") rows)
  pub explain : map (λ s. s.now) o.explain.items ≡ explained_in rows
  pub assignment : IsAssignment (first_of (codes "assignment") rows) o.assignment
  pub vcd : IsFile (first_of (codes "vcd") rows) o.vcd
  pub causes : o.causes ≡ flag_of (first_of (codes "causes") rows)
  pub difference : IsDifference (first_of (codes "difference") rows) o.difference

-- the kinds of the first fault that clap finds in the arguments; none if it accepts them
abbrev pub AreFaults : List Text → Kinds → Type 0
AreFaults words kinds =
    (matching order format assignment difference : Option ValueParser) × TakesMatches matching × TakesOrders order × TakesFormats format
    × TakesAssignments assignment × TakesDifferences difference
    × (kinds ≡ fault_of (tool_app matching order format assignment difference) words)

-- clap accepts the arguments, and the rows are its matches of the command
abbrev pub AreMatches : List Text → List Row → Type 0
AreMatches words rows =
    (matching order format assignment difference : Option ValueParser) × TakesMatches matching × TakesOrders order × TakesFormats format
    × TakesAssignments assignment × TakesDifferences difference
    × (fault_of (tool_app matching order format assignment difference) words ≡ [])
    × (rows ≡ matches_of (tool_app matching order format assignment difference) words)

-- The arguments ask for these options, by clap's matches of the command, and no two of them exclude each other.
abbrev pub AskFor : List Text → Options → Type 0
AskFor words o = (rows : List Row) × AreMatches words rows × (HaveConflict rows → ⊥) × AreOptions rows o

-- the line with the version is printed, or there was no memory for it
abbrev pub PrintsVersion : Refused → Type 0
PrintsVersion (Help text) = string_bytes text ≡ codes "bddcheck 1.0.0\n"
PrintsVersion (Mistake text) = ⊥
PrintsVersion OutOfMemory = ⊤

-- how a fault of this kind is reported: help and the version as such, any other as a mistake; or there was no memory for its text
abbrev pub IsReportedAs : ErrorKind → Refused → Type 0
IsReportedAs kind (Help text) = (kind ≡ DisplayHelp) ⊎ ((kind ≡ DisplayVersion) × PrintsVersion (Help text))
IsReportedAs kind (Mistake text) = (kind ≢ DisplayHelp) × (kind ≢ DisplayVersion) × (kind ≢ NoMemory)
IsReportedAs kind OutOfMemory = ⊤

-- Arguments that clap accepts are refused if two of them exclude each other, or otherwise for a memory or a share that
-- is none, or for want of memory.
abbrev pub IsRefusedFor : List Row → Refused → Type 0
IsRefusedFor rows refused =
    (HaveConflict rows × IsReportedAs ArgumentConflict refused)
    ⊎ (((HaveConflict rows → ⊥) × (GiveBadMemory rows ⊎ GiveBadShare rows) × IsReportedAs ValueValidation refused)
    ⊎ (refused ≡ OutOfMemory))

-- The arguments are refused for the first fault that clap finds in them, or if two exclude each other, or otherwise for
-- a memory or a share that is none, or for want of memory.
abbrev pub IsRefusal : List Text → Refused → Type 0
IsRefusal words refused =
    ((kinds : Kinds) × (kind : ErrorKind) × AreFaults words kinds × IsAmong kind kinds × IsReportedAs kind refused)
    ⊎ (((rows : List Row) × AreMatches words rows × HaveConflict rows × IsReportedAs ArgumentConflict refused)
    ⊎ (((rows : List Row) × AreMatches words rows × (HaveConflict rows → ⊥) × (GiveBadMemory rows ⊎ GiveBadShare rows)
    × IsReportedAs ValueValidation refused)
    ⊎ (refused ≡ OutOfMemory)))
