-- The line after a fault's own: where the fault is, and what helps.
use Rattle.std.specs.Prelude.{◌≡◌, ◌⊎◌, ◌||◌, ◌==◌, ◌<◌, ℕ, Bool, true, false, if◌then◌else◌, List, [], ◌∷◌, ◌++◌, Option, Some, None, codes}
use Rattle.std.specs.Prelude.{decimal, flat_map, length, slice_index_or}
use Rattle.std.specs.Borrow.{Bor}
use Rattle.net_bench.specs.Circuit.{Circuit}
use Rattle.net_bench.specs.declared.fault.BenchFault.{BenchFault}
use Rattle.net_bench.specs.declared.fault.BenchFault.TheVariants.{TooLong as LongText, BadByte, BadStatement, UnknownGate, WrongOperands}
use Rattle.net_bench.specs.declared.fault.BenchFault.TheVariants.{Redefined, TooMany, Undefined, Cycle, Read as ReadFailed}
use Rattle.net_bench.specs.declared.fault.BenchFault.TheVariants.{OutOfMemory as NoTextMemory}
use Rattle.net_names.specs.declared.order.OrderFault.{OrderFault}
use Rattle.net_names.specs.declared.order.OrderFault.TheVariants.{CountsDiffer, NotAPermutation, TooManyInputs}
use Rattle.net_names.specs.declared.order.OrderFault.TheVariants.{OutOfMemory as NoOrderMemory, BadName, TooLong as LongOrder}
use Rattle.net_names.specs.declared.order.OrderFault.TheVariants.{Read as OrderReadFailed}
use Rattle.net_rename.specs.declared.fault.PairsFault.{PairsFault}
use Rattle.net_rename.specs.declared.fault.PairsFault.TheVariants.{BadLine, TooLong as LongPairs, Read as PairsReadFailed, UnknownFirst}
use Rattle.net_rename.specs.declared.fault.PairsFault.TheVariants.{UnknownSecond, Repeated, Taken, OutOfMemory as NoPairsMemory}
use Rattle.expand_work.specs.declared.fault.WaveFault.{WaveFault}
use Rattle.expand_work.specs.declared.fault.WaveFault.TheVariants.{OutOfMemory as NoWaveMemory, NoWorker, Full, TooManyRequests, Stopped}
use Rattle.compare_built.specs.declared.fault.CheckFault.{CheckFault}
use Rattle.compare_built.specs.declared.fault.CheckFault.TheVariants.{First, Second, Given, GivenOutputs, Order, Only, Explain, Wave}
use Rattle.compare_built.specs.declared.fault.CheckFault.TheVariants.{GivenUp, Write, OutOfMemory as NoCheckMemory}
use Rattle.report_text.specs.declared.cause.PairName.{PairName}
use Rattle.compare_built.specs.Check.{Gives}
use Rattle.explain_report.specs.Explaining.{IsTargetIn}
use Rattle.compare_built.specs.PairSelection.{HasPicked}
use Rattle.report_text.specs.declared.pair_filter.PairFilter.{PairFilter}
use Rattle.report_text.specs.declared.pair_filter.PairFilter.TheVariants.{All as AllPicks, Only as OnlyPicks, Share as SharePicks}
use Rattle.command_line.specs.declared.options.Options.{Options}
use Rattle.command_line.specs.declared.options.OrderChoice.{OrderChoice}
use Rattle.command_line.specs.declared.options.OrderChoice.TheVariants.{Named, Best, Auto, Cones, ConesByList, Merge, File, Extended}
use Rattle.command_line.specs.declared.options.Texts.{Texts}
use Rattle.command_line.specs.declared.options.Texts.TheVariants.{Input, Files, InputAndFile, FileAndInput, InputTwice, One}
use Rattle.check_tool.specs.declared.fault.FileRole.TheVariants.{First as FirstFile, Second as SecondFile, Given as GivenFile}
use Rattle.check_tool.specs.declared.fault.FileRole.TheVariants.{Pairs as PairsFile, Order as OrderFile}
use Rattle.check_tool.specs.declared.fault.ToolFault.{ToolFault}
use Rattle.check_tool.specs.declared.fault.ToolFault.TheVariants.{OneFile, InputTwice as DashTwice, CannotOpen, CannotSave, InputUnread}
use Rattle.check_tool.specs.declared.fault.ToolFault.TheVariants.{InputTooLong, InputUndivided, BadPairs, BadOrder, Check, OutOfMemory}
use Rattle.check_tool.specs.declared.folder.Obstacle.{Obstacle}
use Rattle.check_tool.specs.declared.folder.Obstacle.TheVariants.{Missing, Forbidden, NoFolder, Links, Unwritten, Other}
use Rattle.check_tool.specs.declared.help.Location.{Location}
use Rattle.check_tool.specs.declared.help.Location.TheVariants.{NoLocation, Text, Line}
use Rattle.net_bench.specs.Statement.{is_word}
use Rattle.check_tool.specs.declared.help.QuotedPart.{QuotedPart}
use Rattle.check_tool.specs.declared.help.QuotedPart.TheVariants.{Line as in_line, BrokenStatement, Listed}
use Rattle.check_tool.specs.Quoting.{remark}
use Rattle.check_tool.specs.Running.{path_in, first_paths, second_paths, order_paths, IsKindAndName, IsReadOf}

-- the name of the first text: the path of its file, or what it is
abbrev pub first_name : Texts → List ℕ
first_name (Files first second) = first.now
first_name (FileAndInput first) = first.now
first_name (InputAndFile second) = codes "standard input"
first_name Input = codes "first text of standard input"
first_name InputTwice = codes "first text of standard input"
first_name One = codes "first text of standard input"

-- the same of the second text
abbrev pub second_name : Texts → List ℕ
second_name (Files first second) = second.now
second_name (InputAndFile second) = second.now
second_name (FileAndInput first) = codes "standard input"
second_name Input = codes "second text of standard input"
second_name InputTwice = codes "second text of standard input"
second_name One = codes "second text of standard input"

-- a location: none, a text of this name, or a line of it
abbrev pub Where : Type 0
Where = Option (List ℕ × Option ℕ)

-- the whole of a text
abbrev pub in_text : List ℕ → Where
in_text name = Some (name, None)

-- a line of a text
abbrev pub on_line : List ℕ → ℕ → Where
on_line name line = Some (name, Some line)

-- the location that the code has as this value
abbrev pub where_of : Location → Where
where_of NoLocation = None
where_of (Text name) = in_text name.now
where_of (Line name line) = on_line name.now line

-- the location of a fault in a text of this name
abbrev pub text_location : List ℕ → BenchFault → Where
text_location name LongText = in_text name
text_location name (BadByte line) = on_line name line
text_location name (BadStatement line) = on_line name line
text_location name (UnknownGate line) = on_line name line
text_location name (WrongOperands line) = on_line name line
text_location name (Redefined line) = on_line name line
text_location name (TooMany line) = on_line name line
text_location name (Undefined line) = on_line name line
text_location name (Cycle line) = on_line name line
text_location name ReadFailed = in_text name
text_location name NoTextMemory = in_text name

-- the location of a fault in a list of names: the line of a token that is no name, or the whole list
abbrev pub list_location : List ℕ → OrderFault → Where
list_location path (BadName line) = on_line path line
list_location path (NotAPermutation place) = in_text path
list_location path LongOrder = in_text path
list_location path OrderReadFailed = in_text path
list_location path NoOrderMemory = in_text path
list_location path CountsDiffer = None
list_location path TooManyInputs = None

-- the location of a fault in the file of an order
abbrev pub order_location : OrderChoice → OrderFault → Where
order_location (File path) fault = list_location path.now fault
order_location (Extended path) fault = list_location path.now fault
order_location (ConesByList path) fault = list_location path.now fault
order_location (Named name) fault = None
order_location Best fault = None
order_location Auto fault = None
order_location Cones fault = None
order_location Merge fault = None

-- the location of a fault in the condition: the line of a refused text, or the whole of it
abbrev pub given_location : Option (Bor (List ℕ)) → BenchFault → Where
given_location None fault = None
given_location (Some path) fault = text_location path.now fault

-- a whole file, if there is one
abbrev pub file_location : Option (Bor (List ℕ)) → Where
file_location None = None
file_location (Some path) = in_text path.now

-- the location of a fault of pairs of names in their file
abbrev pub pairs_location : Option (Bor (List ℕ)) → PairsFault → Where
pairs_location None fault = None
pairs_location (Some path) (BadLine line) = on_line path.now line
pairs_location (Some path) (UnknownFirst line) = on_line path.now line
pairs_location (Some path) (UnknownSecond line) = on_line path.now line
pairs_location (Some path) (Repeated line) = on_line path.now line
pairs_location (Some path) (Taken line) = on_line path.now line
pairs_location (Some path) LongPairs = in_text path.now
pairs_location (Some path) PairsReadFailed = in_text path.now
pairs_location (Some path) NoPairsMemory = in_text path.now

-- the location of a fault that is in a file or in a text of standard input
abbrev pub fault_location : Texts → (given pairs vcd : Option (Bor (List ℕ))) → OrderChoice → ToolFault → Where
fault_location texts given pairs vcd choice (CannotOpen FirstFile obstacle) = in_text (first_name texts)
fault_location texts given pairs vcd choice (CannotOpen SecondFile obstacle) = in_text (second_name texts)
fault_location texts given pairs vcd choice (CannotOpen GivenFile obstacle) = given_location given ReadFailed
fault_location texts given pairs vcd choice (CannotOpen PairsFile obstacle) = file_location pairs
fault_location texts given pairs vcd choice (CannotOpen OrderFile obstacle) = order_location choice OrderReadFailed
fault_location texts given pairs vcd choice (CannotSave obstacle) = file_location vcd
fault_location texts given pairs vcd choice (BadPairs fault) = pairs_location pairs fault
fault_location texts given pairs vcd choice (BadOrder fault) = order_location choice fault
fault_location texts given pairs vcd choice (Check (First fault)) = text_location (first_name texts) fault
fault_location texts given pairs vcd choice (Check (Second fault)) = text_location (second_name texts) fault
fault_location texts given pairs vcd choice (Check (Given fault)) = given_location given fault
fault_location texts given pairs vcd choice (Check GivenOutputs) = given_location given ReadFailed
fault_location texts given pairs vcd choice (Check (Order fault)) = order_location choice fault
fault_location texts given pairs vcd choice (Check Only) = in_text (first_name texts)
fault_location texts given pairs vcd choice (Check Explain) = in_text (first_name texts)
fault_location texts given pairs vcd choice (Check (Wave fault)) = None
fault_location texts given pairs vcd choice (Check GivenUp) = None
fault_location texts given pairs vcd choice (Check Write) = None
fault_location texts given pairs vcd choice (Check NoCheckMemory) = None
fault_location texts given pairs vcd choice OneFile = None
fault_location texts given pairs vcd choice DashTwice = None
fault_location texts given pairs vcd choice InputUnread = None
fault_location texts given pairs vcd choice InputTooLong = None
fault_location texts given pairs vcd choice InputUndivided = None
fault_location texts given pairs vcd choice OutOfMemory = None

-- what helps against an unknown gate
abbrev pub unknown_gate_help : List ℕ
unknown_gate_help = codes "the gates are AND, NAND, OR, NOR, XOR, XNOR, NOT, BUFF and DFF; see docs/FLOWS.md"

-- what helps if a text is refused
abbrev pub text_help : BenchFault → List ℕ
text_help LongText = codes "a text has at most 67108864 bytes"
text_help (BadByte line) = codes "outside comments a netlist has only printable ASCII, blanks and line ends"
text_help (BadStatement line) = codes "a statement is INPUT(a), OUTPUT(a) or a = GATE(b, c)"
text_help (UnknownGate line) = unknown_gate_help
text_help (WrongOperands line) = codes "NOT, BUFF and DFF take one operand"
text_help (Redefined line) = codes "a signal may have only one INPUT, gate or register"
text_help (TooMany line) = codes "a netlist has at most 1000000 signals and 4000000 operands, and a name has at most 255 bytes"
text_help (Undefined line) = codes "the signal has no INPUT, gate or register"
text_help (Cycle line) = codes "a gate may depend on itself only through a register"
text_help ReadFailed = codes "the device failed, or the path is a folder"
text_help NoTextMemory = codes "more memory, or a smaller netlist, is needed"

-- what helps if an order is refused
abbrev pub order_help : OrderFault → List ℕ
order_help CountsDiffer = codes "--match name pairs them by their names"
order_help (NotAPermutation place) = codes "--extend takes the list as it is, and --print-order writes one that fits"
order_help TooManyInputs = codes "compare by --order cones, or parts that have fewer inputs"
order_help NoOrderMemory = codes "more memory, or a smaller netlist, is needed"
order_help (BadName line) = codes "a list has only names and blanks, as --print-order writes it"
order_help LongOrder = codes "a text has at most 67108864 bytes"
order_help OrderReadFailed = codes "the device failed, or the path is a folder"

-- what helps if diagrams grow too large in this order
abbrev pub fewer_nodes : OrderChoice → List ℕ
fewer_nodes Best = codes "msb-first, weights and force-groups were tried; a list by --order-file may need fewer nodes"
fewer_nodes Auto = codes "msb-first, weights and force-groups were tried; another --memory, or a list by --order-file, may help"
fewer_nodes Cones = codes "each pair was judged by its cones; another --memory, or fewer --workers, may help"
fewer_nodes Merge = codes "each pair was judged by its cones; another --memory, or fewer --workers, may help"
fewer_nodes (ConesByList path) = codes "each pair was judged by its cones; another --memory, or fewer --workers, may help"
fewer_nodes (Named name) = codes "another order may need fewer nodes: try --order auto"
fewer_nodes (File path) = codes "another order may need fewer nodes: try --order auto"
fewer_nodes (Extended path) = codes "another order may need fewer nodes: try --order auto"

-- what helps if pairs of names are refused
abbrev pub pairs_help : PairsFault → List ℕ
pairs_help (BadLine line) = codes "a line has the first netlist's name of a signal, blanks, and the second netlist's"
pairs_help LongPairs = codes "a text has at most 67108864 bytes"
pairs_help PairsReadFailed = codes "the device failed, or the path is a folder"
pairs_help (UnknownFirst line) = codes "the first name of a line is that of the first netlist"
pairs_help (UnknownSecond line) = codes "the second name of a line is that of the second netlist"
pairs_help (Repeated line) = codes "each name may be once in its column"
pairs_help (Taken line) = codes "give that signal of the second netlist a line of its own, or rename it"
pairs_help NoPairsMemory = codes "more memory, or a smaller netlist, is needed"

-- what helps if diagrams could not be built
abbrev pub wave_help : OrderChoice → WaveFault → List ℕ
wave_help choice NoWorker = codes "--workers 1 starts no thread"
wave_help choice NoWaveMemory = fewer_nodes choice
wave_help choice Full = fewer_nodes choice
wave_help choice TooManyRequests = fewer_nodes choice
wave_help choice Stopped = codes "more --seconds may be enough; by --order auto the pairs that are decided by then are reported"

-- why a file could not be opened or written
abbrev pub opening_help : Obstacle → List ℕ
opening_help Missing = codes "there is no such file or folder"
opening_help Forbidden = codes "permission is denied"
opening_help NoFolder = codes "a part of the path is not a folder"
opening_help Links = codes "its links form a loop"
opening_help Unwritten = codes "its device is full, or has failed"
opening_help Other = codes "the system refused it"

-- what helps if a check has no report
abbrev pub check_help : OrderChoice → CheckFault → List ℕ
check_help choice (First fault) = text_help fault
check_help choice (Second fault) = text_help fault
check_help choice (Given fault) = text_help fault
check_help choice GivenOutputs = codes "a condition is a netlist with one output"
check_help choice (Order fault) = order_help fault
check_help choice Only = codes "the first netlist has no output or register, or after NEXT no register, of one of these names:"
check_help choice Explain = codes "the first netlist has no output, or after NEXT no register, of one of these names:"
check_help choice (Wave fault) = wave_help choice fault
check_help choice GivenUp = fewer_nodes choice
check_help choice Write = codes "standard output is full, or closed"
check_help choice NoCheckMemory = fewer_nodes choice

-- what helps against a fault
abbrev pub fault_help : OrderChoice → ToolFault → List ℕ
fault_help choice OneFile = codes "give - as the other file to read it from standard input"
fault_help choice DashTwice = codes "name a file as one of the two"
fault_help choice (CannotOpen place obstacle) = opening_help obstacle
fault_help choice (CannotSave obstacle) = opening_help obstacle
fault_help choice InputUnread = codes "standard input failed, or is a folder"
fault_help choice InputTooLong = codes "a text has at most 67108864 bytes"
fault_help choice InputUndivided = codes "a line %% divides two netlists; if standard input has only one, give the other as a file and - for this one"
fault_help choice (BadPairs fault) = pairs_help fault
fault_help choice (BadOrder fault) = order_help fault
fault_help choice (Check fault) = check_help choice fault
fault_help choice OutOfMemory = codes "more memory is needed"

-- ---- an unknown gate

-- the bytes after the first equals sign
abbrev pub after_equals : List ℕ → List ℕ
after_equals [] = []
after_equals (b ∷ bs) = if b == 61 then bs else after_equals bs

-- the bytes from the first one that is not a blank
abbrev pub unindented : List ℕ → List ℕ
unindented [] = []
unindented (b ∷ bs) = if b == 32 then unindented bs else b ∷ bs

-- the bytes before the first blank or parenthesis
abbrev pub front_word : List ℕ → List ℕ
front_word [] = []
front_word (b ∷ bs) = if b == 32 || b == 40 then [] else b ∷ front_word bs

-- the keyword of the gate in a line, as it is shown
abbrev pub gate_word : List ℕ → List ℕ
gate_word shown = front_word (unindented (after_equals shown))

-- what helps against this keyword, in upper or lower case
abbrev pub word_help : List ℕ → List ℕ
word_help w =
    if is_word w (codes "INV") then codes "the word for an inverter is NOT" else (
    if is_word w (codes "MUX") then codes "a multiplexer is made of NOT, AND and OR gates; see docs/FLOWS.md" else (
    if is_word w (codes "VDD") then codes "the constant 1 is XNOR(a, a) of any signal a; see docs/FLOWS.md" else (
    if is_word w (codes "GND") then codes "the constant 0 is XOR(a, a) of any signal a; see docs/FLOWS.md" else (
    if is_word w (codes "LATCH") then codes "a register is DFF, and there is no keyword for a latch; see docs/FLOWS.md" else (
    if is_word w (codes "LUT") then codes "abc writes no LUT lines by write_bench -l; see docs/FLOWS.md" else unknown_gate_help)))))

-- a text is refused for an unknown gate
abbrev pub is_unknown_gate : BenchFault → Bool
is_unknown_gate (UnknownGate line) = true
is_unknown_gate LongText = false
is_unknown_gate (BadByte line) = false
is_unknown_gate (BadStatement line) = false
is_unknown_gate (WrongOperands line) = false
is_unknown_gate (Redefined line) = false
is_unknown_gate (TooMany line) = false
is_unknown_gate (Undefined line) = false
is_unknown_gate (Cycle line) = false
is_unknown_gate ReadFailed = false
is_unknown_gate NoTextMemory = false

-- the same of a fault of the program
abbrev pub is_unknown_gate_fault : ToolFault → Bool
is_unknown_gate_fault (Check (First fault)) = is_unknown_gate fault
is_unknown_gate_fault (Check (Second fault)) = is_unknown_gate fault
is_unknown_gate_fault (Check (Given fault)) = is_unknown_gate fault
is_unknown_gate_fault (Check GivenOutputs) = false
is_unknown_gate_fault (Check (Order fault)) = false
is_unknown_gate_fault (Check Only) = false
is_unknown_gate_fault (Check Explain) = false
is_unknown_gate_fault (Check (Wave fault)) = false
is_unknown_gate_fault (Check GivenUp) = false
is_unknown_gate_fault (Check Write) = false
is_unknown_gate_fault (Check NoCheckMemory) = false
is_unknown_gate_fault (BadPairs fault) = false
is_unknown_gate_fault (BadOrder fault) = false
is_unknown_gate_fault (CannotOpen place obstacle) = false
is_unknown_gate_fault (CannotSave obstacle) = false
is_unknown_gate_fault OneFile = false
is_unknown_gate_fault DashTwice = false
is_unknown_gate_fault InputUnread = false
is_unknown_gate_fault InputTooLong = false
is_unknown_gate_fault InputUndivided = false
is_unknown_gate_fault OutOfMemory = false

-- what helps if a check has no report and the refused name is shown
abbrev pub check_help_by_name : OrderChoice → CheckFault → List ℕ
check_help_by_name choice Only = codes "the first netlist has no output or register, or after NEXT no register, of this name"
check_help_by_name choice Explain = codes "the first netlist has no output, or after NEXT no register, of this name"
check_help_by_name choice (First fault) = check_help choice (First fault)
check_help_by_name choice (Second fault) = check_help choice (Second fault)
check_help_by_name choice (Given fault) = check_help choice (Given fault)
check_help_by_name choice GivenOutputs = check_help choice GivenOutputs
check_help_by_name choice (Order fault) = check_help choice (Order fault)
check_help_by_name choice (Wave fault) = check_help choice (Wave fault)
check_help_by_name choice GivenUp = check_help choice GivenUp
check_help_by_name choice Write = check_help choice Write
check_help_by_name choice NoCheckMemory = check_help choice NoCheckMemory

-- what helps against a fault if the refused name is shown
abbrev pub help_by_name : OrderChoice → ToolFault → List ℕ
help_by_name choice (Check fault) = check_help_by_name choice fault
help_by_name choice (BadPairs fault) = fault_help choice (BadPairs fault)
help_by_name choice (BadOrder fault) = fault_help choice (BadOrder fault)
help_by_name choice (CannotOpen place obstacle) = fault_help choice (CannotOpen place obstacle)
help_by_name choice (CannotSave obstacle) = fault_help choice (CannotSave obstacle)
help_by_name choice OneFile = fault_help choice OneFile
help_by_name choice DashTwice = fault_help choice DashTwice
help_by_name choice InputUnread = fault_help choice InputUnread
help_by_name choice InputTooLong = fault_help choice InputTooLong
help_by_name choice InputUndivided = fault_help choice InputUndivided
help_by_name choice OutOfMemory = fault_help choice OutOfMemory

-- what helps against a fault whose line or name is shown as this excerpt; an unknown gate has advice of its own
abbrev pub shown_help : OrderChoice → ToolFault → List ℕ → List ℕ
shown_help choice fault shown = if is_unknown_gate_fault fault then word_help (gate_word shown) else help_by_name choice fault

-- the line of a location and what helps
abbrev pub help_line : Where → List ℕ → List ℕ
help_line None help = codes "bddcheck: " ++ help ++ codes "\n"
help_line (Some (name, None)) help = codes "bddcheck: " ++ (name ++ (codes ": " ++ (help ++ codes "\n")))
help_line (Some (name, Some line)) help = codes "bddcheck: " ++ (name
    ++ (codes ":" ++ (decimal line ++ (codes ": " ++ (help ++ codes "\n")))))

-- the patterns that select pairs
abbrev pub picked_names : PairFilter (Bor (List ℕ)) → List (Bor (List ℕ))
picked_names AllPicks = []
picked_names (OnlyPicks names) = names.items
picked_names (SharePicks share) = []

-- the names of which a fault refuses one: those that select pairs, or those that are to be explained
abbrev pub refused_names : Options → ToolFault → List (Bor (List ℕ))
refused_names o (Check Only) = picked_names o.picks
refused_names o (Check Explain) = o.explain.items
refused_names o (Check (First fault)) = []
refused_names o (Check (Second fault)) = []
refused_names o (Check (Given fault)) = []
refused_names o (Check GivenOutputs) = []
refused_names o (Check (Order fault)) = []
refused_names o (Check (Wave fault)) = []
refused_names o (Check GivenUp) = []
refused_names o (Check Write) = []
refused_names o (Check NoCheckMemory) = []
refused_names o (BadPairs fault) = []
refused_names o (BadOrder fault) = []
refused_names o (CannotOpen place obstacle) = []
refused_names o (CannotSave obstacle) = []
refused_names o OneFile = []
refused_names o DashTwice = []
refused_names o InputUnread = []
refused_names o InputTooLong = []
refused_names o InputUndivided = []
refused_names o OutOfMemory = []

-- these names, each after a blank
abbrev pub names_text : List (Bor (List ℕ)) → List ℕ
names_text names = flat_map (λ (n : Bor (List ℕ)). codes " " ++ n.now) names

-- the line after a fault's own; if one of several names is refused, it has all of them
abbrev pub help_text : Options → ToolFault → List ℕ
help_text o fault = help_line (fault_location o.texts o.given o.pairs o.vcd o.order fault)
    (fault_help o.order fault ++ names_text (refused_names o fault))

-- the same line with an excerpt of the file, or with the refused name
abbrev pub help_quoting : Options → ToolFault → List ℕ → List ℕ
help_quoting o fault quoted = help_line (fault_location o.texts o.given o.pairs o.vcd o.order fault)
    (shown_help o.order fault quoted ++ (codes ": " ++ quoted))

-- the file that was refused, or that lacks a name, if it is one
abbrev pub refused_paths : Options → ToolFault → List (List ℕ)
refused_paths o (BadPairs fault) = path_in o.pairs
refused_paths o (BadOrder fault) = order_paths o.order
refused_paths o (Check (First fault)) = first_paths o.texts
refused_paths o (Check (Second fault)) = second_paths o.texts
refused_paths o (Check (Given fault)) = path_in o.given
refused_paths o (Check GivenOutputs) = []
refused_paths o (Check (Order fault)) = order_paths o.order
refused_paths o (Check Only) = first_paths o.texts
refused_paths o (Check Explain) = first_paths o.texts
refused_paths o (Check (Wave fault)) = []
refused_paths o (Check GivenUp) = []
refused_paths o (Check Write) = []
refused_paths o (Check NoCheckMemory) = []
refused_paths o (CannotOpen place obstacle) = []
refused_paths o (CannotSave obstacle) = []
refused_paths o OneFile = []
refused_paths o DashTwice = []
refused_paths o InputUnread = []
refused_paths o InputTooLong = []
refused_paths o InputUndivided = []
refused_paths o OutOfMemory = []

-- the part of a refused text that is shown: the line of the fault
abbrev pub text_part : BenchFault → Option QuotedPart
text_part (BadByte line) = Some (in_line line)
text_part (BadStatement line) = Some (BrokenStatement line)
text_part (UnknownGate line) = Some (in_line line)
text_part (WrongOperands line) = Some (in_line line)
text_part (Redefined line) = Some (in_line line)
text_part (TooMany line) = Some (in_line line)
text_part (Undefined line) = Some (in_line line)
text_part (Cycle line) = Some (in_line line)
text_part LongText = None
text_part ReadFailed = None
text_part NoTextMemory = None

-- the part of a refused order that is shown: the line of the fault, or the first name that does not fit
abbrev pub order_part : OrderFault → Option QuotedPart
order_part (BadName line) = Some (in_line line)
order_part (NotAPermutation place) = Some (Listed place)
order_part LongOrder = None
order_part OrderReadFailed = None
order_part NoOrderMemory = None
order_part CountsDiffer = None
order_part TooManyInputs = None

-- the part of refused pairs of names that is shown: the line of the fault
abbrev pub pairs_part : PairsFault → Option QuotedPart
pairs_part (BadLine line) = Some (in_line line)
pairs_part (UnknownFirst line) = Some (in_line line)
pairs_part (UnknownSecond line) = Some (in_line line)
pairs_part (Repeated line) = Some (in_line line)
pairs_part (Taken line) = Some (in_line line)
pairs_part LongPairs = None
pairs_part PairsReadFailed = None
pairs_part NoPairsMemory = None

-- the part of the refused file that is shown
abbrev pub fault_part : ToolFault → Option QuotedPart
fault_part (BadPairs fault) = pairs_part fault
fault_part (BadOrder fault) = order_part fault
fault_part (Check (First fault)) = text_part fault
fault_part (Check (Second fault)) = text_part fault
fault_part (Check (Given fault)) = text_part fault
fault_part (Check (Order fault)) = order_part fault
fault_part (Check GivenOutputs) = None
fault_part (Check Only) = None
fault_part (Check Explain) = None
fault_part (Check (Wave fault)) = None
fault_part (Check GivenUp) = None
fault_part (Check Write) = None
fault_part (Check NoCheckMemory) = None
fault_part (CannotOpen place obstacle) = None
fault_part (CannotSave obstacle) = None
fault_part OneFile = None
fault_part DashTwice = None
fault_part InputUnread = None
fault_part InputTooLong = None
fault_part InputUndivided = None
fault_part OutOfMemory = None

-- This is the excerpt of the part that a fault refers to, as the file has it.
pub record IsShown (bytes_at : List ℕ → Option (List ℕ)) (o : Options) (fault : ToolFault) (quoted : List ℕ) : Type 0 where
  pub path : List ℕ
  pub quoted_part : QuotedPart
  pub text : List ℕ
  pub file : refused_paths o fault ≡ path ∷ []
  pub points : fault_part fault ≡ Some quoted_part
  pub read : IsReadOf (bytes_at path) (Some text)
  pub is : quoted ≡ remark quoted_part text

-- the file of the first netlist, as it is now, has this circuit
abbrev pub IsFirstCircuit : (bytes_at : List ℕ → Option (List ℕ)) → Options → Circuit → Type 0
IsFirstCircuit bytes_at o a = (path : List ℕ) × (first_paths o.texts ≡ path ∷ []) × Gives (bytes_at path) a

-- this is the first of the words that has the second property: each word before it has the first property
abbrev pub IsFirstWord : (before this : List ℕ → Type 0) → List (Bor (List ℕ)) → (word : Bor (List ℕ)) → Type 0
IsFirstWord before this words word = (i : ℕ) × (i < length words) × (slice_index_or words i word ≡ word)
    × ((k : ℕ) (d : Bor (List ℕ)) → k < i → before (slice_index_or words k d).now) × this word.now

-- this pattern matches an output or a register of the circuit
abbrev pub IsKnownPattern : Circuit → (word : List ℕ) → Type 0
IsKnownPattern a word = (p : PairName) × IsKindAndName word p.role p.name × HasPicked a p

-- this pattern matches no output and no register of the circuit
abbrev pub IsUnknownPattern : Circuit → (word : List ℕ) → Type 0
IsUnknownPattern a word = (p : PairName) × IsKindAndName word p.role p.name × (HasPicked a p → ⊥)

-- of the patterns that select pairs this is the first that matches no output and no register of the first netlist
abbrev pub IsUnknownPick : (bytes_at : List ℕ → Option (List ℕ)) → Options → (word : Bor (List ℕ)) → Type 0
IsUnknownPick bytes_at o word = (a : Circuit) × IsFirstCircuit bytes_at o a
    × IsFirstWord (IsKnownPattern a) (IsUnknownPattern a) (picked_names o.picks) word

-- this is the name of an output or a register of the circuit
abbrev pub IsKnownTarget : Circuit → (word : List ℕ) → Type 0
IsKnownTarget a word = (t : PairName) × IsKindAndName word t.role t.name × IsTargetIn a t

-- this is the name of no output and no register of the circuit
abbrev pub IsUnknownTarget : Circuit → (word : List ℕ) → Type 0
IsUnknownTarget a word = (t : PairName) × IsKindAndName word t.role t.name × (IsTargetIn a t → ⊥)

-- of the names that are to be explained this is the first that the first netlist does not have
abbrev pub IsUnknownTargetWord : (bytes_at : List ℕ → Option (List ℕ)) → Options → (word : Bor (List ℕ)) → Type 0
IsUnknownTargetWord bytes_at o word = (a : Circuit) × IsFirstCircuit bytes_at o a
    × IsFirstWord (IsKnownTarget a) (IsUnknownTarget a) o.explain.items word

-- this is the name that a fault refuses: it is the only one, or the file of the first netlist does not have it
abbrev pub IsRefusedName : (bytes_at : List ℕ → Option (List ℕ)) → Options → ToolFault → (name : Bor (List ℕ)) → Type 0
IsRefusedName bytes_at o fault name = (refused_names o fault ≡ name ∷ [])
    ⊎ (((fault ≡ Check Only) × IsUnknownPick bytes_at o name) ⊎ ((fault ≡ Check Explain) × IsUnknownTargetWord bytes_at o name))

-- this is what is shown of a fault: an excerpt of a file, or a name
abbrev pub IsQuoted : (bytes_at : List ℕ → Option (List ℕ)) → Options → ToolFault → (quoted : List ℕ) → Type 0
IsQuoted bytes_at o fault quoted = IsShown bytes_at o fault quoted
    ⊎ ((name : Bor (List ℕ)) × IsRefusedName bytes_at o fault name × (quoted ≡ name.now))

-- the line that may be printed after a fault's own: with an excerpt of the file, with the refused name, or without
-- either
abbrev pub IsHelp : (bytes_at : List ℕ → Option (List ℕ)) → Options → ToolFault → List ℕ → Type 0
IsHelp bytes_at o fault line = (line ≡ help_text o fault) ⊎ ((quoted : List ℕ) × IsQuoted bytes_at o fault quoted
    × (line ≡ help_quoting o fault quoted))
