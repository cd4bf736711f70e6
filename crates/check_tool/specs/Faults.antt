-- The texts of the program's faults, and its exit statuses.
use Rattle.std.specs.Prelude.{ℕ, List, [], ◌++◌, Option, Some, None, codes, decimal}
use Rattle.net_bench.specs.declared.fault.BenchFault.{BenchFault}
use Rattle.net_bench.specs.declared.fault.BenchFault.TheVariants.{TooLong as LongText, BadByte, BadStatement, UnknownGate, WrongOperands}
use Rattle.net_bench.specs.declared.fault.BenchFault.TheVariants.{Redefined, TooMany, Undefined, Cycle, Read as ReadFailed}
use Rattle.net_bench.specs.declared.fault.BenchFault.TheVariants.{OutOfMemory as NoTextMemory}
use Rattle.net_names.specs.declared.order.OrderFault.{OrderFault}
use Rattle.net_names.specs.declared.order.OrderFault.TheVariants.{CountsDiffer, NotAPermutation, TooManyInputs}
use Rattle.net_names.specs.declared.order.OrderFault.TheVariants.{OutOfMemory as NoOrderMemory, BadName, TooLong as LongOrder}
use Rattle.net_names.specs.declared.order.OrderFault.TheVariants.{Read as OrderReadFailed}
use Rattle.net_rename.specs.declared.fault.PairsFault.{PairsFault}
use Rattle.net_rename.specs.declared.fault.PairsFault.TheVariants.{BadLine, TooLong as LongPairs, Read as PairsReadFailed, UnknownFirst}
use Rattle.net_rename.specs.declared.fault.PairsFault.TheVariants.{UnknownSecond, Repeated, Taken, OutOfMemory as NoPairsMemory}
use Rattle.compare_built.specs.declared.fault.CheckFault.{CheckFault}
use Rattle.compare_built.specs.declared.fault.CheckFault.TheVariants.{First, Second, Given, GivenOutputs, Order, Only, Explain, Wave}
use Rattle.compare_built.specs.declared.fault.CheckFault.TheVariants.{GivenUp, Write, OutOfMemory as NoCheckMemory}
use Rattle.check_tool.specs.FaultTexts.{check_fault_text, order_fault_text, pairs_fault_text}
use Rattle.check_tool.specs.declared.fault.FileRole.{FileRole}
use Rattle.check_tool.specs.declared.fault.FileRole.TheVariants.{First as FirstFile, Second as SecondFile, Given as GivenFile}
use Rattle.check_tool.specs.declared.fault.FileRole.TheVariants.{Pairs as PairsFile, Order as OrderFile}
use Rattle.check_tool.specs.declared.fault.FaultWords.{FaultWords}
use Rattle.check_tool.specs.declared.fault.ToolFault.{ToolFault}
use Rattle.check_tool.specs.declared.fault.ToolFault.TheVariants.{OneFile, InputTwice, CannotOpen, CannotSave, InputUnread, InputTooLong}
use Rattle.check_tool.specs.declared.fault.ToolFault.TheVariants.{InputUndivided, BadPairs, BadOrder, Check, OutOfMemory}

-- the word for a file in a fault's text
abbrev pub file_role_text : FileRole → List ℕ
file_role_text FirstFile = codes "first"
file_role_text SecondFile = codes "second"
file_role_text GivenFile = codes "given"
file_role_text PairsFile = codes "pairs"
file_role_text OrderFile = codes "order"

-- the text of a fault, without the program's name before it
abbrev pub tool_fault_text : ToolFault → List ℕ
tool_fault_text OneFile = codes "give two files or none"
tool_fault_text InputTwice = codes "standard input: given twice"
tool_fault_text (CannotOpen place obstacle) = file_role_text place ++ codes ": cannot be opened"
tool_fault_text (CannotSave obstacle) = codes "vcd: cannot be written"
tool_fault_text InputUnread = codes "standard input: cannot be read"
tool_fault_text InputTooLong = codes "standard input: too long"
tool_fault_text InputUndivided = codes "standard input: no line %%"
tool_fault_text (BadPairs fault) = codes "pairs: " ++ pairs_fault_text fault
tool_fault_text (BadOrder fault) = codes "order: " ++ order_fault_text fault
tool_fault_text (Check fault) = check_fault_text fault
tool_fault_text OutOfMemory = codes "out of memory"

-- the number in a text, if there is one
abbrev pub number_text : Option ℕ → List ℕ
number_text None = []
number_text (Some n) = decimal n

-- the text that these parts make
abbrev pub words_text : FaultWords → List ℕ
words_text w = w.place.now ++ (w.before.now ++ (number_text w.number ++ w.following.now))

-- the line that is printed for a fault
abbrev pub fault_line : ToolFault → List ℕ
fault_line fault = codes "bddcheck: " ++ tool_fault_text fault ++ codes "\n"

-- the status of a refused text: 3 if memory was refused, and otherwise 2
abbrev pub text_status : BenchFault → ℕ
text_status NoTextMemory = 3
text_status LongText = 2
text_status (BadByte line) = 2
text_status (BadStatement line) = 2
text_status (UnknownGate line) = 2
text_status (WrongOperands line) = 2
text_status (Redefined line) = 2
text_status (TooMany line) = 2
text_status (Undefined line) = 2
text_status (Cycle line) = 2
text_status ReadFailed = 2

-- the same of a refused order
abbrev pub order_status : OrderFault → ℕ
order_status NoOrderMemory = 3
order_status CountsDiffer = 2
order_status (NotAPermutation place) = 2
order_status TooManyInputs = 2
order_status (BadName line) = 2
order_status LongOrder = 2
order_status OrderReadFailed = 2

-- the same of refused pairs of names
abbrev pub pairs_status : PairsFault → ℕ
pairs_status NoPairsMemory = 3
pairs_status (BadLine line) = 2
pairs_status LongPairs = 2
pairs_status PairsReadFailed = 2
pairs_status (UnknownFirst line) = 2
pairs_status (UnknownSecond line) = 2
pairs_status (Repeated line) = 2
pairs_status (Taken line) = 2

-- the same of a check; it is also 3 if the diagrams could not be built, attempts were given up, or writing has failed
abbrev pub check_status : CheckFault → ℕ
check_status (First fault) = text_status fault
check_status (Second fault) = text_status fault
check_status (Given fault) = text_status fault
check_status GivenOutputs = 2
check_status (Order fault) = order_status fault
check_status Only = 2
check_status Explain = 2
check_status (Wave fault) = 3
check_status GivenUp = 3
check_status Write = 3
check_status NoCheckMemory = 3

-- the program's exit status for a fault
abbrev pub fault_status : ToolFault → ℕ
fault_status OneFile = 2
fault_status InputTwice = 2
fault_status (CannotOpen place obstacle) = 2
fault_status (CannotSave obstacle) = 3
fault_status InputUnread = 2
fault_status InputTooLong = 2
fault_status InputUndivided = 2
fault_status (BadPairs fault) = pairs_status fault
fault_status (BadOrder fault) = order_status fault
fault_status (Check fault) = check_status fault
fault_status OutOfMemory = 3
