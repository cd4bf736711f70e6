-- The texts of the faults of the crates below.
use Rattle.std.specs.Prelude.{ℕ, List, ◌++◌, codes, decimal}
use Rattle.net_bench.specs.declared.fault.BenchFault.{BenchFault}
use Rattle.net_bench.specs.declared.fault.BenchFault.TheVariants.{TooLong as LongText, BadByte, BadStatement, UnknownGate, WrongOperands}
use Rattle.net_bench.specs.declared.fault.BenchFault.TheVariants.{Redefined, TooMany, Undefined, Cycle, Read as ReadFailed}
use Rattle.net_bench.specs.declared.fault.BenchFault.TheVariants.{OutOfMemory as NoTextMemory}
use Rattle.net_names.specs.declared.order.OrderFault.{OrderFault}
use Rattle.net_names.specs.declared.order.OrderFault.TheVariants.{CountsDiffer, NotAPermutation, TooManyInputs}
use Rattle.net_names.specs.declared.order.OrderFault.TheVariants.{OutOfMemory as NoOrderMemory, BadName, TooLong as LongOrder}
use Rattle.net_names.specs.declared.order.OrderFault.TheVariants.{Read as OrderReadFailed}
use Rattle.net_rename.specs.declared.fault.PairsFault.{PairsFault}
use Rattle.net_rename.specs.declared.fault.PairsFault.TheVariants.{BadLine, TooLong as LongPairs, Read as PairsReadFailed, UnknownFirst}
use Rattle.net_rename.specs.declared.fault.PairsFault.TheVariants.{UnknownSecond, Repeated, Taken, OutOfMemory as NoPairsMemory}
use Rattle.expand_work.specs.declared.fault.WaveFault.{WaveFault}
use Rattle.expand_work.specs.declared.fault.WaveFault.TheVariants.{OutOfMemory as NoWaveMemory, NoWorker, Full, TooManyRequests, Stopped}
use Rattle.compare_built.specs.declared.fault.CheckFault.{CheckFault}
use Rattle.compare_built.specs.declared.fault.CheckFault.TheVariants.{First, Second, Given, GivenOutputs, Order, Only, Explain, Wave}
use Rattle.compare_built.specs.declared.fault.CheckFault.TheVariants.{GivenUp, Write, OutOfMemory as NoCheckMemory}

-- the line of the fault, and then what is wrong
abbrev pub on_line : ℕ → List ℕ → List ℕ
on_line line text = codes "line " ++ decimal line ++ text

-- a text that is not one of a netlist
abbrev pub bench_fault_text : BenchFault → List ℕ
bench_fault_text LongText = codes "longer than 67108864 bytes"
bench_fault_text (BadByte line) = on_line line (codes ": a byte that no statement has")
bench_fault_text (BadStatement line) = on_line line (codes ": broken statement")
bench_fault_text (UnknownGate line) = on_line line (codes ": unknown gate")
bench_fault_text (WrongOperands line) = on_line line (codes ": wrong number of operands")
bench_fault_text (Redefined line) = on_line line (codes ": signal defined twice")
bench_fault_text (TooMany line) = on_line line (codes ": too many signals or operands, or a name too long")
bench_fault_text (Undefined line) = on_line line (codes ": signal without definition")
bench_fault_text (Cycle line) = on_line line (codes ": gate that depends on a cycle")
bench_fault_text ReadFailed = codes "cannot be read"
bench_fault_text NoTextMemory = codes "out of memory"

-- netlists that have no pairing, or a file that is not one of an order
abbrev pub order_fault_text : OrderFault → List ℕ
order_fault_text CountsDiffer = codes "the netlists have different numbers of inputs, outputs or registers"
order_fault_text (NotAPermutation place) = codes "name " ++ decimal place ++ codes " of the list does not fit"
order_fault_text TooManyInputs = codes "more than 4096 variables"
order_fault_text NoOrderMemory = codes "out of memory"
order_fault_text (BadName line) = on_line line (codes ": not a signal name")
order_fault_text LongOrder = codes "longer than 67108864 bytes"
order_fault_text OrderReadFailed = codes "cannot be read"

-- pairs of names that are refused
abbrev pub pairs_fault_text : PairsFault → List ℕ
pairs_fault_text (BadLine line) = on_line line (codes ": not two signal names")
pairs_fault_text LongPairs = codes "longer than 67108864 bytes"
pairs_fault_text PairsReadFailed = codes "cannot be read"
pairs_fault_text (UnknownFirst line) = on_line line (codes ": no input, output or register of the first netlist")
pairs_fault_text (UnknownSecond line) = on_line line (codes ": no input, output or register of the second netlist")
pairs_fault_text (Repeated line) = on_line line (codes ": a name that is in its column before")
pairs_fault_text (Taken line) = on_line line (codes ": the second netlist has the first name, too")
pairs_fault_text NoPairsMemory = codes "out of memory"

-- diagrams that could not be built
abbrev pub wave_fault_text : WaveFault → List ℕ
wave_fault_text NoWaveMemory = codes "out of memory"
wave_fault_text NoWorker = codes "a worker could not be started"
wave_fault_text Full = codes "more nodes than the limit"
wave_fault_text TooManyRequests = codes "more requests than the bound allows"
wave_fault_text Stopped = codes "stopped before its end"

-- a comparison that has no report
abbrev pub check_fault_text : CheckFault → List ℕ
check_fault_text (First fault) = codes "first: " ++ bench_fault_text fault
check_fault_text (Second fault) = codes "second: " ++ bench_fault_text fault
check_fault_text (Given fault) = codes "given: " ++ bench_fault_text fault
check_fault_text GivenOutputs = codes "given: not exactly one output"
check_fault_text (Order fault) = codes "order: " ++ order_fault_text fault
check_fault_text Only = codes "only: no such output or register"
check_fault_text Explain = codes "explain: no such output or register"
check_fault_text (Wave fault) = codes "build: " ++ wave_fault_text fault
check_fault_text GivenUp = codes "build: given up in each order; more memory, or a good order by --order-file, may help"
check_fault_text Write = codes "report: cannot be written"
check_fault_text NoCheckMemory = codes "out of memory"
