use Rattle.std.proofs.Common.{◌<◌, ℕ, List, Bor, get_or}
use Rattle.net_bench.specs.Circuit.{circuit}
use Rattle.check_tool.specs.Helping.{IsKnownTarget}
use Rattle.check_tool.proofs.names.unknown_target_in.Given as goal

-- the netlist has what the words so far name
abbrev pub invariant-loop-word : goal.invariant-loop-word
invariant-loop-word l = (k : ℕ) (d : Bor (List ℕ)) → k < l.word-index → IsKnownTarget (circuit l.net) (get_or l.words k d).now
