use Rattle.std.proofs.Common.{take}
use Rattle.std.specs.List.{AllZip}
use Rattle.net_merge.specs.SignalLiterals.{IsPairFinding}
use Rattle.net_merge.proofs.merged.pair_findings.Given as goal

abbrev pub invariant-loop-i : goal.invariant-loop-i
invariant-loop-i l = AllZip (IsPairFinding l.graph l.firsts l.seconds) (take l.i l.wanted) l.found.items
