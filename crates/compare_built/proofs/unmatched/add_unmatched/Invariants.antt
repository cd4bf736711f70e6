use Rattle.std.proofs.Common.{◌≡◌, ◌++◌, drop, map}
use Rattle.net_bench.specs.Circuit.{circuit}
use Rattle.net_order.specs.Order.{names_of}
use Rattle.report_text.specs.declared.verdict.Verdict.TheVariants.{Unmatched}
use Rattle.compare_built.proofs.unmatched.add_unmatched.Given as goal

-- what is still to be added completes the list
abbrev pub invariant-loop-signal : goal.invariant-loop-signal
invariant-loop-signal l =
    l.verdicts.items ++ map (Unmatched l.side l.role) (names_of (circuit l.net) (drop l.signal-index l.signals))
    ≡ l.fn.verdicts.items ++ map (Unmatched l.side l.role) (names_of (circuit l.net) l.signals)
