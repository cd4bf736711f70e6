use Rattle.std.proofs.Common.{take}
use Rattle.net_bench.specs.Circuit.{circuit}
use Rattle.net_order.specs.Order.{condition}
use Rattle.compare_built.specs.Comparing.{AreCompared, HaveVerdicts, as_reported, details_of}
use Rattle.compare_built.proofs.verdicts.verdicts_of_pairs.Given as goal

-- the verdicts so far, for the condition of these diagrams
abbrev pub invariant-loop-i : goal.invariant-loop-i
invariant-loop-i l =
    (h : AreCompared (as_reported l.of.verdict_order) (circuit l.of.first.now) (circuit l.of.second.now) (condition l.of.given) l.of.pairing.now l.of.store.now l.of.subjects.now l.of.references.now) →
    HaveVerdicts (details_of l.of.verdict_order) h.shown.holds (circuit l.of.first.now) (circuit l.of.second.now) l.of.pairing.now (take l.i l.of.subjects.now) l.verdicts.items
