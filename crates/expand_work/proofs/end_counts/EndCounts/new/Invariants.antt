use Rattle.std.proofs.Common.{◌≡◌, replicate}
use Rattle.expand_work.proofs.end_counts.EndCounts.new.Given as goal

abbrev pub invariant-loop-sender : goal.invariant-loop-sender
invariant-loop-sender l = l.ended.items ≡ replicate l.sender 0
