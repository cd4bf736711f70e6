use Rattle.std.proofs.Common.{◌≤◌, All, sym, subst, arith}
use Rattle.std.proofs.lemmas.List.Elements.{All-replicate}
use Rattle.expand_work.proofs.end_counts.EndCounts.new.Goals as goal

pub invariant_of-result : goal.invariant_of-result
invariant_of-result c = subst (All (λ n. n ≤ c.args.levels)) (sym c.loop-sender.invariant) (All-replicate (λ n. n ≤ c.args.levels) c.loop-sender.sender 0 (omega arith))
