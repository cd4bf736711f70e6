use Rattle.std.proofs.Common.{◌≡◌, [], drop}
use Rattle.cone_check.specs.JudgingOrder.{flags_after}
use Rattle.cone_check.proofs.judging_order.shown_flags.Given as goal

abbrev pub invariant-loop-place : goal.invariant-loop-place
invariant-loop-place l = flags_after (drop l.place l.numbers) (drop l.place l.shown) l.flags.items ≡ flags_after l.numbers l.shown []
