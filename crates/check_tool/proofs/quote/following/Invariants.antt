use Rattle.std.proofs.Common.{◌≡◌, drop}
use Rattle.check_tool.specs.Quoting.{following}
use Rattle.check_tool.proofs.quote.following.Given as goal

abbrev pub invariant-loop-at : goal.invariant-loop-at
invariant-loop-at l = following l.fn.feeds l.text ≡ following l.left (drop l.at l.text)
