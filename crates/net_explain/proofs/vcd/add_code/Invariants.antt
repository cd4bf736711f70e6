use Rattle.std.proofs.Common.{◌++◌}
use Rattle.net_explain.specs.Vcd.{code}
use Rattle.net_explain.proofs.Codes.{IsLeft}
use Rattle.net_explain.proofs.vcd.add_code.Given as goal

abbrev pub invariant-loop-left : goal.invariant-loop-left
invariant-loop-left l = IsLeft (l.fn.text.items ++ code l.number) l.text.items l.left

abbrev pub decreases-loop-left : goal.decreases-loop-left
decreases-loop-left l = l.left
