use Rattle.std.proofs.Common.{◌≡◌, ◌++◌, take}
use Rattle.reduce_up.specs.AnswersByLevel.{joined}
use Rattle.reduce_up.proofs.picking.add_all.Given as goal

abbrev pub invariant-loop-part : goal.invariant-loop-part
invariant-loop-part l = l.own ≡ l.fn.own ++ joined (take l.part-index l.picked)
