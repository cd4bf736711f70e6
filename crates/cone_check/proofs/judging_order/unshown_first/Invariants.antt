use Rattle.std.proofs.Common.{◌≡◌, take}
use Rattle.std.specs.Prelude.{filter}
use Rattle.cone_check.specs.JudgingOrder.{is_shown, is_unshown}
use Rattle.cone_check.proofs.judging_order.unshown_first.Given as goal

abbrev pub invariant-loop-position : goal.invariant-loop-position
invariant-loop-position l = record {
  first : l.first.items ≡ filter (is_unshown l.flags) (take l.position l.order);
  last : l.last.items ≡ filter (is_shown l.flags) (take l.position l.order);
}
