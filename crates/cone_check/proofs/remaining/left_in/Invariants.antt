use Rattle.std.proofs.Common.{◌≡◌, take}
use Rattle.std.specs.Prelude.{filter}
use Rattle.cone_check.specs.Batches.{is_left}
use Rattle.cone_check.proofs.remaining.left_in.Given as goal

abbrev pub invariant-loop-position : goal.invariant-loop-position
invariant-loop-position l = l.left.items ≡ filter (is_left l.known) (take l.position l.order)
