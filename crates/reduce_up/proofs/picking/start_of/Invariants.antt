use Rattle.std.proofs.Common.{◌≡◌}
use Rattle.reduce_up.specs.Division.{begin_of}
use Rattle.reduce_up.proofs.picking.start_of.Given as goal

abbrev pub invariant-loop-before : goal.invariant-loop-before
invariant-loop-before l = l.start ≡ begin_of l.parts l.before l.shard
