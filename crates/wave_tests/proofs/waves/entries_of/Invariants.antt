use Rattle.std.proofs.Common.{All}
use Rattle.reduce_up.specs.Waves.{IsEntry}
use Rattle.wave_tests.proofs.waves.entries_of.Given as goal

abbrev pub invariant-loop-op : goal.invariant-loop-op
invariant-loop-op g l = All (IsEntry l.store) l.entries.items
