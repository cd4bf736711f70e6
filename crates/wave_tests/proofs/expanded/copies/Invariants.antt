use Rattle.std.proofs.Common.{All}
use Rattle.req_table.specs.Keys.{IsKey}
use Rattle.wave_tests.proofs.expanded.copies.Given as goal

abbrev pub invariant-loop : goal.invariant-loop
invariant-loop g l = All (IsKey l.store) l.keys.items
