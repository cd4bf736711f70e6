use Rattle.std.proofs.Common.{◌≡◌, [], ◌≤◌, ◌<◌, ◌-◌, ◌^◌, List}
use Rattle.req_table.specs.declared.Key.{Key}
use Rattle.wave_engine.proofs.Waiting.{IsGoing}
use Rattle.wave_engine.proofs.down.expand.Given as goal

abbrev pub invariant-loop-next : goal.invariant-loop-next
invariant-loop-next g l = record {
  bound : l.level ≤ l.store.levels;
  few : l.store.levels < 2 ^ 16;
  keys : l.keys ≡ [];
  going : (T : List (List Key)) × IsGoing l.store l.entries l.down.roots.items l.level l.down.requests l.down.rows l.limits.wave l.left l.fn.down.splits l.down.splits T;
}

abbrev pub decreases-loop-next : goal.decreases-loop-next
decreases-loop-next g l = l.store.levels - l.level
