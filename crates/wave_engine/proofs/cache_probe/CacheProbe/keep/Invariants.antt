use Rattle.std.proofs.Common.{drop}
use Rattle.req_table.specs.ComputedTables.{ComputedView}
use Rattle.wave_engine.specs.CacheProbe.{AreKept}
use Rattle.wave_engine.proofs.cache_probe.CacheProbe.keep.Given as goal

abbrev pub invariant-loop-place : goal.invariant-loop-place
invariant-loop-place l = (new : ComputedView) → AreKept l.computed (drop l.place l.self.requests) (drop l.place l.found) new → AreKept l.fn.computed l.self.requests l.found new
