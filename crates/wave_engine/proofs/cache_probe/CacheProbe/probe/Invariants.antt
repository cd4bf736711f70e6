use Rattle.std.proofs.Common.{◌≡◌, ◌++◌, drop, map}
use Rattle.wave_engine.specs.CacheProbe.{known_entry, unknown}
use Rattle.wave_engine.proofs.cache_probe.CacheProbe.probe.Given as goal

abbrev pub invariant-loop-entry : goal.invariant-loop-entry
invariant-loop-entry l = record {
  known : l.self-inside.known.items ++ map (known_entry l.computed) (drop l.entry-index l.entries) ≡ map (known_entry l.computed) l.entries;
  requests : l.self-inside.requests.items ++ unknown l.computed (drop l.entry-index l.entries) ≡ unknown l.computed l.entries;
}
