use Rattle.std.proofs.Common.{◌≡◌, ◌≤◌, ◌+◌, ◌++◌, length, drop}
use Rattle.wave_engine.specs.CacheProbe.{missing, merged}
use Rattle.wave_engine.proofs.cache_probe.CacheProbe.answers.Given as goal

abbrev pub invariant-loop-known : goal.invariant-loop-known
invariant-loop-known l = record {
  rest : l.answers.items ++ merged (drop l.known-index l.self.known) (drop l.next l.found) ≡ merged l.self.known l.found;
  left : l.next + missing (drop l.known-index l.self.known) ≤ length l.found;
}
