use Rattle.std.proofs.Common.{◌≡◌, ◌++◌, take}
use Rattle.wave_engine.proofs.front.push_all.Given as goal

abbrev pub invariant-loop-place : goal.invariant-loop-place
invariant-loop-place l = l.front.items ≡ l.initial.front.items ++ take l.place l.keys
