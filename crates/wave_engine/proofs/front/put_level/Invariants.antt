use Rattle.wave_engine.specs.Front.{IsCopied}
use Rattle.wave_engine.proofs.front.put_level.Given as goal

abbrev pub invariant-loop-place : goal.invariant-loop-place
invariant-loop-place l = IsCopied l.found l.at l.place l.answers
