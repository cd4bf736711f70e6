use Rattle.std.proofs.Common.{[]}
use Rattle.wave_core.specs.Cores.{IsSameWave, Reaches}
use Rattle.wave_core.specs.CoreMeasure.{core_measure}
use Rattle.wave_core.proofs.Drives.{DrivesOn}
use Rattle.wave_core.proofs.waves.Core.finish.Given as goal

abbrev pub invariant-loop-self : goal.invariant-loop-self
invariant-loop-self l = record { same : IsSameWave l.fn.self l.self; drives : DrivesOn l.fn.self l.self [] []; runs : Reaches l.fn.self l.self }

abbrev pub decreases-loop-self : goal.decreases-loop-self
decreases-loop-self l = core_measure l.self
