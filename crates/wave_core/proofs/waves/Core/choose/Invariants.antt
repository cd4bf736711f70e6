use Rattle.std.proofs.Common.{drop}
use Rattle.wave_core.specs.Cores.{IsSameWave, Reaches}
use Rattle.wave_core.proofs.Drives.{DrivesOn}
use Rattle.wave_core.proofs.waves.Core.choose.Given as goal

abbrev pub invariant-loop-choice : goal.invariant-loop-choice
invariant-loop-choice l = record { same : IsSameWave l.fn.self l.self; drives : DrivesOn l.fn.self l.self l.choices (drop l.choice-index l.choices); runs : Reaches l.fn.self l.self }
