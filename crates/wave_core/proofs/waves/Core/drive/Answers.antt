use Rattle.wave_core.proofs.Stepped.{reaches_then}
use Rattle.wave_core.proofs.waves.Core.drive.Goals as goal

pub returns-in-Ok-finish-clause-reached : goal.returns-in-Ok-finish-clause-reached
returns-in-Ok-finish-clause-reached c = reaches_then c.args.self.now c.choose.new.self c.finish.new.self c.choose.ensures.same c.choose.ensures.reached c.finish.ensures.reached

pub returns-clause-reached : goal.returns-clause-reached
returns-clause-reached c = reaches_then c.args.self.now c.choose.new.self c.finish.new.self c.choose.ensures.same c.choose.ensures.reached c.finish.ensures.reached
