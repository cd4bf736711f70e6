use Rattle.net_bench.proofs.Faultless.{faultless_sound}
use Rattle.net_bench.proofs.laws.faultless_sound.Goals as goal

pub returns : goal.returns
returns c = faultless_sound
