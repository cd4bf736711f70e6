use Rattle.std.proofs.Common.{rules}
use Rattle.slot_table.specs.Mixing.{mix_of}
use Rattle.slot_table.proofs.mix.Goals as goal

pub returns : goal.returns
unfolding mix_of
returns c = search rules
