use Rattle.net_simulate.proofs.BlockBits.{in_all_bits}
use Rattle.net_simulate.proofs.blocks.all_bits.Goals as goal

pub returns : goal.returns
returns c = in_all_bits
