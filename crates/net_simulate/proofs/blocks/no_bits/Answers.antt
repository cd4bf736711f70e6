use Rattle.net_simulate.proofs.BlockBits.{in_no_bits}
use Rattle.net_simulate.proofs.blocks.no_bits.Goals as goal

pub returns : goal.returns
returns c = in_no_bits
