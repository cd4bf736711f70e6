use Rattle.net_simulate.proofs.BlockBits.{in_sum}
use Rattle.net_simulate.proofs.blocks.xor_blocks.Goals as goal

pub returns : goal.returns
returns c = λ i low. in_sum i c.args.block.now c.args.other.now c.xor_each.new.block low c.xor_each.ensures
