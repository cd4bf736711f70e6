use Rattle.net_simulate.proofs.BlockBits.{in_one}
use Rattle.net_simulate.proofs.blocks.or_blocks.Goals as goal

pub returns : goal.returns
returns c = λ i low. in_one i c.args.block.now c.args.other.now c.or_each.new.block low c.or_each.ensures
