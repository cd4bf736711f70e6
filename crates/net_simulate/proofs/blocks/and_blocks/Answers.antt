use Rattle.net_simulate.proofs.BlockBits.{in_both}
use Rattle.net_simulate.proofs.blocks.and_blocks.Goals as goal

pub returns : goal.returns
returns c = λ i low. in_both i c.args.block.now c.args.other.now c.and_each.new.block low c.and_each.ensures
