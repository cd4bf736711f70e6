use Rattle.std.proofs.Common.{◌∙◌, ◌<◌, ◌*◌, ◌+◌, arith}
use Rattle.net_patterns.specs.Patterns.{pattern_bit}
use Rattle.net_patterns.proofs.WordBits.{level_bits, levels_more}
use Rattle.net_patterns.proofs.patterns.Patterns.set_block.Goals as goal

pub loop-level-preserved : goal.loop-level-preserved
loop-level-preserved c = λ i low.
    levels_more (pattern_bit c.args.self.now (512 * c.args.block + i)) i c.loop-level.at c.loop-level.level c.level_block-words.result (omega arith)
    (c.loop-level.invariant i low) (c.level_block-words.ensures i low)

pub returns : goal.returns
returns c = λ i low.
    level_bits c.args.self.now (512 * c.args.block + i) i c.loop-level.at (c.loop-level.auto.at ∙ c.requires.each)
    (λ k less. let early : k < c.loop-level.level = omega (arith, c.loop-level.auto.at, c.requires.each) in c.loop-level.invariant i low k early)
