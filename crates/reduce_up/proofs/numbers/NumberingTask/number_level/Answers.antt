use Rattle.std.proofs.Common.{length, sym, ap, ◌∙◌}
use Rattle.reduce_up.proofs.Numbering.{level_none}
use Rattle.reduce_up.proofs.numbers.NumberingTask.number_level.Goals as goal

pub returns-then-count-eq0 : goal.returns-then-count-eq0
returns-then-count-eq0 c = level_none c.args.input c.args.sender c.args.level c.requires.level c.args.self.now c.requires.task (ap length (sym c.row.ensures) ∙ sym c.len-count.ensures ∙ c.if-count-eq0.true)
