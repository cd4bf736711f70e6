use Rattle.std.proofs.Common.{rules, sym, ◌∙◌, ap, arith}
use Rattle.req_table.specs.declared.packed_child.PlacedChild.TheVariants.{Done}
use Rattle.req_table.specs.PackedChildLaws.{long_answer, long, long_level}
use Rattle.req_table.proofs.packed_child.PackedChild.view.Goals as goal

pub returns-then-word-lt-ASK_BIT : goal.returns-then-word-lt-ASK_BIT
returns-then-word-lt-ASK_BIT c =
    ap Done c.of_word-then-word-lt-ASK_BIT.ensures ∙ sym (long_answer c.self.inside.word (omega arith) (omega arith)) ∙ c.self.view_is

pub returns : goal.returns
returns c = sym (long c.self.inside.word (omega arith)) ∙ c.self.view_is

pub overflow_cast-result : goal.overflow_cast-result
overflow_cast-result c = let few = long_level c.self.inside.word c.self.invariant (search rules) in search rules
