use Rattle.std.proofs.Common.{sym, ◌∙◌, ap}
use Rattle.req_table.specs.PackedChildWords.{packed_child_word}
use Rattle.req_table.specs.PackedChildLaws.{packed_child_word-packed_child_of}
use Rattle.req_table.proofs.packed_child.PackedChild.word.Goals as goal

pub returns-clause-word : goal.returns-clause-word
returns-clause-word c = sym (packed_child_word-packed_child_of c.self.inside.word c.self.invariant) ∙ ap packed_child_word c.self.view_is
