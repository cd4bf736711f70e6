use Rattle.std.proofs.Common.{◌∙◌, ap}
use Rattle.req_table.specs.declared.packed_child.PlacedChild.TheVariants.{Done}
use Rattle.req_table.specs.PackedChildLaws.{answer}
use Rattle.req_table.proofs.packed_child.PackedChild.done.Goals as goal

pub returns : goal.returns
returns c = answer c.word.result c.word.ensures.within ∙ ap Done c.word.ensures.back
