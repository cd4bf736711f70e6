use Rattle.std.proofs.Common.{◌∙◌, arith}
use Rattle.std.proofs.lemmas.List.{take_all}
use Rattle.compare_built.proofs.Rearranging.{table_more}
use Rattle.compare_built.proofs.arrangement.table_of.Goals as goal

pub loop-place-preserved : goal.loop-place-preserved
loop-place-preserved c =
    table_more c.args.names.now c.loop-place.table c.intern.new.self c.loop-place.place c.at.result.now c.requires
    (omega arith) c.at.ensures c.loop-place.invariant c.in_ok-intern.ensures.added

pub returns : goal.returns
returns c = c.loop-place.invariant ∙ take_all c.loop-place.place c.args.names.now (omega arith)
