use Rattle.std.proofs.Common.{◌<◌, length, sym, ◌∙◌, arith}
use Rattle.report_text.specs.Buses.{begins}
use Rattle.report_text.proofs.Bundling.{one_more, no_more}
use Rattle.report_text.proofs.buses.begun.Goals as goal
use Rattle.report_text.proofs.buses.begun.Goals.{then-begins, else-begins}

pub loop-place-preserved : goal.loop-place-preserved
loop-place-preserved c =
    let lt : c.loop-place.place < length c.args.names.now = omega arith in
    let few = c.loop-place.invariant.1 in
    elim c.if-begins.branch [
      | then-begins w ↦ (
        w.count-is
            ∙ one_more (begins c.args.base.now) c.args.names.now c.loop-place.place c.at.result.now c.loop-place.count c.at.ensures lt (sym c.begins.ensures ∙ w.if-begins.true) c.loop-place.invariant.0,
        omega arith,
      )
      | else-begins w ↦ (
        w.count-is
            ∙ no_more (begins c.args.base.now) c.args.names.now c.loop-place.place c.at.result.now c.loop-place.count c.at.ensures lt (sym c.begins.ensures ∙ w.if-begins.false) c.loop-place.invariant.0,
        omega arith,
      )
    ]
