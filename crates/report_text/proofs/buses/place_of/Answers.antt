use Rattle.std.proofs.Common.{sym, ◌∙◌, arith}
use Rattle.report_text.proofs.Bundling.{sought, found_here, not_here}
use Rattle.report_text.proofs.buses.place_of.Goals as goal

pub loop-place-init : goal.loop-place-init
loop-place-init c = sought c.args.names.now c.args.name.now

pub returns-then-eq : goal.returns-then-eq
returns-then-eq c =
    found_here c.args.names.now c.args.name.now c.at.result.now c.loop-place.place c.at.ensures (omega arith) (sym c.eq.ensures ∙ c.if-eq.true) c.loop-place.invariant

pub loop-place-preserved : goal.loop-place-preserved
loop-place-preserved c =
    not_here c.args.names.now c.args.name.now c.at.result.now c.loop-place.place c.at.ensures (omega arith) (sym c.eq.ensures ∙ c.if-eq.false) c.loop-place.invariant
