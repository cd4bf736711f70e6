use Rattle.std.proofs.Common.{◌<◌, length, ap, arith}
use Rattle.std.specs.Prelude.{flat_map}
use Rattle.report_text.specs.Buses.{bus_at}
use Rattle.report_text.proofs.Wording.{moved}
use Rattle.report_text.proofs.Bundling.{next_of}
use Rattle.report_text.proofs.buses.buses_of.Goals as goal

pub loop-place-preserved : goal.loop-place-preserved
loop-place-preserved c =
    let lt : c.loop-place.place < length c.args.names.now = omega arith in
    moved _ _ _ _ _ _ c.loop-place.invariant
    (ap (flat_map (bus_at c.args.names.now)) (next_of c.args.names.now c.loop-place.place c.at.result.now c.at.ensures lt))
    c.in_ok-add_bus.ensures
