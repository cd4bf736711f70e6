use Rattle.std.proofs.Common.{take}
use Rattle.std.specs.List.{AllZip}
use Rattle.req_table.specs.Keys.{child as child_spec}
use Rattle.req_table.specs.Places.{IsPlaced}
use Rattle.reduce_up.specs.ByPlace.{AreAdmitted}
use Rattle.wave_engine.proofs.down.place_roots.Given as goal

abbrev pub invariant-loop-entry : goal.invariant-loop-entry
invariant-loop-entry l = record {
  admitted : AreAdmitted l.store l.entries l.requests;
  placed : AllZip (λ e p. IsPlaced l.requests p (child_spec l.store e.0 e.1 e.2)) (take l.entry-index l.entries) l.roots.items;
}
