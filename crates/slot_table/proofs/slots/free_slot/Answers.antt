use Rattle.std.proofs.Common.{◌∙◌, sym, ap, Some, length, ◌≡◌, arith, subst, ℕ}
use Rattle.std.proofs.lemmas.Option.{slice_get-get_or}
use Rattle.slot_table.specs.Probes.{Holds, IsTaken}
use Rattle.slot_table.proofs.Walking.{slot-first, slot-after, held_at, IsTaken-more, not_all_passed}
use Rattle.slot_table.proofs.slots.free_slot.Goals as goal

pub loop-distance-init : goal.loop-distance-init
loop-distance-init c = record {
  at = sym (slot-first _ _ c.requires.home);
  within = c.requires.home;
  taken = λ e lt. absurd (omega arith);
}

pub returns-then-slots-slot-eq0 : goal.returns-then-slots-slot-eq0
returns-then-slots-slot-eq0 c = (
  c.loop-distance._distance,
  c.loop-distance-test.true,
  c.loop-distance.invariant.at,
  slice_get-get_or c.args.slots.now c.loop-distance.slot 0 c.loop-distance.invariant.within ∙ ap (λ z. Some z) c.if-slots-slot-eq0.true,
  c.loop-distance.invariant.taken,
)

pub loop-distance-preserved : goal.loop-distance-preserved
loop-distance-preserved c =
    let v = c.loop-distance.invariant in
    let s = slot-after (length c.args.slots.now) c.args.home c.loop-distance._distance c.loop-distance.slot c.next_slot-slot.result
    c.requires.home c.loop-distance-test.true v.at c.next_slot-slot.ensures in
    let h = held_at c.args.slots.now c.loop-distance.slot v.within c.if-slots-slot-eq0.false in
    record {
      at = s.0;
      within = s.1;
      taken = IsTaken-more _ _ _ _ v.taken (h.0, subst (λ (z : ℕ). Holds c.args.slots.now z h.0) v.at h.2);
    }

pub unreachable-requires : goal.unreachable-requires
unreachable-requires c =
    let v = c.loop-distance.invariant in
    let full : c.loop-distance._distance ≡ length c.args.slots.now = omega arith in
    not_all_passed (length c.args.slots.now) c.args.home c.args.slots.now c.requires.home c.requires.free
    (subst (λ (z : ℕ). IsTaken (length c.args.slots.now) c.args.home c.args.slots.now z) full v.taken)
