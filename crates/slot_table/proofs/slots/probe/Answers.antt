use Rattle.std.proofs.Common.{◌≡◌, ◌∙◌, ◌<◌, ◌-◌, ℕ, length, slice_get, Some, true≢false, sym, ap, subst, arith, get_or, bit_and}
use Rattle.std.proofs.lemmas.Option.{slice_get-get_or, get_or_from_slice_get}
use Rattle.slot_table.specs.Probes.{home_of, Holds, IsTaken}
use Rattle.slot_table.specs.Stamps.{places_in, tag_of}
use Rattle.slot_table.proofs.Counting.{slots-some}
use Rattle.slot_table.proofs.Walking.{slot-first, slot-after, not_all_passed}
use Rattle.slot_table.proofs.Probing.{Passed-more, Passed-taken, not_all_taken, absent_at_empty}
use Rattle.slot_table.proofs.Stamping.{place_at, taken_by_place, seen}
use Rattle.slot_table.proofs.slots.probe.Goals as goal
use Rattle.slot_table.proofs.slots.probe.Goals.{else-content-number-via-then-content-number+else-eq, else-content-number-via-else-content-number}

same_some : {X : Type 0} (x y : X) → Some x ≡ Some y → x ≡ y
same_some x y e = cc

pub loop-distance-init : goal.loop-distance-init
loop-distance-init g c =
    let h = c.home-slot.ensures in
    record {
      at = h.value ∙ sym (slot-first (length c.args.slots.now) (home_of g.T.SlotHash.slot_hash_of (length c.args.slots.now) c.args.item) (rw h.value at h.within));
      within = h.within;
      passed = λ e lt. absurd (omega arith);
    }

pub returns-then-content-eq0 : goal.returns-then-content-eq0
returns-then-content-eq0 g c =
    let ts = c.args.slots.now in
    let n : ℕ = length ts in
    let s = g.T.SlotHash.slot_hash_of in
    let v = c.loop-distance.invariant in
    let some = slots-some (length c.args.items.now) n c.requires.count (omega arith) in
    let empty : slice_get ts c.loop-distance.slot ≡ Some 0 =
    slice_get-get_or ts c.loop-distance.slot 0 v.within ∙ ap (λ z. Some z) c.if-content-eq0.true in (
      λ at. absent_at_empty s n c.args.items.now (places_in n ts) c.args.item c.loop-distance._distance c.requires.finds.probes v.passed
          (subst (λ (z : ℕ). slice_get (places_in n ts) z ≡ Some 0) v.at (place_at n ts c.loop-distance.slot 0 empty)) at.0 at.1,
      λ _. (
        c.loop-distance._distance,
        c.loop-distance-test.true,
        v.at,
        empty,
        taken_by_place n ts (home_of s n c.args.item) c.loop-distance._distance
            (Passed-taken s n c.args.items.now (places_in n ts) c.args.item c.loop-distance._distance v.passed),
      ),
    )

pub overflow_sub-number-then-content-number : goal.overflow_sub-number-then-content-number
overflow_sub-number-then-content-number g c =
    let h = seen g.T.SlotHash.slot_hash_of c.args.items.now c.args.slots.now c.loop-distance.slot c.requires.finds c.requires.count
    c.loop-distance.invariant.within c.if-content-eq0.false in
    omega (arith, h.3, h.4)

pub offset_bounds-items-number : goal.offset_bounds-items-number
offset_bounds-items-number g c =
    let h = seen g.T.SlotHash.slot_hash_of c.args.items.now c.args.slots.now c.loop-distance.slot c.requires.finds c.requires.count
    c.loop-distance.invariant.within c.if-content-eq0.false in
    omega (arith, h.3, h.4)

pub bounds-items-number : goal.bounds-items-number
bounds-items-number g c =
    let h = seen g.T.SlotHash.slot_hash_of c.args.items.now c.args.slots.now c.loop-distance.slot c.requires.finds c.requires.count
    c.loop-distance.invariant.within c.if-content-eq0.false in
    omega (arith, h.3, h.4)

pub overflow_sub-result : goal.overflow_sub-result
overflow_sub-result g c =
    let h = seen g.T.SlotHash.slot_hash_of c.args.items.now c.args.slots.now c.loop-distance.slot c.requires.finds c.requires.count
    c.loop-distance.invariant.within c.if-content-eq0.false in
    omega (arith, h.3, h.4)

pub returns-then-eq : goal.returns-then-eq
returns-then-eq g c =
    let xs = c.args.items.now in
    let h = seen g.T.SlotHash.slot_hash_of c.args.items.now c.args.slots.now c.loop-distance.slot c.requires.finds c.requires.count
    c.loop-distance.invariant.within c.if-content-eq0.false in
    let place = h.4 in
    let lt = h.3 in
    let j : ℕ = bit_and (get_or c.args.slots.now c.loop-distance.slot 0) (length c.args.slots.now - 1) - 1 in
    let within : j < length xs = omega arith in
    let x = c.index-items-number.result in
    slice_get-get_or xs j x within ∙ ap (λ z. Some z) (sym c.index-items-number.is ∙ g.met.T.SlotHash.same x c.args.item (sym c.eq.ensures ∙ c.if-eq.true))

pub loop-distance-preserved : goal.loop-distance-preserved
loop-distance-preserved g c =
    let ts = c.args.slots.now in
    let xs = c.args.items.now in
    let n : ℕ = length ts in
    let s = g.T.SlotHash.slot_hash_of in
    let y = c.args.item in
    let v = c.loop-distance.invariant in
    let here = c.home-slot.ensures in
    let t = slot-after n (home_of s n y) c.loop-distance._distance c.loop-distance.slot c.next_slot-slot.result
    (rw here.value at here.within) c.loop-distance-test.true v.at c.next_slot-slot.ensures in
    let h = seen g.T.SlotHash.slot_hash_of c.args.items.now c.args.slots.now c.loop-distance.slot c.requires.finds c.requires.count
    c.loop-distance.invariant.within c.if-content-eq0.false in
    let content : Holds (places_in n ts) c.loop-distance.slot h.0 = h.6 in
    let place = h.4 in
    let j : ℕ = bit_and (get_or ts c.loop-distance.slot 0) (n - 1) - 1 in
    let one : j ≡ h.0 = omega arith in
    record {
      at = t.0;
      within = t.1;
      passed = Passed-more s n xs (places_in n ts) y c.loop-distance._distance h.0 v.passed
          (subst (λ (z : ℕ). Holds (places_in n ts) z h.0) v.at content)
          (λ f. elim c.else-content-number.branch [
            | else-content-number-via-then-content-number+else-eq w ↦
                let found = get_or_from_slice_get xs j y w.index-items-number.result (ap (λ z. slice_get xs z) one ∙ f) in
                let same = w.index-items-number.is ∙ found in
                true≢false (sym (g.met.T.Eq.laws.refl y) ∙ ap (λ z. g.T.PartialEq.eq z y) (sym same) ∙ sym w.eq.ensures ∙ w.if-eq.false)
            | else-content-number-via-else-content-number w ↦
                w.if-content-number.false (h.5 ∙ ap (λ z. tag_of s n z) (same_some h.1 y (sym h.2 ∙ f)) ∙ sym c.tag-tag.ensures)
          ]);
    }

pub unreachable-requires : goal.unreachable-requires
unreachable-requires g c =
    let ts = c.args.slots.now in
    let n : ℕ = length ts in
    let s = g.T.SlotHash.slot_hash_of in
    let v = c.loop-distance.invariant in
    let full : c.loop-distance._distance ≡ n = omega arith in
    let h = c.home-slot.ensures in
    let some = slots-some (length c.args.items.now) n c.requires.count (omega arith) in
    not_all_passed n (home_of s n c.args.item) (places_in n ts) (rw h.value at h.within)
    (not_all_taken s n c.args.items.now (places_in n ts) c.requires.finds.probes some.0)
    (subst (λ (z : ℕ). IsTaken n (home_of s n c.args.item) (places_in n ts) z) full
    (Passed-taken s n c.args.items.now (places_in n ts) c.args.item c.loop-distance._distance v.passed))
