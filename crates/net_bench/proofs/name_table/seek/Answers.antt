use Rattle.std.proofs.Common.{◌≡◌, ◌∙◌, ◌<◌, ◌-◌, ℕ, List, length, slice_get, Some, sym, ap, subst, arith, get_or}
use Rattle.std.proofs.lemmas.Option.{slice_get-get_or}
use Rattle.std.proofs.lemmas.List.{length-map}
use Rattle.slot_table.specs.Probes.{home_of, Holds, IsTaken}
use Rattle.net_bench.specs.NameTable.{name_in, names_in, folded_hash_of}
use Rattle.slot_table.proofs.Walking.{slot-first, slot-after, held_at, not_all_passed}
use Rattle.slot_table.proofs.Probing.{Passed-more, Passed-taken, not_all_taken, absent_at_empty}
use Rattle.net_bench.proofs.Names.{names_count, named_at, same_bytes, other_bytes, same_some}
use Rattle.net_bench.proofs.name_table.seek.Goals as goal

pub loop-distance-init : goal.loop-distance-init
loop-distance-init c =
    let h = c.home-slot.ensures in
    record {
      at = h.value ∙ sym (slot-first (length c.args.slots.now) (home_of folded_hash_of (length c.args.slots.now) c.args.name.now) (rw h.value at h.within));
      within = h.within;
      passed = λ e lt. absurd (omega arith);
    }

pub returns-then-slot_value-eq0 : goal.returns-then-slot_value-eq0
returns-then-slot_value-eq0 c =
    let ts = c.args.slots.now in
    let v = c.loop-distance.invariant in
    let empty : slice_get ts c.loop-distance.slot ≡ Some 0 =
    slice_get-get_or ts c.loop-distance.slot 0 v.within ∙ ap (λ z. Some z) c.if-slot_value-eq0.true in (
      absent_at_empty folded_hash_of (length ts) (names_in c.args.bytes.now c.args.spans.now) ts c.args.name.now c.loop-distance._distance c.requires.probes v.passed
          (subst (λ (z : ℕ). slice_get ts z ≡ Some 0) v.at empty),
      (
        c.loop-distance._distance,
        c.loop-distance-test.true,
        v.at,
        empty,
        Passed-taken folded_hash_of (length ts) (names_in c.args.bytes.now c.args.spans.now) ts c.args.name.now c.loop-distance._distance v.passed,
      ),
    )

pub bounds-spans-slot_value : goal.bounds-spans-slot_value
bounds-spans-slot_value c =
    let h = held_at c.args.slots.now c.loop-distance.slot c.loop-distance.invariant.within c.if-slot_value-eq0.false in
    let lt = c.requires.probes.valid c.loop-distance.slot h.0 h.2 in
    let e = h.1 in
    let len : length (names_in c.args.bytes.now c.args.spans.now) ≡ length c.args.spans.now = length-map c.args.spans.now (name_in c.args.bytes.now) in
    omega arith

pub returns-then-is_same : goal.returns-then-is_same
returns-then-is_same c =
    let ts = c.args.slots.now in
    let h = held_at ts c.loop-distance.slot c.loop-distance.invariant.within c.if-slot_value-eq0.false in
    let lt = c.requires.probes.valid c.loop-distance.slot h.0 h.2 in
    let e = h.1 in
    let len = names_count c.args.bytes.now c.args.spans.now in
    let j : ℕ = get_or ts c.loop-distance.slot 0 - 1 in
    let within : j < length c.args.spans.now = omega arith in
    named_at c.args.bytes.now c.args.spans.now j (record { start = 0; len = 0 }) within
    ∙ ap (λ z. Some z) (sym c.name_in-other.ensures ∙ same_bytes c.name_in-other.result.now c.args.name.now c.is_same.result c.is_same.ensures c.if-is_same.true)

pub loop-distance-preserved : goal.loop-distance-preserved
loop-distance-preserved c =
    let ts = c.args.slots.now in
    let names : List (List ℕ) = names_in c.args.bytes.now c.args.spans.now in
    let n : ℕ = length ts in
    let p : List ℕ = c.args.name.now in
    let v = c.loop-distance.invariant in
    let here = c.home-slot.ensures in
    let s = slot-after n (home_of folded_hash_of n p) c.loop-distance._distance c.loop-distance.slot c.next_slot-slot.result
    (rw here.value at here.within) c.loop-distance-test.true v.at c.next_slot-slot.ensures in
    let h = held_at ts c.loop-distance.slot v.within c.if-slot_value-eq0.false in
    let lt = c.requires.probes.valid c.loop-distance.slot h.0 h.2 in
    let e = h.1 in
    let len = names_count c.args.bytes.now c.args.spans.now in
    let j : ℕ = get_or ts c.loop-distance.slot 0 - 1 in
    let one : j ≡ h.0 = omega arith in
    let within : j < length c.args.spans.now = omega arith in
    let there : slice_get names j ≡ Some c.name_in-other.result.now =
    named_at c.args.bytes.now c.args.spans.now j (record { start = 0; len = 0 }) within ∙ ap (λ z. Some z) (sym c.name_in-other.ensures) in
    record {
      at = s.0;
      within = s.1;
      passed = Passed-more folded_hash_of n names ts p c.loop-distance._distance h.0 v.passed (subst (λ (z : ℕ). Holds ts z h.0) v.at h.2)
          (λ f. other_bytes c.name_in-other.result.now p c.is_same.result c.is_same.ensures c.if-is_same.false (same_some _ _ (sym there ∙ ap (λ z. slice_get names z) one ∙ f)));
    }

pub unreachable-requires : goal.unreachable-requires
unreachable-requires c =
    let ts = c.args.slots.now in
    let n : ℕ = length ts in
    let p : List ℕ = c.args.name.now in
    let v = c.loop-distance.invariant in
    let full : c.loop-distance._distance ≡ n = omega arith in
    let h = c.home-slot.ensures in
    let len : length (names_in c.args.bytes.now c.args.spans.now) ≡ length c.args.spans.now = length-map c.args.spans.now (name_in c.args.bytes.now) in
    not_all_passed n (home_of folded_hash_of n p) ts (rw h.value at h.within)
    (not_all_taken folded_hash_of n (names_in c.args.bytes.now c.args.spans.now) ts c.requires.probes (rw len c.requires.room))
    (subst (λ (z : ℕ). IsTaken n (home_of folded_hash_of n p) ts z) full (Passed-taken folded_hash_of n (names_in c.args.bytes.now c.args.spans.now) ts p c.loop-distance._distance v.passed))
