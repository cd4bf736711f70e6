use Rattle.std.proofs.Common.{◌≡◌, ◌∙◌, ◌++◌, ◌+◌, ◌-◌, ◌*◌, ◌≤◌, List, ℕ, sym, ap, subst, slice_get, length, Some, arith}
use Rattle.net_bench.specs.declared.name_table.Span.{Span}
use Rattle.net_bench.specs.Circuit.{with_name}
use Rattle.slot_table.specs.Probes.{Probes, IsFree, home_of}
use Rattle.net_bench.specs.NameTable.{names_in, folded_hash_of}
use Rattle.net_bench.proofs.NameMap.{interned_there, interned_new, new_number}
use Rattle.net_bench.proofs.Names.{found_place, found_missing, more_names, names_count, IsTable-push}
use Rattle.net_bench.proofs.name_table.NameTable.intern.Goals as goal

pub invariant_of-self-in-Slot : goal.invariant_of-self-in-Slot
invariant_of-self-in-Slot c =
    let b : List ℕ = c.self.inside.bytes.items in
    let ss : List Span = c.self.inside.spans.items in
    let ts : List ℕ = c.grow_slots.new.slots.items in
    let s : Span = c.in_ok-span.span in
    let p1 = subst (λ (z : List ℕ). Probes folded_hash_of (length ts) (names_in z c.as_slice-3.result.now) ts) c.as_slice-2.ensures.value c.in_ok-grow_slots.ensures.probes in
    let probes : Probes folded_hash_of (length ts) (names_in b ss) ts = subst (λ (z : List Span). Probes folded_hash_of (length ts) (names_in b z) ts) c.as_slice-3.ensures.value p1 in
    let room : 2 * (length ss + 1) ≤ length ts = subst (λ (z : List Span). 2 * (length z + 1) ≤ length ts) c.as_slice-3.ensures.value c.in_ok-grow_slots.ensures.room in
    let f1 = subst (λ (z : List ℕ). (i : ℕ) → slice_get (names_in z c.as_slice-5.result.now) i ≡ Some c.args.name.now → ⊥) c.as_slice-4.ensures.value c.in-Slot.ensures.0 in
    let absent = subst (λ (z : List Span). (i : ℕ) → slice_get (names_in b z) i ≡ Some c.args.name.now → ⊥) c.as_slice-5.ensures.value f1 in
    let free : IsFree (length ts) (home_of folded_hash_of (length ts) c.args.name.now) ts c.in-Slot.slot =
    subst (λ (z : List ℕ). IsFree (length z) (home_of folded_hash_of (length z) c.args.name.now) z c.in-Slot.slot) c.as_slice-6.ensures.value c.in-Slot.ensures.1 in
    IsTable-push b c.put.new.bytes.items c.args.name.now ss c.put.new.spans.items s ts c.in-Slot.slot c.in_ok-slot_value.slot_value
    c.self.invariant.in_bounds c.self.invariant.once probes room absent free c.in_ok-put-in-Slot.ensures.bytes c.in_ok-put-in-Slot.ensures.spans
    (omega (arith, c.in_ok-span.ensures.start)) (omega (arith, c.in_ok-span.ensures.len)) (omega (arith, c.in_ok-slot_value.ensures))

pub returns-in-Number-clause-added : goal.returns-in-Number-clause-added
returns-in-Number-clause-added c =
    let names : List (List ℕ) = names_in c.self.inside.bytes.items c.self.inside.spans.items in
    let f1 = subst (λ (z : List ℕ). slice_get (names_in z c.as_slice-5.result.now) c.in-Number.number ≡ Some c.args.name.now) c.as_slice-4.ensures.value c.in-Number.ensures in
    let at : slice_get names c.in-Number.number ≡ Some c.args.name.now =
    subst (λ (z : List Span). slice_get (names_in c.self.inside.bytes.items z) c.in-Number.number ≡ Some c.args.name.now) c.as_slice-5.ensures.value f1 in
    sym (interned_there names c.args.name.now c.in-Number.number (found_place names c.args.name.now c.in-Number.number c.self.invariant.once at)) ∙
    ap (λ ns. with_name ns c.args.name.now) c.self.view_is

pub returns-in-Number-clause-number : goal.returns-in-Number-clause-number
returns-in-Number-clause-number c =
    let names : List (List ℕ) = names_in c.self.inside.bytes.items c.self.inside.spans.items in
    let f1 = subst (λ (z : List ℕ). slice_get (names_in z c.as_slice-5.result.now) c.in-Number.number ≡ Some c.args.name.now) c.as_slice-4.ensures.value c.in-Number.ensures in
    let at : slice_get names c.in-Number.number ≡ Some c.args.name.now =
    subst (λ (z : List Span). slice_get (names_in c.self.inside.bytes.items z) c.in-Number.number ≡ Some c.args.name.now) c.as_slice-5.ensures.value f1 in
    found_place names c.args.name.now c.in-Number.number c.self.invariant.once at

pub returns-in_ok-put-in-Slot-clause-added : goal.returns-in_ok-put-in-Slot-clause-added
returns-in_ok-put-in-Slot-clause-added c =
    let b : List ℕ = c.self.inside.bytes.items in
    let ss : List Span = c.self.inside.spans.items in
    let s : Span = c.in_ok-span.span in
    let f1 = subst (λ (z : List ℕ). (i : ℕ) → slice_get (names_in z c.as_slice-5.result.now) i ≡ Some c.args.name.now → ⊥) c.as_slice-4.ensures.value c.in-Slot.ensures.0 in
    let absent = subst (λ (z : List Span). (i : ℕ) → slice_get (names_in b z) i ≡ Some c.args.name.now → ⊥) c.as_slice-5.ensures.value f1 in
    ap (λ z. names_in z c.put.new.spans.items) c.in_ok-put-in-Slot.ensures.bytes ∙ ap (names_in (b ++ c.args.name.now)) c.in_ok-put-in-Slot.ensures.spans ∙
    more_names b c.args.name.now ss s c.self.invariant.in_bounds (omega (arith, c.in_ok-span.ensures.start)) (omega (arith, c.in_ok-span.ensures.len)) ∙
    sym (interned_new (names_in b ss) c.args.name.now (found_missing (names_in b ss) c.args.name.now absent)) ∙ ap (λ ns. with_name ns c.args.name.now) c.self.view_is

pub returns-in_ok-put-in-Slot-clause-number : goal.returns-in_ok-put-in-Slot-clause-number
returns-in_ok-put-in-Slot-clause-number c =
    let b : List ℕ = c.self.inside.bytes.items in
    let ss : List Span = c.self.inside.spans.items in
    let s : Span = c.in_ok-span.span in
    let f1 = subst (λ (z : List ℕ). (i : ℕ) → slice_get (names_in z c.as_slice-5.result.now) i ≡ Some c.args.name.now → ⊥) c.as_slice-4.ensures.value c.in-Slot.ensures.0 in
    let absent = subst (λ (z : List Span). (i : ℕ) → slice_get (names_in b z) i ≡ Some c.args.name.now → ⊥) c.as_slice-5.ensures.value f1 in
    new_number (names_in b ss) (names_in c.put.new.bytes.items c.put.new.spans.items) c.args.name.now (c.in_ok-slot_value.slot_value - 1)
    (found_missing (names_in b ss) c.args.name.now absent)
    (ap (λ z. names_in z c.put.new.spans.items) c.in_ok-put-in-Slot.ensures.bytes ∙ ap (names_in (b ++ c.args.name.now)) c.in_ok-put-in-Slot.ensures.spans ∙
    more_names b c.args.name.now ss s c.self.invariant.in_bounds (omega (arith, c.in_ok-span.ensures.start)) (omega (arith, c.in_ok-span.ensures.len)))
    (omega (arith, c.in_ok-slot_value.ensures, names_count b ss))
