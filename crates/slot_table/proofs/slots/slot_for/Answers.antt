use Rattle.std.proofs.Common.{◌≡◌, ◌+◌, inl, inr, ℕ, List, length, sym, ◌∙◌, subst, arith}
use Rattle.slot_table.specs.Probes.{home_of, IsFree, HasFree, IsSlotCount}
use Rattle.slot_table.specs.Stamps.{Finds}
use Rattle.slot_table.proofs.Counting.{slots-more, slots-room}
use Rattle.slot_table.proofs.Stamping.{has_free, size_is}
use Rattle.slot_table.proofs.slots.slot_for.Goals as goal
use Rattle.slot_table.proofs.slots.slot_for.Goals.{then-count-eq0, else-count-eq0}

pub rehash-requires-clause-power : goal.rehash-requires-clause-power
rehash-requires-clause-power g c =
    let xs = c.args.items.now in
    let more : IsSlotCount (length xs + 1) c.if-count-eq0.more =
    slots-more (length xs) c.len-count.result c.if-count-eq0.more
    (subst (λ (z : ℕ). IsSlotCount (length xs) z) (sym (c.len-count.ensures ∙ c.args.slots.now.ok.0)) c.requires.count) c.if-items-count.false
    (elim c.if-count-eq0.branch [
      | then-count-eq0 w ↦ inl (w.if-count-eq0.true, w.more-is)
      | else-count-eq0 w ↦ inr (w.if-count-eq0.false, w.more-is)
    ]) in
    (slots-room (length xs) c.if-count-eq0.more more).1

pub free_slot-requires-clause-free : goal.free_slot-requires-clause-free
free_slot-requires-clause-free g c =
    let xs = c.args.items.now in
    let ts : List ℕ = c.rehash.new.slots.items in
    let s = g.T.SlotHash.slot_hash_of in
    let more : IsSlotCount (length xs + 1) c.if-count-eq0.more =
    slots-more (length xs) c.len-count.result c.if-count-eq0.more
    (subst (λ (z : ℕ). IsSlotCount (length xs) z) (sym (c.len-count.ensures ∙ c.args.slots.now.ok.0)) c.requires.count) c.if-items-count.false
    (elim c.if-count-eq0.branch [
      | then-count-eq0 w ↦ inl (w.if-count-eq0.true, w.more-is)
      | else-count-eq0 w ↦ inr (w.if-count-eq0.false, w.more-is)
    ]) in
    let some = slots-room (length xs) c.if-count-eq0.more more in
    let room = some.0 in
    let w : Finds s c.if-count-eq0.more xs ts = c.in_ok-rehash.ensures.finds in
    let free : HasFree c.if-count-eq0.more ts = has_free s c.if-count-eq0.more some.1 xs ts (omega arith) w in
    let size : length ts ≡ c.if-count-eq0.more = size_is s c.if-count-eq0.more xs ts w in
    let own : HasFree (length ts) ts = subst (λ (z : ℕ). HasFree z ts) (sym size) free in
    subst (λ (z : List ℕ). HasFree (length z) z) (sym c.as_slice.ensures.value) own

pub returns-clause-count : goal.returns-clause-count
returns-clause-count g c =
    let xs = c.args.items.now in
    let ts : List ℕ = c.rehash.new.slots.items in
    let more : IsSlotCount (length xs + 1) c.if-count-eq0.more =
    slots-more (length xs) c.len-count.result c.if-count-eq0.more
    (subst (λ (z : ℕ). IsSlotCount (length xs) z) (sym (c.len-count.ensures ∙ c.args.slots.now.ok.0)) c.requires.count) c.if-items-count.false
    (elim c.if-count-eq0.branch [
      | then-count-eq0 w ↦ inl (w.if-count-eq0.true, w.more-is)
      | else-count-eq0 w ↦ inr (w.if-count-eq0.false, w.more-is)
    ]) in
    let w : Finds g.T.SlotHash.slot_hash_of c.if-count-eq0.more xs ts = c.in_ok-rehash.ensures.finds in
    subst (λ (z : ℕ). IsSlotCount (length xs + 1) z) (sym (size_is g.T.SlotHash.slot_hash_of c.if-count-eq0.more xs ts w)) more

pub returns-clause-free : goal.returns-clause-free
returns-clause-free g c =
    let xs = c.args.items.now in
    let ts : List ℕ = c.rehash.new.slots.items in
    let s = g.T.SlotHash.slot_hash_of in
    let x = c.args.item in
    let j : ℕ = c.free_slot.result in
    let w : Finds s c.if-count-eq0.more xs ts = c.in_ok-rehash.ensures.finds in
    let f : IsFree (length c.as_slice.result.now) c.home.result c.as_slice.result.now j = c.free_slot.ensures in
    let a : IsFree (length ts) c.home.result ts j = subst (λ (z : List ℕ). IsFree (length z) c.home.result z j) c.as_slice.ensures.value f in
    let b : IsFree (length ts) (home_of s c.if-count-eq0.more x) ts j =
    subst (λ (z : ℕ). IsFree (length ts) z ts j) c.home.ensures.value a in
    subst (λ (z : ℕ). IsFree (length ts) (home_of s z x) ts j) (sym (size_is s c.if-count-eq0.more xs ts w)) b
