use Rattle.std.proofs.Common.{◌≡◌, ◌++◌, ◌∷◌, [], ◌∙◌, ℕ, List, length, set, ap, sym, subst, arith}
use Rattle.std.proofs.lemmas.List.{length-set}
use Rattle.slot_table.specs.Lists.{IsOnce}
use Rattle.slot_table.specs.Stamps.{Finds, stamp_of}
use Rattle.slot_table.proofs.Counting.{slots-room}
use Rattle.slot_table.proofs.Listing.{IsOnce-push}
use Rattle.slot_table.proofs.Stamping.{Finds-push}
use Rattle.slot_table.proofs.slots.push_at.Goals as goal

pub returns-clause-finds : goal.returns-clause-finds
returns-clause-finds g c =
    let s = g.T.SlotHash.slot_hash_of in
    let xs = c.args.items.now.items in
    let ts : List ℕ = c.args.slots.now.items in
    let n : ℕ = length ts in
    let x = c.args.item in
    let j : ℕ = c.args.slot in
    let more = slots-room (length xs) n c.requires.count in
    let count : c.len.result ≡ n = c.len.ensures ∙ c.args.slots.now.ok.0 in
    let place : c.len-2.result ≡ length xs = c.len-2.ensures ∙ c.args.items.now.ok.0 in
    let content : stamp_of s n x (length xs) ≡ c.stamp.result =
    sym (c.stamp.ensures ∙ ap (λ z. stamp_of s z x c.len-2.result) count ∙ ap (λ z. stamp_of s n x z) place) in
    let size : n ≡ length (set ts j c.stamp.result) = sym (length-set ts j c.stamp.result) in
    let one : Finds s n (xs ++ x ∷ []) (set ts j (stamp_of s n x (length xs))) =
    Finds-push s n more.1 xs ts (omega arith) c.requires.finds x j more.0 c.requires.free in
    let two : Finds s n (xs ++ x ∷ []) (set ts j c.stamp.result) = subst (λ (z : ℕ). Finds s n (xs ++ x ∷ []) (set ts j z)) content one in
    let items : xs ++ x ∷ [] ≡ c.push_reserved.new.self.items = sym c.push_reserved.ensures.items in
    subst (λ (z : ℕ). Finds s z c.push_reserved.new.self.items (set ts j c.stamp.result)) size
    (subst (λ (z : List g.row.T.Denot). Finds s n z (set ts j c.stamp.result)) items two)

pub returns-clause-once : goal.returns-clause-once
returns-clause-once g c =
    subst (λ (z : List g.row.T.Denot). IsOnce z) (sym c.push_reserved.ensures.items)
    (IsOnce-push c.args.items.now.items c.args.item c.requires.absent c.requires.once)
