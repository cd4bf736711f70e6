use Rattle.std.proofs.Common.{◌≡◌, ◌<◌, ◌+◌, ◌-◌, ◌^◌, ◌%◌, ℕ, suc, bit_and, arith}
use Rattle.std.proofs.lemmas.Nat.{mod_below}
use Rattle.slot_table.proofs.Stamping.{tag_fits}
use Rattle.slot_table.proofs.slots.stamp.Goals as goal

pub overflow_cast-result : goal.overflow_cast-result
overflow_cast-result g c =
    let s : ℕ = g.T.SlotHash.slot_hash_of c.args.item % 2 ^ 32 in
    let n : ℕ = c.args.count in
    let p : ℕ = c.args.place in
    let is : c.tag.result ≡ s - bit_and s (n - 1) = c.tag.ensures in
    let small : s < 2 ^ 32 = mod_below (g.T.SlotHash.slot_hash_of c.args.item) (2 ^ 32) (omega arith) in
    let fits : s - bit_and s (n - 1) + suc p < 2 ^ 32 = tag_fits s n (suc p) c.requires.count small (omega (arith, c.requires.place)) (omega (arith, c.requires.places)) in
    omega arith
