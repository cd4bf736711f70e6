use Rattle.std.proofs.Common.{◌≡◌, ◌∙◌, ◌+◌, ◌++◌, ◌∷◌, [], ℕ, suc, List, length, take, set, get_or, vec_len, sym, ap, subst, arith}
use Rattle.std.proofs.lemmas.List.{length-take-le}
use Rattle.std.proofs.lemmas.Option.{slice_get_within}
use Rattle.slot_table.specs.Probes.{home_of, IsFree, Probes, HasFree}
use Rattle.net_bench.specs.NameTable.{name_in, names_in, folded_hash_of}
use Rattle.slot_table.proofs.Probing.{Probes-push, not_all_taken}
use Rattle.net_bench.proofs.Names.{names_count, names_next}
use Rattle.net_bench.proofs.name_table.slots_of.Goals as goal

pub free_slot-slot-requires-clause-free : goal.free_slot-slot-requires-clause-free
free_slot-slot-requires-clause-free c =
    let ts : List ℕ = c.loop-number.slots.items in
    let k : ℕ = c.loop-number.number in
    let names : List (List ℕ) = names_in c.args.bytes.now (take k c.args.spans.now) in
    let w : Probes folded_hash_of c.args.count names ts = c.loop-number.invariant in
    let len : length names ≡ k = names_count c.args.bytes.now (take k c.args.spans.now) ∙ length-take-le k c.args.spans.now (omega arith) in
    let free : HasFree c.args.count ts = not_all_taken folded_hash_of c.args.count names ts w (omega arith) in
    let own : HasFree (length ts) ts = subst (λ (z : ℕ). HasFree z ts) (sym w.size) free in
    subst (λ (z : List ℕ). HasFree (length z) z) (sym c.as_slice.ensures.value) own

pub index_mut-requires : goal.index_mut-requires
index_mut-requires c =
    let f : IsFree (length c.as_slice.result.now) c.home-home.result c.as_slice.result.now c.free_slot-slot.result = c.free_slot-slot.ensures in
    let lt = slice_get_within c.as_slice.result.now c.free_slot-slot.result 0 f.3 in
    let len : length c.as_slice.result.now ≡ vec_len c.loop-number.slots = c.as_slice.ensures.len in
    omega arith

pub loop-number-preserved : goal.loop-number-preserved
loop-number-preserved c =
    let ts : List ℕ = c.loop-number.slots.items in
    let n : ℕ = c.args.count in
    let k : ℕ = c.loop-number.number in
    let names : List (List ℕ) = names_in c.args.bytes.now (take k c.args.spans.now) in
    let p : List ℕ = name_in c.args.bytes.now (get_or c.args.spans.now k (record { start = 0; len = 0 })) in
    let j : ℕ = c.free_slot-slot.result in
    let w : Probes folded_hash_of n names ts = c.loop-number.invariant in
    let len : length names ≡ k = names_count c.args.bytes.now (take k c.args.spans.now) ∙ length-take-le k c.args.spans.now (omega arith) in
    let f : IsFree (length c.as_slice.result.now) c.home-home.result c.as_slice.result.now j = c.free_slot-slot.ensures in
    let g : IsFree (length ts) c.home-home.result ts j =
    subst (λ (z : List ℕ). IsFree (length z) c.home-home.result z j) c.as_slice.ensures.value f in
    let h : IsFree n c.home-home.result ts j = subst (λ (z : ℕ). IsFree z c.home-home.result ts j) w.size g in
    let home : c.home-home.result ≡ home_of folded_hash_of n p = c.home-home.ensures.value ∙ ap (home_of folded_hash_of n) c.name_in.ensures in
    let free : IsFree n (home_of folded_hash_of n p) ts j = subst (λ (z : ℕ). IsFree n z ts j) home h in
    let more : Probes folded_hash_of n (names ++ p ∷ []) (set ts j (suc (length names))) = Probes-push folded_hash_of n names ts p j w free in
    let slot_value : suc (length names) ≡ k + 1 = omega arith in
    let next : names ++ p ∷ [] ≡ names_in c.args.bytes.now (take (k + 1) c.args.spans.now) = sym (names_next c.args.bytes.now c.args.spans.now k (record { start = 0; len = 0 }) c.loop-number-test.true) in
    subst (λ (z : ℕ). Probes folded_hash_of n (names_in c.args.bytes.now (take (k + 1) c.args.spans.now)) (set ts j z)) slot_value
    (subst (λ (z : List (List ℕ)). Probes folded_hash_of n z (set ts j (suc (length names)))) next more)
