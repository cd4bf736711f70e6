use Rattle.std.proofs.Common.{◌≡◌, ◌∙◌, ◌+◌, ◌-◌, ◌<◌, ◌≤◌, if◌then◌else◌, Bool, true, is_ok, Result, Ok, Err, OnErr, refl, ◌++◌, ◌∷◌, [], ℕ, suc, List, length, take, set, replicate, vec_len, sym, ap, subst, arith}
use Rattle.std.proofs.lemmas.List.{length-take-le, take_all}
use Rattle.std.proofs.lemmas.Option.{slice_get_within}
use Rattle.std.proofs.Math.Seq.{take-suc}
use Rattle.std.specs.Vec.{vec_capacity}
use Rattle.slot_table.specs.Probes.{home_of, IsFree, HasFree}
use Rattle.slot_table.specs.Stamps.{Finds, stamp_of}
use Rattle.slot_table.proofs.Stamping.{Finds-empty, Finds-push, has_free, size_is}
use Rattle.slot_table.proofs.slots.rehash.Goals as goal

fits : {T E : Type 0} (r : Result T E) (room n : ℕ) → OnErr r (room < n) → n ≤ room → is_ok r ≡ true
fits (Ok x) room n full le = refl
fits (Err e) room n full le = absurd (omega arith)

filled : (n : ℕ) (ys zs : List ℕ) (ok : Bool) (l : ℕ) → ys ≡ (if ok then take n zs ++ replicate (n - l) 0 else zs) → ok ≡ true → zs ≡ [] → l ≡ 0
    → ys ≡ replicate n 0
filled n ys zs ok l is true_is empty none =
    let all : n - l ≡ n = omega arith in
    is ∙ ap (λ t. if t then take n zs ++ replicate (n - l) 0 else zs) true_is ∙ ap (λ (z : List ℕ). take n z ++ replicate (n - l) 0) empty
    ∙ ap (λ (z : List ℕ). z ++ replicate (n - l) 0) (take_all n [] (omega arith)) ∙ ap (λ (k : ℕ). replicate k 0) all

pub free_slot-slot-requires-clause-free : goal.free_slot-slot-requires-clause-free
free_slot-slot-requires-clause-free g c =
    let xs = c.args.items.now in
    let ts : List ℕ = c.loop-place.slots.items in
    let k : ℕ = c.loop-place.place in
    let n : ℕ = c.args.count in
    let s = g.T.SlotHash.slot_hash_of in
    let w : Finds s n (take k xs) ts = c.loop-place.invariant in
    let len : length (take k xs) ≡ k = length-take-le k xs (omega arith) in
    let free : HasFree n ts = has_free s n c.requires.power (take k xs) ts (omega arith) w in
    let size : length ts ≡ n = size_is s n (take k xs) ts w in
    let own : HasFree (length ts) ts = subst (λ (z : ℕ). HasFree z ts) (sym size) free in
    subst (λ (z : List ℕ). HasFree (length z) z) (sym c.as_slice.ensures.value) own

pub index_mut-requires : goal.index_mut-requires
index_mut-requires g c =
    let f : IsFree (length c.as_slice.result.now) c.home.result c.as_slice.result.now c.free_slot-slot.result = c.free_slot-slot.ensures in
    let lt = slice_get_within c.as_slice.result.now c.free_slot-slot.result 0 f.3 in
    let len : length c.as_slice.result.now ≡ vec_len c.loop-place.slots = c.as_slice.ensures.len in
    omega arith

pub loop-place-preserved : goal.loop-place-preserved
loop-place-preserved g c =
    let xs = c.args.items.now in
    let ts : List ℕ = c.loop-place.slots.items in
    let n : ℕ = c.args.count in
    let k : ℕ = c.loop-place.place in
    let s = g.T.SlotHash.slot_hash_of in
    let x = c.index-items-place.result in
    let j : ℕ = c.free_slot-slot.result in
    let w : Finds s n (take k xs) ts = c.loop-place.invariant in
    let len : length (take k xs) ≡ k = length-take-le k xs (omega arith) in
    let size : length ts ≡ n = size_is s n (take k xs) ts w in
    let f : IsFree (length c.as_slice.result.now) c.home.result c.as_slice.result.now j = c.free_slot-slot.ensures in
    let a : IsFree (length ts) c.home.result ts j =
    subst (λ (z : List ℕ). IsFree (length z) c.home.result z j) c.as_slice.ensures.value f in
    let b : IsFree n c.home.result ts j = subst (λ (z : ℕ). IsFree z c.home.result ts j) size a in
    let free : IsFree n (home_of s n x) ts j = subst (λ (z : ℕ). IsFree n z ts j) c.home.ensures.value b in
    let more : Finds s n (take k xs ++ x ∷ []) (set ts j (stamp_of s n x (length (take k xs)))) =
    Finds-push s n c.requires.power (take k xs) ts (omega arith) w x j (omega arith) free in
    let one : take (suc k) xs ≡ take k xs ++ x ∷ [] =
    take-suc xs k x c.loop-place-test.true ∙ ap (λ z. take k xs ++ z ∷ []) (sym c.index-items-place.is) in
    let next : suc k ≡ k + 1 = omega arith in
    let content : stamp_of s n x (length (take k xs)) ≡ c.stamp.result = ap (λ z. stamp_of s n x z) len ∙ sym c.stamp.ensures in
    let items : take k xs ++ x ∷ [] ≡ take (k + 1) xs = sym one ∙ ap (λ (z : ℕ). take z xs) next in
    subst (λ (z : ℕ). Finds s n (take (k + 1) xs) (set ts j z)) content
    (subst (λ (z : List g.row.T.Denot). Finds s n z (set ts j (stamp_of s n x (length (take k xs))))) items more)

pub returns-clause-finds : goal.returns-clause-finds
returns-clause-finds g c =
    subst (λ (z : List g.row.T.Denot). Finds g.T.SlotHash.slot_hash_of c.args.count z c.loop-place.slots.items)
    (take_all c.loop-place.place c.args.items.now c.loop-place-test.false) c.loop-place.invariant

pub loop-place-init : goal.loop-place-init
loop-place-init g c =
    let room = c.in_ok-reserve.ensures.ok in
    let kept = c.clear.ensures.capacity in
    let zeros : c.resize.new.self.items ≡ replicate c.args.count 0 =
    filled c.args.count c.resize.new.self.items c.clear.new.self.items (is_ok c.resize.result) (vec_len c.clear.new.self) c.resize.ensures.items
    (fits c.resize.result (vec_capacity c.clear.new.self) c.args.count c.resize.ensures.full (omega arith)) c.clear.ensures.items c.clear.ensures.len in
    subst (λ (z : List ℕ). Finds g.T.SlotHash.slot_hash_of c.args.count [] z) (sym zeros) (Finds-empty g.T.SlotHash.slot_hash_of c.args.count)
