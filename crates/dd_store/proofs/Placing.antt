-- What a store is after a pair was looked for, and perhaps added, in its shard.
use Rattle.std.proofs.Common.{◌≡◌, ℕ, false, ◌+◌, ◌-◌, ◌*◌, ◌<◌, ◌≤◌, ◌^◌, List, [], length, slice_get, get_or, set, Some, Ok, Err, refl, sym, ◌∙◌, ap, subst, arith, inl, inr}
use Rattle.std.proofs.lemmas.List.{get_or_read, set-get_or}
use Rattle.dd_store.specs.declared.reference.Ref.{Ref}
use Rattle.dd_store.specs.declared.reference.Reference.TheVariants.{Node}
use Rattle.slot_table.specs.declared.Admission.TheVariants.{Found, Added}
use Rattle.slot_table.specs.declared.Refusal.{Refusal}
use Rattle.slot_table.specs.declared.Refusal.TheVariants.{Full, OutOfMemory}
use Rattle.slot_table.specs.Placing.{IsPlaced}
use Rattle.dd_store.specs.Fault.{fault_of}
use Rattle.dd_store.specs.Graph.{Pair}
use Rattle.dd_store.specs.Hashes.{shard_of_pair}
use Rattle.dd_store.specs.Complements.{is_complement}
use Rattle.dd_store.specs.Nodes.{Nodes, count_of, IsStore, IsNeeded, Makes, with_node}
use Rattle.dd_store.proofs.Storing.{CanMake, small_shard, shard-le-count, found_in_shard, absent_in_shard, children-of, IsNew-regular, with_node-written, fresh-read, IsStore-with_node}

-- a store with a shard written back as it was
written_back : (S : Nodes) (j : ℕ) (ps new : List Pair) → ps ≡ get_or S.shards j ps → new ≡ ps
    → ◌≡◌ {A = Nodes} (record { levels = S.levels; limit = S.limit; shards = set S.shards j new }) S
written_back S j ps new read same =
    let e : set S.shards j new ≡ S.shards =
    ap (λ qs. set S.shards j qs) (same ∙ read) ∙ set-get_or S.shards j ps in
    λ i. record { levels = S.levels; limit = S.limit; shards = e i }

-- a store, one of its shards, and what looking for a pair made of them
pub record Placing (S T : Nodes) (count v : ℕ) (lo hi : Ref) (s : ℕ) (ps new : List Pair) (room : ℕ) : Type 0 where
  pub kept : IsStore S count
  pub can : CanMake S v lo hi
  pub differ : lo ≡ hi → ⊥
  pub regular : is_complement hi ≡ false
  pub shard : s ≡ shard_of_pair lo hi
  pub read : ps ≡ get_or S.shards (16 * v + s) ps
  pub room_is : room ≡ S.limit - count
  pub written : ◌≡◌ {A = Nodes} T (record { levels = S.levels; limit = S.limit; shards = set S.shards (16 * v + s) new })

-- if a shard has room for one more pair, its places have numbers of 32 bits
pub placing_room : (S : Nodes) (count v : ℕ) (lo hi : Ref) (s : ℕ) (ps : List Pair) (room : ℕ) → IsStore S count → v < S.levels
    → s ≡ shard_of_pair lo hi → ps ≡ get_or S.shards (16 * v + s) ps → room ≡ S.limit - count → 0 < room → length ps + room < 2 ^ 32
placing_room S count v lo hi s ps room k lt is read by some =
    let small : s < 16 = rw is (small_shard lo hi) in
    let shaped : length S.shards ≡ 16 * S.levels = k.sound.shaped in
    let same : ps ≡ get_or S.shards (16 * v + s) [] = get_or_read S.shards (16 * v + s) ps (omega arith) read [] in
    let few : length (get_or S.shards (16 * v + s) []) ≤ count_of S = shard-le-count S (16 * v + s) in
    let bound : S.limit < 2 ^ 32 = k.sound.small_limit in
    let counted : count ≡ count_of S = k.counted in
    let e : length ps ≡ length (get_or S.shards (16 * v + s) []) = ap (λ qs. length qs) same in
    omega arith

module _ (S T : Nodes) (count v : ℕ) (lo hi : Ref) (s : ℕ) (ps new : List Pair) (room : ℕ) (w : Placing S T count v lo hi s ps new room) where
  needed : (((i : ℕ) × (slice_get ps i ≡ Some (lo, hi))) → ⊥) → IsNeeded S v lo hi
  needed none = (w.differ, absent_in_shard S v lo hi ps s w.kept.sound w.can.level w.regular w.shard w.read (λ i e. none (i, e)))

  same_store : new ≡ ps → T ≡ S
  same_store same = w.written ∙ written_back S (16 * v + s) ps new w.read same

  pub Makes-found : (i : ℕ) → IsPlaced room (lo, hi) ps (Ok (Found i)) new
      → Makes S v lo hi (Ok (Node (record { level = v; shard = s; index = i }) false)) T
  Makes-found i placed = inl (
    inr (
      w.differ,
      (
        refl,
        children-of S (record { level = v; shard = s; index = i }) false (lo, hi)
            (found_in_shard S v lo hi ps s i w.kept.sound w.can.level w.shard w.read placed.0),
      ),
    ),
    same_store placed.1,
  )

  pub Makes-added : (i : ℕ) → IsPlaced room (lo, hi) ps (Ok (Added i)) new
      → Makes S v lo hi (Ok (Node (record { level = v; shard = s; index = i }) false)) T
  Makes-added i placed =
      let some : 0 < room = placed.1 in
      let by : room ≡ S.limit - count = w.room_is in
      let counted : count ≡ count_of S = w.kept.counted in
      let made = IsNew-regular S T v lo hi _ w.regular (
        fresh-read S v lo hi s i ps w.kept.sound w.can.level w.shard w.read placed.2,
        w.written ∙ with_node-written S v lo hi s ps new w.kept.sound w.can.level w.shard w.read placed.3,
      ) in
      inr (needed placed.0, omega arith, made.0, made.1)

  pub IsStore-added : (i : ℕ) → IsPlaced room (lo, hi) ps (Ok (Added i)) new → IsStore T (count + 1)
  IsStore-added i placed =
      let some : 0 < room = placed.1 in
      let by : room ≡ S.limit - count = w.room_is in
      let counted : count ≡ count_of S = w.kept.counted in
      let t : T ≡ with_node S v lo hi =
      w.written ∙ with_node-written S v lo hi s ps new w.kept.sound w.can.level w.shard w.read placed.3 in
      subst (λ (z : Nodes). IsStore z (count + 1)) (sym t)
      (IsStore-with_node S count v lo hi w.kept w.can w.regular (needed placed.0) (omega arith))

  pub Makes-refused : (refusal : Refusal) → IsPlaced room (lo, hi) ps (Err refusal) new → Makes S v lo hi (Err (fault_of refusal)) T
  Makes-refused Full placed =
      let none : room ≡ 0 = placed.1 in
      let by : room ≡ S.limit - count = w.room_is in
      let counted : count ≡ count_of S = w.kept.counted in
      (needed placed.0, omega arith, same_store placed.2)
  Makes-refused OutOfMemory placed =
      let some : 0 < room = placed.1 in
      let by : room ≡ S.limit - count = w.room_is in
      let counted : count ≡ count_of S = w.kept.counted in
      (needed placed.0, omega arith, same_store placed.2)
