-- A store with a level to which threads have added pairs.
use Rattle.std.proofs.Common.{◌≡◌, ℕ, ◌+◌, ◌-◌, ◌^◌, ◌<◌, ◌≤◌, List, [], length, get_or, map, Option, Some, None, ◌∙◌, ap, subst, arith}
use Rattle.std.specs.List.{sum_by, AllZip}
use Rattle.std.specs.Option.{IfNone, IfSome}
use Rattle.std.specs.Global.{Vec}
use Rattle.std.specs.Vec.{vec_len, with_items}
use Rattle.std.proofs.lemmas.List.{get_or-map, length-map}
use Rattle.dd_store.specs.declared.level.ShardState.{ShardState}
use Rattle.dd_store.specs.declared.StoreFault.{StoreFault}
use Rattle.dd_store.specs.declared.StoreFault.TheVariants.{Full, OutOfMemory}
use Rattle.dd_store.specs.declared.reference.Ref.{Ref}
use Rattle.dd_store.specs.Graph.{Pair}
use Rattle.dd_store.specs.Growing.{Lacks}
use Rattle.dd_store.specs.Nodes.{Nodes, count_of, shard_at, IsSound, IsThere, IsStore}
use Rattle.dd_store.specs.Adding.{AreReady, GrowsLevel, IsMakeFault}
use Rattle.dd_store.specs.Levels.{pairs_of, regular_list, regular_lists, refs_at, IsReferenceAt, AreNoted, IsFault}
use Rattle.dd_store.proofs.LevelGrown.{Left, Left-taken, Replaced, Replaced-stored, with_shards, with_level, shards_of_level, sixteen-left, first_shard, level-shard, faulty_shard, faultless_shard, count-before, GrowsLevel-replaced, IsSound-replaced, count-replaced, level-le-count, count-small, within_new}
use Rattle.dd_store.proofs.Noting.{zip_weaker}
use Rattle.dd_store.proofs.AddingAll.{ready_regular, named_there}

-- the pairs of some shards
abbrev pub total : List ShardState → ℕ
total shards = sum_by (λ (ps : List Pair). length ps) (pairs_of shards)

-- the shards xs of level v of a store, which threads have left as ys, once they have added the lists' pairs as nodes have them
pub record Widened : Type 0 where
  pub S : Nodes
  pub count : ℕ
  pub v : ℕ
  pub lists : ℕ → List Pair
  pub shards : Vec ShardState
  pub xs : List ShardState
  pub ys : List ShardState
  pub as_long : length xs ≡ vec_len shards
  pub kept : IsStore S count
  pub ready : AreReady S v lists
  pub left : Left S v (regular_lists lists) xs ys

module _ (w : Widened) where
  -- the store with these shards
  abbrev pub after : Nodes
  after = with_shards w.S (with_items w.shards (with_level w.v w.xs w.ys)).items

  pub replaced : Replaced w.S after w.v (regular_lists w.lists) (pairs_of w.ys)
  replaced = Replaced-stored w.S w.v (regular_lists w.lists) w.shards w.xs w.ys w.as_long w.left

  pub within : (i : ℕ) → length (get_or (pairs_of w.ys) i []) ≤ w.S.limit
  within = within_new w.S after w.v (regular_lists w.lists) (pairs_of w.ys) w.kept.sound replaced

  pub grows : GrowsLevel w.S after w.v (regular_lists w.lists)
  grows = GrowsLevel-replaced w.S after w.v (regular_lists w.lists) (pairs_of w.ys) w.kept.sound w.ready.level replaced

  pub sound : IsSound after
  sound = IsSound-replaced w.S after w.v (regular_lists w.lists) (pairs_of w.ys) w.kept.sound (ready_regular w.S w.v w.lists w.ready) replaced

  pub fewer : (n : ℕ) → n ≡ total (shards_of_level w.v w.xs) → n ≤ w.count
  fewer n is =
      let e = is ∙ count-before w.S w.v w.xs w.left.view in
      let counted : w.count ≡ count_of w.S = w.kept.counted in
      let less = level-le-count w.S w.v w.kept.sound w.ready.level in
      omega arith

  pub counted : (n m : ℕ) → n ≡ total (shards_of_level w.v w.xs) → m ≡ total w.ys → w.count - n + m ≡ count_of after
  counted n m is now =
      let less = fewer n is in
      let e = is ∙ count-before w.S w.v w.xs w.left.view in
      let all : w.count ≡ count_of w.S = w.kept.counted in
      let sum = count-replaced w.S after w.v (regular_lists w.lists) (pairs_of w.ys) w.kept.sound w.ready.level replaced in
      omega arith

  pub small : (n m : ℕ) → n ≡ total (shards_of_level w.v w.xs) → m ≡ total w.ys → w.count - n + m < 2 ^ 49
  small n m is now = let e = counted n m is now in let b = count-small after sound in omega arith

-- the level with other shards that have the same pairs, since something else was taken out of them
abbrev pub taken : (w : Widened) (zs : List ShardState) → length zs ≡ length w.ys → pairs_of zs ≡ pairs_of w.ys → Widened
taken w zs len same = record {
  S = w.S;
  count = w.count;
  v = w.v;
  lists = w.lists;
  shards = w.shards;
  xs = w.xs;
  ys = zs;
  as_long = w.as_long;
  kept = w.kept;
  ready = w.ready;
  left = Left-taken w.S w.v (regular_lists w.lists) w.xs w.ys zs w.left len same;
}

-- what threads have noted of the shards of a level
pub record Noted (w : Widened) (f : Option StoreFault) : Type 0 where
  pub noted : (s : ℕ) (d : ShardState) → s < 16 → AreNoted w.S.limit w.v s (w.lists s) (get_or w.ys s d).nodes (get_or w.ys s d).found.items (get_or w.ys s d).fault
  pub fault : IsFault w.ys f

module _ (w : Widened) (zs : List ShardState) (len : length zs ≡ length w.ys) (same : pairs_of zs ≡ pairs_of w.ys) where
  abbrev pub final : Nodes
  final = after (taken w zs len same)

  sixteen : length w.ys ≡ 16
  sixteen = sixteen-left w.S w.v (regular_lists w.lists) w.xs w.ys w.left

  any : ShardState
  any = first_shard w.ys sixteen

  shard_is : (s : ℕ) → s < 16 → shard_at final w.v s ≡ (get_or w.ys s any).nodes
  shard_is s lts =
      level-shard w.S final w.v (regular_lists w.lists) w.ys any w.kept.sound w.ready.level (subst (λ z. Replaced w.S final w.v (regular_lists w.lists) z) same (replaced (taken w zs len same))) sixteen s lts

  pub answers_of : (refs : List (Vec Ref)) (f : Option StoreFault) → Noted w f → refs ≡ map (λ (c : ShardState). c.found) w.ys
      → IfNone f ((s : ℕ) → s < 16 → AllZip (λ p r. IsThere final w.v p.0 p.1 r) (w.lists s) (refs_at refs s))
  answers_of refs None n is = λ s lts.
      let found = (get_or w.ys s any).found.items in
      let noted : AllZip (IsReferenceAt w.v s (get_or w.ys s any).nodes) (w.lists s) found = rw (faultless_shard w.ys any sixteen n.fault s lts) at (n.noted s any lts) in
      let named : AllZip (IsReferenceAt w.v s (shard_at final w.v s)) (w.lists s) found = rw (shard_is s lts) noted in
      let at : refs_at refs s ≡ found =
      ap (λ z. refs_at z s) is
      ∙ get_or-map (λ (v : Vec Ref). v.items) (map (λ (c : ShardState). c.found) w.ys) s any.found [] (rw (length-map w.ys (λ (c : ShardState). c.found)) (omega (arith, sixteen)))
      ∙ ap (λ (v : Vec Ref). v.items) (get_or-map (λ (c : ShardState). c.found) w.ys s any any.found (omega (arith, sixteen))) in
      rw at (zip_weaker (IsReferenceAt w.v s (shard_at final w.v s)) (λ p r. IsThere final w.v p.0 p.1 r) (w.lists s) found
      (λ i p r e k. named_there final w.v s lts p r (w.ready.differ s p (i, e)) k) named)
  answers_of refs (Some f) n is = tt

  pub fault_of_level : (f : Option StoreFault) → Noted w f → IfSome f (λ e. IsMakeFault final w.v (regular_lists w.lists) e)
  fault_of_level None n = tt
  fault_of_level (Some OutOfMemory) n = tt
  fault_of_level (Some Full) n =
      let t = faulty_shard w.ys any Full sixteen n.fault in
      let there : (w.S.limit ≤ length (get_or w.ys t.0 any).nodes) × Lacks (regular_list (w.lists t.0)) (get_or w.ys t.0 any).nodes = rw t.2 at (n.noted t.0 any t.1) in
      let here : (w.S.limit ≤ length (shard_at final w.v t.0)) × Lacks (regular_list (w.lists t.0)) (shard_at final w.v t.0) = rw (shard_is t.0 t.1) there in
      (t.0, t.1, here.0, here.1)
