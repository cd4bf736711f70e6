-- The closure of a wave's requests may be reduced: each record is right, and what it asks for is recorded.
use Rattle.std.proofs.Common.{◌≡◌, ℕ, ◌<◌, Bool, true, false, List, ◌∷◌, ◌++◌, length, map, refl, sym, subst, Contains, All}
use Rattle.std.proofs.lemmas.List.Elements.{All-contains}
use Rattle.dd_store.specs.Nodes.{Nodes, IsSound}
use Rattle.req_table.specs.declared.Key.{Key}
use Rattle.req_table.specs.declared.Child.{Child}
use Rattle.req_table.specs.declared.Child.TheVariants.{Done, Ask}
use Rattle.req_table.specs.declared.Record.{Record}
use Rattle.req_table.specs.Keys.{IsKey, level_of, child_of, wave_of}
use Rattle.req_table.specs.Reached.{IsReached, root, child}
use Rattle.req_table.specs.Settled.{IsClosure, key_of}
use Rattle.req_table.proofs.Lists as lists
use Rattle.req_table.proofs.Waved.{child_level, deeper, held, bounded, asked_meaning, done_meaning, done_low, seam_bit}
use Rattle.reduce_up.specs.Reducing.{IsKeyAt, IsChild, IsRecordAt}
use Rattle.req_table.specs.Tables.{row_at}
use Rattle.reduce_up.specs.Levels.{IsAsked, AreRecords}

module _ (S : Nodes) (w : IsSound S) (workers : ℕ) (roots : List Key) (good : All (IsKey S) roots) where
  -- each reached request is a key of the store
  pub reached_key : (k : Key) → IsReached (wave_of S workers) roots k → IsKey S k
  reached_key k (root c) = All-contains (IsKey S) roots k good c
  reached_key k (child {x = x} b l m i e) = held S w x k b l m (reached_key x i) e

  pub key_at : (k : Key) → IsKey S k → IsKeyAt S (level_of S k) k
  key_at k i = record { first = i.first; second = i.second; level = refl; bounded = bounded S w k i }

  -- a child has the same function with one more bit fixed
  pub right : (k : Key) (b : Bool) (c : Child) → IsKey S k → child_of S k b ≡ c → IsChild S (level_of S k) k b c
  right k b (Done r) i e = record {
    has = (done_low S w k b r i e).0;
    below = (done_low S w k b r i e).1;
    denotes = λ q x hq hx. done_meaning S w k b r i e (q ++ b ∷ x) (seam_bit S w k b q x hq);
  }
  right k b (Ask l c m) i e =
      let t : l ≡ level_of S c = child_level S w k c b l m e in
      let h : IsKey S c = held S w k c b l m i e in
      let d : level_of S k < level_of S c = deeper S w k c b l m i e in (
        subst (λ z. level_of S k < z) (sym t) d,
        subst (λ z. IsKeyAt S z c) (sym t) (key_at c h),
        λ q x hq hx. asked_meaning S w k c b l m i e (q ++ b ∷ x) (seam_bit S w k b q x hq),
      )

  module _ (rows : List (List Record)) (closed : IsClosure (wave_of S workers) roots (row_at rows)) where
    pub recorded : (k : Key) → IsReached (wave_of S workers) roots k → (r : Record) × Contains (row_at rows (level_of S k)) r × (r.key ≡ k)
    recorded k i =
        let m = lists.map_has key_of (row_at rows (level_of S k)) k (lists.has_of (map key_of (row_at rows (level_of S k))) k (closed.recorded k i).1) in
        (m.0, lists.contains_of (row_at rows (level_of S k)) m.0 m.1, m.2)

    asked_here : (k : Key) (b : Bool) (c : Child) → IsReached (wave_of S workers) roots k → child_of S k b ≡ c → IsAsked rows c
    asked_here k b (Done r) i e = tt
    asked_here k b (Ask l c m) i e =
        let t : l ≡ level_of S c = child_level S w k c b l m e in
        subst (λ z. (r : Record) × Contains (row_at rows z) r × (r.key ≡ c)) (sym t) (recorded c (child b l m i e))

    pub reached_at : (v : ℕ) (r : Record) → v < S.levels → Contains (row_at rows v) r → IsReached (wave_of S workers) roots r.key
    reached_at v r lt c = All-contains (λ r. IsReached (wave_of S workers) roots r.key) (row_at rows v) r (closed.reached v lt) c

    low_is : (v : ℕ) (r : Record) → v < S.levels → Contains (row_at rows v) r → (r.low ≡ child_of S r.key false) × (r.high ≡ child_of S r.key true)
    low_is v r lt c = All-contains (λ r. (r.low ≡ child_of S r.key false) × (r.high ≡ child_of S r.key true)) (row_at rows v) r (closed.split v lt) c

    pub placed_at : (v : ℕ) (r : Record) → v < S.levels → Contains (row_at rows v) r → level_of S r.key ≡ v
    placed_at v r lt c = All-contains (λ r. level_of S r.key ≡ v) (row_at rows v) r (closed.placed v lt) c

    record_at : (v : ℕ) (r : Record) → v < S.levels → Contains (row_at rows v) r → IsRecordAt S v r
    record_at v r lt c =
        let k : IsKey S r.key = reached_key r.key (reached_at v r lt c) in
        let s = low_is v r lt c in
        subst (λ z. IsRecordAt S z r) (placed_at v r lt c) (record {
          key = key_at r.key k;
          low = right r.key false r.low k (sym s.0);
          high = right r.key true r.high k (sym s.1);
        })

    -- the closure by level satisfies what `reduce` requires
    pub records_of_closure : length rows ≡ S.levels → AreRecords S rows
    records_of_closure len = record {
      levels = len;
      records = λ v r lt c. record_at v r lt c;
      low_asked = λ v r lt c. asked_here r.key false r.low (reached_at v r lt c) (sym (low_is v r lt c).0);
      high_asked = λ v r lt c. asked_here r.key true r.high (reached_at v r lt c) (sym (low_is v r lt c).1);
    }
