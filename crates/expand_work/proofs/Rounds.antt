-- One level of a worker, from the contracts of its calls.
use Rattle.std.proofs.Common.{◌≡◌, ◌≢◌, ℕ, suc, ◌+◌, ◌-◌, ◌<◌, ◌≤◌, true, false, cond, eqb, List, [], ◌∷◌, ◌++◌, map, filter, length, get_or, All, refl, sym, ap, ◌∙◌, subst, arith, eqb-true, eq-eqb, ne_eqb, append-nil, set, get_or-set_same, get_or-set_other}
use Rattle.std.proofs.lemmas.List.{length-map, length-set}
use Rattle.req_table.specs.declared.Key.{Key}
use Rattle.req_table.specs.declared.Item.{Item}
use Rattle.req_table.specs.declared.Item.TheVariants.{End}
use Rattle.req_table.specs.Lanes.{sent_by, ends, MayFollow, IsFair, IsClosed}
use Rattle.req_table.specs.Settled.{IsSplit, key_of, asked_by}
use Rattle.req_table.proofs.Fair.{ends-append}
use Rattle.expand_work.specs.Counts.{Counts}
use Rattle.dd_store.specs.Nodes.{Nodes}
use Rattle.req_table.specs.Keys.{IsKey, level_of}
use Rattle.req_table.specs.Sizes.{sizes_of, scope_of, IsKeyOf}
use Rattle.req_table.proofs.Sized.{key_of_sizes}
use Rattle.req_table.proofs.Lists.{Has, each, all_of, map_has}
use Rattle.lane_queue.specs.Loads.{ask_of}
use Rattle.lane_queue.specs.Lists.{IsPrefix}
use Rattle.lane_queue.specs.PortView.{LanesView, PortView, sent_to, put_to, IsPortOf, lanes_scope}
use Rattle.expand_work.specs.declared.worker.Worker.{Worker}
use Rattle.expand_work.specs.Due.{IsLeft}
use Rattle.expand_work.specs.Parts.{bundles, loads_of, IsAt, IsLevelDone}
use Rattle.expand_work.specs.Work.{at, item_of, owned_by, lanes_wave, with_levels, keys_in, MaySend, SentToAll, HasKept, put_items, put_loads, IsReceived, StaysClosed}
use Rattle.expand_work.specs.WorkerState.{IsWorking}
use Rattle.expand_work.specs.PlacesBySender.{IsNoted}
use Rattle.expand_work.proofs.Levels.{key_held, advances, loads-more, all-own}
use Rattle.expand_work.proofs.Waves.{lanes_laws}
use Rattle.lane_queue.proofs.Counts.{ends-asks}
use Rattle.expand_work.proofs.Sending.{still_of, may_still}
use Rattle.expand_work.proofs.DueRequests.{keys_levels}
use Rattle.expand_work.proofs.Parting.{ends_of_closed}
use Rattle.expand_work.proofs.Receiving.{stays_on}
use Rattle.expand_work.proofs.OwnerRows.{keys_of_records, split_records, recorded-at}
use Rattle.expand_work.specs.OwnerRows.{row_by_owner, records_of, recorded}
use Rattle.req_table.specs.declared.packed_child.PackedChild.{PackedChild}
use mathlib.Core.Logic.{dite}
use native.Mathlib.Decide.{ℕ_discrete}
use Rattle.std.specs.Prelude.{slice_index_or}

-- requests with their levels are the items that ask for their keys
levels-items : (S : Nodes) (n : ℕ) (keys : List Key) → map (ask_of n) (with_levels S keys) ≡ map (item_of S n) keys
levels-items S n [] = refl
levels-items S n (x ∷ xs) = ap (λ l. item_of S n x ∷ l) (levels-items S n xs)

-- what is due may be sent
pub due_may : (l : LanesView) (s : Nodes) (roots : List Key) (v : ℕ) (w : Worker) → IsWorking l s roots v w → (k : ℕ) → k < length l.lanes → MaySend l w.port k (at w.due k)
due_may l s roots v w h k kb =
    let some : 0 < length l.lanes = (let z = h.within in omega (arith, z)) in
    let laws = lanes_laws s h.sound (length l.lanes) some in
    let e = h.level.ended k kb in
    let keys = keys_in (at w.due k) in
    record {
      follow = all_of (λ a. MayFollow (lanes_scope l) (ends (sent_to w.port k)) (ask_of w.port.number a)) (at w.due k) (λ a i.
          let t = map_has (λ (x : Key). (level_of s x, x)) keys a (subst (λ xs. Has xs a) (h.levels_match k kb) i) in
          let x = t.0 in
          let d = each (λ y. IsKeyOf (sizes_of s) y × (v ≤ level_of s y)) keys x (h.level.due_held k kb) t.1 in
          subst (λ b. MayFollow (lanes_scope l) (ends (sent_to w.port k)) (ask_of w.port.number b)) t.2
          (subst (λ z. MayFollow (scope_of (length l.lanes) z) (ends (sent_to w.port k)) (item_of s w.port.number x)) (sym h.sizes)
          (let low = d.1 in omega (arith, low, e), laws.bounded x d.0, refl, d.0)));
      leave = λ z. h.level.closed (ends (sent_to w.port k) - 1) (omega (arith, z, e));
    }

-- the keys in a level's table are keys of the store
pub keys_held : (l : LanesView) (s : Nodes) (v : ℕ) (taken : List Item) (clock : Counts) (tables : List (List Key)) → l.sizes ≡ sizes_of s → v < s.levels → IsReceived (lanes_scope l) taken clock tables → All (IsKey s) (at tables v)
keys_held l s v taken clock tables sizes vb h =
    let i = subst (λ z. IsReceived (scope_of (length l.lanes) z) taken clock tables) sizes h in
    all_of (IsKey s) (at tables v) (λ x m. key_of_sizes s x (key_held (scope_of (length l.lanes) (sizes_of s)) v taken (at tables v) i.fair i.senders (i.tables_match v vb) x m).0)

-- ---- what is due from others was sent, and then the worker's own was kept
module _ (l : LanesView) (s : Nodes) (roots : List Key) (v : ℕ) (w : Worker) (h : IsWorking l s roots v w) (p : PortView) (left : List (List (ℕ × Key)))
    (s1 : SentToAll w.port p (length l.lanes) (put_items w.port.number (at w.due)) (put_loads w.port.number (at w.due))) (still : IsLeft w.port.number w.due left) where
  own-is : p.number ≡ w.port.number
  own-is = s1.port.0

  own_due : at left p.number ≡ at w.due w.port.number
  own_due = ap (at left) own-is ∙ still.own

  -- nothing was put on its own lane
  own_same : sent_to p w.port.number ≡ sent_to w.port w.port.number
  own_same = s1.sent w.port.number h.within ∙ ap (λ b. sent_to w.port w.port.number ++ cond b [] (map (ask_of w.port.number) (at w.due w.port.number))) (eq-eqb w.port.number w.port.number refl) ∙ append-nil (sent_to w.port w.port.number)

  pub port_due : IsPortOf l p
  port_due = still_of l w.port p s1.port h.port

  pub own_may : MaySend l p p.number (at left p.number)
  own_may = subst (λ (y : ℕ × List (ℕ × Key)). MaySend l p y.0 y.1) (λ j. (sym own-is j, sym own_due j)) (may_still l w.port p w.port.number (at w.due w.port.number) own-is s1.taken own_same (due_may l s roots v w h w.port.number h.within))

  -- all of its own was taken: the level before is closed, and after its End nothing was sent
  pub own_taken : IsPrefix (sent_by p.number p.taken) (sent_to p p.number) → sent_by p.number p.taken ≡ sent_to p p.number
  own_taken b =
      let c = lanes_wave s (length l.lanes) in let m = w.port.number in
      let f : IsFair c.scope (sent_by m w.port.taken) = h.level.fair m h.within in
      let le = ends_of_closed c m v w.port.taken h.within f h.level.closed in
      let is : sent_to w.port m ≡ sent_by m w.port.taken ++ b.0 = sym own_same ∙ ap (λ k. sent_to p k) (sym own-is) ∙ b.1 ∙ (λ j. sent_by (own-is j) (s1.taken j) ++ b.0) in
      (λ j. sent_by (own-is j) (s1.taken j)) ∙ all-own v (sent_by m w.port.taken) (sent_to w.port m) b.0 is (h.level.ended m h.within) (h.level.none_in m h.within) le ∙ sym own_same ∙ ap (λ k. sent_to p k) (sym own-is)

  module _ (q : PortView) (kept : HasKept p q (map (ask_of p.number) (at left p.number))) where
    pub number_kept : q.number ≡ w.port.number
    number_kept = kept.port.0 ∙ own-is

    pub port_kept : IsPortOf l q
    port_kept = still_of l p q kept.port port_due

    pub sent_all : (k : ℕ) → k < length l.lanes → sent_to q k ≡ sent_to w.port k ++ map (ask_of w.port.number) (at w.due k)
    sent_all k kb = dite (ℕ_discrete k w.port.number)
        (λ e. subst (λ m. sent_to q m ≡ sent_to w.port m ++ map (ask_of w.port.number) (at w.due m)) (sym e)
        (ap (λ m. sent_to q m) (sym own-is) ∙ kept.own ∙ (λ j. sent_to p (own-is j) ++ map (ask_of (own-is j)) (own_due j))
        ∙ ap (λ xs. xs ++ map (ask_of w.port.number) (at w.due w.port.number)) own_same))
        (λ m. kept.others k (λ e. m (e ∙ own-is)) ∙ s1.sent k kb ∙ ap (λ b. sent_to w.port k ++ cond b [] (map (ask_of w.port.number) (at w.due k))) (ne_eqb w.port.number k (λ e. m (sym e))))

    pub put_all : (k : ℕ) → k < length l.lanes → put_to q k ≡ put_to w.port k + put_loads w.port.number (at w.due) k
    put_all k kb = ap (λ xs. slice_index_or xs k 0) kept.put ∙ s1.put k kb

    pub ended_before : (k : ℕ) → k < length l.lanes → ends (sent_to q k) ≡ v
    ended_before k kb =
        ap ends (sent_all k kb) ∙ ends-append (sent_to w.port k) (map (ask_of w.port.number) (at w.due k))
        ∙ (let a = h.level.ended k kb in let z = ends-asks w.port.number (at w.due k) in omega (arith, a, z))

    -- ---- the Ends of the level were sent, and the level was closed
    module _ (p2 p3 : PortView) (clock : Counts) (heldt tables : List (List Key)) (row : List (PackedChild × PackedChild)) (due : List (List (ℕ × Key))) (taken rows : List (List (PackedChild × PackedChild)))
        (vb : v < s.levels) (stay1 : StaysClosed (lanes_scope l) p.taken q.taken w.tables heldt)
        (s2 : SentToAll q p2 (length l.lanes) (λ k. End q.number v ∷ []) (λ k. 1))
        (s3 : p3 ≡ record p2 { popped = p3.popped; taken = p3.taken })
        (received : IsReceived (lanes_scope l) p3.taken clock tables) (stay2 : StaysClosed (lanes_scope l) p2.taken p3.taken heldt tables)
        (closed : IsClosed (lanes_scope l) v p3.taken)
        (row-is : row ≡ row_by_owner (length l.lanes) (records_of s (at tables v))) (many : length due ≡ length l.lanes)
        (asked_in_all : (k : ℕ) → k < length l.lanes → at due k ≡ with_levels s (filter (owned_by (length l.lanes) k) (asked_by (records_of s (at tables v))))) (taken-is : taken ≡ set w.rows v []) (rows-is : rows ≡ set taken v row) (noted : List (List ℕ)) (noting : IsNoted (length l.lanes) p3.taken tables noted) where
      pub number_same : p3.number ≡ w.port.number
      number_same = ap (λ (q : PortView). q.number) s3 ∙ s2.port.0 ∙ number_kept

      stays : StaysClosed (lanes_scope l) w.port.taken p3.taken w.tables tables
      stays = stays_on (lanes_scope l) w.port.taken q.taken p3.taken w.tables heldt tables (subst (λ xs. StaysClosed (lanes_scope l) xs q.taken w.tables heldt) s1.taken stay1) (subst (λ xs. StaysClosed (lanes_scope l) xs p3.taken heldt tables) s2.taken stay2)

      many_taken : length taken ≡ length w.rows
      many_taken = ap (λ m. length m) taken-is ∙ length-set w.rows v []

      row_here : at rows v ≡ row
      row_here = ap (λ m. get_or m v []) rows-is ∙ get_or-set_same taken v row [] (let z = h.many_rows in let y = many_taken in omega (arith, y, z, vb))

      row_other : (u : ℕ) → u ≢ v → at rows u ≡ at w.rows u
      row_other u m = ap (λ n. get_or n u []) rows-is ∙ get_or-set_other taken v u row [] m ∙ ap (λ n. get_or n u []) taken-is ∙ get_or-set_other w.rows v u [] [] m

      received' : IsReceived (scope_of (length l.lanes) (sizes_of s)) p3.taken clock tables
      received' = subst (λ z. IsReceived (scope_of (length l.lanes) z) p3.taken clock tables) h.sizes received

      was_closed : (u : ℕ) → u < v → IsClosed (lanes_scope l) u w.port.taken
      was_closed u ub = subst (λ z. IsClosed (scope_of (length l.lanes) z) u w.port.taken) (sym h.sizes) (h.level.closed u ub)

      -- the keys that were due before, and those that are now
      abbrev was : ℕ → List Key
      was k = keys_in (at w.due k)

      abbrev now : ℕ → List Key
      now k = keys_in (at due k)

      sends : (k : ℕ) → k < length l.lanes → sent_to p3 k ≡ (sent_to w.port k ++ map (item_of s w.port.number) (was k)) ++ End w.port.number v ∷ []
      sends k kb =
          ap (λ (q : PortView). sent_to q k) s3 ∙ s2.sent k kb ∙ (λ j. sent_all k kb j ++ End (number_kept j) v ∷ [])
          ∙ ap (λ xs. (sent_to w.port k ++ xs) ++ End w.port.number v ∷ []) (ap (map (ask_of w.port.number)) (h.levels_match k kb) ∙ levels-items s w.port.number (was k))

      becomes_due : (k : ℕ) → k < length l.lanes → now k ≡ filter (owned_by (length l.lanes) k) (asked_by (records_of s (at tables v)))
      becomes_due k kb = ap keys_in (asked_in_all k kb) ∙ keys_levels s (filter (owned_by (length l.lanes) k) (asked_by (records_of s (at tables v))))

      levels_match_next : (k : ℕ) → k < length l.lanes → at due k ≡ with_levels s (now k)
      levels_match_next k kb = asked_in_all k kb ∙ ap (with_levels s) (sym (becomes_due k kb))

      done : IsLevelDone (lanes_wave s (length l.lanes)) w.port.number v (sent_to w.port) w.port.taken was (at w.tables) (at (recorded s w.tables)) (sent_to p3) p3.taken now (at tables) (at (recorded s tables))
      done = record {
        sends = sends;
        fair = received'.fair;
        senders = received'.senders;
        closed = λ u ub. elim (eqb u v) as (λ b. eqb u v ≡ b → IsClosed (scope_of (length l.lanes) (sizes_of s)) u p3.taken) [
          | true ↦ λ t. subst (λ m. IsClosed (scope_of (length l.lanes) (sizes_of s)) m p3.taken) (sym (eqb-true u v t)) closed
          | false ↦ λ t. stays.closed u (was_closed u (grind (arith, ub, t)))
        ] refl;
        tables_match = received'.tables_match;
        tables_stay = λ u ub. stays.same u (was_closed u ub);
        rows_stay = λ u ub. recorded-at s tables u ∙ ap (records_of s) (stays.same u (was_closed u ub)) ∙ sym (recorded-at s w.tables u);
        rows_match = ap (map key_of) (recorded-at s tables v) ∙ keys_of_records s (at tables v);
        split = subst (All (IsSplit (lanes_wave s (length l.lanes)))) (sym (recorded-at s tables v)) (split_records s (length l.lanes) (at tables v));
        dues = λ k kb. becomes_due k kb ∙ ap (λ rs. filter (owned_by (length l.lanes) k) (asked_by rs)) (sym (recorded-at s tables v));
      }

      by_owner_next : (u : ℕ) → u < v + 1 → at rows u ≡ row_by_owner (length l.lanes) (records_of s (at tables u))
      by_owner_next u ub = dite (ℕ_discrete u v)
          (λ e. subst (λ m. at rows m ≡ row_by_owner (length l.lanes) (records_of s (at tables m))) (sym e) (row_here ∙ row-is))
          (λ m. (let less : u < v = omega (arith, ub, m) in row_other u m ∙ h.by_owner u less ∙ ap (λ ks. row_by_owner (length l.lanes) (records_of s ks)) (sym (stays.same u (was_closed u less)))))

      puts : (k : ℕ) → k < length l.lanes → put_to p3 k ≡ loads_of (v + 1) p3.number k (sent_to p3 k)
      puts k kb =
          let up : suc v ≡ v + 1 = omega arith in
          let many : put_loads w.port.number (at w.due) k ≡ cond (eqb w.port.number k) 0 (bundles (length (was k))) = ap (λ m. cond (eqb w.port.number k) 0 (bundles m)) (sym (length-map (at w.due k) (λ (a : ℕ × Key). a.1))) in
          ap (λ (q : PortView). put_to q k) s3 ∙ s2.put k kb ∙ ap (λ c. c + 1) (put_all k kb ∙ (λ j. h.put k kb j + many j))
          ∙ sym (loads-more (lanes_wave s (length l.lanes)) w.port.number k v (sent_to w.port k) (was k) (h.level.ended k kb) (h.level.none_in k kb))
          ∙ (λ j. loads_of (up j) (sym number_same j) k (sym (sends k kb) j))

      pub level_next : (spare : Unit {0}) → IsWorking l s roots (v + 1) (record { port = p3; senders = record { clock = clock; noted = noted; spare = spare }; tables = tables; rows = rows; due = due })
      level_next spare =
          let some : 0 < length l.lanes = (let z = h.within in omega (arith, z)) in
          let next = advances (lanes_wave s (length l.lanes)) (lanes_laws s h.sound (length l.lanes) some) roots w.port.number v (sent_to w.port) w.port.taken was (at w.tables) (at (recorded s w.tables)) (sent_to p3) p3.taken now (at tables) (at (recorded s tables)) vb h.level done in
          let up : suc v ≡ v + 1 = omega arith in
          record {
            port = (ap (λ (q : PortView). q.lanes) s3 ∙ s2.port.1 ∙ port_kept.0, ap (λ (q : PortView). q.sizes) s3 ∙ s2.port.2 ∙ port_kept.1);
            within = subst (λ n. n < length l.lanes) (sym number_same) h.within;
            sizes = h.sizes;
            sound = h.sound;
            received = received;
            noted = noting;
            many_rows = ap (λ m. length m) rows-is ∙ length-set taken v row ∙ many_taken ∙ h.many_rows;
            by_owner = by_owner_next;
            many_due = many;
            levels_match = levels_match_next;
            level = subst (λ n. IsAt (lanes_wave s (length l.lanes)) roots n (v + 1) (sent_to p3) p3.taken now (at tables) (at (recorded s tables))) (sym number_same)
                (subst (λ n. IsAt (lanes_wave s (length l.lanes)) roots w.port.number n (sent_to p3) p3.taken now (at tables) (at (recorded s tables))) up next);
            put = puts;
          }
