-- A worker before its first level, and after its last.
use Rattle.std.proofs.Common.{◌≡◌, ℕ, ◌<◌, ◌≤◌, List, [], replicate, filter, map, length, get_or, All, refl, sym, ap, ◌∙◌, subst, arith}
use Rattle.std.proofs.lemmas.List.{length-map, length-replicate, get_or-replicate, ext_get_or}
use Rattle.std.proofs.Math.ListN as listn
use Rattle.std.proofs.lemmas.List.Elements.{All-nil}
use Rattle.req_table.specs.declared.Key.{Key}
use Rattle.req_table.specs.declared.Record.{Record}
use Rattle.req_table.specs.declared.Item.{Item}
use Rattle.req_table.specs.Wave.{Scope, Wave}
use Rattle.req_table.specs.Lanes.{sender_of, sent_by, ends, asks_at, IsFair, HasSenders}
use Rattle.req_table.specs.Settled.{IsDistinctOf, round_robin_from, is_owned}
use Rattle.req_table.proofs.Lists.{each, all_of, filter_has}
use Rattle.req_table.proofs.ByLevel.{dealt_has}
use Rattle.expand_work.specs.Counts.{Counts}
use Rattle.dd_store.specs.Nodes.{Nodes, IsSound}
use Rattle.req_table.specs.Keys.{IsKey, wave_of}
use Rattle.req_table.specs.Sizes.{sizes_of, scope_of, IsKeyOf}
use Rattle.req_table.specs.Tables.{row_at}
use Rattle.req_table.proofs.Sized.{sizes_of_key}
use Rattle.req_table.specs.declared.Sizes.{Sizes}
use Rattle.lane_queue.specs.PortView.{LanesView, PortView, sent_to, IsPortOf}
use Rattle.expand_work.specs.declared.worker.Worker.{Worker}
use Rattle.expand_work.specs.declared.part.Part.{Part}
use Rattle.expand_work.specs.Parts.{asks_after, loads_of, IsAt, IsPart}
use Rattle.expand_work.specs.Work.{at, owned_by, lanes_wave, with_levels, keys_in, IsReceived}
use Rattle.expand_work.specs.WorkerState.{IsWorking}
use Rattle.expand_work.specs.WorkerResult.{IsFresh, IsWorked}
use Rattle.expand_work.specs.OwnerRows.{row_by_owner, records_of, recorded}
use Rattle.req_table.specs.declared.packed_child.PackedChild.{PackedChild}
use Rattle.expand_work.proofs.Waves.{lanes_laws, part_in_wave}
use Rattle.expand_work.proofs.Levels.{ends_whole, loads-none}
use Rattle.expand_work.proofs.DueRequests.{keys_levels}
use Rattle.expand_work.proofs.Noting.{none_noted, fair_places}
use Rattle.expand_work.proofs.OwnerRows.{recorded-at}
use Rattle.expand_work.proofs.Rounds.{keys_held}

-- rows that have the children of their levels' records, one by one
are_by_owner : (S : Nodes) (n : ℕ) (tables : List (List Key)) (rows : List (List (PackedChild × PackedChild))) → length rows ≡ length tables → ((u : ℕ) → u < length tables → at rows u ≡ row_by_owner n (records_of S (at tables u))) → rows ≡ map (row_by_owner n) (recorded S tables)
are_by_owner S n tables rows long each =
    ext_get_or [] rows (map (row_by_owner n) (recorded S tables)) (long ∙ sym (length-map (recorded S tables) (row_by_owner n) ∙ length-map tables (records_of S)))
    (λ u ub. each u (omega (arith, ub, long)) ∙ ap (row_by_owner n) (sym (recorded-at S tables u)) ∙ sym (listn.get_or-map (row_by_owner n) (recorded S tables) u []))

pub starts_at : (w : Wave) (roots : List Key) (s : ℕ) (sent : ℕ → List Item) (taken : List Item) (due tables : ℕ → List Key) (rows : ℕ → List Record) → All w.HasKey roots
    → ((k : ℕ) → sent k ≡ []) → taken ≡ [] → ((u : ℕ) → u < w.levels → tables u ≡ []) → ((k : ℕ) → k < w.workers → due k ≡ filter (is_owned w k) (round_robin_from w.workers s 0 roots))
    → IsAt w roots s 0 sent taken due tables rows
starts_at w roots s sent taken due tables rows held unsent nothing none e = record {
  fair = λ t tb. subst (λ xs. IsFair w.scope (sent_by t xs)) (sym nothing) tt;
  senders = subst (HasSenders w.scope) (sym nothing) (All-nil (λ i. sender_of i < w.workers));
  ended = λ k kb. ap ends (unsent k);
  sent_in = λ k e kb l. absurd (omega (arith, l));
  none_in = λ k kb. ap (asks_after 0) (unsent k);
  dues = e;
  due_held = λ k kb. subst (All (λ x. w.HasKey x × (0 ≤ w.level x))) (sym (e k kb)) (all_of (λ x. w.HasKey x × (0 ≤ w.level x)) (filter (is_owned w k) (round_robin_from w.workers s 0 roots)) (λ x h. (each w.HasKey roots x held (dealt_has w.workers s 0 roots x (filter_has (is_owned w k) (round_robin_from w.workers s 0 roots) x h).0), omega arith)));
  closed = λ u l. absurd (omega (arith, l));
  tables_match = λ u l. subst (λ xs. IsDistinctOf (asks_at u xs) (tables u)) (sym nothing) (sym (none u l));
  rows_match = λ u l. absurd (omega (arith, l));
  split = λ u l. absurd (omega (arith, l));
}

pub starts_received : (c : Scope) (taken : List Item) (clock : Counts) (tables : List (List Key)) → taken ≡ [] → clock ≡ record { levels = c.levels; ended = replicate c.workers 0 } → tables ≡ replicate c.levels [] → IsReceived c taken clock tables
starts_received c taken clock tables nothing clock-is tables-is = record {
  fair = λ t tb. subst (λ xs. IsFair c (sent_by t xs)) (sym nothing) tt;
  senders = subst (HasSenders c) (sym nothing) (All-nil (λ i. sender_of i < c.workers));
  long = ap (λ (k : Counts). length k.ended) clock-is ∙ length-replicate c.workers 0;
  levels = ap (λ (k : Counts). k.levels) clock-is;
  many = ap (λ ts. length ts) tables-is ∙ length-replicate c.levels [];
  counted = λ t tb. ap (λ (k : Counts). get_or k.ended t 0) clock-is ∙ get_or-replicate c.workers t 0 0 tb ∙ sym (ap (λ xs. ends (sent_by t xs)) nothing);
  tables_match = λ u ub. subst (λ xs. IsDistinctOf (asks_at u xs) (at tables u)) (sym nothing) (sym (ap (λ ts. get_or ts u []) tables-is ∙ get_or-replicate c.levels u [] [] ub));
}

pub starts_working : (l : LanesView) (S : Nodes) (roots : List Key) (p : PortView) (clock : Counts) (tables : List (List Key)) (noted : List (List ℕ)) (rows : List (List (PackedChild × PackedChild))) (due : List (List (ℕ × Key))) (spare : Unit {0})
    → IsPortOf l p → p.number < length l.lanes → IsFresh p → l.sizes ≡ sizes_of S → IsSound S → All (IsKey S) roots
    → clock ≡ record { levels = S.levels; ended = replicate (length l.lanes) 0 } → tables ≡ replicate S.levels [] → noted ≡ replicate (length l.lanes) [] → rows ≡ replicate S.levels [] → length due ≡ length l.lanes
    → ((k : ℕ) → k < length l.lanes → at due k ≡ with_levels S (filter (owned_by (length l.lanes) k) (round_robin_from (length l.lanes) p.number 0 roots)))
    → IsWorking l S roots 0 (record { port = p; senders = record { clock = clock; noted = noted; spare = spare }; tables = tables; rows = rows; due = due })
starts_working l S roots p clock tables noted rows due spare o b fresh sizes sound held clock-is tables-is noted-is rows-is many e = record {
  port = o;
  within = b;
  sizes = sizes;
  sound = sound;
  received = subst (λ z. IsReceived (scope_of (length l.lanes) z) p.taken clock tables) (sym sizes) (starts_received (scope_of (length l.lanes) (sizes_of S)) p.taken clock tables fresh.1 clock-is tables-is);
  noted = none_noted (length l.lanes) p.taken tables noted fresh.1 noted-is;
  many_rows = ap (λ m. length m) rows-is ∙ length-replicate S.levels [];
  by_owner = λ u ub. absurd (omega (arith, ub));
  many_due = many;
  levels_match = λ k kb. e k kb ∙ ap (with_levels S) (sym (ap keys_in (e k kb) ∙ keys_levels S (filter (owned_by (length l.lanes) k) (round_robin_from (length l.lanes) p.number 0 roots))));
  level = starts_at (lanes_wave S (length l.lanes)) roots p.number (sent_to p) p.taken (λ k. keys_in (at due k)) (at tables) (at (recorded S tables))
      (all_of (IsKeyOf (sizes_of S)) roots (λ x h. sizes_of_key S x (each (IsKey S) roots x held h))) fresh.0 fresh.1
      (λ u ub. ap (λ ts. get_or ts u []) tables-is ∙ get_or-replicate S.levels u [] [] ub)
      (λ k kb. ap keys_in (e k kb) ∙ keys_levels S (filter (owned_by (length l.lanes) k) (round_robin_from (length l.lanes) p.number 0 roots)));
  put = λ k kb. fresh.2 k ∙ sym (loads-none p.number k (sent_to p k));
}

pub ends_worked : (l : LanesView) (S : Nodes) (roots : List Key) (n : ℕ) (w : Worker) (p : Part) → IsWorking l S roots S.levels w → length w.port.put ≡ length l.lanes → w.port.number ≡ n → p ≡ record { port = w.port; space = record { tables = w.tables; rows = w.rows; noted = w.senders.noted; spare = w.senders.spare } } → IsWorked l S roots n p
ends_worked l S roots n w p h lists num is =
    let some : 0 < length l.lanes = (let z = h.within in omega (arith, z)) in
    let many : length w.tables ≡ S.levels = h.received.many ∙ ap (λ (c : Sizes). c.levels) h.sizes in
    subst (IsWorked l S roots n) (sym is) (record {
      ports = h.port;
      number = num;
      lists = lists;
      levels = many;
      keys = λ u ub. keys_held l S u w.port.taken w.senders.clock w.tables h.sizes ub h.received;
      by_owner = are_by_owner S (length l.lanes) w.tables w.rows (h.many_rows ∙ sym many) (λ u ub. h.by_owner u (omega (arith, ub, many)));
      part = subst (λ m. IsPart (wave_of S (length l.lanes)) roots m (sent_to w.port) w.port.taken (row_at (recorded S w.tables))) num
          (part_in_wave S (length l.lanes) roots w.port.number (sent_to w.port) w.port.taken (row_at (recorded S w.tables))
          (ends_whole (lanes_wave S (length l.lanes)) (lanes_laws S h.sound (length l.lanes) some) roots w.port.number (sent_to w.port) w.port.taken (λ k. keys_in (at w.due k)) (at w.tables) (at (recorded S w.tables)) h.level));
      noted = record {
        long = h.noted.long;
        each = λ t tb. fair_places (scope_of (length l.lanes) (sizes_of S)) 0 (sent_by t w.port.taken) (at w.tables) (at w.tables) (at w.senders.noted t) (subst (λ (c : Sizes). IsFair (scope_of (length l.lanes) c) (sent_by t w.port.taken)) h.sizes (h.received.fair t tb)) (λ u ub. refl) (h.noted.each t tb);
      };
      put = λ k kb. h.put k kb ∙ ap (λ m. loads_of S.levels m k (sent_to w.port k)) num;
    })
