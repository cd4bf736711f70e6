-- From the new ports of the lanes, and from the parts of all workers, to the settled wave.
use Rattle.std.proofs.Common.{◌≡◌, ℕ, zero, suc, ◌+◌, ◌*◌, ◌<◌, true, false, cond, eqb, List, [], ◌∷◌, map, length, slice_index_or, slice_get, Some, ◌++◌, append_assoc, refl, sym, ap, ◌∙◌, subst, arith}
use Rattle.std.specs.List.{sum_by, AllZip}
use Rattle.std.proofs.lemmas.List.Sums.{sum_by-cons}
use Rattle.std.proofs.lemmas.List.{get_or-map, length-map}
use Rattle.std.proofs.lemmas.Simd.{map-map}
use Rattle.dd_store.specs.Nodes.{Nodes, IsSound}
use Rattle.req_table.specs.declared.Key.{Key}
use Rattle.req_table.specs.declared.Record.{Record}
use Rattle.req_table.specs.declared.Item.{Item}
use Rattle.lane_queue.specs.declared.load.Load.{Load}
use Rattle.lane_queue.specs.Loads.{flat}
use Rattle.req_table.specs.declared.Sizes.{Sizes}
use Rattle.req_table.specs.Wave.{Wave, Scope}
use Rattle.std.proofs.lemmas.List.Elements.{All-head, All-tail}
use Rattle.req_table.specs.Keys.{level_of, wave_of}
use Rattle.req_table.specs.Lanes.{sender_of, sent_by, asks, IsFair, HasSenders}
use Rattle.req_table.specs.Sizes.{sizes_of}
use Rattle.req_table.specs.Settled.{IsSettled, key_of, asked_in_all}
use Rattle.req_table.specs.Tables.{row_at}
use Rattle.req_table.proofs.Fair.{sent_by-append}
use Rattle.lane_queue.proofs.Endpoints.{item-open}
use Rattle.req_table.proofs.Sized.{fair_in_wave, law_in_wave}
use Rattle.lane_queue.specs.PortView.{LanesView, PortView, sent_to, put_to}
use Rattle.lane_queue.specs.Make.{new_port}
use Rattle.lane_queue.specs.Joining.{ArePorts, AreRetired, LawOfAll, retired, sent_from, taken_by}
use Rattle.expand_work.specs.declared.part.Part.{Part}
use Rattle.expand_work.specs.Parts.{IsPart, sum_below, bundles_of, loads_of}
use Rattle.expand_work.specs.WorkerResult.{IsFresh, IsWorked}
use Rattle.expand_work.specs.Team.{AreNew, AreWorked}
use Rattle.expand_work.specs.WavePorts.{put_by, bundles_between, row_of}
use Rattle.expand_work.specs.WaveParts.{AreParts, AreSettled, AreOpen, noted_of}
use Rattle.expand_work.specs.Work.{at}
use Rattle.expand_work.specs.OwnerRows.{row_by_owner, records_of, recorded, AreRowsByOwner}
use Rattle.expand_work.specs.declared.space.WorkerMemory.{WorkerMemory}
use Rattle.req_table.specs.declared.packed_child.PackedChild.{PackedChild}
use Rattle.expand_work.specs.MemoryPool.{records_in, rows_in, without_rows, noted_in}
use Rattle.expand_work.proofs.OwnerRows.{recorded-at, keys_of_records}
use Rattle.expand_work.proofs.Parting.{parts_settle}
use Rattle.expand_work.proofs.Counting.{sum_add, sum_const}
use Rattle.expand_work.proofs.Chain.{lanes_close}
use Rattle.expand_work.proofs.Teams.{first_of}

-- ---- new ports
none_at : {A : Type 0} (xs : List A) (k : ℕ) → slice_index_or (map {B = List Item} (λ (x : A). []) xs) k [] ≡ []
none_at [] zero = refl
none_at [] (suc k) = refl
none_at (x ∷ xs) zero = refl
none_at (x ∷ xs) (suc k) = none_at xs k

zero_at : {A : Type 0} (xs : List A) (k : ℕ) → slice_index_or (map {B = ℕ} (λ (x : A). 0) xs) k 0 ≡ 0
zero_at [] zero = refl
zero_at [] (suc k) = refl
zero_at (x ∷ xs) zero = refl
zero_at (x ∷ xs) (suc k) = zero_at xs k

new_sent : (i k : ℕ) (l : LanesView) → sent_to (new_port i l.sizes l.lanes) k ≡ []
new_sent i k l = elim (eqb k i) as (λ b. cond b [] (slice_index_or (map {B = List Item} (λ x. []) l.lanes) k []) ≡ []) [ true ↦ refl | false ↦ none_at l.lanes k ]

-- a new port has sent and taken nothing
pub fresh_port : (l : LanesView) (i : ℕ) → IsFresh (new_port i l.sizes l.lanes)
fresh_port l i = ((λ k. new_sent i k l), refl, λ k. zero_at l.lanes k)

pub new_ports : (l : LanesView) (workers : ℕ) (ports : List PortView) → length l.lanes ≡ workers → length ports ≡ workers
    → ((i : ℕ) (d : PortView) → i < workers → slice_index_or ports i d ≡ new_port i l.sizes l.lanes) → AreNew l ports
new_ports l workers ports wide long is = record {
  long = long ∙ sym wide;
  made = λ i d b. (let e = is i d (subst (λ n. i < n) wide b) in (ap (λ (p : PortView). p.lanes) e, ap (λ (p : PortView). p.sizes) e));
  fresh = λ i d b. subst IsFresh (sym (is i d (subst (λ n. i < n) wide b))) (fresh_port l i);
  numbered = λ i d b. ap (λ (p : PortView). p.number) (is i d (subst (λ n. i < n) wide b));
}

-- ---- sums
sum_front : (n : ℕ) (f : ℕ → ℕ) → sum_below (suc n) f ≡ f 0 + sum_below n (λ i. f (suc i))
sum_front zero f = omega arith
sum_front (suc n) f = let a = sum_front n f in omega (arith, a)

pub sum_by_below : {A : Type 0} (f : A → ℕ) (xs : List A) (g : ℕ → ℕ) → ((i : ℕ) (d : A) → i < length xs → f (slice_index_or xs i d) ≡ g i) → sum_by f xs ≡ sum_below (length xs) g
sum_by_below f [] g h = refl
sum_by_below f (x ∷ xs) g h =
    let a = h 0 x (omega arith) in
    let b = sum_by_below f xs (λ i. g (suc i)) (λ i d l. h (suc i) d (omega (arith, l))) in
    let k = sum_by-cons f x xs in
    let e = sum_front (length xs) g in
    omega (arith, a, b, k, e)

count_at : (xs : List ℕ) (k d : ℕ) → k < length xs → slice_index_or xs k d ≡ slice_index_or xs k 0
count_at [] k d b = absurd (omega (arith, b))
count_at (x ∷ xs) zero d b = refl
count_at (x ∷ xs) (suc k) d b = count_at xs k d (omega (arith, b))

-- the keys of a level's records
level_keys : (S : Nodes) (tables : List (List Key)) (u : ℕ) → map key_of (row_at (recorded S tables) u) ≡ at tables u
level_keys S tables u = ap (map key_of) (recorded-at S tables u) ∙ keys_of_records S (at tables u)

-- ---- a load that is taken in its sender's order is of no closed level
open_from : (c : Scope) (before items : List Item) → ((s : ℕ) → s < c.workers → IsFair c (sent_by s (before ++ items))) → HasSenders c items → AreOpen c before items
open_from c before [] fair senders = tt
open_from c before (i ∷ items) fair senders =
    let lt : sender_of i < c.workers = All-head (λ j. sender_of j < c.workers) i items senders in
    let one : before ++ i ∷ items ≡ (before ++ i ∷ []) ++ items = sym (append_assoc before (i ∷ []) items) in (
      item-open c i before (sent_by (sender_of i) (before ++ i ∷ items)) lt (fair (sender_of i) lt) (sent_by (sender_of i) items, ap (sent_by (sender_of i)) one ∙ sent_by-append (sender_of i) (before ++ i ∷ []) items),
      open_from c (before ++ i ∷ []) items (λ s sb. subst (λ (xs : List Item). IsFair c (sent_by s xs)) one (fair s sb)) (All-tail (λ j. sender_of j < c.workers) i items senders),
    )

-- ---- the parts of all workers
module _ (S : Nodes) (l : LanesView) (roots : List Key) (parts : List Part) (worked : AreWorked l S roots parts) where
  -- each port is the port of its worker
  pub parts_ports : ArePorts (length l.lanes) l.sizes l.lanes (map (λ (p : Part). p.port) parts)
  parts_ports = (
    length-map parts (λ (p : Part). p.port) ∙ worked.long,
    (λ i d b.
        let long : i < length parts = (let n = worked.long in omega (arith, b, n)) in
        let e = first_of parts (omega (arith, long)) in
        let at = get_or-map (λ (p : Part). p.port) parts i e d long in
        let w = worked.each i e b in (
          ap (λ (q : PortView). q.lanes) at ∙ w.ports.0,
          ap (λ (q : PortView). q.sizes) at ∙ w.ports.1,
          ap (λ (q : PortView). q.number) at ∙ w.number,
        )),
  )

-- the records of a part
abbrev pub part_records : Nodes → Part → List (List Record)
part_records S p = records_in S p.space

-- the records of all workers, by their parts
pub records_as : (S : Nodes) (parts : List Part) (spaces : List WorkerMemory) → spaces ≡ map (λ (p : Part). without_rows p.space) parts → map (records_in S) spaces ≡ map (part_records S) parts
records_as S parts spaces is = ap (map (records_in S)) is ∙ map-map (records_in S) (λ (p : Part). without_rows p.space) parts

-- the places that they have noted, by their parts
pub noted_as : (parts : List Part) (spaces : List WorkerMemory) → spaces ≡ map (λ (p : Part). without_rows p.space) parts → map noted_in spaces ≡ map (λ (p : Part). p.space.noted) parts
noted_as parts spaces is = ap (map noted_in) is ∙ map-map noted_in (λ (p : Part). without_rows p.space) parts

-- two functions with the same values on the elements of a list
map_same : {A B : Type 0} (f g : A → B) (xs : List A) → ((i : ℕ) (d : A) → i < length xs → f (slice_index_or xs i d) ≡ g (slice_index_or xs i d)) → map f xs ≡ map g xs
map_same f g [] h = refl
map_same f g (x ∷ xs) h = λ j. h 0 x (omega arith) j ∷ map_same f g xs (λ i d b. h (suc i) d (omega (arith, b))) j

-- the rows of all workers have the children of their records
pub parts_by_owner : (S : Nodes) (l : LanesView) (roots : List Key) (parts : List Part) → AreWorked l S roots parts → (spaces : List WorkerMemory) → spaces ≡ map (λ (p : Part). without_rows p.space) parts → (rows : List (List (List (PackedChild × PackedChild)))) → rows ≡ map (λ (p : Part). rows_in p.space) parts →
    AreRowsByOwner (map (records_in S) spaces) rows
parts_by_owner S l roots parts worked spaces is rows rows-is =
    let n = length (map (records_in S) spaces) in
    let wide : length l.lanes ≡ n = sym (length-map spaces (records_in S) ∙ ap (λ (xs : List WorkerMemory). length xs) is ∙ length-map parts (λ (p : Part). without_rows p.space) ∙ worked.long) in
    rows-is
    ∙ map_same (λ (p : Part). p.space.rows) (λ (p : Part). map (row_by_owner n) (part_records S p)) parts (λ i d b. (worked.each i d (let k = worked.long in omega (arith, b, k))).by_owner ∙ ap (λ m. map (row_by_owner m) (part_records S (slice_index_or parts i d))) wide)
    ∙ sym (map-map (map (row_by_owner n)) (part_records S) parts) ∙ ap (map (map (row_by_owner n))) (sym (records_as S parts spaces is))

module _ (S : Nodes) (sound : IsSound S) (l : LanesView) (sizes : l.sizes ≡ sizes_of S) (some : 0 < length l.lanes) (roots : List Key) (parts : List Part) (worked : AreWorked l S roots parts)
    (ports : List PortView) (removed : AreRetired (length l.lanes) (map (λ (p : Part). p.port) parts) ports) (left : List (List Load)) (law : LawOfAll (length l.lanes) l.sizes ports left) where
  abbrev pub w : Wave
  w = wave_of S (length l.lanes)

  -- the rows by worker
  abbrev pub rows : List (List (List Record))
  rows = map (part_records S) parts

  laws : LawOfAll (length l.lanes) (sizes_of S) ports left
  laws = subst (λ (c : Sizes). LawOfAll (length l.lanes) c ports left) sizes law

  abbrev part_at : (s : ℕ) → s < length l.lanes → Part
  part_at s b = slice_index_or parts s (first_of parts (let k = worked.long in omega (arith, b, k)))

  port_at : (s : ℕ) (b : s < length l.lanes) (d : PortView) → slice_index_or ports s d ≡ retired (part_at s b).port
  port_at s b d = removed.1 s d b ∙ ap retired (get_or-map (λ (p : Part). p.port) parts s (first_of parts (let k = worked.long in omega (arith, b, k))) d (let k = worked.long in omega (arith, b, k)))

  sends : (s : ℕ) (b : s < length l.lanes) (k : ℕ) → sent_to (part_at s b).port k ≡ sent_from ports k s
  sends s b k =
      let m : s < length ports = (let n = removed.0 in omega (arith, b, n)) in
      let d = first_of ports (omega (arith, m)) in
      sym (get_or-map (λ (p : PortView). sent_to p k) ports s d [] m ∙ ap (λ (p : PortView). sent_to p k) (port_at s b d))

  takes : (s : ℕ) (b : s < length l.lanes) → (part_at s b).port.taken ≡ taken_by ports s
  takes s b =
      let m : s < length ports = (let n = removed.0 in omega (arith, b, n)) in
      let d = first_of ports (omega (arith, m)) in
      sym (get_or-map (λ (p : PortView). p.taken) ports s d [] m ∙ ap (λ (p : PortView). p.taken) (port_at s b d))

  records_at : (s : ℕ) (b : s < length l.lanes) → part_records S (part_at s b) ≡ slice_index_or rows s []
  records_at s b = sym (get_or-map (part_records S) parts s (first_of parts (let k = worked.long in omega (arith, b, k))) [] (let k = worked.long in omega (arith, b, k)))

  worked_at : (s : ℕ) (b : s < length l.lanes) → IsWorked l S roots s (part_at s b)
  worked_at s b = worked.each s (first_of parts (let k = worked.long in omega (arith, b, k))) b

  part_in : (s : ℕ) → s < length l.lanes → IsPart w roots s (λ k. sent_from ports k s) (taken_by ports s) (row_of rows s)
  part_in s b =
      subst (λ (r : List (List Record)). IsPart w roots s (λ k. sent_from ports k s) (taken_by ports s) (row_at r)) (records_at s b)
      (subst (λ (t : List Item). IsPart w roots s (λ k. sent_from ports k s) t (row_at (part_records S (part_at s b)))) (takes s b)
      (subst (λ (f : ℕ → List Item). IsPart w roots s f (part_at s b).port.taken (row_at (part_records S (part_at s b)))) (λ i k. sends s b k i) (worked_at s b).part))

  settles : IsSettled w roots (λ s k. sent_from ports k s) (λ k. taken_by ports k) (row_of rows)
  settles =
      parts_settle w roots (λ s k. sent_from ports k s) (λ k. taken_by ports k) (λ k. flat (slice_index_or left k [])) (row_of rows) part_in
      (λ k b. law_in_wave S (length l.lanes) (sent_from ports k) (taken_by ports k) (flat (slice_index_or left k [])) (laws k b).0)
      (λ s k ls lk. fair_in_wave S (length l.lanes) 0 (sent_from ports k s) ((laws k lk).1 s ls))

  puts_at : (s : ℕ) (b : s < length l.lanes) (k : ℕ) → k < length l.lanes → put_to (part_at s b).port k ≡ loads_of S.levels s k (sent_from ports k s)
  puts_at s b k kb = (worked_at s b).put k kb ∙ ap (λ xs. loads_of S.levels s k xs) (sends s b k)

  puts_from : (s : ℕ) (d : PortView) → s < length ports → sum_by (λ (n : ℕ). n) (slice_index_or ports s d).put ≡ sum_below (length l.lanes) (λ k. cond (eqb s k) 0 (bundles_of S.levels (sent_from ports k s))) + length l.lanes * S.levels
  puts_from s d m =
      let b : s < length l.lanes = (let n = removed.0 in omega (arith, m, n)) in
      let p = (part_at s b).port in
      let long = (worked_at s b).lists in
      ap (λ (q : PortView). sum_by (λ (n : ℕ). n) q.put) (port_at s b d)
      ∙ sum_by_below (λ (n : ℕ). n) p.put (λ k. loads_of S.levels s k (sent_from ports k s)) (λ k e kb. count_at p.put k e kb ∙ puts_at s b k (omega (arith, kb, long)))
      ∙ ap (λ n. sum_below n (λ k. loads_of S.levels s k (sent_from ports k s))) long
      ∙ sum_add (length l.lanes) (λ k. cond (eqb s k) 0 (bundles_of S.levels (sent_from ports k s))) (λ k. S.levels)
      ∙ ap (λ n. sum_below (length l.lanes) (λ k. cond (eqb s k) 0 (bundles_of S.levels (sent_from ports k s))) + n) (sum_const (length l.lanes) S.levels)

  puts : put_by ports ≡ bundles_between (length l.lanes) S.levels (sent_from ports) + length l.lanes * (length l.lanes * S.levels)
  puts =
      let f : ℕ → ℕ = λ s. sum_below (length l.lanes) (λ k. cond (eqb s k) 0 (bundles_of S.levels (sent_from ports k s))) in
      sum_by_below (λ (p : PortView). sum_by (λ (n : ℕ). n) p.put) ports (λ s. f s + length l.lanes * S.levels) puts_from
      ∙ ap (λ n. sum_below n (λ s. f s + length l.lanes * S.levels)) removed.0
      ∙ sum_add (length l.lanes) f (λ s. length l.lanes * S.levels)
      ∙ ap (λ n. sum_below (length l.lanes) f + n) (sum_const (length l.lanes) (length l.lanes * S.levels))

  -- ---- the places that were noted
  abbrev notes : List (List (List ℕ))
  notes = map (λ (p : Part). p.space.noted) parts

  noted_at : (k : ℕ) (b : k < length l.lanes) → (part_at k b).space.noted ≡ slice_index_or notes k []
  noted_at k b = sym (get_or-map (λ (p : Part). p.space.noted) parts k (first_of parts (let n = worked.long in omega (arith, b, n))) [] (let n = worked.long in omega (arith, b, n)))

  places_at : (s k : ℕ) → s < length l.lanes → k < length l.lanes → AllZip (λ x n. slice_get (map key_of (row_of rows k (level_of S x))) n ≡ Some x) (asked_in_all w roots (row_of rows s) s k) (noted_of notes k s)
  places_at s k sb kb =
      subst (λ (ns : List (List ℕ)). AllZip (λ x n. slice_get (map key_of (row_of rows k (level_of S x))) n ≡ Some x) (asked_in_all w roots (row_of rows s) s k) (at ns s)) (noted_at k kb)
      (subst (λ (r : List (List Record)). AllZip (λ x n. slice_get (map key_of (row_at r (level_of S x))) n ≡ Some x) (asked_in_all w roots (row_of rows s) s k) (at (part_at k kb).space.noted s)) (records_at k kb)
      (subst (λ (keys : ℕ → List Key). AllZip (λ x n. slice_get (keys (level_of S x)) n ≡ Some x) (asked_in_all w roots (row_of rows s) s k) (at (part_at k kb).space.noted s)) (λ i u. sym (level_keys S (part_at k kb).space.tables u) i)
      (subst (λ (xs : List Key). AllZip (λ x n. slice_get (at (part_at k kb).space.tables (level_of S x)) n ≡ Some x) xs (at (part_at k kb).space.noted s))
      (ap (λ (t : List Item). asks (sent_by s t)) (takes k kb) ∙ ap asks (settles.all_taken s k sb kb) ∙ settles.all_sent s k sb kb)
      ((worked_at k kb).noted.each s sb))))

  pub are_parts : (workers : ℕ) → length l.lanes ≡ workers → (rs : List (List (List Record))) (ns : List (List (List ℕ))) → rs ≡ map (part_records S) parts → ns ≡ map (λ (p : Part). p.space.noted) parts
      → AreParts S workers roots (record { rows = rs; noted = ns })
  are_parts workers wide rs ns rs-is ns-is = subst (λ (y : ℕ × List (List (List Record)) × List (List (List ℕ))). AreParts S y.0 roots (record { rows = y.1; noted = y.2 })) (λ i. (wide i, sym rs-is i, sym ns-is i)) (record {
    many_rows = length-map parts (part_records S) ∙ worked.long;
    levels = λ k b. ap (λ (r : List (List Record)). length r) (sym (records_at k b)) ∙ length-map (part_at k b).space.tables (records_of S) ∙ (worked_at k b).levels;
    many_noted = length-map parts (λ (p : Part). p.space.noted) ∙ worked.long;
    senders = λ k b. ap (λ (n : List (List ℕ)). length n) (sym (noted_at k b)) ∙ (worked_at k b).noted.long;
    closure = lanes_close S sound (length l.lanes) some roots ports left (row_of rows) laws part_in;
    places = places_at;
  })

  -- what a worker has taken was of no closed level
  opens : (k : ℕ) → k < length l.lanes → AreOpen w.scope [] (taken_by ports k)
  opens k kb = open_from w.scope [] (taken_by ports k) (λ s sb. subst (IsFair w.scope) (sym (settles.all_taken s k sb kb)) (settles.fair s k sb kb)) (settles.senders k kb)

  pub are_settled : (workers : ℕ) → length l.lanes ≡ workers → (rs : List (List (List Record))) (ns : List (List (List ℕ))) → rs ≡ map (part_records S) parts → AreSettled S workers roots (record { rows = rs; noted = ns }) ports
  are_settled workers wide rs ns rs-is = subst (λ (y : ℕ × List (List (List Record))). AreSettled S y.0 roots (record { rows = y.1; noted = ns }) ports) (λ i. (wide i, sym rs-is i)) (record {
    numbered = record { long = removed.0; numbered = λ s d b. ap (λ (q : PortView). q.number) (port_at s b d) ∙ (worked_at s b).number };
    settled = settles;
    open_levels = opens;
    put = puts;
  })
