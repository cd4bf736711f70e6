-- The records of keys, which follow from the keys.
use Rattle.std.proofs.Common.{◌≡◌, ℕ, ◌+◌, ◌<◌, Bool, true, false, List, [], ◌∷◌, ◌++◌, length, get_or, map, filter, replicate, All, refl, sym, ap, subst, ◌∙◌, arith}
use Rattle.std.specs.List.{sum_by}
use Rattle.std.proofs.lemmas.List.Sums.{sum_by-cons}
use Rattle.std.proofs.lemmas.List.{map_push, get_or-map, length-map, length-replicate, get_or-replicate}
use Rattle.std.proofs.lemmas.List.Elements.{All-nil, All-cons, All-head, All-tail}
use Rattle.std.proofs.Math.ListN as listn
use Rattle.dd_store.specs.Nodes.{Nodes, IsSound}
use Rattle.req_table.specs.declared.Key.{Key}
use Rattle.req_table.specs.declared.Record.{Record}
use Rattle.req_table.specs.declared.packed_child.PackedChild.{PackedChild}
use Rattle.req_table.specs.declared.Child.{Child}
use Rattle.req_table.specs.Keys.{record_of, child_of, wave_of, IsKey, IsChildIn}
use Rattle.req_table.proofs.Waved.{child_in}
use Rattle.req_table.specs.Settled.{IsSplit, key_of, asked, asked_by}
use Rattle.expand_work.specs.declared.expand.DueByOwner.{DueByOwner}
use Rattle.expand_work.specs.Due.{asked_of, due_by, BecomesDue}
use Rattle.expand_work.specs.TakenChildren.{AreTaken}
use Rattle.expand_work.proofs.OneByOne.{along}
use Rattle.expand_work.specs.Work.{at, owned_by, with_levels}
use Rattle.expand_work.specs.OwnerRows.{by_owner, row_by_owner, records_of, recorded, AreRowsByOwner}
use Rattle.expand_work.specs.WavePorts.{row_of}
use Rattle.expand_work.specs.WaveParts.{count_in}
use Rattle.expand_work.specs.declared.space.WorkerMemory.{WorkerMemory}
use Rattle.std.proofs.lemmas.List.{get_or_default}
use Rattle.expand_work.specs.MemoryPool.{records_in}
use Rattle.expand_work.proofs.DueRequests.{asks_more, due_levels, levels-append}

pub keys_of_records : (S : Nodes) (keys : List Key) → map key_of (records_of S keys) ≡ keys
keys_of_records S [] = refl
keys_of_records S (x ∷ xs) = ap (λ l. x ∷ l) (keys_of_records S xs)

pub split_records : (S : Nodes) (n : ℕ) (keys : List Key) → All (IsSplit (wave_of S n)) (records_of S keys)
split_records S n [] = All-nil (IsSplit (wave_of S n))
split_records S n (x ∷ xs) = All-cons (IsSplit (wave_of S n)) (record_of S x) (records_of S xs) (refl, refl) (split_records S n xs)

-- the records of a level
pub recorded-at : (S : Nodes) (tables : List (List Key)) (u : ℕ) → at (recorded S tables) u ≡ records_of S (at tables u)
recorded-at S tables u = listn.get_or-map (records_of S) tables u []

-- what holds of all elements holds of one among them
among : (P : Key → Type 0) (ks rest : List Key) (x : Key) → All P (ks ++ x ∷ rest) → P x
among P [] rest x h = All-head P x rest h
among P (k ∷ ks) rest x h = among P ks rest x (All-tail P k (ks ++ x ∷ rest) h)

-- The number of workers is n.
module _ (S : Nodes) (sound : IsSound S) (n : ℕ) where
  -- the children of these requests became due from their owners, and the pairs are what the row has for them
  pub record AreDue (ks : List Key) (ds : List (PackedChild × PackedChild)) (a : DueByOwner) : Type 0 where
    pub workers : a.workers ≡ n
    pub row : ds ≡ row_by_owner n (records_of S ks)
    pub long : length a.due ≡ n
    pub due : (k : ℕ) → k < n → at a.due k ≡ with_levels S (filter (owned_by n k) (asked_by (records_of S ks)))

  -- one more child
  grown_by : (a b : DueByOwner) (c : Child) (d : PackedChild) → a.workers ≡ n → BecomesDue a c d b → (k : ℕ) → k < n → at b.due k ≡ at a.due k ++ filter (asked_of n k) (due_by c)
  grown_by a b c d w o = subst (λ z. (k : ℕ) → k < z → at b.due k ≡ at a.due k ++ filter (asked_of z k) (due_by c)) w o.grown

  -- one more request
  due_more : (keys : List Key) → All (IsKey S) keys → (ks rest : List Key) (ds : List (PackedChild × PackedChild)) (a : DueByOwner) → AreDue ks ds a → (x : Key) → ks ++ x ∷ rest ≡ keys → (low high : PackedChild) (b c : DueByOwner)
      → BecomesDue a (child_of S x false) low b → BecomesDue b (child_of S x true) high c → AreDue (ks ++ x ∷ []) (ds ++ (low, high) ∷ []) c
  due_more keys held ks rest ds a h x e low high b c lows highs =
      let rs : List Record = records_of S ks in
      let r : Record = record_of S x in
      let more : rs ++ r ∷ [] ≡ records_of S (ks ++ x ∷ []) = sym (map_push (record_of S) ks x) in
      let there : b.workers ≡ n = lows.workers ∙ h.workers in
      let stands : (z : Bool) → IsChildIn S (child_of S x z) = child_in S sound x (among (IsKey S) ks rest x (subst (All (IsKey S)) (sym e) held)) in
      record {
        workers = highs.workers ∙ there;
        row = (λ j. h.row j ++ ((lows.is_placed ∙ ap (λ z. by_owner z r.low) h.workers) j, (highs.is_placed ∙ ap (λ z. by_owner z r.high) there) j) ∷ []) ∙ sym (map_push (λ (q : Record). (by_owner n q.low, by_owner n q.high)) rs r) ∙ ap (row_by_owner n) more;
        long = highs.long ∙ there;
        due = λ k kb.
            let before = filter (owned_by n k) (asked_by rs) in
            let lower = filter (owned_by n k) (asked r.low) in
            let upper = filter (owned_by n k) (asked r.high) in
            grown_by b c r.high high there highs k kb ∙ ap (λ m. m ++ filter (asked_of n k) (due_by r.high)) (grown_by a b r.low low h.workers lows k kb)
            ∙ (λ j. (h.due k kb j ++ due_levels S n k r.low (stands false) j) ++ due_levels S n k r.high (stands true) j)
            ∙ ap (λ m. m ++ with_levels S upper) (levels-append S before lower) ∙ levels-append S (before ++ lower) upper
            ∙ ap (with_levels S) (asks_more (owned_by n k) rs r before refl ∙ ap (λ m. filter (owned_by n k) (asked_by m)) more);
      }

  -- the requests of a level, whose children were taken one after the other
  pub due_all : (keys : List Key) → All (IsKey S) keys → (a : DueByOwner) → a.workers ≡ n → a.due ≡ replicate n [] → (ds : List (PackedChild × PackedChild)) (b : DueByOwner) → AreTaken BecomesDue S a keys ds b → AreDue keys ds b
  due_all keys held a w none ds b taken = along BecomesDue S keys AreDue (due_more keys held) a ds b (record {
    workers = w;
    row = refl;
    long = ap (λ (z : List (List (ℕ × Key))). length z) none ∙ length-replicate n [];
    due = λ k kb. ap (λ (z : List (List (ℕ × Key))). at z k) none ∙ get_or-replicate n k [] [] kb;
  }) taken

-- a worker's keys of a level, among the records of all workers
pub keys_of_all : (S : Nodes) (rs : List (List (List Record))) (spaces : List WorkerMemory) (k v : ℕ) (own : WorkerMemory) → rs ≡ map (records_in S) spaces → k < length rs → v < length (get_or rs k []) → own ≡ get_or spaces k own
    → (v < length own.tables) × (at own.tables v ≡ map key_of (row_of rs k v))
keys_of_all S rs spaces k v own all kb vb is =
    let long : length rs ≡ length spaces = ap (λ (ls : List (List (List Record))). length ls) all ∙ length-map spaces (records_in S) in
    let here : get_or rs k [] ≡ recorded S own.tables =
    ap (λ (ls : List (List (List Record))). get_or ls k []) all ∙ get_or-map (records_in S) spaces k own [] (omega (arith, kb, long)) ∙ ap (records_in S) (sym is) in (
      (let e = ap (λ (r : List (List Record)). length r) here ∙ length-map own.tables (records_of S) in omega (arith, e, vb)),
      sym (ap (λ (r : List (List Record)). map key_of (at r v)) here ∙ ap (map key_of) (recorded-at S own.tables v) ∙ keys_of_records S (at own.tables v)),
    )

-- a worker's children of a level, among those of all workers
pub row_of_all : (rs : List (List (List Record))) (rows : List (List (List (PackedChild × PackedChild)))) (k v : ℕ) (own : List (List (PackedChild × PackedChild))) → AreRowsByOwner rs rows → k < length rs → v < length (get_or rs k []) → own ≡ get_or rows k own
    → (v < length own) × (at own v ≡ row_by_owner (length rs) (row_of rs k v))
row_of_all rs rows k v own all kb vb is =
    let n = length rs in
    let long : length rows ≡ n = ap (λ (ls : List (List (List (PackedChild × PackedChild)))). length ls) all ∙ length-map rs (map (row_by_owner n)) in
    let here : own ≡ map (row_by_owner n) (get_or rs k []) =
    is ∙ get_or_default rows k own [] (omega (arith, kb, long)) ∙ ap (λ (ls : List (List (List (PackedChild × PackedChild)))). get_or ls k []) all ∙ listn.get_or-map (map (row_by_owner n)) rs k [] in (
      (let e = ap (λ (r : List (List (PackedChild × PackedChild))). length r) here ∙ length-map (get_or rs k []) (row_by_owner n) in omega (arith, e, vb)),
      ap (λ (r : List (List (PackedChild × PackedChild))). at r v) here ∙ listn.get_or-map (row_by_owner n) (get_or rs k []) v [],
    )

-- ---- the number of children, and of records
by_owner_levels : (n : ℕ) (levels : List (List Record)) → sum_by (λ (row : List (PackedChild × PackedChild)). length row) (map (row_by_owner n) levels) ≡ sum_by (λ (row : List Record). length row) levels
by_owner_levels n [] = refl
by_owner_levels n (r ∷ rs) =
    let a = sum_by-cons (λ (row : List (PackedChild × PackedChild)). length row) (row_by_owner n r) (map (row_by_owner n) rs) in
    let b = sum_by-cons (λ (row : List Record). length row) r rs in
    let l = length-map {B = PackedChild × PackedChild} r (λ (x : Record). (by_owner n x.low, by_owner n x.high)) in
    let i = by_owner_levels n rs in
    omega (arith, a, b, l, i)

by_owner_all : (n : ℕ) (records : List (List (List Record))) → sum_by (λ (levels : List (List (PackedChild × PackedChild))). sum_by (λ (row : List (PackedChild × PackedChild)). length row) levels) (map (map (row_by_owner n)) records) ≡ count_in records
by_owner_all n [] = refl
by_owner_all n (r ∷ rs) =
    sum_by-cons (λ (levels : List (List (PackedChild × PackedChild))). sum_by (λ (row : List (PackedChild × PackedChild)). length row) levels) (map (row_by_owner n) r) (map (map (row_by_owner n)) rs)
    ∙ (λ i. by_owner_levels n r i + by_owner_all n rs i)
    ∙ sym (sum_by-cons (λ (levels : List (List Record)). sum_by (λ (row : List Record). length row) levels) r rs)

pub by_owner_count : (records : List (List (List Record))) (rows : List (List (List (PackedChild × PackedChild)))) → AreRowsByOwner records rows → sum_by (λ (levels : List (List (PackedChild × PackedChild))). sum_by (λ (row : List (PackedChild × PackedChild)). length row) levels) rows ≡ count_in records
by_owner_count records rows by_owner = ap (λ rs. sum_by (λ (levels : List (List (PackedChild × PackedChild))). sum_by (λ (row : List (PackedChild × PackedChild)). length row) levels) rs) by_owner ∙ by_owner_all (length records) records
