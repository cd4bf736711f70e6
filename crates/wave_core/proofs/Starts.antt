-- The lists of all workers before any event.
use Rattle.std.proofs.Common.{◌≡◌, ℕ, ◌+◌, ◌*◌, ◌<◌, ◌≤◌, ◌%◌, Bool, true, false, cond, eqb, nat_lt, ◌&&◌, List, [], ◌∷◌, ◌++◌, length, get_or, set, take, map, filter, replicate, refl, sym, ap, ◌∙◌, subst, arith, mod-lt}
use Rattle.std.proofs.lemmas.List.{get_or-replicate, get_or_past, length-replicate, length-set, length-take-le, take_more}
use Rattle.std.proofs.lemmas.List.Elements.{filter-append}
use Rattle.req_table.specs.declared.Key.{Key}
use Rattle.req_table.specs.Keys.{owner}
use Rattle.req_table.specs.declared.Item.{Item}
use Rattle.req_table.specs.declared.Record.{Record}
use Rattle.req_table.specs.Lanes.{ends, sent_by, asks_at}
use Rattle.req_table.specs.Settled.{round_robin_from, IsDistinctOf, key_of}
use Rattle.wave_core.specs.MachineView.{AreDistributed, IsConsistent}
use Rattle.wave_core.specs.Step.{only, at_pair}
use Rattle.wave_core.proofs.Places.{eqb_comm}
use Rattle.wave_core.proofs.Grid.{place, pair_grows}

-- a place of a list of equal elements, or past it
pub at_replicate : {X : Type 0} (n i : ℕ) (x : X) → get_or (replicate n x) i x ≡ x
at_replicate n i x =
    elim (nat_lt i n) as (λ b. nat_lt i n ≡ b → get_or (replicate n x) i x ≡ x) [
      | true ↦ λ t. get_or-replicate n i x x (grind (arith, t))
      | false ↦ λ t. get_or_past (replicate n x) i x (let e = length-replicate n x in grind (arith, t, e))
    ] refl

-- one more root
pub distributed-more : (m s i : ℕ) (xs : List Key) (x : Key) → round_robin_from m s i (xs ++ x ∷ []) ≡ round_robin_from m s i xs ++ only (eqb ((i + length xs) % m) s) x
distributed-more m s i [] x = ap (λ n. only (eqb (n % m) s) x) (sym (omega arith))
distributed-more m s i (y ∷ xs) x =
    let rest = distributed-more m s (i + 1) xs x ∙ ap (λ n. round_robin_from m s (i + 1) xs ++ only (eqb (n % m) s) x) (omega arith) in
    elim (eqb (i % m) s) as (λ b. cond b (y ∷ round_robin_from m s (i + 1) (xs ++ x ∷ [])) (round_robin_from m s (i + 1) (xs ++ x ∷ [])) ≡ cond b (y ∷ round_robin_from m s (i + 1) xs) (round_robin_from m s (i + 1) xs) ++ only (eqb ((i + length (y ∷ xs)) % m) s) x) [
      | true ↦ ap (λ l. y ∷ l) rest
      | false ↦ rest
    ]

owned_only : (p : Key → Bool) (a b : Bool) (x : Key) → b ≡ p x → only (a && b) x ≡ filter p (only a x)
owned_only p true b x e = ap (λ t. cond t (x ∷ []) []) e
owned_only p false b x e = refl

pub none_dealt : (w n : ℕ) → AreDistributed w [] (replicate n [])
none_dealt w n s k sb kb = at_replicate n (s * w + k) []

pub one_dealt : (w : ℕ) (roots : List Key) (x : Key) (due : List (List Key)) (old new : List Key) → 0 < w → length due ≡ w * w → AreDistributed w roots due
    → old ≡ get_or due ((length roots % w) * w + owner w x) old → new ≡ old ++ x ∷ [] → AreDistributed w (roots ++ x ∷ []) (set due ((length roots % w) * w + owner w x) new)
one_dealt w roots x due old new some size distributed is e s k sb kb =
    let by = length roots % w in
    let to = owner w x in
    let bb : by < w = mod-lt (length roots) some in
    let tb : to < w = mod-lt _ some in
    let P : Key → Bool = λ y. eqb (owner w y) k in
    pair_grows w due by to old new x tb (place w w by to (length due) bb tb size) is e s k kb
    ∙ ap (λ l. l ++ at_pair by to x s k) (distributed s k sb kb)
    ∙ ap (λ l. filter P (round_robin_from w s 0 roots) ++ l) (owned_only P (eqb s by) (eqb k to) x (eqb_comm k to) ∙ ap (λ b. filter P (only b x)) (eqb_comm s by) ∙ ap (λ n. filter P (only (eqb (n % w) s) x)) (omega arith))
    ∙ sym (ap (filter P) (distributed-more w s 0 roots x) ∙ filter-append P (round_robin_from w s 0 roots) (only (eqb ((0 + length roots) % w) s) x))

pub dealt_next : (w i to : ℕ) (roots : List Key) (x : Key) (due : List (List Key)) (old new : List Key) → 0 < w → length due ≡ w * w → AreDistributed w (take i roots) due → i < length roots → x ≡ get_or roots i x → to ≡ owner w x
    → old ≡ get_or due ((i % w) * w + to) old → new ≡ old ++ x ∷ [] → (length (set due ((i % w) * w + to) new) ≡ w * w) × AreDistributed w (take (i + 1) roots) (set due ((i % w) * w + to) new)
dealt_next w i to roots x due old new some size distributed l x-is to-is is e =
    let n : length (take i roots) ≡ i = length-take-le i roots (omega arith) in
    let more : take (i + 1) roots ≡ take i roots ++ x ∷ [] = take_more roots i x l ∙ ap (λ (y : Key). take i roots ++ y ∷ []) (sym x-is) in
    let at : ((i % w) * w + to) ≡ ((length (take i roots) % w) * w + owner w x) = ap (λ j. (j % w) * w + to) (sym n) ∙ ap (λ j. (length (take i roots) % w) * w + j) to-is in (
      length-set due ((i % w) * w + to) new ∙ size,
      subst (λ l. AreDistributed w l (set due ((i % w) * w + to) new)) (sym more)
          (subst (λ p. AreDistributed w (take i roots ++ x ∷ []) (set due p new)) (sym at)
          (one_dealt w (take i roots) x due old new some size distributed (is ∙ ap (λ p. get_or due p old) at) e)),
    )

-- the lists before any event are consistent
pub starts_kept : (w n : ℕ) (sent : List (List Item)) (ends_sent : List ℕ) (due : List (List Key)) (waiting taken : List (List Item)) (ends_taken : List ℕ) (tables : List (List Key)) (rows : List (List Record)) (at' : List ℕ) → w ≤ 16 → n ≤ 4096
    → sent ≡ replicate (w * w) [] → ends_sent ≡ replicate (w * w) 0 → length due ≡ w * w → waiting ≡ replicate w [] → taken ≡ replicate w [] → ends_taken ≡ replicate (w * w) 0 → tables ≡ replicate (w * n) [] → rows ≡ replicate (w * n) [] → at' ≡ replicate w 0
    → IsConsistent (record { workers = w; levels = n; sent = sent; ends_sent = ends_sent; due = due; waiting = waiting; taken = taken; ends_taken = ends_taken; tables = tables; rows = rows; at = at'; kept = 0 })
starts_kept w n sent ends_sent due waiting taken ends_taken tables rows at' few small s e d q t c ts r a = record {
  shape = record {
    few_workers = few;
    few_levels = small;
    sent = ap length s ∙ length-replicate (w * w) [];
    ends_sent = ap length e ∙ length-replicate (w * w) 0;
    due = d;
    waiting = ap length q ∙ length-replicate w [];
    taken = ap length t ∙ length-replicate w [];
    ends_taken = ap length c ∙ length-replicate (w * w) 0;
    tables = ap length ts ∙ length-replicate (w * n) [];
    rows = ap length r ∙ length-replicate (w * n) [];
    at = ap length a ∙ length-replicate w 0;
  };
  ends_sent = λ i k ib kb. ap (λ l. get_or l (i * w + k) 0) e ∙ at_replicate (w * w) (i * w + k) 0 ∙ sym (ap ends (ap (λ l. get_or l (i * w + k) []) s ∙ at_replicate (w * w) (i * w + k) []));
  ends_taken = λ k i kb ib. ap (λ l. get_or l (k * w + i) 0) c ∙ at_replicate (w * w) (k * w + i) 0 ∙ sym (ap (λ l. ends (sent_by i l)) (ap (λ l. get_or l k []) t ∙ at_replicate w k []));
  kept = omega arith;
  tables = λ k l kb lb.
      let none : get_or taken k [] ≡ [] = ap (λ m. get_or m k []) t ∙ at_replicate w k [] in
      let table : get_or tables (k * n + l) [] ≡ [] = ap (λ m. get_or m (k * n + l) []) ts ∙ at_replicate (w * n) (k * n + l) [] in
      let row : get_or rows (k * n + l) [] ≡ [] = ap (λ m. get_or m (k * n + l) []) r ∙ at_replicate (w * n) (k * n + l) [] in
      record {
        distinct = subst (λ xs. IsDistinctOf (asks_at l xs) (get_or tables (k * n + l) [])) (sym none) (sym table);
        rest = [];
        front = table ∙ sym (ap (λ m. map key_of m ++ []) row);
      };
}
