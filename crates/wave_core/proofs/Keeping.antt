-- A worker keeps the first request that is due from it to itself.
use Rattle.std.proofs.Common.{◌≡◌, ℕ, ◌+◌, ◌*◌, ◌<◌, Bool, eqb, ◌&&◌, List, [], ◌∷◌, ◌++◌, ◌≤◌, ◌^◌, true, false, not, length, get_or, set, All, MatchBool, sym, ap, ap₂, ◌∙◌, subst, arith, append-nil, eqb-true}
use Rattle.std.specs.List.{sum_by}
use Rattle.std.proofs.lemmas.List.Elements.{All-head}
use Rattle.std.proofs.lemmas.Nat.{mul-le}
use Rattle.dd_store.specs.Nodes.{Nodes}
use Rattle.req_table.specs.declared.Key.{Key}
use Rattle.req_table.specs.declared.Item.{Item}
use Rattle.req_table.specs.declared.Item.TheVariants.{Ask}
use Rattle.req_table.specs.Lanes.{sender_of, is_from, sent_by, ends, asks_at}
use Rattle.req_table.specs.Keys.{level_of}
use Rattle.req_table.specs.Tables.{AdmitsKey}
use Rattle.req_table.proofs.Lists.{Has, Has-get_or}
use Rattle.req_table.proofs.Items.{sent_by_of}
use Rattle.req_table.proofs.Fair.{ends-append}
use Rattle.wave_core.specs.declared.Event.TheVariants.{Keep}
use Rattle.wave_core.specs.MachineView.{MachineView, IsConsistent, IsTable, IsOwnInOrder, by_place, list_of, state_of, wave_of_view}
use Rattle.wave_core.specs.Step.{IsStep, IsAllowed, at_pair}
use Rattle.wave_core.proofs.Counted.{one_more_of, sum_grid}
use Rattle.wave_core.proofs.Grid.{pair_grows, pair_shrinks, one_grows, got, read_back, set_same, set_twice}
use Rattle.wave_core.proofs.Keeps.{append_none}
use Rattle.wave_core.proofs.Machines.{still, in_sent, in_due, in_waiting}
use Rattle.wave_core.proofs.Places.{ends_only_ask}
use Rattle.wave_core.proofs.Taking.{ask_counted, ask_offered}

-- nothing of a worker waits on its own lane if it has taken all that it has sent to itself
pub own_taken : (v : MachineView) (by : ℕ) → IsOwnInOrder v by → sent_by by (list_of v.waiting by) ≡ [] → sent_by by (list_of v.taken by) ≡ by_place v.workers v.sent by by
own_taken v by o none = sym (o ∙ ap (λ l. sent_by by (list_of v.taken by) ++ l) none ∙ append-nil (sent_by by (list_of v.taken by)))

pub none_waits : (v : MachineView) (by : ℕ) → IsOwnInOrder v by → sent_by by (list_of v.taken by) ≡ by_place v.workers v.sent by by → sent_by by (list_of v.waiting by) ≡ []
none_waits v by o all = append_none (sent_by by (list_of v.taken by)) (sent_by by (list_of v.waiting by)) (sym o ∙ sym all)

-- a worker may keep a request if one is due from it to itself and nothing of its own waits
pub may_keep : (S : Nodes) (v : MachineView) (h : IsConsistent v) (by : ℕ) (d : List Key) (q : List Item) (b : Bool) → by < v.workers → IsOwnInOrder v by → d ≡ get_or v.due (by * v.workers + by) d → ¬ (d ≡ []) → q ≡ get_or v.waiting by q
    → MatchBool b (¬ (sent_by by q ≡ [])) (sent_by by q ≡ []) → MatchBool (not b) (IsAllowed (wave_of_view S v) (state_of v) (Keep by)) (¬ IsAllowed (wave_of_view S v) (state_of v) (Keep by))
may_keep S v h by d q true bb o is some waits m = λ a. m (subst (λ l. sent_by by l ≡ []) (got v.waiting by q [] (in_waiting v h by by bb bb) waits) (none_waits v by o a.2))
may_keep S v h by d q false bb o is some waits m =
    let due = got v.due (by * v.workers + by) d [] (in_due v h by by bb bb) is in
    (bb, λ e. some (sym due ∙ e), own_taken v by o (subst (λ l. sent_by by l ≡ []) (sym (got v.waiting by q [] (in_waiting v h by by bb bb) waits)) m))

-- a list with an item of a worker has some of it
pub some_from : (s : ℕ) (xs : List Item) (p : ℕ) (d : Item) → p < length xs → is_from s (get_or xs p d) ≡ true → ¬ (sent_by s xs ≡ [])
some_from s xs p d l e none = subst (λ ys. Has ys (get_or xs p d)) none (sent_by_of s xs (get_or xs p d) (Has-get_or xs p d l) (eqb-true (sender_of (get_or xs p d)) s e))

-- an item that was added to both lists and not kept is removed again
pub kept_back : (v : MachineView) (h : IsConsistent v) (by : ℕ) (bb : by < v.workers) (i : Item) (m : ℕ) (s-old s-put s-back s-new t-old t-put t-back t-new : List Item) (k-old k-new : List Key)
    → s-old ≡ get_or v.sent (by * v.workers + by) s-old → s-put ≡ s-old ++ i ∷ [] → s-back ≡ get_or (set v.sent (by * v.workers + by) s-put) (by * v.workers + by) s-back
    → ((xs : List Item) (x : Item) → s-back ≡ xs ++ x ∷ [] → s-new ≡ xs)
    → t-old ≡ get_or v.taken by t-old → t-put ≡ t-old ++ i ∷ [] → t-back ≡ get_or (set v.taken by t-put) by t-back → ((xs : List Item) (x : Item) → t-back ≡ xs ++ x ∷ [] → t-new ≡ xs)
    → k-old ≡ get_or v.tables m k-old → k-new ≡ k-old
    → (let r : MachineView = record v { sent = set (set v.sent (by * v.workers + by) s-put) (by * v.workers + by) s-new; taken = set (set v.taken by t-put) by t-new; tables = set v.tables m k-new } in r ≡ v)
kept_back v h by bb i m s-old s-put s-back s-new t-old t-put t-back t-new k-old k-new so sp sb su to tp tb tu ko kn =
    let p = by * v.workers + by in
    let room : by < length v.taken = subst (λ n. by < n) (sym h.shape.taken) bb in
    let s-is = set_twice v.sent p s-old s-put s-new so (su s-old i (read_back v.sent p s-put s-back (in_sent v h by by bb bb) sb ∙ sp)) in
    let t-is = set_twice v.taken by t-old t-put t-new to (tu t-old i (read_back v.taken by t-put t-back room tb ∙ tp)) in
    ap₂ (λ (l n : List (List Item)). let r : MachineView = record v { sent = l; taken = n; tables = set v.tables m k-new } in r) s-is t-is
    ∙ ap (λ (k : List (List Key)). let r : MachineView = record v { tables = k } in r) (set_same v.tables m k-old k-new ko kn)

-- the level of the first due request is one of the machine's
pub first_below : (S : Nodes) (v : MachineView) (h : IsConsistent v) (by n : ℕ) (x : Key) (rest d : List Key) → by < v.workers → All (λ y. level_of S y < v.levels) (by_place v.workers v.due by by) → d ≡ get_or v.due (by * v.workers + by) d → d ≡ x ∷ rest → n ≡ level_of S x → n < v.levels
first_below S v h by n x rest d bb all is first level = subst (λ m. m < v.levels) (sym level)
    (All-head (λ y. level_of S y < v.levels) x rest (subst (All (λ y. level_of S y < v.levels)) (got v.due (by * v.workers + by) d [] (in_due v h by by bb bb) is ∙ first) all))

-- the number of kept requests still fits after one more
pub kept_fits : (v : MachineView) (h : IsConsistent v) (n : ℕ) → n ≡ sum_by length v.sent → n ≤ length v.sent * 2 ^ 64 → v.kept + 1 < 2 ^ 128
kept_fits v h n is few =
    let all = sum_grid v.workers v.workers v.sent h.shape.sent in
    let kept = h.kept in
    let w = h.shape.few_workers in
    let long : length v.sent ≤ 16 * 16 = subst (λ m. m ≤ 16 * 16) (sym h.shape.sent) (mul-le v.workers v.workers 16 16 w w) in
    omega (arith, is, few, all, kept, long)

module _ (S : Nodes) (v : MachineView) (h : IsConsistent v) (by : ℕ) (bb : by < v.workers) (x : Key) (n : ℕ) (s-old s-new t-old t-new : List Item) (d-old d-new k-old k-new : List Key) (b : Bool)
    (so : s-old ≡ get_or v.sent (by * v.workers + by) s-old) (to : t-old ≡ get_or v.taken by t-old) (do' : d-old ≡ get_or v.due (by * v.workers + by) d-old)
    (ko : k-old ≡ get_or v.tables (by * v.levels + n) k-old)
    (sn : s-new ≡ s-old ++ Ask by n x ∷ []) (tn : t-new ≡ t-old ++ Ask by n x ∷ []) (dn : d-old ≡ x ∷ d-new) (kn : AdmitsKey k-old x b k-new)
    (nb : n < v.levels) (level : n ≡ level_of S x) where
  in_taken : by < length v.taken
  in_taken = subst (λ n. by < n) (sym h.shape.taken) bb

  abbrev pub after_keep : MachineView
  after_keep = record v { sent = set v.sent (by * v.workers + by) s-new; taken = set v.taken by t-new; tables = set v.tables (by * v.levels + n) k-new; due = set v.due (by * v.workers + by) d-new; kept = v.kept + 1 }

  grows : (s k : ℕ) → s < v.workers → k < v.workers → by_place v.workers (set v.sent (by * v.workers + by) s-new) s k ≡ by_place v.workers v.sent s k ++ at_pair by by (Ask by n x) s k
  grows s k sb kb = pair_grows v.workers v.sent by by s-old s-new (Ask by n x) bb (in_sent v h by by bb bb) so sn s k kb

  pub keep_step : sent_by by (list_of v.taken by) ≡ by_place v.workers v.sent by by → IsStep (wave_of_view S v) (state_of v) (Keep by) (state_of after_keep)
  keep_step all = (
    bb,
    x,
    d-new,
    got v.due (by * v.workers + by) d-old [] (in_due v h by by bb bb) do' ∙ dn,
    all,
    record {
      sent = λ s k sb kb. pair_grows v.workers v.sent by by s-old s-new (Ask by (level_of S x) x) bb (in_sent v h by by bb bb) so (sn ∙ ap (λ m. s-old ++ Ask by m x ∷ []) level) s k kb;
      due = λ s k sb kb. pair_shrinks v.workers v.due by by d-old d-new x bb (in_due v h by by bb bb) do' dn s k kb;
      taken = λ k kb. one_grows v.taken by t-old t-new (Ask by (level_of S x) x) in_taken to (tn ∙ ap (λ m. t-old ++ Ask by m x ∷ []) level) k;
      waiting = λ k kb. sym (append-nil (list_of v.waiting k));
      rows = λ k l kb lb. sym (append-nil (by_place v.levels v.rows k l));
      at = λ k kb. omega arith;
    },
  )

  pub keep_kept : IsConsistent after_keep
  keep_kept = record {
    shape = record {
      few_workers = h.shape.few_workers;
      few_levels = h.shape.few_levels;
      sent = still v.sent (by * v.workers + by) s-new (v.workers * v.workers) h.shape.sent;
      ends_sent = h.shape.ends_sent;
      due = still v.due (by * v.workers + by) d-new (v.workers * v.workers) h.shape.due;
      waiting = h.shape.waiting;
      taken = still v.taken by t-new v.workers h.shape.taken;
      ends_taken = h.shape.ends_taken;
      tables = still v.tables (by * v.levels + n) k-new (v.workers * v.levels) h.shape.tables;
      rows = h.shape.rows;
      at = h.shape.at;
    };
    ends_sent = λ s k sb kb. (
        let i = Ask by n x in
        let e = ends-append (by_place v.workers v.sent s k) (at_pair by by i s k) in
        let z = ends_only_ask (eqb s by && eqb k by) by n x in
        let o = h.ends_sent s k sb kb in
        let p : ends (by_place v.workers v.sent s k ++ at_pair by by i s k) ≡ ends (by_place v.workers v.sent s k) = omega (arith, e, z) in
        o ∙ sym (ap ends (grows s k sb kb) ∙ p));
    ends_taken = λ k s kb sb. ask_counted v h by bb by n x k s kb sb ∙ ap (λ l. ends (sent_by s l)) (sym (one_grows v.taken by t-old t-new (Ask by n x) in_taken to tn k));
    kept = one_more_of v.workers v.kept by by (Ask by n x) (by_place v.workers v.sent) (by_place v.workers (set v.sent (by * v.workers + by) s-new)) bb bb grows h.kept;
    tables = λ k l kb lb. subst (λ xs. IsTable (asks_at l xs) (by_place v.levels (set v.tables (by * v.levels + n) k-new) k l) (by_place v.levels v.rows k l))
        (sym (one_grows v.taken by t-old t-new (Ask by n x) in_taken to tn k)) (ask_offered v h by bb by n x nb k-old k-new b ko kn k l kb lb);
  }
