-- The fields of a machine, and how its events change them.
use Rattle.std.proofs.Common.{◌≡◌, ℕ, ◌+◌, ◌*◌, ◌<◌, ◌≤◌, true, false, cond, eqb, ◌&&◌, List, [], ◌∷◌, ◌++◌, length, get_or, set, refl, sym, ap, ◌∙◌, subst, arith, append-nil, ap₂}
use Rattle.std.proofs.lemmas.List.{length-set}
use Rattle.dd_store.specs.Nodes.{Nodes}
use Rattle.req_table.specs.declared.Key.{Key}
use Rattle.req_table.specs.declared.Item.{Item}
use Rattle.req_table.specs.declared.Item.TheVariants.{Ask, End as EndOf}
use Rattle.req_table.specs.Lanes.{ends}
use Rattle.req_table.specs.Keys.{level_of}
use Rattle.req_table.proofs.Fair.{ends-append}
use Rattle.wave_core.specs.declared.machine.Machine.TheInside.{Inside}
use Rattle.wave_core.specs.declared.Event.TheVariants.{Send, End}
use Rattle.wave_core.specs.MachineView.{MachineView, IsConsistent, by_place, list_of, number_of, state_of, wave_of_view}
use Rattle.wave_core.specs.Step.{IsStep, only, at_pair}
use Rattle.wave_core.proofs.Places.{at_pair_is, ends_only_ask}
use Rattle.wave_core.proofs.Counted.{more_of}
use Rattle.wave_core.proofs.Grid.{place, pair_set, pair_grows, pair_shrinks, one_grows, got, read_back, set_same, set_twice}

abbrev pub view_in : Inside → MachineView
view_in m = record {
  workers = m.workers;
  levels = m.levels;
  sent = m.sent.items;
  ends_sent = m.ends_sent.items;
  due = m.due.items;
  waiting = m.waiting.items;
  taken = m.taken.items;
  ends_taken = m.ends_taken.items;
  tables = m.tables.items;
  rows = m.rows.items;
  at = m.at.items;
  kept = m.kept;
}

-- writing an element keeps the length of a list
pub still : {X : Type 0} (xs : List X) (i : ℕ) (x : X) (n : ℕ) → length xs ≡ n → length (set xs i x) ≡ n
still xs i x n e = length-set xs i x ∙ e

module _ (v : MachineView) (h : IsConsistent v) (by to : ℕ) (bb : by < v.workers) (tb : to < v.workers) where
  pub in_sent : by * v.workers + to < length v.sent
  in_sent = place v.workers v.workers by to (length v.sent) bb tb h.shape.sent

  pub in_ended : by * v.workers + to < length v.ends_sent
  in_ended = place v.workers v.workers by to (length v.ends_sent) bb tb h.shape.ends_sent

  pub in_due : by * v.workers + to < length v.due
  in_due = place v.workers v.workers by to (length v.due) bb tb h.shape.due

  pub in_waiting : to < length v.waiting
  in_waiting = subst (λ n. to < n) (sym h.shape.waiting) tb

-- an item that was added to the sent list and not to the lane is removed again
pub undone : (v : MachineView) (h : IsConsistent v) (by to : ℕ) (bb : by < v.workers) (tb : to < v.workers) (i : Item) (s-old s-put s-back s-new q-old q-new : List Item)
    → s-old ≡ get_or v.sent (by * v.workers + to) s-old → s-put ≡ s-old ++ i ∷ [] → s-back ≡ get_or (set v.sent (by * v.workers + to) s-put) (by * v.workers + to) s-back
    → ((xs : List Item) (x : Item) → s-back ≡ xs ++ x ∷ [] → s-new ≡ xs) → q-old ≡ get_or v.waiting to q-old → q-new ≡ q-old
    → (let r : MachineView = record v { sent = set (set v.sent (by * v.workers + to) s-put) (by * v.workers + to) s-new; waiting = set v.waiting to q-new } in r ≡ v)
undone v h by to bb tb i s-old s-put s-back s-new q-old q-new so sp sb undo qo qn =
    let p = by * v.workers + to in
    let was = undo s-old i (read_back v.sent p s-put s-back (in_sent v h by to bb tb) sb ∙ sp) in
    ap₂ (λ (l m : List (List Item)). let r : MachineView = record v { sent = l; waiting = m } in r)
    (set_twice v.sent p s-old s-put s-new so was)
    (set_same v.waiting to q-old q-new qo qn)

-- Send
module _ (S : Nodes) (v : MachineView) (h : IsConsistent v) (by to : ℕ) (bb : by < v.workers) (tb : to < v.workers) (x : Key) (s-old s-new : List Item) (d-old d-new : List Key) (q-old q-new : List Item)
    (so : s-old ≡ get_or v.sent (by * v.workers + to) s-old) (do' : d-old ≡ get_or v.due (by * v.workers + to) d-old) (qo : q-old ≡ get_or v.waiting to q-old)
    (sn : s-new ≡ s-old ++ Ask by (level_of S x) x ∷ []) (dn : d-old ≡ x ∷ d-new) (qn : q-new ≡ q-old ++ Ask by (level_of S x) x ∷ []) where
  pub after_send : MachineView
  after_send = record v { sent = set v.sent (by * v.workers + to) s-new; due = set v.due (by * v.workers + to) d-new; waiting = set v.waiting to q-new }

  pub send_step : IsStep (wave_of_view S v) (state_of v) (Send by to) (state_of (record v { sent = set v.sent (by * v.workers + to) s-new; due = set v.due (by * v.workers + to) d-new; waiting = set v.waiting to q-new }))
  send_step = (
    bb,
    tb,
    x,
    d-new,
    got v.due (by * v.workers + to) d-old [] (in_due v h by to bb tb) do' ∙ dn,
    record {
      sent = λ s k sb kb. pair_grows v.workers v.sent by to s-old s-new (Ask by (level_of S x) x) tb (in_sent v h by to bb tb) so sn s k kb;
      due = λ s k sb kb. pair_shrinks v.workers v.due by to d-old d-new x tb (in_due v h by to bb tb) do' dn s k kb;
      taken = λ k kb. sym (append-nil (list_of v.taken k));
      waiting = λ k kb. one_grows v.waiting to q-old q-new (Ask by (level_of S x) x) (in_waiting v h by to bb tb) qo qn k;
      rows = λ k l kb lb. sym (append-nil (by_place v.levels v.rows k l));
      at = λ k kb. omega arith;
    },
  )

  pub send_kept : IsConsistent (record v { sent = set v.sent (by * v.workers + to) s-new; due = set v.due (by * v.workers + to) d-new; waiting = set v.waiting to q-new })
  send_kept = record {
    shape = record {
      few_workers = h.shape.few_workers;
      few_levels = h.shape.few_levels;
      sent = still v.sent (by * v.workers + to) s-new (v.workers * v.workers) h.shape.sent;
      ends_sent = h.shape.ends_sent;
      due = still v.due (by * v.workers + to) d-new (v.workers * v.workers) h.shape.due;
      waiting = still v.waiting to q-new v.workers h.shape.waiting;
      taken = h.shape.taken;
      ends_taken = h.shape.ends_taken;
      tables = h.shape.tables;
      rows = h.shape.rows;
      at = h.shape.at;
    };
    ends_sent = λ s k sb kb. (
        let i = Ask by (level_of S x) x in
        let e = ends-append (by_place v.workers v.sent s k) (at_pair by to i s k) in
        let z = ends_only_ask (eqb s by && eqb k to) by (level_of S x) x in
        let o = h.ends_sent s k sb kb in
        let p : ends (by_place v.workers v.sent s k ++ at_pair by to i s k) ≡ ends (by_place v.workers v.sent s k) = omega (arith, e, z) in
        o ∙ sym (ap ends (pair_grows v.workers v.sent by to s-old s-new i tb (in_sent v h by to bb tb) so sn s k kb) ∙ p));
    ends_taken = h.ends_taken;
    kept = more_of v.workers v.workers v.kept (by_place v.workers v.sent) (by_place v.workers (set v.sent (by * v.workers + to) s-new)) (at_pair by to (Ask by (level_of S x) x))
        (λ s k sb kb. pair_grows v.workers v.sent by to s-old s-new (Ask by (level_of S x) x) tb (in_sent v h by to bb tb) so sn s k kb) h.kept;
    tables = h.tables;
  }

-- End
module _ (S : Nodes) (v : MachineView) (h : IsConsistent v) (by to : ℕ) (bb : by < v.workers) (tb : to < v.workers) (e n : ℕ) (s-old s-new : List Item) (d-old : List Key) (q-old q-new : List Item)
    (eo : e ≡ get_or v.ends_sent (by * v.workers + to) e) (so : s-old ≡ get_or v.sent (by * v.workers + to) s-old) (do' : d-old ≡ get_or v.due (by * v.workers + to) d-old) (qo : q-old ≡ get_or v.waiting to q-old)
    (sn : s-new ≡ s-old ++ EndOf by e ∷ []) (dn : d-old ≡ []) (qn : q-new ≡ q-old ++ EndOf by e ∷ []) (en : n ≡ e + 1) where
  pub count_is : ends (by_place v.workers v.sent by to) ≡ e
  count_is = sym (h.ends_sent by to bb tb) ∙ got v.ends_sent (by * v.workers + to) e 0 (in_ended v h by to bb tb) eo

  pub end_step : e < v.levels → e ≤ get_or v.at by 0 → IsStep (wave_of_view S v) (state_of v) (End by to) (state_of (record v { sent = set v.sent (by * v.workers + to) s-new; ends_sent = set v.ends_sent (by * v.workers + to) n; waiting = set v.waiting to q-new }))
  end_step small early = (
    bb,
    tb,
    got v.due (by * v.workers + to) d-old [] (in_due v h by to bb tb) do' ∙ dn,
    subst (λ m. m ≤ get_or v.at by 0) (sym count_is) early,
    subst (λ m. m < v.levels) (sym count_is) small,
    record {
      sent = λ s k sb kb. pair_grows v.workers v.sent by to s-old s-new (EndOf by (ends (by_place v.workers v.sent by to))) tb (in_sent v h by to bb tb) so (sn ∙ ap (λ m. s-old ++ EndOf by m ∷ []) (sym count_is)) s k kb;
      due = λ s k sb kb. sym (append-nil (by_place v.workers v.due s k));
      taken = λ k kb. sym (append-nil (list_of v.taken k));
      waiting = λ k kb. one_grows v.waiting to q-old q-new (EndOf by (ends (by_place v.workers v.sent by to))) (in_waiting v h by to bb tb) qo (qn ∙ ap (λ m. q-old ++ EndOf by m ∷ []) (sym count_is)) k;
      rows = λ k l kb lb. sym (append-nil (by_place v.levels v.rows k l));
      at = λ k kb. omega arith;
    },
  )

  pub end_kept : IsConsistent (record v { sent = set v.sent (by * v.workers + to) s-new; ends_sent = set v.ends_sent (by * v.workers + to) n; waiting = set v.waiting to q-new })
  end_kept = record {
    shape = record {
      few_workers = h.shape.few_workers;
      few_levels = h.shape.few_levels;
      sent = still v.sent (by * v.workers + to) s-new (v.workers * v.workers) h.shape.sent;
      ends_sent = still v.ends_sent (by * v.workers + to) n (v.workers * v.workers) h.shape.ends_sent;
      due = h.shape.due;
      waiting = still v.waiting to q-new v.workers h.shape.waiting;
      taken = h.shape.taken;
      ends_taken = h.shape.ends_taken;
      tables = h.shape.tables;
      rows = h.shape.rows;
      at = h.shape.at;
    };
    ends_sent = λ s k sb kb.
        pair_set 0 v.workers v.ends_sent by to n s k tb kb (in_ended v h by to bb tb)
        ∙ (elim (eqb s by && eqb k to) as (λ b. (eqb s by && eqb k to) ≡ b → cond b n (number_of v.workers v.ends_sent s k) ≡ ends (by_place v.workers v.sent s k ++ only b (EndOf by e))) [
          | true ↦ λ t. (
              let (p, q) = at_pair_is s by k to t in
              let a = ends-append (by_place v.workers v.sent s k) (EndOf by e ∷ []) in
              let b : ends (by_place v.workers v.sent s k) ≡ e = ap (λ m. ends (by_place v.workers v.sent m k)) p ∙ ap (λ m. ends (by_place v.workers v.sent by m)) q ∙ count_is in
              omega (arith, a, b, en))
          | false ↦ λ t. h.ends_sent s k sb kb ∙ ap ends (sym (append-nil (by_place v.workers v.sent s k)))
        ] refl)
        ∙ ap ends (sym (pair_grows v.workers v.sent by to s-old s-new (EndOf by e) tb (in_sent v h by to bb tb) so sn s k kb));
    ends_taken = h.ends_taken;
    kept = more_of v.workers v.workers v.kept (by_place v.workers v.sent) (by_place v.workers (set v.sent (by * v.workers + to) s-new)) (at_pair by to (EndOf by e))
        (λ s k sb kb. pair_grows v.workers v.sent by to s-old s-new (EndOf by e) tb (in_sent v h by to bb tb) so sn s k kb) h.kept;
    tables = h.tables;
  }
