-- A worker takes the first item that waits.
use Rattle.std.proofs.Common.{◌≡◌, ℕ, ◌+◌, ◌*◌, ◌<◌, ◌≤◌, Bool, true, false, cond, eqb, ◌&&◌, List, [], ◌∷◌, ◌++◌, length, get_or, set, map, inl, inr, refl, sym, ap, ◌∙◌, subst, arith, append-nil, append_assoc, eqb-true, eq-eqb}
use Rattle.dd_store.specs.Nodes.{Nodes}
use Rattle.req_table.specs.declared.Key.{Key}
use Rattle.req_table.specs.declared.Record.{Record}
use Rattle.req_table.specs.declared.Item.{Item}
use Rattle.req_table.specs.declared.Item.TheVariants.{Ask, End}
use Rattle.req_table.specs.Lanes.{sent_by, ends, asks_at}
use Rattle.req_table.specs.Settled.{key_of}
use Rattle.req_table.specs.Tables.{AdmitsKey}
use Rattle.wave_core.proofs.Admits.{Admits-offer}
use Rattle.req_table.proofs.Fair.{ends-append, asks_at-append, sent_by-append}
use Rattle.wave_core.specs.declared.Event.TheVariants.{Take}
use Rattle.wave_core.specs.MachineView.{MachineView, IsConsistent, IsTable, by_place, list_of, number_of, state_of, wave_of_view}
use Rattle.wave_core.specs.Step.{IsStep, only, at_one}
use Rattle.wave_core.proofs.Places.{at_pair_is, eqb_comm}
use Rattle.wave_core.proofs.Grid.{place, pair_set, one_grows, one_shrinks, got}
use Rattle.wave_core.proofs.Machines.{still}

pub ends_by-append : (s : ℕ) (xs ys : List Item) → ends (sent_by s (xs ++ ys)) ≡ ends (sent_by s xs) + ends (sent_by s ys)
ends_by-append s xs ys = ap ends (sent_by-append s xs ys) ∙ ends-append (sent_by s xs) (sent_by s ys)

-- an Ask is no End
ends_ask : (b c : Bool) (f l : ℕ) (x : Key) → ends (cond c (Ask f l x ∷ []) []) ≡ 0
ends_ask b true f l x = refl
ends_ask b false f l x = refl

pub ends_by_ask : (s : ℕ) (b : Bool) (f l : ℕ) (x : Key) → ends (sent_by s (only b (Ask f l x))) ≡ 0
ends_by_ask s true f l x = ends_ask true (eqb f s) f l x
ends_by_ask s false f l x = refl

ends_end : (c : Bool) (f l : ℕ) → ends (cond c (End f l ∷ []) []) ≡ cond c 1 0
ends_end true f l = refl
ends_end false f l = refl

-- an End counts for its sender only
pub ends_by_end : (s : ℕ) (b : Bool) (f l : ℕ) → ends (sent_by s (only b (End f l))) ≡ cond b (cond (eqb f s) 1 0) 0
ends_by_end s true f l = ends_end (eqb f s) f l
ends_by_end s false f l = refl

pub asks_only_at : (l : ℕ) (b : Bool) (f m : ℕ) (x : Key) → asks_at l (only b (Ask f m x)) ≡ cond b (cond (eqb m l) (x ∷ []) []) []
asks_only_at l true f m x = refl
asks_only_at l false f m x = refl

pub asks_end_at : (l : ℕ) (b : Bool) (f m : ℕ) → asks_at l (only b (End f m)) ≡ []
asks_end_at l true f m = refl
asks_end_at l false f m = refl

apart : (a b : ℕ) → a < b → eqb b a ≡ false
apart a b l = elim (eqb b a) as (λ t. eqb b a ≡ t → t ≡ false) [ true ↦ λ e. absurd (let z = eqb-true b a e in omega (arith, z)) | false ↦ λ e. refl ] refl

no_keys : (b : Bool) (ks : List Key) → ks ≡ [] → cond b ks [] ≡ []
no_keys true ks e = e
no_keys false ks e = refl

abbrev one_or_none : Bool → ℕ
one_or_none b = cond b 1 0

zero_both : (b : Bool) (n : ℕ) → n ≡ 0 → cond b n 0 ≡ n
zero_both true n e = refl
zero_both false n e = sym e

both_zero : (p q : Bool) → (p && q) ≡ false → cond p (one_or_none q) 0 ≡ one_or_none false
both_zero true true e = absurd (cc)
both_zero true false e = refl
both_zero false q e = refl

both_one : (p q : Bool) → p ≡ true → q ≡ true → cond p (one_or_none q) 0 ≡ one_or_none true
both_one true true e f = refl
both_one true false e f = absurd (cc)
both_one false q e f = absurd (cc)

-- the table of a list with one more Ask
pub table_offer : (xs table new : List Key) (row : List Record) (x : Key) (b : Bool) → IsTable xs table row → AdmitsKey table x b new → IsTable (xs ++ x ∷ []) new row
table_offer xs table new row x true t o = record {
  distinct = Admits-offer [] xs table new x t.distinct (inr o);
  rest = t.rest ++ x ∷ [];
  front = o.1 ∙ ap (λ l. l ++ x ∷ []) t.front ∙ append_assoc (map key_of row) t.rest (x ∷ []);
}
table_offer xs table new row x false t o = record { distinct = Admits-offer [] xs table new x t.distinct (inl o); rest = t.rest; front = o.1 ∙ t.front }

module _ (v : MachineView) (h : IsConsistent v) (by : ℕ) (bb : by < v.workers) (i : Item) (t-old t-new q-old q-new : List Item)
    (to : t-old ≡ get_or v.taken by t-old) (tn : t-new ≡ t-old ++ i ∷ []) (qo : q-old ≡ get_or v.waiting by q-old) (qn : q-old ≡ i ∷ q-new) where
  pub in_taken : by < length v.taken
  in_taken = subst (λ n. by < n) (sym h.shape.taken) bb

  pub in_lane : by < length v.waiting
  in_lane = subst (λ n. by < n) (sym h.shape.waiting) bb

  pub take_step : (S : Nodes) (ends_taken : List ℕ) (tables : List (List Key)) → IsStep (wave_of_view S v) (state_of v) (Take by) (state_of (record v { waiting = set v.waiting by q-new; taken = set v.taken by t-new; ends_taken = ends_taken; tables = tables }))
  take_step S ends_taken tables = (
    bb,
    i,
    q-new,
    got v.waiting by q-old [] in_lane qo ∙ qn,
    record {
      sent = λ s k sb kb. sym (append-nil (by_place v.workers v.sent s k));
      due = λ s k sb kb. sym (append-nil (by_place v.workers v.due s k));
      taken = λ k kb. one_grows v.taken by t-old t-new i in_taken to tn k;
      waiting = λ k kb. one_shrinks v.waiting by q-old q-new i in_lane qo qn k;
      rows = λ k m kb mb. sym (append-nil (by_place v.levels v.rows k m));
      at = λ k kb. omega arith;
    },
  )

  pub take_kept : (ends_taken : List ℕ) (tables : List (List Key)) → length ends_taken ≡ v.workers * v.workers → length tables ≡ v.workers * v.levels
      → ((k s : ℕ) → k < v.workers → s < v.workers → number_of v.workers ends_taken k s ≡ ends (sent_by s (list_of v.taken k ++ at_one by i k)))
      → ((k l : ℕ) → k < v.workers → l < v.levels → IsTable (asks_at l (list_of v.taken k ++ at_one by i k)) (by_place v.levels tables k l) (by_place v.levels v.rows k l))
      → IsConsistent (record v { waiting = set v.waiting by q-new; taken = set v.taken by t-new; ends_taken = ends_taken; tables = tables })
  take_kept ends_taken tables cs ts ch th = record {
    shape = record {
      few_workers = h.shape.few_workers;
      few_levels = h.shape.few_levels;
      sent = h.shape.sent;
      ends_sent = h.shape.ends_sent;
      due = h.shape.due;
      waiting = still v.waiting by q-new v.workers h.shape.waiting;
      taken = still v.taken by t-new v.workers h.shape.taken;
      ends_taken = cs;
      tables = ts;
      rows = h.shape.rows;
      at = h.shape.at;
    };
    ends_sent = h.ends_sent;
    ends_taken = λ k s kb sb. ch k s kb sb ∙ ap (λ l. ends (sent_by s l)) (sym (one_grows v.taken by t-old t-new i in_taken to tn k));
    kept = h.kept;
    tables = λ k l kb lb. subst (λ xs. IsTable (asks_at l xs) (by_place v.levels tables k l) (by_place v.levels v.rows k l)) (sym (one_grows v.taken by t-old t-new i in_taken to tn k)) (th k l kb lb);
  }

module _ (v : MachineView) (h : IsConsistent v) (by : ℕ) (bb : by < v.workers) (f m : ℕ) (x : Key) where
  -- an Ask leaves the counts
  pub ask_counted : (k s : ℕ) → k < v.workers → s < v.workers → number_of v.workers v.ends_taken k s ≡ ends (sent_by s (list_of v.taken k ++ at_one by (Ask f m x) k))
  ask_counted k s kb sb =
      let a = ends_by-append s (list_of v.taken k) (at_one by (Ask f m x) k) in
      let z = ends_by_ask s (eqb k by) f m x in
      let o = h.ends_taken k s kb sb in
      omega (arith, a, z, o)

  -- an Ask of a level that the machine does not have leaves the tables
  pub ask_beyond : v.levels ≤ m → (k l : ℕ) → k < v.workers → l < v.levels → IsTable (asks_at l (list_of v.taken k ++ at_one by (Ask f m x) k)) (by_place v.levels v.tables k l) (by_place v.levels v.rows k l)
  ask_beyond far k l kb lb =
      let lm : l < m = omega arith in
      subst (λ xs. IsTable xs (by_place v.levels v.tables k l) (by_place v.levels v.rows k l))
      (sym (asks_at-append l (list_of v.taken k) (at_one by (Ask f m x) k) ∙ ap (λ xs. asks_at l (list_of v.taken k) ++ xs) (asks_only_at l (eqb k by) f m x ∙ no_keys (eqb k by) (cond (eqb m l) (x ∷ []) []) (ap (λ b. cond b (x ∷ []) []) (apart l m lm))) ∙ append-nil (asks_at l (list_of v.taken k))))
      (h.tables k l kb lb)

  -- an Ask of a level is offered to its table
  pub ask_offered : (m < v.levels) → (old new : List Key) (b : Bool) → old ≡ get_or v.tables (by * v.levels + m) old → AdmitsKey old x b new → (k l : ℕ) → k < v.workers → l < v.levels
      → IsTable (asks_at l (list_of v.taken k ++ at_one by (Ask f m x) k)) (by_place v.levels (set v.tables (by * v.levels + m) new) k l) (by_place v.levels v.rows k l)
  ask_offered mb old new b is o k l kb lb =
      let room = place v.workers v.levels by m (length v.tables) bb mb h.shape.tables in
      let xs = asks_at l (list_of v.taken k) in
      let row = by_place v.levels v.rows k l in
      let asked = asks_at-append l (list_of v.taken k) (at_one by (Ask f m x) k) ∙ ap (λ ys. xs ++ ys) (asks_only_at l (eqb k by) f m x) in
      subst (λ t. IsTable (asks_at l (list_of v.taken k ++ at_one by (Ask f m x) k)) t row) (sym (pair_set [] v.levels v.tables by m new k l mb lb room))
      (subst (λ ys. IsTable ys (cond (eqb k by && eqb l m) new (by_place v.levels v.tables k l)) row) (sym asked)
      (elim (eqb k by) as (λ p. eqb k by ≡ p → IsTable (xs ++ cond p (cond (eqb m l) (x ∷ []) []) []) (cond (p && eqb l m) new (by_place v.levels v.tables k l)) row) [
        | false ↦ λ t. subst (λ ys. IsTable ys (by_place v.levels v.tables k l) row) (sym (append-nil xs)) (h.tables k l kb lb)
        | true ↦ λ t. (
            elim (eqb l m) as (λ q. eqb l m ≡ q → IsTable (xs ++ cond (eqb m l) (x ∷ []) []) (cond q new (by_place v.levels v.tables k l)) row) [
              | true ↦ λ u. (
                  let here : by_place v.levels v.tables k l ≡ old = ap (λ n. get_or v.tables (n * v.levels + l) []) (eqb-true k by t) ∙ ap (λ n. get_or v.tables (by * v.levels + n) []) (eqb-true l m u) ∙ got v.tables (by * v.levels + m) old [] room is in
                  subst (λ c. IsTable (xs ++ cond c (x ∷ []) []) new row) (sym (eq-eqb m l (sym (eqb-true l m u))))
                  (table_offer xs (by_place v.levels v.tables k l) new row x b (h.tables k l kb lb) (subst (λ z. AdmitsKey z x b new) (sym here) o)))
              | false ↦ λ u. subst (λ c. IsTable (xs ++ cond c (x ∷ []) []) (by_place v.levels v.tables k l) row) (sym (eqb_comm m l ∙ u))
                  (subst (λ ys. IsTable ys (by_place v.levels v.tables k l) row) (sym (append-nil xs)) (h.tables k l kb lb))
            ] refl)
      ] refl))

module _ (v : MachineView) (h : IsConsistent v) (by : ℕ) (bb : by < v.workers) (f m : ℕ) where
  pub end_tables : (k l : ℕ) → k < v.workers → l < v.levels → IsTable (asks_at l (list_of v.taken k ++ at_one by (End f m) k)) (by_place v.levels v.tables k l) (by_place v.levels v.rows k l)
  end_tables k l kb lb =
      subst (λ xs. IsTable xs (by_place v.levels v.tables k l) (by_place v.levels v.rows k l))
      (sym (asks_at-append l (list_of v.taken k) (at_one by (End f m) k) ∙ ap (λ xs. asks_at l (list_of v.taken k) ++ xs) (asks_end_at l (eqb k by) f m) ∙ append-nil (asks_at l (list_of v.taken k))))
      (h.tables k l kb lb)

  -- an End of a worker that does not exist leaves the counts
  pub end_beyond : v.workers ≤ f → (k s : ℕ) → k < v.workers → s < v.workers → number_of v.workers v.ends_taken k s ≡ ends (sent_by s (list_of v.taken k ++ at_one by (End f m) k))
  end_beyond far k s kb sb =
      let a = ends_by-append s (list_of v.taken k) (at_one by (End f m) k) in
      let z = ends_by_end s (eqb k by) f m in
      let sf : s < f = omega arith in
      let y0 : one_or_none (eqb f s) ≡ one_or_none false = ap one_or_none (apart s f sf) in
      let y = zero_both (eqb k by) (one_or_none (eqb f s)) y0 ∙ y0 in
      let o = h.ends_taken k s kb sb in
      omega (arith, a, z, y, o)

  -- an End of a worker is counted
  pub end_counted : f < v.workers → (c n : ℕ) → c ≡ get_or v.ends_taken (by * v.workers + f) c → n ≡ c + 1 → (k s : ℕ) → k < v.workers → s < v.workers
      → number_of v.workers (set v.ends_taken (by * v.workers + f) n) k s ≡ ends (sent_by s (list_of v.taken k ++ at_one by (End f m) k))
  end_counted fb c n is en k s kb sb =
      let room = place v.workers v.workers by f (length v.ends_taken) bb fb h.shape.ends_taken in
      let a = ends_by-append s (list_of v.taken k) (at_one by (End f m) k) in
      let z = ends_by_end s (eqb k by) f m in
      let o = h.ends_taken k s kb sb in
      pair_set 0 v.workers v.ends_taken by f n k s fb sb room
      ∙ (elim (eqb k by && eqb s f) as (λ b. (eqb k by && eqb s f) ≡ b → cond b n (number_of v.workers v.ends_taken k s) ≡ ends (sent_by s (list_of v.taken k)) + cond (eqb k by) (cond (eqb s f) 1 0) 0) [
        | true ↦ λ t. (
            let (p, q) = at_pair_is k by s f t in
            let here : number_of v.workers v.ends_taken k s ≡ c = ap (λ j. get_or v.ends_taken (j * v.workers + s) 0) p ∙ ap (λ j. get_or v.ends_taken (by * v.workers + j) 0) q ∙ got v.ends_taken (by * v.workers + f) c 0 room is in
            let y = both_one (eqb k by) (eqb s f) (eq-eqb k by p) (eq-eqb s f q) in
            omega (arith, here, o, en, y))
        | false ↦ λ t. (let y = both_zero (eqb k by) (eqb s f) t in omega (arith, o, y))
      ] refl)
      ∙ ap (λ b. ends (sent_by s (list_of v.taken k)) + cond (eqb k by) (cond b 1 0) 0) (eqb_comm s f)
      ∙ sym (a ∙ ap (λ j. ends (sent_by s (list_of v.taken k)) + j) z)

one_le : (b : Bool) → one_or_none b ≤ 1
one_le true = omega arith
one_le false = omega arith

-- a sender has no more Ends than items
pub ends_by_le : (s : ℕ) (xs : List Item) → ends (sent_by s xs) ≤ length xs
ends_by_le s [] = omega arith
ends_by_le s (Ask f l x ∷ xs) = let a = ends_by-append s (Ask f l x ∷ []) xs in let z = ends_by_ask s true f l x in let r = ends_by_le s xs in omega (arith, a, z, r)
ends_by_le s (End f l ∷ xs) = let a = ends_by-append s (End f l ∷ []) xs in let z = ends_by_end s true f l in let o = one_le (eqb f s) in let r = ends_by_le s xs in omega (arith, a, z, o, r)
