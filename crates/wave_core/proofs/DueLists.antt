-- The children of a record become due, and the next key of a table is expanded.
use Rattle.std.proofs.Common.{◌≡◌, ℕ, inl, ◌+◌, ◌*◌, ◌<◌, ◌≤◌, Bool, true, false, cond, eqb, ◌&&◌, List, [], ◌∷◌, ◌++◌, length, get_or, set, map, filter, All, Contains, refl, sym, ap, ◌∙◌, subst, arith, append-nil, append_assoc, mod-lt, le_of_suc-le-suc}
use Rattle.std.proofs.lemmas.List.{length-set, length-map, get_or_default}
use Rattle.std.proofs.lemmas.List.Elements.{filter-append, All-contains}
use Rattle.dd_store.specs.Nodes.{Nodes}
use Rattle.req_table.specs.declared.Key.{Key}
use Rattle.req_table.specs.declared.Child.{Child}
use Rattle.req_table.specs.declared.Child.TheVariants.{Done, Ask}
use Rattle.req_table.specs.declared.Record.{Record}
use Rattle.req_table.specs.TerminalCase.{owner_of}
use Rattle.req_table.specs.Lanes.{sent_by, IsFair, IsClosed, asks_at}
use Rattle.req_table.specs.Settled.{IsDistinctOf, key_of, asked, asked_by, is_owned}
use Rattle.req_table.specs.Keys.{record_of, wave_at}
use Rattle.req_table.proofs.Lists.{Has, has_of, contains_of, all_of, Has-append_right}
use Rattle.req_table.proofs.Admits.{Admits-admitted}
use Rattle.wave_core.proofs.Admits.{next_of}
use Rattle.req_table.proofs.Fair.{counted_of_closed, closed_of_counted}
use Rattle.req_table.proofs.Closure.{map-append_lem}
use Rattle.wave_core.specs.declared.Event.TheVariants.{Expand}
use Rattle.wave_core.specs.MachineView.{MachineView, IsConsistent, IsTable, by_place, list_of, number_of, state_of, wave_of_view, due_with_child, due_with_children}
use Rattle.wave_core.specs.Step.{IsStep, only, row_here, asks_here, IsNext}
use Rattle.wave_core.proofs.Places.{eqb_comm, at_pair_is}
use Rattle.wave_core.proofs.Grid.{place, pair_grows, got, set_twice, read_back}
use Rattle.wave_core.proofs.Machines.{still}

-- what a child adds to what is due for a pair of workers
only_owned : (a b c : Bool) (x : Key) → b ≡ c → only (a && b) x ≡ cond a (cond c (x ∷ []) []) []
only_owned true true c x e = ap (λ t. cond t (x ∷ []) []) e
only_owned true false c x e = ap (λ t. cond t (x ∷ []) []) e
only_owned false b c x e = refl

cond_nil : {X : Type 0} (b : Bool) (xs : List X) → xs ≡ xs ++ cond b [] []
cond_nil true xs = sym (append-nil xs)
cond_nil false xs = sym (append-nil xs)

cond_join : {X : Type 0} (b : Bool) (xs ys : List X) → cond b xs [] ++ cond b ys [] ≡ cond b (xs ++ ys) []
cond_join true xs ys = refl
cond_join false xs ys = refl

pub due_with_child_length : (w by : ℕ) (child : Child) (d : List (List Key)) → length (due_with_child w by child d) ≡ length d
due_with_child_length w by (Done r) d = refl
due_with_child_length w by (Ask l x m) d = length-set d (by * w + owner_of x.op x.f x.g w) (get_or d (by * w + owner_of x.op x.f x.g w) [] ++ x ∷ [])

pub due_with_child_is : (S : Nodes) (n w by : ℕ) (child : Child) (d : List (List Key)) → by < w → length d ≡ w * w → (s k : ℕ) → k < w
    → by_place w (due_with_child w by child d) s k ≡ by_place w d s k ++ cond (eqb s by) (filter (is_owned (wave_at S n w) k) (asked child)) []
due_with_child_is S n w by (Done r) d bb size s k kb = cond_nil (eqb s by) (by_place w d s k)
due_with_child_is S n w by (Ask l x m) d bb size s k kb =
    let o = owner_of x.op x.f x.g w in
    let some : 0 < w = omega arith in
    let ob : o < w = mod-lt _ some in
    let room = place w w by o (length d) bb ob size in
    let old = get_or d (by * w + o) [] in
    pair_grows w d by o old (old ++ x ∷ []) x ob room (get_or_default d (by * w + o) [] old room) refl s k kb
    ∙ ap (λ l. by_place w d s k ++ l) (only_owned (eqb s by) (eqb k o) (eqb o k) x (eqb_comm k o))

pub due_with_children_is : (S : Nodes) (n w by : ℕ) (r : Record) (d : List (List Key)) → by < w → length d ≡ w * w → (s k : ℕ) → k < w
    → by_place w (due_with_children w by r d) s k ≡ by_place w d s k ++ cond (eqb s by) (filter (is_owned (wave_at S n w) k) (asked_by (r ∷ []))) []
due_with_children_is S n w by r d bb size s k kb =
    let P = is_owned (wave_at S n w) k in
    due_with_child_is S n w by r.high (due_with_child w by r.low d) bb (due_with_child_length w by r.low d ∙ size) s k kb
    ∙ ap (λ l. l ++ cond (eqb s by) (filter P (asked r.high)) []) (due_with_child_is S n w by r.low d bb size s k kb)
    ∙ append_assoc (by_place w d s k) (cond (eqb s by) (filter P (asked r.low)) []) (cond (eqb s by) (filter P (asked r.high)) [])
    ∙ ap (λ l. by_place w d s k ++ l) (cond_join (eqb s by) (filter P (asked r.low)) (filter P (asked r.high)))
    ∙ ap (λ l. by_place w d s k ++ cond (eqb s by) l []) (sym (filter-append P (asked r.low) (asked r.high)) ∙ ap (λ l. filter P l) (sym (append-nil (asked r.low ++ asked r.high))))

-- a child that became due is removed again
pub due_removed_again : (w by o : ℕ) (x : Key) (d D : List (List Key)) (old new : List Key) → by < w → o < w → length d ≡ w * w
    → D ≡ set d (by * w + o) (get_or d (by * w + o) [] ++ x ∷ []) → old ≡ get_or D (by * w + o) old → ((xs : List Key) (y : Key) → old ≡ xs ++ y ∷ [] → new ≡ xs) → set D (by * w + o) new ≡ d
due_removed_again w by o x d D old new bb ob size D-is is undo =
    let p = by * w + o in
    let room = place w w by o (length d) bb ob size in
    let a = get_or d p [] in
    let back = read_back d p (a ++ x ∷ []) old room (is ∙ ap (λ l. get_or l p old) D-is) in
    ap (λ l. set l p new) D-is ∙ set_twice d p a (a ++ x ∷ []) new (get_or_default d p [] a room) (undo a x back)

-- the key of a table at the place after those that the row has
pub next_at : (row rest : List Key) (x : Key) → length row < length (row ++ rest) → get_or (row ++ rest) (length row) x ≡ x → (more : List Key) × (rest ≡ x ∷ more)
next_at [] [] x l e = absurd (omega arith)
next_at [] (y ∷ rest) x l e = (rest, ap (λ z. z ∷ rest) e)
next_at (y ∷ row) rest x l e = next_at row rest x (le_of_suc-le-suc l) e

pub none_at : (row rest : List Key) → length (row ++ rest) ≤ length row → rest ≡ []
none_at [] [] l = refl
none_at [] (y ∷ rest) l = absurd (omega arith)
none_at (y ∷ row) rest l = none_at row rest (le_of_suc-le-suc l)

module _ (S : Nodes) (v : MachineView) (h : IsConsistent v) (by l : ℕ) (bb : by < v.workers) (fair : (s : ℕ) → s < v.workers → IsFair (wave_of_view S v).scope (sent_by s (list_of v.taken by))) where
  pub closed_of_ended : ((s : ℕ) → s < v.workers → l < number_of v.workers v.ends_taken by s) → IsClosed (wave_of_view S v).scope l (list_of v.taken by)
  closed_of_ended e = closed_of_counted (wave_of_view S v).scope l (list_of v.taken by) fair (λ s sb. subst (λ m. l < m) (h.ends_taken by s bb sb) (e s sb))

  pub open_of_ended : (s : ℕ) → s < v.workers → number_of v.workers v.ends_taken by s ≤ l → IsClosed (wave_of_view S v).scope l (list_of v.taken by) → ⊥
  open_of_ended s sb e closed = let a = counted_of_closed (wave_of_view S v).scope l (list_of v.taken by) fair closed s sb in let c = h.ends_taken by s bb sb in omega (arith, a, c, e)

-- a table of which the row has all keys
pub all_known : (v : MachineView) (h : IsConsistent v) (by l : ℕ) (bb : by < v.workers) (lb : l < v.levels) → by_place v.levels v.tables by l ≡ map key_of (by_place v.levels v.rows by l)
    → All (Contains (map key_of (by_place v.levels v.rows by l))) (asks_at l (list_of v.taken by))
all_known v h by l bb lb e =
    let row = map key_of (by_place v.levels v.rows by l) in
    all_of (Contains row) (asks_at l (list_of v.taken by)) (λ x i. contains_of row x (subst (λ t. Has t x) e (Admits-admitted [] (asks_at l (list_of v.taken by)) (by_place v.levels v.tables by l) x (h.tables by l bb lb).distinct i)))

-- a table with a key that the row does not have
pub left_over : (v : MachineView) (h : IsConsistent v) (by : ℕ) (bb : by < v.workers) (lb : get_or v.at by 0 < v.levels) (x : Key) (more : List Key)
    → by_place v.levels v.tables by (get_or v.at by 0) ≡ map key_of (by_place v.levels v.rows by (get_or v.at by 0)) ++ x ∷ more
    → ¬ All (Contains (row_here (state_of v) by)) (asks_here (state_of v) by)
left_over v h by bb lb x more front a =
    let row = row_here (state_of v) by in
    let asks = asks_here (state_of v) by in
    let (before, after, asks_split, known, new) = next_of asks row x more (subst (λ t. IsDistinctOf asks t) front (h.tables by (get_or v.at by 0) bb lb).distinct) in
    let here = contains_of asks x (subst (λ t. Has t x) (sym asks_split) (Has-append_right before (x ∷ after) x (inl refl))) in
    new (has_of row x (All-contains (Contains row) asks x a here))

-- Expand
module _ (S : Nodes) (v : MachineView) (h : IsConsistent v) (by : ℕ) (bb : by < v.workers) (lb : get_or v.at by 0 < v.levels) (x : Key) (more : List Key)
    (front : by_place v.levels v.tables by (get_or v.at by 0) ≡ map key_of (by_place v.levels v.rows by (get_or v.at by 0)) ++ x ∷ more) where
  pub is_next : IsNext (wave_of_view S v) (state_of v) by x
  is_next =
      let c = state_of v in
      let (before, after, asks_split, known, new) = next_of (asks_here c by) (row_here c by) x more (subst (λ t. IsDistinctOf (asks_here c by) t) front (h.tables by (get_or v.at by 0) bb lb).distinct) in
      record {
        before = before;
        after = after;
        asks_split = asks_split;
        known = all_of (Contains (row_here c by)) before (λ y i. contains_of (row_here c by) y (known y i));
        new = λ i. new (has_of (row_here c by) x i);
      }

  pub next_here : Contains (asks_here (state_of v) by) x
  next_here = contains_of (asks_here (state_of v) by) x (subst (λ t. Has t x) (sym is_next.asks_split) (Has-append_right is_next.before (x ∷ is_next.after) x (inl refl)))

  pub expand_step : IsClosed (wave_of_view S v).scope (get_or v.at by 0) (list_of v.taken by)
      → IsStep (wave_of_view S v) (state_of v) (Expand by) (state_of (record v { due = due_with_children v.workers by (record_of S x) v.due; rows = set v.rows (by * v.levels + get_or v.at by 0) (by_place v.levels v.rows by (get_or v.at by 0) ++ record_of S x ∷ []) }))
  expand_step closed =
      let l = get_or v.at by 0 in
      let room = place v.workers v.levels by l (length v.rows) bb lb h.shape.rows in
      let row = by_place v.levels v.rows by l in (
        (bb, lb, closed),
        x,
        is_next,
        record {
          sent = λ s k sb kb. sym (append-nil (by_place v.workers v.sent s k));
          due = λ s k sb kb. due_with_children_is S v.levels v.workers by (record_of S x) v.due bb h.shape.due s k kb;
          taken = λ k kb. sym (append-nil (list_of v.taken k));
          waiting = λ k kb. sym (append-nil (list_of v.waiting k));
          rows = λ k m kb mb. pair_grows v.levels v.rows by l row (row ++ record_of S x ∷ []) (record_of S x) lb room (get_or_default v.rows (by * v.levels + l) [] row room) refl k m mb;
          at = λ k kb. omega arith;
        },
      )

-- a row with one record more
pub table_more : (b : Bool) (xs table : List Key) (row : List Record) (r : Record) (more : List Key) → IsTable xs table row → (b ≡ true → table ≡ map key_of row ++ r.key ∷ more) → IsTable xs table (row ++ only b r)
table_more true xs table row r more t e = record {
  distinct = t.distinct;
  rest = more;
  front = e refl ∙ sym (ap (λ k. k ++ more) (map-append_lem row (r ∷ [])) ∙ append_assoc (map key_of row) (r.key ∷ []) more);
}
table_more false xs table row r more t e = record { distinct = t.distinct; rest = t.rest; front = t.front ∙ ap (λ k. map key_of k ++ t.rest) (sym (append-nil row)) }

pub noted : (v : MachineView) (h : IsConsistent v) (by l : ℕ) (r : Record) (more : List Key) (old new : List Record) → by < v.workers → l < v.levels
    → by_place v.levels v.tables by l ≡ map key_of (by_place v.levels v.rows by l) ++ r.key ∷ more → old ≡ get_or v.rows (by * v.levels + l) old → new ≡ old ++ r ∷ []
    → IsConsistent (record v { rows = set v.rows (by * v.levels + l) new })
noted v h by l r more old new bb lb front is e =
    let room = place v.workers v.levels by l (length v.rows) bb lb h.shape.rows in
    record {
      shape = record {
        few_workers = h.shape.few_workers;
        few_levels = h.shape.few_levels;
        sent = h.shape.sent;
        ends_sent = h.shape.ends_sent;
        due = h.shape.due;
        waiting = h.shape.waiting;
        taken = h.shape.taken;
        ends_taken = h.shape.ends_taken;
        tables = h.shape.tables;
        rows = still v.rows (by * v.levels + l) new (v.workers * v.levels) h.shape.rows;
        at = h.shape.at;
      };
      ends_sent = h.ends_sent;
      ends_taken = h.ends_taken;
      kept = h.kept;
      tables = λ k m kb mb. subst (IsTable (asks_at m (list_of v.taken k)) (by_place v.levels v.tables k m)) (sym (pair_grows v.levels v.rows by l old new r lb room is e k m mb))
          (table_more (eqb k by && eqb m l) (asks_at m (list_of v.taken k)) (by_place v.levels v.tables k m) (by_place v.levels v.rows k m) r more (h.tables k m kb mb)
          (λ t. let (p, q) = at_pair_is k by m l t in
          ap (λ n. by_place v.levels v.tables n m) p ∙ ap (λ n. by_place v.levels v.tables by n) q ∙ front
          ∙ ap (λ n. map key_of (by_place v.levels v.rows by n) ++ r.key ∷ more) (sym q) ∙ ap (λ n. map key_of (by_place v.levels v.rows n m) ++ r.key ∷ more) (sym p)));
    }

-- what a table and its row say if a key is left
pub next_found : (v : MachineView) (h : IsConsistent v) (by l : ℕ) (bb : by < v.workers) (lb : l < v.levels) (row : List Record) (t u : List Key) (x : Key) (done n : ℕ)
    → row ≡ get_or v.rows (by * v.levels + l) row → done ≡ length row → t ≡ get_or v.tables (by * v.levels + l) t → n ≡ length t → u ≡ get_or v.tables (by * v.levels + l) u → done < n → ((e : Key) → get_or u done e ≡ x)
    → (more : List Key) × (by_place v.levels v.tables by l ≡ map key_of (by_place v.levels v.rows by l) ++ x ∷ more)
next_found v h by l bb lb row t u x done n row-is done-is t-is n-is u-is less found =
    let p = by * v.levels + l in
    let r-is = got v.rows p row [] (place v.workers v.levels by l (length v.rows) bb lb h.shape.rows) row-is in
    let room = place v.workers v.levels by l (length v.tables) bb lb h.shape.tables in
    let table = by_place v.levels v.tables by l in
    let e1 : table ≡ t = got v.tables p t [] room t-is in
    let e2 : table ≡ u = got v.tables p u [] room u-is in
    let keys = map key_of (by_place v.levels v.rows by l) in
    let f = (h.tables by l bb lb).front in
    let rest = (h.tables by l bb lb).rest in
    let m : length keys ≡ done = length-map (by_place v.levels v.rows by l) key_of ∙ ap length r-is ∙ sym done-is in
    let fit : length keys < length (keys ++ rest) = subst (λ k. length keys < length k) f (subst (λ k. length keys < length k) (sym e1) (omega (arith, m, less, n-is))) in
    let at-is : get_or (keys ++ rest) (length keys) x ≡ x = ap (λ k. get_or k (length keys) x) (sym f ∙ e2) ∙ ap (λ k. get_or u k x) m ∙ found x in
    let (more, e) = next_at keys rest x fit at-is in
    (more, f ∙ ap (λ k. keys ++ k) e)

pub none_found : (v : MachineView) (h : IsConsistent v) (by l : ℕ) (bb : by < v.workers) (lb : l < v.levels) (row : List Record) (t : List Key) (done n : ℕ)
    → row ≡ get_or v.rows (by * v.levels + l) row → done ≡ length row → t ≡ get_or v.tables (by * v.levels + l) t → n ≡ length t → n ≤ done
    → by_place v.levels v.tables by l ≡ map key_of (by_place v.levels v.rows by l)
none_found v h by l bb lb row t done n row-is done-is t-is n-is less =
    let p = by * v.levels + l in
    let r-is = got v.rows p row [] (place v.workers v.levels by l (length v.rows) bb lb h.shape.rows) row-is in
    let e : by_place v.levels v.tables by l ≡ t = got v.tables p t [] (place v.workers v.levels by l (length v.tables) bb lb h.shape.tables) t-is in
    let keys = map key_of (by_place v.levels v.rows by l) in
    let f = (h.tables by l bb lb).front in
    let rest = (h.tables by l bb lb).rest in
    let m : length keys ≡ done = length-map (by_place v.levels v.rows by l) key_of ∙ ap length r-is ∙ sym done-is in
    let full : length (keys ++ rest) ≤ length keys = subst (λ k. length k ≤ length keys) f (subst (λ k. length k ≤ length keys) (sym e) (omega (arith, m, less, n-is))) in
    f ∙ ap (λ k. keys ++ k) (none_at keys rest full) ∙ append-nil keys

-- the children of a record that became due are removed again
pub due_removed_one : (v u1 u2 u3 : MachineView) (by : ℕ) (low : Child) → (let r : MachineView = record v { due = due_with_child v.workers by low v.due } in u1 ≡ r) → u2 ≡ u1
    → ((d : List (List Key)) → u2.due ≡ due_with_child u2.workers by low d → (let r : MachineView = record u2 { due = d } in u3 ≡ r)) → u3 ≡ v
due_removed_one v u1 u2 u3 by low e1 e2 f =
    let e = e2 ∙ e1 in
    let w-is : u2.workers ≡ v.workers = ap (λ (u : MachineView). u.workers) e in
    f v.due (ap (λ (u : MachineView). u.due) e ∙ ap (λ n. due_with_child n by low v.due) (sym w-is)) ∙ ap (λ (u : MachineView). let r : MachineView = record u { due = v.due } in r) e

pub due_removed_both : (v u1 u2 : MachineView) (by : ℕ) (r : Record) (d : List (List Key)) → v.due ≡ due_with_children v.workers by r d
    → ((d' : List (List Key)) → v.due ≡ due_with_child v.workers by r.high d' → (let r : MachineView = record v { due = d' } in u1 ≡ r))
    → ((d' : List (List Key)) → u1.due ≡ due_with_child u1.workers by r.low d' → (let r : MachineView = record u1 { due = d' } in u2 ≡ r))
    → (let r : MachineView = record v { due = d } in u2 ≡ r)
due_removed_both v u1 u2 by r d e f g =
    let e1 = f (due_with_child v.workers by r.low d) e in
    let w-is : u1.workers ≡ v.workers = ap (λ (u : MachineView). u.workers) e1 in
    g d (ap (λ (u : MachineView). u.due) e1 ∙ ap (λ n. due_with_child n by r.low d) (sym w-is)) ∙ ap (λ (u : MachineView). let r : MachineView = record u { due = d } in r) e1

-- the state after an Expand
pub expanded : (v u1 u2 : MachineView) (by l l' : ℕ) (r r' : Record) → (let x : MachineView = record v { due = due_with_children v.workers by r v.due } in u1 ≡ x)
    → (let x : MachineView = record u1 { rows = set u1.rows (by * u1.levels + l) (by_place u1.levels u1.rows by l ++ r ∷ []) } in u2 ≡ x) → r ≡ r' → l ≡ l'
    → (let x : MachineView = record v { due = due_with_children v.workers by r' v.due; rows = set v.rows (by * v.levels + l') (by_place v.levels v.rows by l' ++ r' ∷ []) } in u2 ≡ x)
expanded v u1 u2 by l l' r r' e1 e2 er el =
    e2
    ∙ ap (λ (u : MachineView). let x : MachineView = record u { rows = set u.rows (by * u.levels + l) (by_place u.levels u.rows by l ++ r ∷ []) } in x) e1
    ∙ ap (λ z. let x : MachineView = record v { due = due_with_children v.workers by z v.due; rows = set v.rows (by * v.levels + l) (by_place v.levels v.rows by l ++ z ∷ []) } in x) er
    ∙ ap (λ n. let x : MachineView = record v { due = due_with_children v.workers by r' v.due; rows = set v.rows (by * v.levels + n) (by_place v.levels v.rows by n ++ r' ∷ []) } in x) el
