-- The tasks in which the workers' children are numbered.
use Rattle.std.proofs.Common.{◌≡◌, ◌≢◌, ℕ, zero, suc, ◌+◌, ◌-◌, ◌%◌, ◌<◌, false, cond, List, [], ◌∷◌, ◌++◌, length, map, filter, take, drop, get_or, set, Ok, refl, sym, ap, ◌∙◌, subst, arith, append_assoc, append-nil, eq-eqb, ne_eqb, get_or-set_same, get_or-set_other, length-append}
use denote.Ref.{Bor}
use Rattle.std.specs.List.{AllZip}
use Rattle.std.specs.Prelude.{Result, Ok, Err, IsOk, OnOk}
use Rattle.std.specs.declared.alloc.AllocError.{AllocError}
use Rattle.std.proofs.lemmas.List.{length-set, length-map, get_or_append_left, get_or_default, drop_more, take_more}
use Rattle.std.proofs.Math.ListN.{get_or-map}
use Rattle.std.proofs.Math.Nat.{mod-lt}
use Rattle.std.proofs.Math.Seq.{get_or-append_seam, drop-length}
use mathlib.Core.Logic.{dite}
use native.Mathlib.Decide.{ℕ_discrete}
use Rattle.dd_store.specs.Nodes.{IsSound}
use Rattle.req_table.specs.declared.Key.{Key}
use Rattle.req_table.specs.declared.Child.TheVariants.{Ask}
use Rattle.req_table.specs.declared.Record.{Record}
use Rattle.req_table.specs.declared.packed_child.PackedChild.{PackedChild}
use Rattle.req_table.specs.declared.packed_child.PlacedChild.TheVariants as by_number
use Rattle.req_table.specs.Keys.{level_of, owner}
use Rattle.req_table.specs.Places.{row, IsPlaced}
use Rattle.req_table.specs.Settled.{asked_by, asked_below, round_robin_from}
use Rattle.expand_work.specs.WavePorts.{row_of}
use Rattle.expand_work.specs.WaveParts.{AreParts}
use Rattle.expand_work.specs.OwnerRows.{row_by_owner, AreRowsByOwner}
use Rattle.expand_work.specs.Work.{owned_by}
use Rattle.expand_work.proofs.Zips.{zip_grown}
use Rattle.reduce_up.specs.declared.numbers.NumberingInput.{NumberingInput}
use Rattle.reduce_up.specs.declared.numbers.NumberingTask.{NumberingTask}
use Rattle.reduce_up.specs.Numbers.{keys_in, starts_below, AreFew, IsNumberingInput, HasPlaceOf, AreNext, IsNext, AreNoted, IsNumberedTo, asked_up, asked_from, IsNew, AreNew, IsTask, asked_after, AreTasks, IsRootPlaced, MayNumberAll, IsTaskNumbered, AreAllNumbered, AreLevelsNumbered, AreRowsNumbered, AreNumbered}
use Rattle.reduce_up.proofs.Joined.{each_here}
use Rattle.reduce_up.proofs.Numbering.{rows_have_levels}

-- ---- what is asked, from the first level on
asked_whole : (m v : ℕ) (rows : ℕ → List Record) → asked_below v rows ++ asked_up m v rows ≡ asked_below (v + m) rows
asked_whole zero v rows = append-nil (asked_below v rows) ∙ (let e : v ≡ v + 0 = omega arith in ap (λ z. asked_below z rows) e)
asked_whole (suc m) v rows =
    let e : suc v + m ≡ v + suc m = omega arith in
    sym (append_assoc (asked_below v rows) (asked_by (rows v)) (asked_up m (suc v) rows)) ∙ asked_whole m (suc v) rows ∙ ap (λ z. asked_below z rows) e

asked_all : (f : NumberingInput) (s : ℕ) → asked_below f.store.now.levels (row_of f.notes.now.rows s) ≡ asked_from f s 0
asked_all f s =
    let rows : ℕ → List Record = row_of f.notes.now.rows s in
    let e : 0 + (f.store.now.levels - 0) ≡ f.store.now.levels = omega arith in
    ap (λ z. asked_below z rows) (sym e) ∙ sym (asked_whole (f.store.now.levels - 0) 0 rows)

-- ---- before anything is asked for
module _ (f : NumberingInput) (roots : List Key) (parts : AreParts f.store.now f.workers roots f.notes.now) where
  -- what is read while children are numbered
  pub input_is : IsSound f.store.now → 0 < f.workers → f.starts.now ≡ starts_below f.store.now.levels f.workers (row_of f.notes.now.rows) → AreFew f.store.now.levels f.workers (row_of f.notes.now.rows) → IsNumberingInput f
  input_is sound some e few = record {
    some = some;
    levels = parts.levels;
    many_noted = parts.many_noted;
    senders = parts.senders;
    levels_match = rows_have_levels f.store.now f.workers roots f.notes.now sound parts;
    starts_are = e;
    few = few;
  }

  none_asked : (s : ℕ) → s < f.workers → (left : List (Bor (List ℕ))) → AreNoted f s left → AreNext f (asked_after f roots s 0) left
  none_asked s sb left noted = record {
    long = noted.long;
    each = λ k d kb. subst (λ (z : List ℕ). AllZip (HasPlaceOf f k) (filter (owned_by f.workers k) (asked_after f roots s 0)) z) (sym (noted.each k d kb)) (parts.places s k sb kb);
  }

  pub tasks_begin : (rows : List (List (List (PackedChild × PackedChild)))) (tasks : List NumberingTask) → AreRowsByOwner f.notes.now.rows rows → AreNew f (length rows) rows tasks → AreTasks f roots 0 tasks
  tasks_begin rows tasks by_owner new =
      let many : length rows ≡ f.workers = ap length by_owner ∙ length-map f.notes.now.rows (map (row_by_owner (length f.notes.now.rows))) ∙ parts.many_rows in
      record {
        long = new.long ∙ many;
        each = λ s d sb.
            let at = new.each s d (subst (λ z. s < z) (sym many) sb) in
            let own : get_or rows s [] ≡ map (row_by_owner f.workers) (get_or f.notes.now.rows s []) =
            ap (λ z. get_or z s []) by_owner ∙ get_or-map (map (row_by_owner (length f.notes.now.rows))) f.notes.now.rows s [] ∙ ap (λ z. map (row_by_owner z) (get_or f.notes.now.rows s [])) parts.many_rows in
            record { same = at.same ∙ own; spare_row = at.spare_row; places = none_asked s sb (get_or tasks s d).left.items at.noted };
      }

-- one more item, after those of which something holds at each place
pub each_more : {X : Type 0} (P : ℕ → X → Type 0) (xs : List X) (y : X) → ((k : ℕ) (d : X) → k < length xs → P k (get_or xs k d)) → P (length xs) y → (k : ℕ) (d : X) → k < length xs + 1 → P k (get_or (xs ++ y ∷ []) k d)
each_more P xs y h own k d l = dite (ℕ_discrete k (length xs))
    (λ e. subst (λ z. P z (get_or (xs ++ y ∷ []) z d)) (sym e) (subst (P (length xs)) (sym (get_or-append_seam xs y [] d)) own))
    (λ o. let lt : k < length xs = grind (arith, l, o) in subst (P k) (sym (get_or_append_left xs (y ∷ []) d k lt)) (h k d lt))

-- one more task is made
pub new_more : (f : NumberingInput) (done : List (List (List (PackedChild × PackedChild)))) (rows : List (List (PackedChild × PackedChild))) (tasks tasks' : List NumberingTask) (task : NumberingTask) → AreNew f (length done) done tasks → IsNew f (length done) rows task → tasks' ≡ tasks ++ task ∷ [] → AreNew f (length (done ++ rows ∷ [])) (done ++ rows ∷ []) tasks'
new_more f done rows tasks tasks' task a h e = subst (AreNew f (length (done ++ rows ∷ [])) (done ++ rows ∷ [])) (sym e) (record {
  long = length-append tasks (task ∷ []) ∙ ap (λ z. z + 1) a.long ∙ sym (length-append done (rows ∷ []));
  each = λ k d l. each_more (λ j (x : NumberingTask). IsNew f j (get_or (done ++ rows ∷ []) j []) x) tasks task
      (λ j b lt. let jb : j < length done = subst (λ z. j < z) a.long lt in subst (λ z. IsNew f j z (get_or tasks j b)) (sym (get_or_append_left done (rows ∷ []) [] j jb)) (a.each j b jb))
      (subst (λ z. IsNew f z (get_or (done ++ rows ∷ []) z []) task) (sym a.long) (subst (λ z. IsNew f (length done) z task) (sym (get_or-append_seam done rows [] [])) h))
      k d (let m = length-append done (rows ∷ []) in let g = a.long in omega (arith, l, m, g));
})

-- ---- a root is asked for
module _ (f : NumberingInput) (some : 0 < f.workers) (roots : List Key) (i : ℕ) (tasks : List NumberingTask) (a : AreTasks f roots i tasks) (ib : i < length roots) (x : Key) (x-is : x ≡ get_or roots i x) where
  abbrev s : ℕ
  s = i % f.workers

  sb : s < f.workers
  sb = mod-lt i some

  left : drop i roots ≡ x ∷ drop (i + 1) roots
  left = drop_more roots i x ib ∙ ap (λ z. z ∷ drop (i + 1) roots) (sym x-is)

  -- its sender asks for it first
  asked_own : asked_after f roots s i ≡ x ∷ asked_after f roots s (i + 1)
  asked_own =
      ap (λ z. round_robin_from f.workers s i z ++ asked_below f.store.now.levels (row_of f.notes.now.rows s)) left
      ∙ ap (λ b. cond b (x ∷ round_robin_from f.workers s (i + 1) (drop (i + 1) roots)) (round_robin_from f.workers s (i + 1) (drop (i + 1) roots)) ++ asked_below f.store.now.levels (row_of f.notes.now.rows s)) (eq-eqb s s refl)

  asked_other : (t : ℕ) → t ≢ s → asked_after f roots t i ≡ asked_after f roots t (i + 1)
  asked_other t o =
      ap (λ z. round_robin_from f.workers t i z ++ asked_below f.store.now.levels (row_of f.notes.now.rows t)) left
      ∙ ap (λ b. cond b (x ∷ round_robin_from f.workers t (i + 1) (drop (i + 1) roots)) (round_robin_from f.workers t (i + 1) (drop (i + 1) roots)) ++ asked_below f.store.now.levels (row_of f.notes.now.rows t)) (ne_eqb s t (λ e. o (sym e)))

  module _ (task : NumberingTask) (task-is : task ≡ get_or tasks s task) where
    own : IsTask f s (asked_after f roots s i) task
    own = subst (IsTask f s (asked_after f roots s i)) (sym task-is) (a.each s task sb)

    pub root_next : (l : ℕ) (child : PackedChild) → l ≡ level_of f.store.now x → child ≡ by_number.Ask l (owner f.workers x) false → IsNext f task.left.items child (Ask l x false) (asked_after f roots s (i + 1))
    root_next l child l-is child-is = record { owned = child-is; levels_match = l-is; places = subst (λ z. AreNext f z task.left.items) asked_own own.places }

    pub tasks_next : (new : NumberingTask) → new.rows ≡ task.rows → new.spare_row ≡ task.spare_row → AreNext f (asked_after f roots s (i + 1)) new.left.items → AreTasks f roots (i + 1) (set tasks s new)
    tasks_next new rows-are spare_row-is next = record {
      long = length-set tasks s new ∙ a.long;
      each = λ t d tb. dite (ℕ_discrete t s)
          (λ e. subst (λ z. IsTask f z (asked_after f roots z (i + 1)) (get_or (set tasks s new) z d)) (sym e)
          (subst (IsTask f s (asked_after f roots s (i + 1))) (sym (get_or-set_same tasks s new d (subst (λ z. s < z) (sym a.long) sb)))
          (record { same = rows-are ∙ own.same; spare_row = spare_row-is ∙ own.spare_row; places = next })))
          (λ o. subst (IsTask f t (asked_after f roots t (i + 1))) (sym (get_or-set_other tasks s t new d o))
          (subst (λ z. IsTask f t z (get_or tasks t d)) (asked_other t o) (a.each t d tb)));
    }

  pub root_placed : (l : ℕ) (d : PackedChild) → l ≡ level_of f.store.now x → IsPlaced (keys_in f) d (Ask l x false) → (y : Key) → IsRootPlaced f (get_or roots i y) d
  root_placed l d l-is h y = subst (λ z. IsRootPlaced f z d) (x-is ∙ get_or_default roots i x y ib) (subst (λ z. IsPlaced (keys_in f) d (Ask z x false)) l-is h)

-- one more root gets its place
pub next_placed : {A B : Type 0} (R : A → B → Type 0) (xs : List A) (i : ℕ) (ys new : List B) (y : B) → i < length xs → new ≡ ys ++ y ∷ [] → AllZip R (take i xs) ys → ((d : A) → R (get_or xs i d) y) → AllZip R (take (i + 1) xs) new
next_placed R [] i ys new y l is z h = absurd (omega (arith, l))
next_placed R (x ∷ xs) i ys new y l is z h = zip_grown R (take i (x ∷ xs)) (take (i + 1) (x ∷ xs)) ys new (get_or (x ∷ xs) i x) y (take_more (x ∷ xs) i x l) is z (h x)

-- ---- all roots were asked for
module _ (f : NumberingInput) (F : IsNumberingInput f) (roots : List Key) where
  pub ready : (s : ℕ) → s < f.workers → (task : NumberingTask) → IsTask f s (asked_after f roots s (length roots)) task → IsNumberedTo f s 0 task
  ready s sb task h = record {
    levels = ap length h.same ∙ length-map (get_or f.notes.now.rows s []) (row_by_owner f.workers) ∙ F.levels s sb;
    done = λ u l. absurd (omega (arith, l));
    left = λ u l ub. ap (λ z. row z u) h.same ∙ get_or-map (row_by_owner f.workers) (get_or f.notes.now.rows s []) u [];
    places = subst (λ z. AreNext f z task.left.items)
        (ap (λ z. round_robin_from f.workers s (length roots) z ++ asked_below f.store.now.levels (row_of f.notes.now.rows s)) (drop-length roots) ∙ asked_all f s) h.places;
    spare_row = h.spare_row;
  }

  pub all_ready : (tasks : List NumberingTask) → AreTasks f roots (length roots) tasks → MayNumberAll f tasks
  all_ready tasks h = record { long = h.long; each = λ s d sb. ready s sb (get_or tasks s d) (h.each s d sb) }

-- ---- the rows of the tasks
pub rows_more : (f : NumberingInput) (m : ℕ) (rows rows' : List (List (List (PackedChild × PackedChild)))) (own : List (List (PackedChild × PackedChild))) → AreRowsNumbered f m rows → AreLevelsNumbered f m own → rows' ≡ rows ++ own ∷ [] → AreRowsNumbered f (m + 1) rows'
rows_more f m rows rows' own a h e =
    subst (AreRowsNumbered f (m + 1)) (sym e)
    (record {
      many = length-append rows (own ∷ []) ∙ ap (λ z. z + 1) a.many;
      each = λ k d l. each_more (AreLevelsNumbered f) rows own (λ j b lt. a.each j b (subst (λ z. j < z) a.many lt)) (subst (λ z. AreLevelsNumbered f z own) (sym a.many) h) k d (subst (λ z. k < z + 1) (sym a.many) l);
    })

-- the rows of a task that was done
pub task_rows : (f : NumberingInput) (k : ℕ) (task : NumberingTask) → IsNumberedTo f k f.store.now.levels task → AreLevelsNumbered f k task.rows
task_rows f k task h = (h.levels, h.done)

-- the rows that a loop has got from a task
pub task_at : (f : NumberingInput) (tasks done rest : List NumberingTask) (task : NumberingTask) (rows : List (List (PackedChild × PackedChild))) → AreAllNumbered f tasks → (done ++ task ∷ []) ++ rest ≡ tasks → (rows ≡ task.rows) × IsOk task.done → AreLevelsNumbered f (length done) rows
task_at f tasks done rest task rows a e got =
    let h = each_here (IsTaskNumbered f) tasks done rest task (λ k d l. a.each k d (subst (λ z. k < z) a.long l)) e in
    subst (AreLevelsNumbered f (length done)) (sym got.0) (task_rows f (length done) task (on_ok task.done got.1 h))
  where
    on_ok : {P : Type 0} (r : Result (Unit {0}) AllocError) → IsOk r → OnOk r P → P
    on_ok (Ok u) i h = h
    on_ok (Err e) i h = absurd (cc)

pub all_numbered : (f : NumberingInput) (roots : List Key) (rows : List (List (List (PackedChild × PackedChild)))) (placed : List PackedChild) → AreRowsNumbered f f.workers rows → AllZip (IsRootPlaced f) roots placed → AreNumbered f.store.now f.workers roots f.notes.now rows placed
all_numbered f roots rows placed h z = record {
  many = h.many;
  levels = λ k d l. (h.each k d l).0;
  each = λ k v l b. (h.each k [] l).1 v b;
  of_roots = z;
}
