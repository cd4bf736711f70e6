-- The answer of a record from those of its children.
use Rattle.std.proofs.Common.{◌≡◌, ℕ, zero, suc, ◌+◌, ◌<◌, ◌≤◌, ◌⊎◌, inl, inr, Bool, List, [], ◌∷◌, length, get_or, sym, ◌∙◌, ap, subst, arith, Contains}
use Rattle.std.proofs.lemmas.List.{get_or_default}
use Rattle.dd_store.specs.declared.reference.Ref.{Ref}
use Rattle.req_table.specs.declared.Key.{Key}
use Rattle.req_table.specs.declared.Child.{Child}
use Rattle.req_table.specs.declared.Child.TheVariants.{Done, Ask}
use Rattle.req_table.specs.declared.Record.{Record}
use Rattle.dd_store.specs.Functions.{OfEither}
use Rattle.dd_store.specs.Parts.Part.{node}
use Rattle.dd_store.specs.Nodes.{Nodes, den, IsSound}
use Rattle.dd_store.specs.View.{part, Has, Keeps}
use Rattle.reduce_up.specs.Reducing.{IsKeyAt, IsAnswer, AreAnswers, HasAnswer, IsReady, AddsDescribed, AskedBy, IsRow, IsRowReduced, NotesAnswer}
use Rattle.req_table.specs.Keys.{meaning}
use Rattle.std.specs.Prelude.{slice_index_or}
use Rattle.std.proofs.Math.Nat.{eq-or-lt_of_le}
use Rattle.reduce_up.proofs.Opposite.{either_more, either_kept}
use Rattle.dd_store.proofs.View.{keeps-trans}
use Rattle.reduce_up.proofs.Reduction.{answer_kept, kept_meaning}

pub ready_more : (before pairs : List (Key × Ref)) → ((k : Key) → HasAnswer before k → HasAnswer pairs k) → (c : Child) → IsReady before c → IsReady pairs c
ready_more before pairs m (Done r) i = i
ready_more before pairs m (Ask l k b) i = m k i

-- described nodes, added after described nodes
adds_on : (a b c : Nodes) (v : ℕ) (row : List Record) (entry : Record) → IsSound a → IsSound b → Contains row entry → IsKeyAt a v entry.key → AddsDescribed a b (AskedBy a v row) → AddsDescribed b c (AskedBy b v (entry ∷ [])) → AddsDescribed a c (AskedBy a v row)
adds_on a b c v row entry S T member key i j = record { keeps = keeps-trans a b c i.keeps j.keeps; described = λ m h. later m (j.described m h) }
  where
    K : Keeps a b
    K = i.keeps

    L : Keeps b c
    L = j.keeps

    earlier : (m : Ref) → Has b m → Has a m ⊎ ((w : ℕ) × (lo : Ref) × (hi : Ref) × (part b m ≡ node w lo hi) × OfEither (AskedBy a v row w) (den b m)) → Has a m ⊎ ((w : ℕ) × (lo : Ref) × (hi : Ref) × (part c m ≡ node w lo hi) × OfEither (AskedBy a v row w) (den c m))
    earlier m h (inl k) = inl k
    earlier m h (inr k) = inr (k.0, k.1, k.2, L.part_is m h ∙ k.3, either_kept b c T L (AskedBy a v row k.0) m h k.4)

    only_entry : (r : Record) → Contains (entry ∷ []) r → r ≡ entry
    only_entry r (zero, lt, e) = sym e
    only_entry r (suc k, lt, e) = absurd (omega arith)

    of_row : (w : ℕ) (f : List Bool → Bool) → AskedBy b v (entry ∷ []) w f → AskedBy a v row w f
    of_row w f (at, (r, r_in, e)) =
        let same : r ≡ entry = only_entry r r_in in
        (at, (entry, member, λ x hx. e x (hx ∙ sym K.levels) ∙ ap (λ r. meaning b r.key x) same ∙ kept_meaning a b S K entry.key key.first key.second x))

    later : (m : Ref) → Has b m ⊎ ((w : ℕ) × (lo : Ref) × (hi : Ref) × (part c m ≡ node w lo hi) × OfEither (AskedBy b v (entry ∷ []) w) (den c m)) → Has a m ⊎ ((w : ℕ) × (lo : Ref) × (hi : Ref) × (part c m ≡ node w lo hi) × OfEither (AskedBy a v row w) (den c m))
    later m (inl h) = earlier m h (i.described m h)
    later m (inr k) = inr (k.0, k.1, k.2, k.3, either_more (AskedBy b v (entry ∷ []) k.0) (AskedBy a v row k.0) (of_row k.0) (den c m) k.4)

answers_more : (s : Nodes) (pairs : List (Key × Ref)) (k : Key) (r : Ref) (pairs' : List (Key × Ref)) → AreAnswers s pairs → IsAnswer s k r → NotesAnswer pairs k r pairs' → AreAnswers s pairs'
answers_more s pairs k r pairs' a i n l m c = by (n.only l m c)
  where
    by : Contains pairs (l, m) ⊎ ((l ≡ k) × (m ≡ r)) → IsAnswer s l m
    by (inl c) = a l m c
    by (inr e) = subst (λ z. IsAnswer s z m) (sym e.0) (subst (λ z. IsAnswer s k z) (sym e.1) i)

-- ---- a refused record leaves the row reduced up to the records before it
-- an element that a loop reads is one of the list
pub member : (row : List Record) (i : ℕ) (entry : Record) → i < length row → entry ≡ get_or row i entry → Contains row entry
member row i entry lt at = (i, lt, sym at)

pub row_stopped : (start : Nodes) (before : List (Key × Ref)) (v : ℕ) (row : List Record) (i : ℕ) (s : Nodes) (pairs : List (Key × Ref)) (s' : Nodes) (entry : Record) →
    IsSound start → IsRow start before v row → Contains row entry → IsRowReduced start before v row i s pairs → IsSound s' → AddsDescribed s s' (AskedBy s v (entry ∷ [])) → IsRowReduced start before v row i s' pairs
row_stopped start before v row i s pairs s' entry S R c so T adds = record {
  held = T;
  adds = adds_on start s s' v row entry S so.held c (R.records entry c).key so.adds adds;
  answers = λ k r m. answer_kept s s' so.held adds.keeps k r (so.answers k r m);
  more = so.more;
  done = so.done;
}

pub row_next : (start : Nodes) (before : List (Key × Ref)) (v : ℕ) (row : List Record) (i : ℕ) (s : Nodes) (pairs : List (Key × Ref)) (s' : Nodes) (entry : Record) (r : Ref) (pairs' : List (Key × Ref)) →
    IsSound start → IsRow start before v row → i < length row → entry ≡ get_or row i entry → IsRowReduced start before v row i s pairs → IsSound s' → AddsDescribed s s' (AskedBy s v (entry ∷ [])) →
    IsAnswer s' entry.key r → NotesAnswer pairs entry.key r pairs' → IsRowReduced start before v row (i + 1) s' pairs'
row_next start before v row i s pairs s' entry r pairs' S R lt at so T adds a n =
    let st : IsRowReduced start before v row i s' pairs = row_stopped start before v row i s pairs s' entry S R (member row i entry lt at) so T adds in
    record {
      held = T;
      adds = st.adds;
      answers = answers_more s' pairs entry.key r pairs' st.answers a n;
      more = λ k h. n.more k (st.more k h);
      done = λ j d lj. by j d (eq-or-lt_of_le (let z : j ≤ i = omega arith in z));
    }
  where
    by : (j : ℕ) (d : Record) → (j ≡ i) ⊎ (j < i) → HasAnswer pairs' (slice_index_or row j d).key
    by j d (inl ej) =
        subst (λ z. HasAnswer pairs' z.key) (at ∙ get_or_default row i entry d lt ∙ ap (λ z. get_or row z d) (sym ej)) n.noted
    by j d (inr lj) = n.more (slice_index_or row j d).key (so.done j d lj)
