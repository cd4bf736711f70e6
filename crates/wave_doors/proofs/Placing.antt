-- Diagrams by level: what all levels have together, and what is found by place.
use Rattle.std.proofs.Common.{◌≡◌, ℕ, zero, suc, ◌<◌, ◌≤◌, inl, inr, List, [], ◌∷◌, ◌++◌, length, get_or, set, Some, None, refl, sym, ◌∙◌, ap, subst, arith, Contains}
use Rattle.std.specs.Prelude.{Option, MatchOption, IsSome, Result, Ok, Err, OnOk, OnErr, All, min}
use Rattle.std.specs.declared.alloc.AllocError.{AllocError}
use Rattle.std.proofs.lemmas.List.{get_or_default, set-get_or}
use Rattle.dd_store.specs.declared.reference.Ref.{Ref}
use Rattle.dd_store.specs.declared.reference.Reference.TheVariants.{False, True, Node}
use Rattle.dd_store.specs.Graph.{top}
use Rattle.dd_store.specs.Nodes.{Nodes, IsSound}
use Rattle.std.proofs.lemmas.List.Elements.{Contains-get_or}
use Rattle.std.proofs.lemmas.Option.{get_or_from_slice_get}
use Rattle.req_table.specs.declared.Key.{Key}
use Rattle.req_table.specs.declared.Record.{Record}
use Rattle.reduce_up.specs.Reducing.{IsKeyAt, IsRow, HasAnswer, NotesAnswer}
use Rattle.reduce_up.specs.AnswersByLevel.{place_of, paired, joined, ArePlaced}
use Rattle.reduce_up.proofs.Noting.{nothing, head_in, in_cases}
use Rattle.reduce_up.proofs.Placing.{in_either, in_joined, in_left, in_right, notes_row, paired_place, placed_set}

-- one more empty row
pub joined_more : (rows : List (List (Key × Ref))) → joined (rows ++ [] ∷ []) ≡ joined rows
joined_more [] = refl
joined_more (row ∷ rows) = ap (λ l. row ++ l) (joined_more rows)

pub placed_more : (rows : List (List (Key × Ref))) → ArePlaced rows → ArePlaced (rows ++ [] ∷ [])
placed_more rows h i k r c = h i k r (at rows i c)
  where
    at : (rows : List (List (Key × Ref))) (i : ℕ) → Contains {X = Key × Ref} (get_or (rows ++ [] ∷ []) i []) (k, r) → Contains {X = Key × Ref} (get_or rows i []) (k, r)
    at [] zero c = c
    at [] (suc i) c = c
    at (row ∷ rows) zero c = c
    at (row ∷ rows) (suc i) c = at rows i c

-- ---- keys with the references at the same places
pub paired_more : (ks : List Key) (rs : List Ref) (k : Key) (r : Ref) → length ks ≡ length rs → paired (ks ++ k ∷ []) (rs ++ r ∷ []) ≡ paired ks rs ++ (k, r) ∷ []
paired_more [] [] k r e = refl
paired_more [] (s ∷ rs) k r e = absurd (omega (arith, e))
paired_more (l ∷ ks) [] k r e = absurd (omega (arith, e))
paired_more (l ∷ ks) (s ∷ rs) k r e = ap (λ z. (l, s) ∷ z) (paired_more ks rs k r (omega (arith, e)))

-- a key that is in no list has no answer
pub none_paired : (ks : List Key) (rs : List Ref) (k : Key) → (¬ Contains ks k) → HasAnswer (paired ks rs) k → ⊥
none_paired ks rs k out h = let (i, lt, f, g) = paired_place ks rs k h.0 h.1 in out (i, lt, get_or_from_slice_get ks i k k f)

-- a key that is new is noted
pub notes_last : (old : List (Key × Ref)) (k : Key) (r : Ref) → NotesAnswer old k r (old ++ (k, r) ∷ [])
notes_last old k r = record {
  noted = (r, in_right old ((k, r) ∷ []) (k, r) (head_in {X = Key × Ref} (k, r) []));
  only = λ l a c. elim (in_either old ((k, r) ∷ []) (l, a) c) [
    | inl o ↦ inl o
    | inr n ↦ elim (in_cases {X = Key × Ref} (k, r) (l, a) [] n) [ inl e ↦ inr (ap (λ q. q.0) (sym e), ap (λ q. q.1) (sym e)) | inr x ↦ absurd (nothing {X = Key × Ref} (l, a) x) ]
  ];
  more = λ l h. (h.0, in_left old ((k, r) ∷ []) (l, h.0) h.1);
}

-- a key that has an answer keeps it
pub notes_known : (old : List (Key × Ref)) (k : Key) (r : Ref) → HasAnswer old k → NotesAnswer old k r old
notes_known old k r h = record { noted = h; only = λ l a c. inl c; more = λ l i. i }

-- a key that has an answer has it in the row of its place
pub row_of_key : (rows : List (List (Key × Ref))) → ArePlaced rows → (k : Key) → HasAnswer (joined rows) k → (place_of k < length rows) × HasAnswer (get_or rows (place_of k) []) k
row_of_key rows placed k h =
    let (i, l, d) = in_joined rows (k, h.0) h.1 in
    let e = placed i k h.0 d in
    (subst (λ n. n < length rows) (sym e) l, (h.0, subst (λ n. Contains {X = Key × Ref} (get_or rows n []) (k, h.0)) (sym e) d))

pub some_found : (found : Option Ref) (row : List (Key × Ref)) (k : Key) → HasAnswer row k → MatchOption found (HasAnswer row k → ⊥) (λ r. Contains {X = Key × Ref} row (k, r)) → IsSome found
some_found None row k h m = absurd (m h)
some_found (Some r) row k h m = refl

pub found_in : (found : Option Ref) (row : List (Key × Ref)) (k : Key) (r : Ref) → found ≡ Some r → MatchOption found (HasAnswer row k → ⊥) (λ r. Contains {X = Key × Ref} row (k, r)) → Contains {X = Key × Ref} row (k, r)
found_in found row k r e m = subst (λ o. MatchOption o (HasAnswer row k → ⊥) (λ r. Contains {X = Key × Ref} row (k, r))) e m

-- a row that was read is the one at its place
pub row_read : (rows : List (List (Key × Ref))) (i : ℕ) (row : List (Key × Ref)) → i < length rows → row ≡ get_or rows i row → get_or rows i [] ≡ row
row_read rows i row lt e = get_or_default rows i [] row lt ∙ sym e

-- a row after an answer was noted in it, or refused
module _ (rows : List (List (Key × Ref))) (i : ℕ) (old new : List (Key × Ref)) (k : Key) (r : Ref) (lt : i < length rows) (read : old ≡ get_or rows i old) where
  pub noted_in : (result : Result (Unit {0}) AllocError) → OnOk result (NotesAnswer old k r new) → OnOk result (NotesAnswer (joined rows) k r (joined (set rows i new)))
  noted_in (Ok u) n = notes_row rows i new lt k r (subst (λ l. NotesAnswer l k r new) (sym (row_read rows i old lt read)) n)
  noted_in (Err e) n = n

  pub placed_in : (result : Result (Unit {0}) AllocError) → OnOk result (NotesAnswer old k r new) → OnErr result (new ≡ old) → ArePlaced rows → place_of k ≡ i → ArePlaced (set rows i new)
  placed_in (Ok u) n e h at = placed_set rows i new lt h
      (λ l a c. elim (n.only l a c) [ inl o ↦ h i l a (subst (λ z. Contains {X = Key × Ref} z (l, a)) (sym (row_read rows i old lt read)) o) | inr s ↦ ap place_of s.0 ∙ at ])
  placed_in (Err x) n e h at = subst ArePlaced (sym (ap (λ z. set rows i z) (e ∙ read) ∙ set-get_or rows i old)) h

-- the level of a key of the store depends only on its operands
tops : (n v : ℕ) (f g : Ref) → n ≤ 4096 → v < n → min (top n f) (top n g) ≡ v → min (top 4096 f) (top 4096 g) ≡ v
tops n v False False s l e = absurd (omega (arith, l, e))
tops n v False True s l e = absurd (omega (arith, l, e))
tops n v False (Node b bm) s l e = omega (arith, s, l, e)
tops n v True False s l e = absurd (omega (arith, l, e))
tops n v True True s l e = absurd (omega (arith, l, e))
tops n v True (Node b bm) s l e = omega (arith, s, l, e)
tops n v (Node a am) False s l e = omega (arith, s, l, e)
tops n v (Node a am) True s l e = omega (arith, s, l, e)
tops n v (Node a am) (Node b bm) s l e = e

pub place_at : (S : Nodes) (v : ℕ) (k : Key) → S.levels ≤ 4096 → IsKeyAt S v k → place_of k ≡ v
place_at S v k small at = tops S.levels v k.f k.g small at.bounded at.level

pub row_at_place : (S : Nodes) (before : List (Key × Ref)) (v : ℕ) (row : List Record) → IsSound S → IsRow S before v row → All (λ r. place_of r.key ≡ v) row
row_at_place S before v row o h j d l = place_at S v (get_or row j d).key o.few_levels (h.records (get_or row j d) (Contains-get_or row j d l)).key
