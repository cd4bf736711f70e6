-- A level whose shards several threads share: what they leave, seen through references, and what this is for the
-- level's records.
use Rattle.std.proofs.Common.{◌≡◌, ◌≢◌, ℕ, ◌<◌, ◌⊎◌, inl, inr, true, false, List, [], ◌∷◌, length, get_or, refl, sym, ◌∙◌, subst, arith, Contains}
use Rattle.std.specs.Prelude.{slice_index_or, Err}
use Rattle.std.specs.List.{AllZip}
use Rattle.std.proofs.lemmas.List.Elements.{Contains-get_or}
use Rattle.dd_store.specs.declared.reference.Ref.{Ref}
use Rattle.dd_store.specs.declared.StoreFault.{StoreFault}
use Rattle.dd_store.specs.declared.StoreFault.TheVariants.{Full, OutOfMemory}
use Rattle.req_table.specs.declared.Key.{Key}
use Rattle.req_table.specs.declared.Record.{Record}
use Rattle.dd_store.specs.Graph.{Pair}
use Rattle.dd_store.specs.Functions.{OfEither}
use Rattle.dd_store.specs.Parts.Part.{node}
use Rattle.dd_store.specs.Nodes.{Nodes, den, IsSound}
use Rattle.dd_store.specs.View.{part, Has}
use Rattle.expand_work.proofs.Zips.{zip_at}
use Rattle.reduce_up.specs.Reducing.{IsKeyAt, IsAnswer, IsAnswerAt, IsRecordAt, AreAnswers, AddsDescribed, AskedBy, IsRow, IsRowReduced, IsRowFault, wave_fault}
use Rattle.reduce_up.specs.Sharing.{IsPairOf, IsAnswered, RowCanBeNodes, IsOfPair, AddsRow, IsRowRefused, NotesFirst}
use Rattle.reduce_up.proofs.Naming.{there_part}
use Rattle.reduce_up.proofs.Noting.{nothing, head_in, tail_in, in_cases}
use Rattle.reduce_up.proofs.Opposite.{one_node_either, one_node_part}
use Rattle.reduce_up.proofs.Reduction.{resolved, asked_as, made_answer, kept_meaning, answer_kept, record_kept, row_fault}
use Rattle.reduce_up.proofs.Missing.{record_fault}

-- an item has a partner at the same place of the other list
pub zip_right : {A B : Type 0} (R : A → B → Type 0) (xs : List A) (ys : List B) → AllZip R xs ys → (y : B) → Contains ys y → (x : A) × Contains xs x × R x y
zip_right R [] [] h y c = absurd (nothing y c)
zip_right R [] (z ∷ ys) h y c = absurd h
zip_right R (x ∷ xs) [] h y c = absurd h
zip_right R (x ∷ xs) (z ∷ ys) h y c = elim (in_cases z y ys c) [
  | inl e ↦ (x, head_in x xs, subst (R x) e h.0)
  | inr more ↦ let w = zip_right R xs ys h.1 y more in (w.0, tail_in x w.0 xs w.1, w.2)
]

-- two lists that agree with a third, place by place
pub zip_through : {A B C : Type 0} (R : A → B → Type 0) (Q : B → C → Type 0) (xs : List A) (ys : List B) (zs : List C) → AllZip R xs ys → AllZip Q ys zs → AllZip (λ x z. (y : B) × R x y × Q y z) xs zs
zip_through R Q [] [] [] h k = tt
zip_through R Q [] [] (z ∷ zs) h k = absurd k
zip_through R Q [] (y ∷ ys) zs h k = absurd h
zip_through R Q (x ∷ xs) [] zs h k = absurd h
zip_through R Q (x ∷ xs) (y ∷ ys) [] h k = absurd k
zip_through R Q (x ∷ xs) (y ∷ ys) (z ∷ zs) h k = ((y, h.0, k.0), zip_through R Q xs ys zs h.1 k.1)

-- the records of a row, and the pairs of their children's diagrams
module _ (S : Nodes) (before : List (Key × Ref)) (v : ℕ) (row : List Record) (held : IsSound S) (answers : AreAnswers S before) (is_row : IsRow S before v row) where
  low_of : (U : Nodes) (r : Record) (p : Pair) → AreAnswers U before → IsRecordAt U v r → IsPairOf before r p → IsAnswerAt U v r.key false p.0
  low_of U r p a i e = resolved U v r.key false r.low before p.0 i.low a e.0

  high_of : (U : Nodes) (r : Record) (p : Pair) → AreAnswers U before → IsRecordAt U v r → IsPairOf before r p → IsAnswerAt U v r.key true p.1
  high_of U r p a i e = resolved U v r.key true r.high before p.1 i.high a e.1

  pub stands : RowCanBeNodes before S v row
  stands d p c e =
      let low = low_of S d p answers (is_row.records d c) e in
      let high = high_of S d p answers (is_row.records d c) e in
      record { has_low = low.has; has_high = high.has; below_low = low.below; below_high = high.below }

  module _ (T : Nodes) (sound : IsSound T) (adds : AddsRow before S T v row) where
    -- the reference for a record's pair is its answer
    answered : (r : Record) (p : Pair) (m : Ref) → Contains row r → IsPairOf before r p → Has T m → ((p.0 ≡ p.1) × (m ≡ p.0)) ⊎ ((p.0 ≢ p.1) × (part T m ≡ node v p.0 p.1)) → IsAnswer T r.key m
    answered r p m c e h is =
        let i = is_row.records r c in
        made_answer S T v r.key p.0 p.1 m held sound i.key (low_of S r p answers i e) (high_of S r p answers i e) adds.keeps h is

    row_described : AddsDescribed S T (AskedBy S v row)
    row_described = record { keeps = adds.keeps; described = λ m h. elim (adds.only m h) [ inl old ↦ inl old | inr new ↦ inr (described m h new.0 new.1 new.2 new.3 new.4 new.5) ] }
      where
        described : (m : Ref) → Has T m → (r : Record) (p : Pair) → Contains row r → IsPairOf before r p → p.0 ≢ p.1 → IsOfPair T v p m → (w : ℕ) × (lo : Ref) × (hi : Ref) × (part T m ≡ node w lo hi) × OfEither (AskedBy S v row w) (den T m)
        described m h r p c o n (q, is, one) =
            let key : IsKeyAt S v r.key = (is_row.records r c).key in
            let a : IsAnswer T r.key q = answered r p q c o is.0 (inr (n, is.1)) in
            let asked : AskedBy S v row v (den T q) = (refl, (r, c, λ x hx. a.denotes x (hx ∙ sym (adds.keeps.levels)) ∙ kept_meaning S T held adds.keeps r.key key.first key.second x)) in
            let e = one_node_part T sound m q v p.0 p.1 h is.0 is.1 one in
            (v, e.0, e.1, e.2, one_node_either T m q (AskedBy S v row v) (λ f g z. asked_as S v row v f g (λ x hx. z x (hx ∙ sym (adds.keeps.levels)))) one asked)

    answers_kept : AreAnswers T before
    answers_kept k r c = answer_kept S T held adds.keeps k r (answers k r c)

    -- before an answer is noted
    pub added : IsRowReduced S before v row 0 T before
    added = record { held = sound; adds = row_described; answers = answers_kept; more = λ k h. h; done = λ j d lt. absurd (omega arith) }

    -- the cause of a level's fault is one of the row's
    pub refused : (f : StoreFault) → IsRowRefused before T v row f → IsRowFault T v row (wave_fault f)
    refused OutOfMemory h = tt
    refused Full h =
        let r : Record = h.0 in
        let p : Pair = h.1 in
        let i : IsRecordAt T v r = record_kept S T held adds.keeps v r (is_row.records r h.2) in
        row_fault T v row r Full h.2
        (record_fault T T v r.key p.0 p.1 (Err Full) sound i.key (low_of T r p answers_kept i h.3) (high_of T r p answers_kept i h.3) refl h.4)

    module _ (found : List Ref) (there : AllZip (IsAnswered before T v) row found) where
      -- the references found are the records' answers
      found_answer : (j : ℕ) (d : Record) (r : Ref) → j < length row → IsAnswer T (slice_index_or row j d).key (slice_index_or found j r)
      found_answer j d r lt =
          let entry : Record = get_or row j d in
          let member : Contains row entry = Contains-get_or row j d lt in
          let t : IsAnswered before T v entry (get_or found j r) = zip_at (IsAnswered before T v) row found j d r there lt in
          let p : Pair = t.0 in
          let low = low_of S entry p answers (is_row.records entry member) t.1 in
          let h = there_part T v p.0 p.1 (get_or found j r) (adds.keeps.has p.0 low.has) t.2 in
          answered entry p (get_or found j r) member t.1 h.0 h.1

      -- after the answers were noted, the row is reduced
      pub noted : (i : ℕ) (after : List (Key × Ref)) → NotesFirst before row found i after → IsRowReduced S before v row i T after
      noted i after n = record {
        held = sound;
        adds = row_described;
        answers = λ k r c. elim (n.only k r c) [
          | inl old ↦ answers_kept k r old
          | inr (j, d, lt, key, answer) ↦ subst (λ z. IsAnswer T z r) key (subst (λ z. IsAnswer T (slice_index_or row j d).key z) answer (found_answer j d r lt))
        ];
        more = n.more;
        done = n.done;
      }
