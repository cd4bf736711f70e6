-- References and their words of four bytes, and lists of pairs of them.
use Rattle.std.proofs.Common.{◌≡◌, ℕ, suc, ◌+◌, ◌^◌, ◌<◌, ◌≤◌, List, [], ◌∷◌, ◌++◌, length, get_or, take, map, slice_get, Some, Ok, Err, Result, Option, None, MatchOption, sym, ◌∙◌, ap, subst, arith, inl, inr}
use Rattle.std.proofs.lemmas.Option.{slice_get-map, slice_get_within, slice_get-get_or, get_or_from_slice_get}
use Rattle.std.specs.Option.{option_map}
use Rattle.std.proofs.lemmas.List.{length-map, length-take-le, get_or-take, map-append}
use Rattle.std.proofs.Math.Seq.{take-suc}
use Rattle.slot_table.specs.declared.Admission.{Admission}
use Rattle.slot_table.specs.declared.Admission.TheVariants.{Found, Added}
use Rattle.slot_table.specs.declared.Refusal.{Refusal}
use Rattle.slot_table.specs.declared.Refusal.TheVariants.{Full, OutOfMemory}
use Rattle.slot_table.specs.Lists.{IsIn, IsOnce}
use Rattle.slot_table.specs.Placing.{IsPlaced}
use Rattle.dd_store.specs.declared.reference.Reference.{Reference}
use Rattle.dd_store.specs.Graph.{Pair}
use Rattle.dd_store.specs.Words.{word_of, reference_of, IsWord}
use Rattle.dd_store.specs.WordLaws.{word_is, one_word}
use Rattle.dd_store.specs.Narrow.{AreShortWords, AllShortWords, AreWordsOf, pair_at}
use Rattle.dd_store.proofs.Places.{mapped, slice_get_cases-push}

same_words : (m n : ℕ × ℕ) → AreShortWords m → AreShortWords n → pair_at m ≡ pair_at n → m ≡ n
same_words m n j k e =
    let low : m.0 ≡ n.0 = one_word m.0 n.0 j.0.0 k.0.0 (ap (λ (p : Pair). p.0) e) in
    let high : m.1 ≡ n.1 = one_word m.1 n.1 j.1.0 k.1.0 (ap (λ (p : Pair). p.1) e) in
    λ i. (low i, high i)

-- a reference whose word is too long has none of four bytes
pub no_word : (w : ℕ) (r : Reference) → w ≡ word_of r → 2 ^ 32 ≤ w → (n : ℕ) → IsWord n × (n < 2 ^ 32) → reference_of n ≡ r → ⊥
no_word w r is long n k e =
    let same : n ≡ w = word_is n r k.0 e ∙ sym is in
    let short = k.1 in
    absurd (omega arith)

module _ (ns : List (ℕ × ℕ)) (all : AllShortWords ns) where
  pub read : (i : ℕ) (m : ℕ × ℕ) → slice_get ns i ≡ Some m → slice_get (map pair_at ns) i ≡ Some (pair_at m)
  read i m e = slice_get-map pair_at ns i ∙ ap (option_map pair_at) e

  -- a pair that has no words is not there
  pub absent : (p : Pair) → AreWordsOf p None → IsIn (map pair_at ns) p → ⊥
  absent p none at =
      let w = mapped pair_at ns at.0 p at.1 in
      none w.0 (all at.0 w.0 w.1) w.2

  -- if the table has a pair, it has its words
  pub words_in : (p : Pair) (n : ℕ × ℕ) → AreWordsOf p (Some n) → IsIn (map pair_at ns) p → IsIn ns n
  words_in p n their at =
      let w = mapped pair_at ns at.0 p at.1 in
      let same : w.0 ≡ n = same_words w.0 n (all at.0 w.0 w.1) their.0 (w.2 ∙ sym their.1) in
      (at.0, w.1 ∙ ap (λ z. Some z) same)

  pub found : (p : Pair) (n : ℕ × ℕ) (r : Option ℕ) → AreWordsOf p (Some n)
      → MatchOption r (IsIn ns n → ⊥) (λ i. slice_get ns i ≡ Some n)
      → MatchOption r (IsIn (map pair_at ns) p → ⊥) (λ i. slice_get (map pair_at ns) i ≡ Some p)
  found p n None their none = λ at. none (words_in p n their at)
  found p n (Some i) their at = read i n at ∙ ap (λ z. Some z) their.1

  -- what placing words leaves of the pairs
  pub placed : (room : ℕ) (p : Pair) (n : ℕ × ℕ) (r : Result Admission Refusal) (new : List (ℕ × ℕ))
      → AreWordsOf p (Some n) → IsPlaced room n ns r new → IsPlaced room p (map pair_at ns) r (map pair_at new)
  placed room p n (Ok (Found i)) new their h = (read i n h.0 ∙ ap (λ z. Some z) their.1, ap (map pair_at) h.1)
  placed room p n (Ok (Added i)) new their h = (
    λ at. h.0 (words_in p n their at),
    h.1,
    h.2 ∙ sym (length-map ns pair_at),
    ap (map pair_at) h.3 ∙ map-append pair_at ns (n ∷ []) ∙ ap (λ z. map pair_at ns ++ z ∷ []) their.1,
  )
  placed room p n (Err Full) new their h = (λ at. h.0 (words_in p n their at), h.1, ap (map pair_at) h.2)
  placed room p n (Err OutOfMemory) new their h = (λ at. h.0 (words_in p n their at), h.1, ap (map pair_at) h.2)

  -- all are still words
  pub kept : (room : ℕ) (n : ℕ × ℕ) (r : Result Admission Refusal) (new : List (ℕ × ℕ)) → AreShortWords n
      → IsPlaced room n ns r new → AllShortWords new
  kept room n (Ok (Found i)) new k h = subst AllShortWords (sym h.1) all
  kept room n (Ok (Added i)) new k h =
      subst AllShortWords (sym h.3) (λ j m e. elim (slice_get_cases-push ns n j m e) [
        | inl there ↦ all j m there
        | inr last ↦ subst AreShortWords (sym last.1) k
      ])
  kept room n (Err Full) new k h = subst AllShortWords (sym h.2) all
  kept room n (Err OutOfMemory) new k h = subst AllShortWords (sym h.2) all

  -- one pair more in sixteen bytes
  pub widened_more : IsOnce ns → (i : ℕ) (n : ℕ × ℕ) (wide new : List Pair) (a : Admission) → i < length ns
      → n ≡ get_or ns i n → wide ≡ map pair_at (take i ns) → IsPlaced 1 (pair_at n) wide (Ok a) new
      → new ≡ map pair_at (take (i + 1) ns)
  widened_more once i n wide new (Found j) lt is same h =
      let there : slice_get (map pair_at (take i ns)) j ≡ Some (pair_at n) =
      subst (λ (z : List Pair). slice_get z j ≡ Some (pair_at n)) same h.0 in
      let w = mapped pair_at (take i ns) j (pair_at n) there in
      let below : j < i = (
      let k = slice_get_within (take i ns) j w.0 w.1 in
      let len = length-take-le i ns (omega arith) in
      omega arith) in
      let same_there : get_or ns j w.0 ≡ w.0 = sym (get_or-take i ns j w.0 below) ∙ get_or_from_slice_get (take i ns) j w.0 w.0 w.1 in
      let old : slice_get ns j ≡ Some w.0 = slice_get-get_or ns j w.0 (omega arith) ∙ ap (λ z. Some z) same_there in
      let new : slice_get ns i ≡ Some n = slice_get-get_or ns i n lt ∙ ap (λ z. Some z) (sym is) in
      let one : w.0 ≡ n = same_words w.0 n (all j w.0 old) (all i n new) w.2 in
      let twice : j ≡ i = once j i n (old ∙ ap (λ z. Some z) one) new in
      absurd (omega arith)
  widened_more once i n wide new (Added j) lt is same h =
      h.3
      ∙ ap (λ z. z ++ pair_at n ∷ []) same
      ∙ sym (map-append pair_at (take i ns) (n ∷ []))
      ∙ ap (λ z. map pair_at (take i ns ++ z ∷ [])) is
      ∙ ap (map pair_at) (sym (take-suc ns i n lt))
      ∙ ap (λ z. map pair_at (take z ns)) {x = suc i} {y = i + 1} (omega arith)
