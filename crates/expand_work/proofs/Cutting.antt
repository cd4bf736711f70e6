-- What is due from a worker is taken out in bundles, the first requests first.
use Rattle.std.proofs.Common.{◌≡◌, ℕ, zero, suc, ◌-◌, ◌<◌, List, [], ◌∷◌, ◌++◌, Option, None, Some, take, drop, length, refl, sym, ap, ◌∙◌, subst, arith, append_assoc}
use Rattle.std.proofs.lemmas.List.{length-append, length-drop, take_all, take-append-drop}
use Rattle.std.proofs.Math.Seq.{take-append_seam, drop-append_seam}
use Rattle.std.specs.List.{flat_map}
use Rattle.std.specs.Prelude.{MatchOption}
use Rattle.req_table.specs.declared.Key.{Key}
use Rattle.lane_queue.specs.declared.load.TheConstants.Bundle.{CAPACITY}
use Rattle.expand_work.specs.Due.{in_partial, AreFull, IsBegun, IsCut}

-- the bundles after a full one
pub full_rest : (fs bs : List (List (ℕ × Key))) → bs ≡ drop 1 fs → AreFull fs → AreFull bs
full_rest [] bs is h = subst AreFull (sym is) h
full_rest (f ∷ fs) bs is h = subst AreFull (sym is) (λ k d lt. h (suc k) d (omega (arith, lt)))

-- the first full bundle is taken out
pub cut_full : (b partial old : List (ℕ × Key)) (fs bs : List (List (ℕ × Key))) → fs ≡ b ∷ bs → AreFull fs → flat_map (λ x. x) fs ++ partial ≡ old → IsCut old b (flat_map (λ x. x) bs ++ partial)
cut_full b partial old fs bs is full all =
    let rest = flat_map (λ (x : List (ℕ × Key)). x) bs ++ partial in
    let n : length b ≡ CAPACITY = subst AreFull is full 0 b (omega arith) in
    let seam : b ++ rest ≡ old = sym (append_assoc b (flat_map (λ (x : List (ℕ × Key)). x) bs) partial) ∙ ap (λ xs. flat_map (λ (x : List (ℕ × Key)). x) xs ++ partial) (sym is) ∙ all in
    record {
      some = let e = sym (length-append b rest) ∙ ap (λ (l : List (ℕ × Key)). length l) seam in omega (arith, e, n);
      first = sym (take-append_seam b rest) ∙ (λ i. take (n i) (seam i));
      rest = sym (drop-append_seam b rest) ∙ (λ i. drop (n i) (seam i));
    }

-- no bundle is full
pub none_left : (fs bs : List (List (ℕ × Key))) → fs ≡ bs → bs ≡ drop 1 fs → fs ≡ []
none_left [] bs e is = refl
none_left (f ∷ fs) bs e is = absurd (let n = ap (λ (l : List (List (ℕ × Key))). length l) (e ∙ is) in omega (arith, n))

drop_all : (n : ℕ) (xs : List (ℕ × Key)) → length xs < n → drop n xs ≡ []
drop_all zero xs lt = absurd (omega (arith, lt))
drop_all (suc n) [] lt = refl
drop_all (suc n) (x ∷ xs) lt = drop_all n xs (omega (arith, lt))

-- the bundle that is not full is all
pub cut_partial : (partial : Option (List (ℕ × Key))) (old left : List (ℕ × Key)) → IsBegun partial → in_partial partial ≡ old → left ≡ [] → MatchOption partial ((old ≡ []) × (left ≡ [])) (λ b. IsCut old b left)
cut_partial None old left begun all none = (sym all, none)
cut_partial (Some b) old left begun all none = subst (λ o. IsCut o b left) all (record {
  some = begun.0;
  first = sym (take_all CAPACITY b (let lt = begun.1 in omega (arith, lt)));
  rest = none ∙ sym (drop_all CAPACITY b begun.1);
})

-- the bundle and what is left are what was due
pub cut_all : (asks bundle left : List (ℕ × Key)) → IsCut asks bundle left → bundle ++ left ≡ asks
cut_all asks bundle left h = (λ i. h.first i ++ h.rest i) ∙ take-append-drop CAPACITY asks

pub cut_less : (asks bundle left : List (ℕ × Key)) → IsCut asks bundle left → length left ≡ length asks - CAPACITY
cut_less asks bundle left h = ap (λ (l : List (ℕ × Key)). length l) h.rest ∙ length-drop CAPACITY asks
