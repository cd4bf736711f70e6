-- Places that rise.
use Rattle.std.proofs.Common.{◌≡◌, ◌∙◌, ap, arith, inl, inr, ℕ, ◌+◌, ◌<◌, List, [], ◌∷◌, ◌++◌, length, get_or, length-append}
use Rattle.std.proofs.lemmas.Bool.{cases_lt}
use Rattle.std.proofs.lemmas.List.{get_or_append_left}
use Rattle.std.proofs.lemmas.List.Elements.{All-append, All-cons, All-nil, All-weaker}
use Rattle.std.proofs.Math.Seq.{get_or-append_seam}
use Rattle.compare_built.specs.Scatter.{ArePlaces}

-- places below n are below n + 1
pub places_kept : (n : ℕ) (places : List ℕ) → ArePlaces n places → ArePlaces (n + 1) places
places_kept n places h = record { below = All-weaker (λ l. l < n) (λ l. l < n + 1) (λ l lt. omega (arith, lt)) places h.below; rising = h.rising }

-- n can be added at the end
pub places_more : (n : ℕ) (places : List ℕ) → ArePlaces n places → ArePlaces (n + 1) (places ++ n ∷ [])
places_more n places h = record {
  below = All-append (λ l. l < n + 1) places (n ∷ []) (places_kept n places h).below (All-cons (λ l. l < n + 1) n [] (omega arith) (All-nil (λ l. l < n + 1)));
  rising = λ i j lt low.
      let size : j < length places + 1 = omega (arith, low, length-append places (n ∷ [])) in
      elim (cases_lt j (length places)) [
        | inl less ↦
            let one : get_or (places ++ n ∷ []) i 0 ≡ get_or places i 0 = get_or_append_left places (n ∷ []) 0 i (omega (arith, lt, less)) in
            let two : get_or (places ++ n ∷ []) j 0 ≡ get_or places j 0 = get_or_append_left places (n ∷ []) 0 j less in
            let rise = h.rising i j lt less in
            omega (arith, one, two, rise)
        | inr ge ↦
            let last : j ≡ length places = omega (arith, size, ge) in
            let one : get_or (places ++ n ∷ []) i 0 ≡ get_or places i 0 = get_or_append_left places (n ∷ []) 0 i (omega (arith, lt, last)) in
            let two : get_or (places ++ n ∷ []) j 0 ≡ n = ap (λ k. get_or (places ++ n ∷ []) k 0) last ∙ get_or-append_seam places n [] 0 in
            let below : get_or places i 0 < n = h.below i 0 (omega (arith, lt, last)) in
            omega (arith, one, two, below)
      ];
}
