-- A diagram for each origin: its next one.
use Rattle.std.proofs.Common.{◌≡◌, ◌≢◌, ℕ, ◌+◌, ◌<◌, ◌≤◌, List, [], ◌∷◌, ◌++◌, length, take, get_or, set, slice_get, Some, All, refl, sym, ap, ◌∙◌, subst, arith, length-append, get_or-set_same, get_or-set_other}
use Rattle.std.proofs.lemmas.List.{length-set, take_more}
use mathlib.Core.Logic.{dite}
use native.Mathlib.Decide.{ℕ_discrete}
use Rattle.dd_store.specs.declared.reference.Ref.{Ref}
use Rattle.reduce_up.specs.Division.{chosen, span}
use Rattle.reduce_up.proofs.Parting.{chosen-own, chosen-other, chosen-many, chosen-fewer, span_more}

-- the diagrams of the first origins were picked, and the next of each origin is at its place
pub record ArePicking (done : List ℕ) (starts : ℕ → ℕ) (sources : ℕ → List Ref) (places : List ℕ) (answers : List Ref) : Type 0 where
  pub long : length answers ≡ length done
  pub seventeen : length places ≡ 17
  pub next : (s : ℕ) → s ≤ 16 → get_or places s 0 ≡ starts s + length (chosen s done answers)
  pub each : (s : ℕ) → s ≤ 16 → chosen s done answers ≡ span (starts s) (length (chosen s done answers)) (sources s)

pub picking_none : (starts : List ℕ) (sources : ℕ → List Ref) (answers : List Ref) → length starts ≡ 17 → answers ≡ [] → ArePicking [] (λ s. get_or starts s 0) sources starts answers
picking_none starts sources answers long none = record {
  long = ap (λ z. length z) none;
  seventeen = long;
  next = λ s l. (let z : get_or starts s 0 ≡ get_or starts s 0 + 0 = omega arith in z);
  each = λ s l. refl;
}

module _ (origins : List ℕ) (i h : ℕ) (ib : i < length origins) (h-is : h ≡ get_or origins i h) (starts : ℕ → ℕ) (sources : ℕ → List Ref) (places : List ℕ) (answers : List Ref) (k : ArePicking (take i origins) starts sources places answers)
    (within : All (λ h. h ≤ 16) origins) (room : (s : ℕ) → s ≤ 16 → starts s + length (chosen s origins origins) ≤ length (sources s)) where
  pub small : h ≤ 16
  small = subst (λ z. z ≤ 16) (sym h-is) (within i h ib)

  next_origin : take (i + 1) origins ≡ take i origins ++ h ∷ []
  next_origin = take_more origins i h ib ∙ ap (λ z. take i origins ++ z ∷ []) (sym h-is)

  -- of each origin there is at least one more than was picked
  named : length (chosen h (take (i + 1) origins) (take (i + 1) origins)) ≡ length (chosen h (take i origins) answers) + 1
  named =
      ap (λ z. length (chosen h z z)) next_origin ∙ ap (λ z. length z) (chosen-own (take i origins) (take i origins) h h refl) ∙ length-append (chosen h (take i origins) (take i origins)) (h ∷ [])
      ∙ ap (λ z. z + 1) (chosen-many h (take i origins) (take i origins) answers refl k.long)

  pub place_room : get_or places h 0 < length (sources h)
  place_room =
      let a = k.next h small in
      let b = room h small in
      let c = chosen-fewer h origins (i + 1) in
      let d = named in
      omega (arith, a, b, c, d)

  pub picking_more : (answer : Ref) → slice_get (sources h) (get_or places h 0) ≡ Some answer → (places' : List ℕ) → places' ≡ set places h (get_or places h 0 + 1) → (answers' : List Ref) → answers' ≡ answers ++ answer ∷ [] → ArePicking (take (i + 1) origins) starts sources places' answers'
  picking_more answer got places' p-is answers' a-is = subst (λ z. ArePicking z starts sources places' answers') (sym next_origin) (subst (λ (z : List ℕ × List Ref). ArePicking (take i origins ++ h ∷ []) starts sources z.0 z.1) (λ j. (sym p-is j, sym a-is j)) more)
    where
      own : chosen h (take i origins ++ h ∷ []) (answers ++ answer ∷ []) ≡ chosen h (take i origins) answers ++ answer ∷ []
      own = chosen-own (take i origins) answers h answer (sym k.long)

      own-many : length (chosen h (take i origins ++ h ∷ []) (answers ++ answer ∷ [])) ≡ length (chosen h (take i origins) answers) + 1
      own-many = ap (λ z. length z) own ∙ length-append (chosen h (take i origins) answers) (answer ∷ [])

      other : (s : ℕ) → h ≢ s → chosen s (take i origins ++ h ∷ []) (answers ++ answer ∷ []) ≡ chosen s (take i origins) answers
      other s n = chosen-other s (take i origins) answers h answer (sym k.long) n

      own-each : chosen h (take i origins ++ h ∷ []) (answers ++ answer ∷ []) ≡ span (starts h) (length (chosen h (take i origins ++ h ∷ []) (answers ++ answer ∷ []))) (sources h)
      own-each = own ∙ ap (λ z. z ++ answer ∷ []) (k.each h small)
          ∙ sym (span_more (starts h) (length (chosen h (take i origins) answers)) (sources h) answer (subst (λ z. slice_get (sources h) z ≡ Some answer) (k.next h small) got))
          ∙ ap (λ z. span (starts h) z (sources h)) (sym own-many)

      more : ArePicking (take i origins ++ h ∷ []) starts sources (set places h (get_or places h 0 + 1)) (answers ++ answer ∷ [])
      more = record {
        long = (let a = length-append answers (answer ∷ []) in let b = length-append (take i origins) (h ∷ []) in let c = k.long in omega (arith, a, b, c));
        seventeen = length-set places h (get_or places h 0 + 1) ∙ k.seventeen;
        next = λ s l. dite (ℕ_discrete h s)
            (λ e. subst (λ z. get_or (set places h (get_or places h 0 + 1)) z 0 ≡ starts z + length (chosen z (take i origins ++ h ∷ []) (answers ++ answer ∷ []))) e
            (let a = get_or-set_same places h (get_or places h 0 + 1) 0 (let q = k.seventeen in let b = small in omega (arith, q, b)) in let b = k.next h small in let c = own-many in omega (arith, a, b, c)))
            (λ n. get_or-set_other places h s (get_or places h 0 + 1) 0 (λ e. n (sym e)) ∙ k.next s l ∙ ap (λ z. starts s + length z) (sym (other s n)));
        each = λ s l. dite (ℕ_discrete h s)
            (λ e. subst (λ z. chosen z (take i origins ++ h ∷ []) (answers ++ answer ∷ []) ≡ span (starts z) (length (chosen z (take i origins ++ h ∷ []) (answers ++ answer ∷ []))) (sources z)) e own-each)
            (λ n. other s n ∙ k.each s l ∙ ap (λ z. span (starts s) (length z) (sources s)) (sym (other s n)));
      }
