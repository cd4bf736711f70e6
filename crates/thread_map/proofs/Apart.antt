-- Parts of a slice that threads work at: what is so at each place of the first part and of the rest is so at each place of the whole.
use Rattle.std.proofs.Common.{◌≡◌, ℕ, ◌+◌, ◌-◌, ◌<◌, List, ◌++◌, length, get_or, sym, ◌∙◌, ap, subst, arith, inl, inr}
use Rattle.std.proofs.lemmas.Bool.{cases_lt}
use Rattle.std.proofs.lemmas.List.{get_or_append_left, get_or-append_right, length-append}

-- R holds of a place with its element before and after
pub of_both : {X : Type 0} (R : ℕ → X → X → Type 0) (base n : ℕ) (all xs ys xs' ys' : List X) →
    all ≡ xs ++ ys → length xs ≡ n → length xs' ≡ length xs →
    ((k : ℕ) (d : X) → k < length xs → R (base + k) (get_or xs k d) (get_or xs' k d)) →
    ((k : ℕ) (d : X) → k < length ys → R ((base + n) + k) (get_or ys k d) (get_or ys' k d)) →
    (k : ℕ) (d : X) → k < length all → R (base + k) (get_or all k d) (get_or (xs' ++ ys') k d)
of_both R base n all xs ys xs' ys' e long same a b k d lt =
    let whole : get_or all k d ≡ get_or (xs ++ ys) k d = ap (λ l. get_or l k d) e in
    elim (cases_lt k n) [
      | inl below ↦
          subst (λ x. R (base + k) x (get_or (xs' ++ ys') k d)) (sym (whole ∙ get_or_append_left xs ys d k (omega (arith, below, long))))
          (subst (R (base + k) (get_or xs k d)) (sym (get_or_append_left xs' ys' d k (omega (arith, below, long, same))))
          (a k d (omega (arith, below, long))))
      | inr above ↦
          let j = k - n in
          let inside : length all ≡ length xs + length ys = ap length e ∙ length-append xs ys in
          let at : (base + n) + j ≡ base + k = omega (arith, above) in
          subst (λ x. R (base + k) x (get_or (xs' ++ ys') k d)) (sym (whole ∙ get_or-append_right xs ys n k d long above))
          (subst (R (base + k) (get_or ys j d)) (sym (get_or-append_right xs' ys' n k d (same ∙ long) above))
          (subst (λ s. R s (get_or ys j d) (get_or ys' j d)) at (b j d (omega (arith, lt, above, inside, long)))))
    ]
