-- The folds of operands, with one more operand.
use Rattle.std.proofs.Common.{◌≡◌, ℕ, ◌+◌, ◌<◌, Bool, true, false, not, cond, ◌&&◌, ◌||◌, List, ◌∷◌, refl, sym, ap, ◌∙◌, map, length, get_or, drop}
use Rattle.net_bench.specs.Labels.{all_ones, odd, some_one}
use Rattle.net_simulate.proofs.Lists.{drop_here}

parity : (b p r : Bool) → cond (cond b (not p) p) (not r) r ≡ cond p (not (cond b (not r) r)) (cond b (not r) r)
parity true true true = refl
parity true true false = refl
parity true false true = refl
parity true false false = refl
parity false true true = refl
parity false true false = refl
parity false false true = refl
parity false false false = refl

module _ (f : ℕ → Bool) (xs : List ℕ) (i x : ℕ) (low : i < length xs) (is : x ≡ get_or xs i x) where
  here : map f (drop i xs) ≡ f x ∷ map f (drop (i + 1) xs)
  here = ap (map f) (drop_here xs i x low is)

  pub all_more : (all : Bool) → ((all && f x) && all_ones (map f (drop (i + 1) xs))) ≡ (all && all_ones (map f (drop i xs)))
  all_more true = ap all_ones (sym here)
  all_more false = refl

  pub some_more : (some : Bool) → ((some || f x) || some_one (map f (drop (i + 1) xs))) ≡ (some || some_one (map f (drop i xs)))
  some_more true = refl
  some_more false = ap some_one (sym here)

  pub odd_more : (p : Bool) → (let rest = odd (map f (drop (i + 1) xs)) in cond (cond (f x) (not p) p) (not rest) rest) ≡ (let whole = odd (map f (drop i xs)) in cond p (not whole) whole)
  odd_more p = parity (f x) p (odd (map f (drop (i + 1) xs))) ∙ ap (λ bs. cond p (not (odd bs)) (odd bs)) (sym here)
