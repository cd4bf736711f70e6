-- A fold over the numbers below one more.
use Rattle.std.proofs.Common.{◌≡◌, ℕ, ◌+◌, [], ◌∷◌, refl, add-one}
use Rattle.std.specs.Prelude.{fold}
use Rattle.std.proofs.lemmas.List.Sums.{fold-append}
use Rattle.net_order.specs.Force.{numbers_below}

pub folded_none : {X : Type 0} (f : X → ℕ → X) (x : X) → fold f x (numbers_below 0) ≡ x
unfolding numbers_below
folded_none f x = refl

pub folded_more : {X : Type 0} (f : X → ℕ → X) (x : X) (n : ℕ) → fold f x (numbers_below (n + 1)) ≡ f (fold f x (numbers_below n)) n
unfolding numbers_below
folded_more f x n = rw add-one (fold-append f x (numbers_below n) (n ∷ []))
