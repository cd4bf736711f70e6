-- The greatest of more and more numbers.
use Rattle.std.proofs.Common.{◌≡◌, ℕ, ◌+◌, ◌<◌, List, [], ◌∷◌, ◌++◌, length, map, get_or, max, take, ap, ◌∙◌, arith}
use Rattle.std.proofs.lemmas.List.{map_more}
use Rattle.std.proofs.lemmas.Bool.Decides.{nat_tests}
use Rattle.net_bench.specs.Circuit.{greatest}

pub greatest_more : (xs : List ℕ) (x : ℕ) → greatest (xs ++ x ∷ []) ≡ max (greatest xs) x
greatest_more [] x = grind (arith, nat_tests)
greatest_more (y ∷ xs) x =
    let e : greatest (xs ++ x ∷ []) ≡ max (greatest xs) x = greatest_more xs x in
    rw e (grind (arith, nat_tests))

-- one more item, and the greatest of the numbers of those so far
pub greatest_next : {X : Type 0} (f : X → ℕ) (xs : List X) (i : ℕ) (x : X) → i < length xs → get_or xs i x ≡ x → greatest (map f (take (i + 1) xs)) ≡ max (greatest (map f (take i xs))) (f x)
greatest_next f xs i x lt at = ap greatest (map_more f xs i x lt ∙ ap (λ y. map f (take i xs) ++ f y ∷ []) at) ∙ greatest_more (map f (take i xs)) (f x)
