-- A gate is added to a schedule.
use Rattle.std.proofs.Common.{◌≡◌, ℕ, zero, suc, ◌+◌, ◌-◌, ◌≤◌, List, [], ◌∷◌, ◌++◌, refl, ap, ◌∙◌, map, length, take, drop, arith, length-append, length-drop}
use Rattle.std.specs.Prelude.{All, slice_range}
use Rattle.std.proofs.lemmas.List.{map-append, take-append-le}
use Rattle.net_bench.proofs.OneLabelling.{at_contained}
use Rattle.net_cone.proofs.Lists.{map_alike}
use Rattle.net_simulate.specs.declared.schedule.GateStep.{GateStep}
use Rattle.net_simulate.specs.Schedules.{Equation, IsInRange, equation_at}
use Rattle.net_simulate.proofs.Lists.{all_of}

-- what comes after a range does not matter to it
front_range : (ops more : List ℕ) (from to : ℕ) → from ≤ to → to ≤ length ops → slice_range (ops ++ more) from to ≡ slice_range ops from to
front_range ops more from to low high =
    let size : length (drop from ops) ≡ length ops - from = length-drop from ops in
    ap (take (to - from)) (drop-append ops more from (omega arith)) ∙ take-append-le (to - from) (drop from ops) more (omega arith)
  where
    drop-append : (xs ys : List ℕ) (k : ℕ) → k ≤ length xs → drop k (xs ++ ys) ≡ drop k xs ++ ys
    drop-append [] ys zero low = refl
    drop-append [] ys (suc k) low = absurd (omega arith)
    drop-append (x ∷ xs) ys zero low = refl
    drop-append (x ∷ xs) ys (suc k) low = drop-append xs ys k (omega arith)

-- the range that was appended is what was appended
end_range : (ops more : List ℕ) (from to : ℕ) → from ≡ length ops → to ≡ length (ops ++ more) → slice_range (ops ++ more) from to ≡ more
end_range ops more from to low high =
    let size : length (ops ++ more) ≡ length ops + length more = length-append ops more in
    let count : to - from ≡ length more = omega arith in
    ap (take (to - from)) (ap (λ k. drop k (ops ++ more)) low ∙ drop-seam ops more) ∙ ap (λ k. take k more) count ∙ take_whole more
  where
    drop-seam : (xs ys : List ℕ) → drop (length xs) (xs ++ ys) ≡ ys
    drop-seam [] ys = refl
    drop-seam (x ∷ xs) ys = drop-seam xs ys

    take_whole : (xs : List ℕ) → take (length xs) xs ≡ xs
    take_whole [] = refl
    take_whole (x ∷ xs) = ap (λ ys. x ∷ ys) (take_whole xs)

same_equation : (ops more : List ℕ) (t : GateStep) → IsInRange ops t → equation_at (ops ++ more) t ≡ equation_at ops t
same_equation ops more t inside = ap (λ xs. let e : Equation = record { out = t.out; kind = t.kind; operands = xs } in e) (front_range ops more t.from t.to inside.0 inside.1)

pub pushed : (ops more : List ℕ) (steps : List GateStep) (t : GateStep) → All (IsInRange ops) steps → t.from ≡ length ops → t.to ≡ length (ops ++ more) →
    map (equation_at (ops ++ more)) (steps ++ t ∷ []) ≡ map (equation_at ops) steps ++ (let e : Equation = record { out = t.out; kind = t.kind; operands = more } in e) ∷ []
pushed ops more steps t inside from to =
    map-append (equation_at (ops ++ more)) steps (t ∷ []) ∙
    ap (λ es. es ++ equation_at (ops ++ more) t ∷ []) (map_alike (equation_at (ops ++ more)) (equation_at ops) steps
    (all_of (λ s. equation_at (ops ++ more) s ≡ equation_at ops s) steps (λ s among. same_equation ops more s (at_contained (IsInRange ops) steps s inside among)))) ∙
    ap (λ xs. map (equation_at ops) steps ++ (let e : Equation = record { out = t.out; kind = t.kind; operands = xs } in e) ∷ []) (end_range ops more t.from t.to from to)
