use Rattle.std.proofs.Common.{◌≡◌, ℕ, List, ◌∷◌, map, take}
use Rattle.cone_check.specs.ConeRounds.{texts}
use Rattle.cone_check.proofs.pair_cones.cone_names.Given as goal

abbrev pub invariant-loop-place : goal.invariant-loop-place
invariant-loop-place l = texts l.list.items ≡ map (λ (name : List ℕ). 118 ∷ name) (take l.place l.names)
