-- A write beyond the end of a list changes nothing.
use Rattle.std.proofs.Common.{◌≡◌, ◌≤◌, ℕ, zero, suc, List, [], ◌∷◌, length, set, refl, ap, arith}
use Rattle.pair_graph.specs.Literals.{Parts}

pub set_past : (ls : List Parts) (i : ℕ) (l : Parts) → length ls ≤ i → set ls i l ≡ ls
set_past [] i l past = refl
set_past (x ∷ ls) zero l past = absurd (omega arith)
set_past (x ∷ ls) (suc i) l past = ap (λ (ms : List Parts). x ∷ ms) (set_past ls i l (omega arith))
