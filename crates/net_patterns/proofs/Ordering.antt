-- The order in which the least difference is the first.
use Rattle.std.proofs.Common.{◌≡◌, inl, inr, ℕ, zero, suc, ◌<◌, Bool, true, false, not, List, [], ◌∷◌, refl, sym, subst, length, get_or, arith}
use Rattle.std.specs.Bool.{beq}
use Rattle.dd_store.specs.Functions.{Before}
use Rattle.dd_store.specs.Functions.Before.{first, later}
use Rattle.net_patterns.specs.Differences.{IsNotAfter}

pub before_at : (y x : List Bool) (i : ℕ) → i < length y → i < length x → ((k : ℕ) → k < i → get_or y k false ≡ get_or x k false) →
    get_or y i false ≡ false → get_or x i false ≡ true → Before y x
before_at [] x i low less same none one = absurd (omega arith)
before_at (b ∷ y) [] i low less same none one = absurd (omega arith)
before_at (b ∷ y) (d ∷ x) zero low less same none one = subst (λ z. Before (z ∷ y) (d ∷ x)) (sym none) (subst (λ z. Before (false ∷ y) (z ∷ x)) (sym one) first)
before_at (b ∷ y) (d ∷ x) (suc i) low less same none one =
    subst (λ z. Before (b ∷ y) (z ∷ x)) (same 0 (omega arith)) (later (before_at y x i (omega arith) (omega arith) (λ k small. same (suc k) (omega arith)) none one))

pub other_false : (u v : Bool) → not (beq u v) ≡ true → v ≡ true → u ≡ false
other_false true true ne e = cc
other_false true false ne e = cc
other_false false v ne e = refl

before_before : {x y z : List Bool} → Before x y → Before y z → Before x z
before_before first (later q) = first
before_before (later p) first = first
before_before (later p) (later q) = later (before_before p q)

pub not_after : (x y z : List Bool) → IsNotAfter y x → IsNotAfter z y → IsNotAfter z x
not_after x y z (inl e) second = subst (IsNotAfter z) e second
not_after x y z (inr before) (inl e) = inr (subst (λ w. Before w x) (sym e) before)
not_after x y z (inr before) (inr early) = inr (before_before early before)
