-- Gates are counted one by one.
use Rattle.std.proofs.Common.{◌≡◌, ◌<◌, Bool, true, false, not, ◌&&◌, List, ◌∷◌, [], Some, None, refl, subst, get_or, length, arith}
use Rattle.net_bench.specs.Circuit.{Net}
use Rattle.net_explain.specs.declared.differing.InnerSignal.{InnerSignal}
use Rattle.net_explain.specs.declared.explanation.GateCount.{GateCount}
use Rattle.net_explain.specs.Explaining.{AreGateCounts, IsGateCount, SimulationModel}

pub both_true : (b c : Bool) → b ≡ true → c ≡ false → (b && not c) ≡ true
both_true true true e f = cc
both_true true false e f = refl
both_true false c e f = cc

pub first_false : (b c : Bool) → b ≡ false → (b && not c) ≡ false
first_false true c e = cc
first_false false c e = refl

pub second_true : (b c : Bool) → c ≡ true → (b && not c) ≡ false
second_true true true e = refl
second_true true false e = cc
second_true false c e = refl

pub no_parts : (a b : Net) (v w : SimulationModel) (is : List InnerSignal) → length is ≡ 0 → AreGateCounts a b v w is None
no_parts a b v w [] e = tt
no_parts a b v w (i ∷ is) e = absurd (omega arith)

pub some_parts : (a b : Net) (v w : SimulationModel) (is : List InnerSignal) (i : InnerSignal) (p q : GateCount) → 0 < length is → i ≡ get_or is 0 i → IsGateCount a v i.first p → IsGateCount b w i.second q →
    AreGateCounts a b v w is (Some (record { 0 = p; 1 = q }))
some_parts a b v w [] i p q low is first second = absurd (omega arith)
some_parts a b v w (j ∷ js) i p q low is first second =
    (subst (λ (z : InnerSignal). IsGateCount a v z.first p) is first, subst (λ (z : InnerSignal). IsGateCount b w z.second q) is second)
