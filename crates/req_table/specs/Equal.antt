-- The derived `==` of operations holds of equal ones only, and so does that of keys.
use Rattle.std.proofs.Common.{◌≡◌, refl, sym, true, true≢false, arith}
use Rattle.std.proofs.lemmas.Bool.Decides.{nat_tests}
use Rattle.dd_store.specs.Equal.{ref_same}
use Rattle.req_table.specs.declared.Op.{Op}
use Rattle.req_table.specs.declared.Op.TheVariants.{And, Or, Xor, Nand, Nor, Xnor}
use Rattle.req_table.specs.declared.Operation.{Operation}
use Rattle.req_table.specs.contracts.OpPartialEq.TheImpl.{eq-value as op_eq}
use Rattle.req_table.specs.contracts.OperationPartialEq.TheImpl.{eq-value}

pub op_same : (x y : Op) → op_eq.it x y ≡ true → x ≡ y
op_same And And e = refl
op_same Or Or e = refl
op_same Xor Xor e = refl
op_same Nand Nand e = refl
op_same Nor Nor e = refl
op_same Xnor Xnor e = refl
op_same x y e = absurd (true≢false (sym e))

pub key_same : (x y : Operation) → eq-value.it x y ≡ true → x ≡ y
key_same x y e =
    let op = op_same x.op y.op (grind (arith, nat_tests)) in
    let f = ref_same x.f y.f (grind (arith, nat_tests)) in
    let g = ref_same x.g y.g (grind (arith, nat_tests)) in
    λ i. record { op = op i; f = f i; g = g i }
