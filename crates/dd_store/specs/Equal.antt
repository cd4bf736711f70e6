-- The derived `==` of nodes and of references holds of equal ones only.
use Rattle.std.proofs.Common.{◌≡◌, sym, true, refl, arith, true≢false}
use Rattle.std.proofs.lemmas.Bool.Decides.{nat_tests}
use Rattle.dd_store.specs.declared.reference.NodeId.{NodeId}
use Rattle.dd_store.specs.declared.reference.Ref.{Ref}
use Rattle.dd_store.specs.declared.reference.Reference.TheVariants.{False, True, Node}
use Rattle.dd_store.specs.contracts.reference.NodeIdPartialEq.TheImpl.{eq-value as node_eq}
use Rattle.dd_store.specs.contracts.reference.ReferencePartialEq.TheImpl.{eq-value as ref_eq}

-- names that compare as equal are equal
pub node_same : (x y : NodeId) → node_eq.it x y ≡ true → x ≡ y
node_same x y e =
    let level : x.level ≡ y.level = grind (arith, nat_tests) in
    let shard : x.shard ≡ y.shard = grind (arith, nat_tests) in
    let index : x.index ≡ y.index = grind (arith, nat_tests) in
    λ i. record { level = level i; shard = shard i; index = index i }

-- references that compare as equal are equal
pub ref_same : (x y : Ref) → ref_eq.it x y ≡ true → x ≡ y
ref_same False False e = refl
ref_same True True e = refl
ref_same (Node x b) (Node y c) e =
    let same : x ≡ y = node_same x y (grind arith) in
    let complement : b ≡ c = grind arith in
    λ i. Node (same i) (complement i)
ref_same x y e = absurd (true≢false (sym e))

-- equal names compare as equal
pub node_eq-itself : (x : NodeId) → node_eq.it x x ≡ true
node_eq-itself x = grind (arith, nat_tests)

-- equal references compare as equal
pub ref_eq-itself : (x : Ref) → ref_eq.it x x ≡ true
ref_eq-itself False = refl
ref_eq-itself True = refl
ref_eq-itself (Node x b) = grind (node_eq-itself x, arith)
