-- References that compare as equal are equal.
use Rattle.std.proofs.Common.{◌≡◌, Bool, true, false, refl, arith}
use Rattle.std.proofs.lemmas.Bool.Decides.{nat_tests}
use Rattle.std.specs.declared.cmp.Ordering.{Ordering}
use Rattle.std.specs.declared.cmp.Ordering.TheVariants.{Less, Equal, Greater}
use Rattle.std.specs.Ordering.{ordering_then, nat_cmp, bool_cmp, is_lt}
use Rattle.std.specs.Cmp.{IsTotalOrder}
use Rattle.std.specs.FinMap.{nat_cmp-IsAntisymmetric}
use Rattle.std.proofs.lemmas.Cmp.{tied_itself, nat_cmp_total}
use Rattle.dd_store.specs.declared.reference.NodeId.{NodeId}
use Rattle.dd_store.specs.declared.reference.Ref.{Ref}
use Rattle.dd_store.specs.declared.reference.Reference.TheVariants.{False, True, Node}
use Rattle.dd_store.specs.Order.{node_lt, ref_lt, ref_cmp, node_cmp}
use Rattle.dd_store.specs.contracts.reference.NodeIdOrd.TheImpl.Laws.{total-law}

then_first : (r s : Ordering) → ordering_then r s ≡ Equal → r ≡ Equal
then_first Less s e = cc e
then_first Equal s e = refl
then_first Greater s e = cc e

then_second : (r s : Ordering) → ordering_then r s ≡ Equal → s ≡ Equal
then_second Less s e = cc e
then_second Equal s e = e
then_second Greater s e = cc e

nodes_cmp : (l m : NodeId) (b c : Bool) → ref_cmp (Node l b) (Node m c) ≡ ordering_then (node_cmp l m) (bool_cmp b c)
nodes_cmp l m b c = refl

pub node_cmp_same : (l m : NodeId) → node_cmp l m ≡ Equal → l ≡ m
node_cmp_same l m e =
    let f : ordering_then (nat_cmp l.level m.level) (ordering_then (nat_cmp l.shard m.shard) (nat_cmp l.index m.index)) ≡ Equal = e in
    let g = then_second _ _ f in
    let level : l.level ≡ m.level = nat_cmp-IsAntisymmetric _ _ (then_first _ _ f) in
    let shard : l.shard ≡ m.shard = nat_cmp-IsAntisymmetric _ _ (then_first _ _ g) in
    let index : l.index ≡ m.index = nat_cmp-IsAntisymmetric _ _ (then_second _ _ g) in
    λ i. record { level = level i; shard = shard i; index = index i }

pub node_cmp_itself : (m : NodeId) → node_cmp m m ≡ Equal
node_cmp_itself m = rw (tied_itself nat_cmp_total m.level, tied_itself nat_cmp_total m.shard, tied_itself nat_cmp_total m.index) refl

bit_itself : (b : Bool) → bool_cmp b b ≡ Equal
bit_itself true = refl
bit_itself false = refl

pub ref_cmp_itself : (a : Ref) → ref_cmp a a ≡ Equal
ref_cmp_itself False = refl
ref_cmp_itself True = refl
ref_cmp_itself (Node m b) = rw (nodes_cmp m m b b, node_cmp_itself m, bit_itself b) refl

pub node_cmp_total : IsTotalOrder node_cmp
node_cmp_total = total-law

-- a node comes before another exactly if the derived order says so
pub node_lt-cmp : (a b : NodeId) → node_lt a b ≡ is_lt (node_cmp a b)
node_lt-cmp a b = grind (arith, nat_tests)

nodes_lt-cmp : (l m : NodeId) (b c : Bool) → ref_lt (Node l b) (Node m c) ≡ is_lt (ref_cmp (Node l b) (Node m c))
nodes_lt-cmp l m b c = grind (node_lt-cmp l m, arith, nat_tests)

-- a reference comes before another exactly if the derived order says so
pub ref_lt-cmp : (a b : Ref) → ref_lt a b ≡ is_lt (ref_cmp a b)
ref_lt-cmp False False = refl
ref_lt-cmp False True = refl
ref_lt-cmp False (Node m c) = refl
ref_lt-cmp True False = refl
ref_lt-cmp True True = refl
ref_lt-cmp True (Node m c) = refl
ref_lt-cmp (Node l b) False = refl
ref_lt-cmp (Node l b) True = refl
ref_lt-cmp (Node l b) (Node m c) = nodes_lt-cmp l m b c
