-- The nodes that were added, by another description, and after others were added.
use Rattle.std.proofs.Common.{ℕ, inl, inr, Bool, List, subst, ◌∙◌}
use Rattle.dd_store.specs.Functions.{DependsOn, OfEither}
use Rattle.dd_store.specs.Nodes.{Nodes, IsSound, den}
use Rattle.dd_store.proofs.View.{keeps-trans}
use Rattle.reduce_up.specs.Reducing.{AddsDescribed}
use Rattle.reduce_up.proofs.Below.{node_reads}
use Rattle.reduce_up.proofs.Opposite.{either_more, either_either, either_reads, either_kept}

-- what is described in one way, or its complement, is described in another way
pub adds_either : (S T : Nodes) (D E : ℕ → (List Bool → Bool) → Type 0) → ((v : ℕ) (f : List Bool → Bool) → D v f → OfEither (E v) f) → AddsDescribed S T D → AddsDescribed S T E
adds_either S T D E h a = record {
  keeps = a.keeps;
  described = λ m i. elim (a.described m i) [
    | inl o ↦ inl o
    | inr n ↦ inr (n.0, n.1, n.2, n.3, either_either (E n.0) (den T m) (either_more (D n.0) (OfEither (E n.0)) (h n.0) (den T m) n.4))
  ];
}

-- what is described in one way, or its complement, is described in another way if it depends on the bit of its level,
-- as the functions of nodes do
pub adds_reads : (S T : Nodes) → IsSound T → (D E : ℕ → (List Bool → Bool) → Type 0) → ((v : ℕ) (f : List Bool → Bool) → DependsOn S.levels v f → D v f → OfEither (E v) f) → AddsDescribed S T D → AddsDescribed S T E
adds_reads S T u D E h a = record {
  keeps = a.keeps;
  described = λ m i. elim (a.described m i) [
    | inl o ↦ inl o
    | inr n ↦
        let reads : DependsOn S.levels n.0 (den T m) = subst (λ z. DependsOn z n.0 (den T m)) a.keeps.levels (node_reads T u m n.0 n.1 n.2 i n.3) in
        inr (n.0, n.1, n.2, n.3, either_either (E n.0) (den T m) (either_reads S.levels n.0 (D n.0) (OfEither (E n.0)) (h n.0) (den T m) reads n.4))
  ];
}

-- additions to a store, one after the other
pub adds_then : (S s u : Nodes) → IsSound s → (D : ℕ → (List Bool → Bool) → Type 0) → AddsDescribed S s D → AddsDescribed s u D → AddsDescribed S u D
adds_then S s u sound D i j = record {
  keeps = keeps-trans S s u i.keeps j.keeps;
  described = λ m h. elim (j.described m h) [
    | inr n ↦ inr n
    | inl o ↦ elim (i.described m o) [
      | inl k ↦ inl k
      | inr k ↦ inr (k.0, k.1, k.2, j.keeps.part_is m o ∙ k.3, either_kept s u sound j.keeps (D k.0) m o k.4)
    ]
  ];
}
