use Rattle.std.proofs.Common.{◌≡◌, ℕ, Bool, List, sym, ◌∙◌, ap, subst, arith, false, inl, inr}
use Rattle.std.specs.Prelude.{Result, Ok, IfOk}
use Rattle.dd_store.specs.declared.StoreFault.{StoreFault}
use Rattle.dd_store.specs.declared.reference.Ref.{Ref}
use Rattle.dd_store.specs.declared.reference.Reference.TheVariants.{False, True}
use Rattle.dd_store.specs.Graph.{Pair}
use Rattle.dd_store.specs.Hashes.{shard_of_pair}
use Rattle.dd_store.specs.Complements.{complement_both}
use Rattle.dd_store.specs.Growing.{IsIn}
use Rattle.dd_store.specs.Levels.{list_at}
use Rattle.dd_store.specs.Nodes.{Nodes}
use Rattle.dd_store.specs.Parts.{Part}
use Rattle.dd_store.specs.Parts.Part.{leaf, node}
use Rattle.dd_store.specs.View.{part, Has, top, IsMade}
use Rattle.dd_store.specs.Adding.{AreReady}
use Rattle.dd_store.proofs.CanBeNode.{CanBeNode, CanBeNode-complemented, ready}
use Rattle.dd_store.proofs.View.{top-node}
use Rattle.wave_tests.proofs.stores.two_at_shards.Goals as goal

-- lists that have only the pair of False and the variable of level 2, and that of their complements, may be added at level 1
ready_pair : (S : Nodes) (b : Ref) (shard : ℕ) (lists : ℕ → List Pair) → S.levels ≡ 3 → Has S b → part S b ≡ node 2 False True
    → shard ≡ shard_of_pair False b → ((s : ℕ) (p : Pair) → IsIn (lists s) p → (s ≡ shard) × (t : Bool) × (p ≡ complement_both t (False, b)))
    → AreReady S 1 lists
ready_pair S b shard lists levels has is at only =
    let below : top S b ≡ 2 = top-node S b 2 False True has is in
    let can : CanBeNode S 1 shard (False, b) = record {
      differ = λ e. let clash : ◌≡◌ {A = Part Ref} (leaf false) (node 2 False True) = ap (part S) e ∙ is in cc;
      lo_in_store = tt;
      hi_in_store = has;
      above_lo = omega arith;
      above_hi = omega arith;
      sharded = sym at;
    } in
    ready S 1 shard lists (omega arith) (λ s p h.
    let o = only s p h in
    (λ lt. o.0, subst (CanBeNode S 1 shard) (sym o.2) (CanBeNode-complemented S 1 shard o.1 (False, b) can)))

-- a variable is a node
variable_part : (S T : Nodes) (r : Result Ref StoreFault) (b : Ref) → r ≡ Ok b → IfOk r (λ z. IsMade S T 2 False True z)
    → Has T b × (part T b ≡ node 2 False True)
variable_part S T r b e h =
    let m : IsMade S T 2 False True b = subst (λ (z : Result Ref StoreFault). IfOk z (λ r. IsMade S T 2 False True r)) e h in (
      m.has,
      elim m.is [
        | inl a ↦ absurd (let f : False ≡ True = a.0 in cc)
        | inr a ↦ a.1
      ],
    )

pub add_all-requires-clause-ready : goal.add_all-requires-clause-ready
add_all-requires-clause-ready g c κs =
    let S : Nodes = c.variable-2.new.self in
    let levels : S.levels ≡ 3 = c.variable-2.ensures.extends.levels ∙ c.variable.ensures.extends.levels ∙ ap (λ (z : Nodes). z.levels) c.in_ok-store.ensures in
    let b = variable_part c.variable.new.self S c.variable-2.result c.ok-b.result c.ok-b.ensures c.variable-2.ensures.made in
    rw c.as_slice.ensures.value (ready_pair S c.ok-b.result c.shard_of-shard.result (list_at c.in_ok-lists.lists.items) levels b.0 b.1 c.shard_of-shard.ensures c.in_ok-lists.ensures.only)
