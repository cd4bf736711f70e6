-- Lists of two pairs, which are those of True and a variable of level 1 and of the terminals, and of their complements.
use Rattle.std.proofs.Common.{◌≡◌, ℕ, ◌<◌, Bool, List, refl, sym, ap, subst, arith, ◌⊎◌, inl, inr}
use Rattle.dd_store.specs.declared.reference.Ref.{Ref}
use Rattle.dd_store.specs.declared.reference.Reference.TheVariants.{False, True}
use Rattle.dd_store.specs.Adding.{AreReady}
use Rattle.dd_store.specs.Hashes.{shard_of_pair}
use Rattle.dd_store.specs.Graph.{Pair, IsRef, top}
use Rattle.dd_store.specs.Growing.{IsIn}
use Rattle.dd_store.specs.Complements.{complement_both}
use Rattle.dd_store.specs.Nodes.{Nodes, node}
use Rattle.dd_store.proofs.CanBeNode.{CanBeNode, CanBeNode-complemented, ready}

-- the pair is one of two, or its complements
can_both : (S : Nodes) (shard : ℕ) (one two p : Pair) → CanBeNode S 0 shard one → CanBeNode S 0 shard two
    → (b : Bool) × ((p ≡ complement_both b one) ⊎ (p ≡ complement_both b two)) → CanBeNode S 0 shard p
can_both S shard one two p can_one can_two (b, inl e) = subst (CanBeNode S 0 shard) (sym e) (CanBeNode-complemented S 0 shard b one can_one)
can_both S shard one two p can_one can_two (b, inr e) = subst (CanBeNode S 0 shard) (sym e) (CanBeNode-complemented S 0 shard b two can_two)

can_first : (S : Nodes) (shard : ℕ) (b : Ref) → S.levels ≡ 2 → IsRef (node S) b → top S.levels b ≡ 1 → shard_of_pair True b ≡ shard
    → CanBeNode S 0 shard (True, b)
can_first S shard b levels here at is = record {
  differ = λ e. let t : top S.levels True ≡ top S.levels b = ap (top S.levels) e in let two : top S.levels True ≡ S.levels = refl in omega arith;
  lo_in_store = tt;
  hi_in_store = here;
  above_lo = (let two : top S.levels True ≡ S.levels = refl in omega arith);
  above_hi = omega arith;
  sharded = is;
}

can_second : (S : Nodes) (shard : ℕ) → S.levels ≡ 2 → shard_of_pair True False ≡ shard → CanBeNode S 0 shard (True, False)
can_second S shard levels is = record {
  differ = λ e. cc e;
  lo_in_store = tt;
  hi_in_store = tt;
  above_lo = (let two : top S.levels True ≡ S.levels = refl in omega arith);
  above_hi = (let two : top S.levels False ≡ S.levels = refl in omega arith);
  sharded = is;
}

-- their nodes may be made at level 0
pub ready_four : (S : Nodes) (b : Ref) (lists : ℕ → List Pair) → S.levels ≡ 2 → IsRef (node S) b → top S.levels b ≡ 1 → shard_of_pair True b ≡ 3
    → ((s : ℕ) (p : Pair) → IsIn (lists s) p → (s < 16 → s ≡ 3) × (t : Bool) × ((p ≡ complement_both t (True, b)) ⊎ (p ≡ complement_both t (True, False))))
    → AreReady S 0 lists
ready_four S b lists levels here at is only =
    ready S 0 3 lists (omega arith) (λ s p h.
    let o = only s p h in
    (o.0, can_both S 3 (True, b) (True, False) p (can_first S 3 b levels here at is) (can_second S 3 levels refl) (o.1, o.2)))
