use Rattle.std.proofs.Common.{◌≡◌, ℕ, ◌<◌, Bool, List, [], ◌∷◌, ◌++◌, subst, arith, ◌⊎◌, inl, inr}
use Rattle.std.specs.declared.vec.Vec.{Vec}
use Rattle.std.specs.declared.alloc.Global.{Global}
use Rattle.dd_store.specs.Graph.{Pair}
use Rattle.dd_store.specs.Complements.{complement_both}
use Rattle.dd_store.specs.Growing.{IsIn}
use Rattle.dd_store.specs.Levels.{list_at, all_at}
use Rattle.dd_store.proofs.Noting.{in_either, all_at-push}
use Rattle.wave_tests.proofs.stores.four_parts.Goals as goal

-- each pair is one of two, or its complements, and in the list of their shard
abbrev Fits : ℕ → Pair → Pair → (ℕ → List Pair) → Type 0
Fits shard a b lists = (s : ℕ) (p : Pair) → IsIn (lists s) p → (s < 16 → s ≡ shard) × (t : Bool) × ((p ≡ complement_both t a) ⊎ (p ≡ complement_both t b))

none_fit : (shard : ℕ) (a b : Pair) → Fits shard a b (all_at [])
none_fit shard a b s p h = absurd (cc h.1)

more_fit : (shard : ℕ) (a b : Pair) (parts : List (Vec (Vec Pair Global) Global)) (part : Vec (Vec Pair Global) Global) → Fits shard a b (all_at parts)
    → Fits shard a b (list_at part.items) → Fits shard a b (all_at (parts ++ part ∷ []))
more_fit shard a b parts part old new s p h =
    let at = subst (λ (z : List Pair). IsIn z p) (all_at-push parts part s) h in
    elim (in_either (all_at parts s) (list_at part.items s) at.0 p at.1) [
      | inl front ↦ old s p front
      | inr back ↦ new s p back
    ]

pub returns-clause-only : goal.returns-clause-only
returns-clause-only c =
    let shard = c.args.shard in
    let a : Pair = c.args.first in
    let b : Pair = c.args.second in
    let one : Fits shard a b (list_at c.in_ok-one.one.items) = λ s p h. let k = c.in_ok-one.ensures.only s p h in (λ lt. k.0, k.1, inl k.2) in
    let two : Fits shard a b (list_at c.in_ok-two.two.items) = λ s p h. let k = c.in_ok-two.ensures.only s p h in (λ lt. k.0, k.1, inr k.2) in
    let none : Fits shard a b (list_at c.in_ok-none.none.items) = λ s p h. let k = c.in_ok-none.ensures.only s p h in (λ lt. absurd (let e = k.0 in omega arith), k.1, inl k.2) in
    let last : Fits shard a b (list_at c.in_ok-last.last.items) = λ s p h. let k = c.in_ok-last.ensures.only s p h in (λ lt. k.0, k.1, inl k.2) in
    let parts = λ (xs : List (Vec (Vec Pair Global) Global)) (x : Vec (Vec Pair Global) Global). xs ++ x ∷ [] in
    let first = parts [] c.in_ok-one.one in
    let second = parts first c.in_ok-two.two in
    let third = parts second c.in_ok-none.none in
    let all =
    more_fit shard a b third c.in_ok-last.last
    (more_fit shard a b second c.in_ok-none.none (more_fit shard a b first c.in_ok-two.two (more_fit shard a b [] c.in_ok-one.one (none_fit shard a b) one) two) none)
    last in
    rw (c.in_ok-push-4.ensures.items, c.in_ok-push-3.ensures.items, c.in_ok-push-2.ensures.items, c.in_ok-push.ensures.items, c.new-parts.ensures.items) all
