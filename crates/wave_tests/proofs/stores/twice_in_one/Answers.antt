use Rattle.std.proofs.Common.{◌≡◌, ℕ, ◌+◌, Bool, true, false, List, [], ◌∷◌, ◌++◌, length, zero, suc, refl, ◌∙◌, ap, subst, arith, ◌⊎◌, inl, inr}
use Rattle.std.proofs.lemmas.List.{length_push}
use Rattle.std.specs.declared.vec.Vec.{Vec}
use Rattle.std.specs.declared.alloc.Global.{Global}
use Rattle.dd_store.specs.Graph.{Pair}
use Rattle.dd_store.specs.Complements.{complement_both}
use Rattle.dd_store.specs.Growing.{IsIn}
use Rattle.dd_store.specs.Levels.{list_at}
use Rattle.dd_store.proofs.Places.{slice_get_cases-push}
use Rattle.wave_tests.proofs.stores.twice_in_one.Goals as goal
use Rattle.wave_tests.proofs.stores.twice_in_one.Goals.{then-s-shard+in_ok-push+in_ok-push-2, else-s-shard}

-- an item after one more list was added is of an old list, or of that one
pushed : (lists : List (Vec Pair Global)) (v : Vec Pair Global) (i : ℕ) (p : Pair) → IsIn (list_at (lists ++ v ∷ []) i) p
    → IsIn (list_at lists i) p ⊎ ((i ≡ length lists) × IsIn v.items p)
pushed [] v zero p h = inr (refl, h)
pushed [] v (suc i) p h = inl h
pushed (w ∷ ws) v zero p h = inl h
pushed (w ∷ ws) v (suc i) p h = elim (pushed ws v i p h) [
  | inl a ↦ inl a
  | inr b ↦ inr (let e = b.0 in omega arith, b.1)
]

nothing : (p : Pair) → IsIn [] p → ⊥
nothing p h = cc h.1

-- a pair and its complements
both : (pair p : Pair) → IsIn (([] ++ pair ∷ []) ++ complement_both true pair ∷ []) p → (b : Bool) × (p ≡ complement_both b pair)
both pair p h = elim (slice_get_cases-push ([] ++ pair ∷ []) (complement_both true pair) h.0 p h.1) [
  | inl a ↦ elim (slice_get_cases-push [] pair h.0 p a) [
    | inl b ↦ absurd (nothing p (h.0, b))
    | inr b ↦ (false, b.1)
  ]
  | inr b ↦ (true, b.1)
]

-- the invariant after one more list
more : (lists : List (Vec Pair Global)) (v : Vec Pair Global) (s shard : ℕ) (pair : Pair) → length lists ≡ s
    → ((i : ℕ) (p : Pair) → IsIn (list_at lists i) p → (i ≡ shard) × (b : Bool) × (p ≡ complement_both b pair))
    → ((p : Pair) → IsIn v.items p → (s ≡ shard) × (b : Bool) × (p ≡ complement_both b pair))
    → (i : ℕ) (p : Pair) → IsIn (list_at (lists ++ v ∷ []) i) p → (i ≡ shard) × (b : Bool) × (p ≡ complement_both b pair)
more lists v s shard pair len old new i p h = elim (pushed lists v i p h) [
  | inl a ↦ old i p a
  | inr b ↦ let n = new p b.1 in (b.0 ∙ len ∙ n.0, n.1, n.2)
]

pub loop-s-preserved : goal.loop-s-preserved
loop-s-preserved c =
    let v : Vec Pair Global = c.if-s-shard.list in
    let is : c.push-in-loop-s.new.self.items ≡ c.loop-s.lists.items ++ v ∷ [] = c.in_ok-push-3.ensures.items in
    let holds : (p : Pair) → IsIn v.items p → (c.loop-s.s ≡ c.args.shard) × (b : Bool) × (p ≡ complement_both b c.args.pair) = elim c.if-s-shard.branch [
      | then-s-shard+in_ok-push+in_ok-push-2 w ↦ λ p h.
          let other : Pair = (w.negate.result, w.negate-then-s-shard.result) in
          let is : other ≡ complement_both true c.args.pair = λ i. (w.negate.ensures.value i, w.negate-then-s-shard.ensures.value i) in
          let first = w.in_ok-push.ensures.items ∙ ap (λ z. z ++ c.args.pair ∷ []) c.new-list.ensures.items in
          let items : v.items ≡ ([] ++ c.args.pair ∷ []) ++ complement_both true c.args.pair ∷ [] =
          ap (λ z. z.items) w.list-is ∙ w.in_ok-push-2.ensures.items ∙ ap (λ z. z ++ other ∷ []) first ∙ ap (λ z. ([] ++ c.args.pair ∷ []) ++ z ∷ []) is in
          let o = both c.args.pair p (subst (λ (z : List Pair). IsIn z p) items h) in (w.if-s-shard.true, o.0, o.1)
      | else-s-shard w ↦ λ p h.
          let items : v.items ≡ [] = ap (λ z. z.items) w.list-is ∙ c.new-list.ensures.items in
          absurd (nothing p (subst (λ (z : List Pair). IsIn z p) items h))
    ] in
    record {
      count = ap (λ (z : List (Vec Pair Global)). length z) is ∙ length_push c.loop-s.lists.items v ∙ ap (λ n. n + 1) c.loop-s.invariant.count;
      only = λ i p h. more c.loop-s.lists.items v c.loop-s.s c.args.shard c.args.pair c.loop-s.invariant.count c.loop-s.invariant.only holds i p
          (subst (λ (z : List (Vec Pair Global)). IsIn (list_at z i) p) is h);
    }
