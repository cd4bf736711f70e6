-- The walk to the least difference, over the store.
use Rattle.std.proofs.Common.{◌≡◌, ◌≢◌, ℕ, suc, ◌+◌, ◌-◌, ◌<◌, ◌≤◌, Bool, true, false, List, [], ◌∷◌, ◌++◌, get_or, refl, sym, ◌∙◌, ap, subst, arith, append_assoc, add-one, append-nil}
use Rattle.dd_store.specs.declared.reference.Ref.{Ref}
use Rattle.dd_store.specs.declared.reference.Reference.TheVariants.{False, True, Node}
use Rattle.dd_store.specs.Functions.{IsLeastDifference}
use Rattle.dd_store.specs.Nodes.{Nodes, den, IsSound}
use Rattle.dd_store.specs.View.{part, Has}
use Rattle.dd_store.proofs.View.{parts, denotes, by_bit, same_ref, top-part}
use Rattle.dd_store.proofs.Laws.{den-false, den-true}
use Rattle.dd_store.proofs.References.{walk, walk_nothing, walk_least, walk_equal, walk_unequal, step_has, view}
use Rattle.dd_store.proofs.References.View.{splits, stays}
use Rattle.counter_walk.specs.Walk.{top, step}

module _ (s : Nodes) (S : IsSound s) where
  pub step_next : (v : ℕ) (r : Ref) → Has s r → v < s.levels → v ≤ top s r → (b : Bool) → Has s (step s v r b) × (suc v ≤ top s (step s v r b))
  step_next v r h lt le b = step_has Ref same_ref s.levels (part s) (Has s) (den s) (parts s S) (denotes s S) v r h lt le b

  pub step_value : (v : ℕ) (r : Ref) → Has s r → v < s.levels → v ≤ top s r → (x : List Bool) → den s (step s v r (get_or x v false)) x ≡ den s r x
  step_value v r h lt le x =
      elim (view Ref same_ref s.levels (part s) (Has s) (den s) (parts s S) (denotes s S) v r lt le) [
        | splits lo hi e c ↦ ap (λ m. den s m x) (c (get_or x v false)) ∙ sym (by_bit s S r v lo hi h e x)
        | stays above c ↦ ap (λ m. den s m x) (c (get_or x v false))
      ]

  pub bottom_value : (r : Ref) → Has s r → s.levels ≤ top s r → (x : List Bool) → (r ≡ True → den s r x ≡ true) × (r ≢ True → den s r x ≡ false)
  bottom_value False h le x = ((λ e. cc), (λ ne. den-false s x))
  bottom_value True h le x = ((λ e. den-true s x), (λ ne. absurd (ne refl)))
  bottom_value (Node m b) h le x = let lt : m.level < s.levels = S.reduced.placed m h.0 h.1 in let t : m.level ≡ top s (Node m b) = top-part s s.levels (Node m b) h in absurd (omega arith)

-- the walk in a store, from a level on
abbrev pub store_walk : Nodes → ℕ → ℕ → Ref → Ref → List Bool
store_walk s d v a b = walk same_ref (part s) d v a b

module _ (s : Nodes) (S : IsSound s) where
  -- one turn of the loop to the least difference
  pub turn_one : (v d : ℕ) (a b : Ref) (bits whole : List Bool) → v + suc d ≡ s.levels → step s v a false ≡ step s v b false →
      bits ++ store_walk s (suc d) v a b ≡ whole → (bits ++ true ∷ []) ++ store_walk s d (suc v) (step s v a true) (step s v b true) ≡ whole
  turn_one v d a b bits whole e same h =
      append_assoc bits (true ∷ []) (store_walk s d (suc v) (step s v a true) (step s v b true))
      ∙ ap (λ w. bits ++ w) (sym (walk_equal Ref same_ref s.levels (part s) (Has s) (den s) (parts s S) (denotes s S) d v a b same)) ∙ h

  pub turn_zero : (v d : ℕ) (a b : Ref) (bits whole : List Bool) → v + suc d ≡ s.levels → step s v a false ≢ step s v b false →
      bits ++ store_walk s (suc d) v a b ≡ whole → (bits ++ false ∷ []) ++ store_walk s d (suc v) (step s v a false) (step s v b false) ≡ whole
  turn_zero v d a b bits whole e different h =
      append_assoc bits (false ∷ []) (store_walk s d (suc v) (step s v a false) (step s v b false))
      ∙ ap (λ w. bits ++ w) (sym (walk_unequal Ref same_ref s.levels (part s) (Has s) (den s) (parts s S) (denotes s S) d v a b different)) ∙ h

  pub least : (a b : Ref) → Has s a → Has s b → a ≢ b → IsLeastDifference s.levels (den s a) (den s b) (store_walk s s.levels 0 a b)
  least a b ha hb ne = walk_least Ref same_ref s.levels (part s) (Has s) (den s) (parts s S) (denotes s S) a b ha hb ne

  walk_at : (levels v : ℕ) (a b : Ref) → levels ≡ s.levels → v < levels → store_walk s (levels - v) v a b ≡ store_walk s (suc (levels - (v + 1))) v a b
  walk_at levels v a b hl lt = ap (λ d. store_walk s d v a b) (let e : levels - v ≡ suc (levels - (v + 1)) = omega arith in e)

  pub next_one : (levels v : ℕ) (a b a' b' : Ref) (bits bits' whole : List Bool) → levels ≡ s.levels → v < levels → step s v a false ≡ step s v b false →
      a' ≡ step s v a true → b' ≡ step s v b true → bits' ≡ bits ++ true ∷ [] → bits ++ store_walk s (levels - v) v a b ≡ whole → bits' ++ store_walk s (levels - (v + 1)) (v + 1) a' b' ≡ whole
  next_one levels v a b a' b' bits bits' whole hl lt same ea eb ew h =
      let t : (bits ++ true ∷ []) ++ store_walk s (levels - (v + 1)) (suc v) (step s v a true) (step s v b true) ≡ whole =
      turn_one v (levels - (v + 1)) a b bits whole (omega arith) same (ap (λ w. bits ++ w) (sym (walk_at levels v a b hl lt)) ∙ h) in
      ap (λ w. w ++ store_walk s (levels - (v + 1)) (v + 1) a' b') ew
      ∙ ap (λ m. (bits ++ true ∷ []) ++ store_walk s (levels - (v + 1)) m a' b') (add-one v)
      ∙ ap (λ m. (bits ++ true ∷ []) ++ store_walk s (levels - (v + 1)) (suc v) m b') ea
      ∙ ap (λ m. (bits ++ true ∷ []) ++ store_walk s (levels - (v + 1)) (suc v) (step s v a true) m) eb
      ∙ t

  pub next_zero : (levels v : ℕ) (a b a' b' : Ref) (bits bits' whole : List Bool) → levels ≡ s.levels → v < levels → step s v a false ≢ step s v b false →
      a' ≡ step s v a false → b' ≡ step s v b false → bits' ≡ bits ++ false ∷ [] → bits ++ store_walk s (levels - v) v a b ≡ whole → bits' ++ store_walk s (levels - (v + 1)) (v + 1) a' b' ≡ whole
  next_zero levels v a b a' b' bits bits' whole hl lt different ea eb ew h =
      let t : (bits ++ false ∷ []) ++ store_walk s (levels - (v + 1)) (suc v) (step s v a false) (step s v b false) ≡ whole =
      turn_zero v (levels - (v + 1)) a b bits whole (omega arith) different (ap (λ w. bits ++ w) (sym (walk_at levels v a b hl lt)) ∙ h) in
      ap (λ w. w ++ store_walk s (levels - (v + 1)) (v + 1) a' b') ew
      ∙ ap (λ m. (bits ++ false ∷ []) ++ store_walk s (levels - (v + 1)) m a' b') (add-one v)
      ∙ ap (λ m. (bits ++ false ∷ []) ++ store_walk s (levels - (v + 1)) (suc v) m b') ea
      ∙ ap (λ m. (bits ++ false ∷ []) ++ store_walk s (levels - (v + 1)) (suc v) (step s v a false) m) eb
      ∙ t

  -- at the last level the bits are the walk
  pub walk_done : (levels v : ℕ) (a b f g : Ref) (bits : List Bool) → levels ≡ s.levels → levels ≤ v → bits ++ store_walk s (levels - v) v a b ≡ store_walk s levels 0 f g → Has s f → Has s g → f ≢ g → IsLeastDifference s.levels (den s f) (den s g) bits
  walk_done levels v a b f g bits hl le h hf hg ne =
      let none_left : store_walk s (levels - v) v a b ≡ [] = ap (λ d. store_walk s d v a b) (let e : levels - v ≡ 0 = omega arith in e) ∙ walk_none v a b in
      let e : bits ≡ store_walk s s.levels 0 f g = sym (append-nil bits) ∙ ap (λ w. bits ++ w) (sym none_left) ∙ h ∙ ap (λ d. store_walk s d 0 f g) hl in
      subst (λ w. IsLeastDifference s.levels (den s f) (den s g) w) (sym e) (least f g hf hg ne)
    where
      walk_none : (v : ℕ) (a b : Ref) → store_walk s 0 v a b ≡ []
      walk_none v a b = walk_nothing same_ref (part s) v a b
